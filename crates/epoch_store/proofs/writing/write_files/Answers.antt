-- One step for the entry, and one for its record.
use Rattle.std.proofs.Common.{sym, subst}
use Rattle.disk_model.specs.Beside.{RespectsBound}
use Rattle.disk_model.specs.BesideLaws.{run_joined}
use Rattle.disk_model.specs.Disk.{BothTold, WhereTold, OneFile, Wrote, IsAtMostLength}
use Rattle.disk_model.specs.Tells.{told_then}
use Rattle.disk_model.specs.declared.name.FileName.{FileName}
use Rattle.epoch_file.specs.Appending.{appended}
use Rattle.epoch_file.specs.declared.entry.Written.{Written}
use Rattle.root_change.specs.Copying.{Added}
use Rattle.root_change.specs.Names.{epoch_name, bounds_of}
use Rattle.epoch_store.specs.Entering.{Entered, line_by, line_of}
use Rattle.store_finding.specs.Files.{map_file_of}
use Rattle.epoch_store.proofs.Entering.{appended_some, map_inside, place_inside, place_respects, wrote_told}
use Rattle.epoch_store.proofs.writing.write_files.Goals as goal

pub append_entry-requires-clause-inside : goal.append_entry-requires-clause-inside
append_entry-requires-clause-inside g c =
    let p = c.args.place.now in
    let k = g.D.Disk.content c.args.disk.now in
    subst (λ (f : FileName). WhereTold (IsAtMostLength f p.length) k) (sym c.epoch_file-epoch.ensures) (place_inside c.args.root.now p c.requires.place c.requires.small k c.requires.sizes)

pub write_record-requires-clause-inside : goal.write_record-requires-clause-inside
write_record-requires-clause-inside g c =
    let p = c.args.place.now in
    let k = g.D.Disk.content c.args.disk.now in
    let m = g.D.Disk.content c.append_entry.new.disk in
    let piece = appended p.length c.args.entry.now in
    let one = subst (λ (f : FileName). BothTold (OneFile f (Wrote p.length piece)) k m) c.epoch_file-epoch.ensures c.in_ok-written.ensures.left in
    map_inside c.args.root.now p c.requires.place c.requires.small piece k m c.requires.sizes (wrote_told piece (epoch_name p.epoch p.generation) p.length k m (appended_some p.length c.args.entry.now) (place_inside c.args.root.now p c.requires.place c.requires.small k c.requires.sizes) one)

pub returns-in_err-written-clause-crash_beside : goal.returns-in_err-written-clause-crash_beside
returns-in_err-written-clause-crash_beside g c =
    let bounds = bounds_of c.args.root.now in
    let p = c.args.place.now in
    c.append_entry.ensures.crash_beside bounds (subst (λ (f : FileName). RespectsBound (bounds f) p.length) (sym c.epoch_file-epoch.ensures) (place_respects c.args.root.now p c.requires.place c.requires.small))

pub returns-in_err-write_record-clause-crash_beside : goal.returns-in_err-write_record-clause-crash_beside
returns-in_err-write_record-clause-crash_beside g c =
    let bounds = bounds_of c.args.root.now in
    let p = c.args.place.now in
    run_joined g.D.Disk bounds c.args.disk.now c.append_entry.new.disk c.write_record.new.disk
    (c.append_entry.ensures.crash_beside bounds (subst (λ (f : FileName). RespectsBound (bounds f) p.length) (sym c.epoch_file-epoch.ensures) (place_respects c.args.root.now p c.requires.place c.requires.small))) c.write_record.ensures.crash_beside

pub returns-clause-crash_beside : goal.returns-clause-crash_beside
returns-clause-crash_beside g c =
    let bounds = bounds_of c.args.root.now in
    let p = c.args.place.now in
    run_joined g.D.Disk bounds c.args.disk.now c.append_entry.new.disk c.write_record.new.disk
    (c.append_entry.ensures.crash_beside bounds (subst (λ (f : FileName). RespectsBound (bounds f) p.length) (sym c.epoch_file-epoch.ensures) (place_respects c.args.root.now p c.requires.place c.requires.small))) c.write_record.ensures.crash_beside

pub returns-clause-entered : goal.returns-clause-entered
returns-clause-entered g c =
    let root = c.args.root.now in
    let p = c.args.place.now in
    let e = c.args.entry.now in
    let k = g.D.Disk.content c.args.disk.now in
    let l = g.D.Disk.content c.append_entry.new.disk in
    let m = g.D.Disk.content c.write_record.new.disk in
    let piece = appended p.length e in
    let one = subst (λ (f : FileName). BothTold (OneFile f (Wrote p.length piece)) k l) c.epoch_file-epoch.ensures c.in_ok-written.ensures.left in
    let entry = wrote_told piece (epoch_name p.epoch p.generation) p.length k l (appended_some p.length e) (place_inside root p c.requires.place c.requires.small k c.requires.sizes) one in
    let line = subst (λ (w : Written). BothTold (Added (line_by e.kind root.next p.epoch w.blob) (map_file_of root) root.map.length) l m) c.in_ok-written.ensures.written c.in_ok-write_record.ensures.added in
    told_then (Added piece (epoch_name p.epoch p.generation) p.length) (Added (line_of root p e) (map_file_of root) root.map.length) (Entered root p e) k l m (λ a b d it mid first second. record { crash_between = b; entry = first; line = second }) entry line
