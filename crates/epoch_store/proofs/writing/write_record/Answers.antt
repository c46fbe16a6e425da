-- A record, or nothing.
use Rattle.std.proofs.Common.{◌<◌, length, sym, subst, arith}
use Rattle.std.proofs.lemmas.Result.{on_ok_weaker}
use Rattle.arch_base.specs.Ids.{form_of}
use Rattle.disk_model.specs.Beside.{RespectsBound}
use Rattle.disk_model.specs.BesideLaws.{run_started}
use Rattle.disk_model.specs.Disk.{BothTold, OneFile, Wrote}
use Rattle.disk_model.specs.declared.name.FileName.{FileName}
use Rattle.git_objects.specs.declared.entry_kind.EntryKind.{EntryKind}
use Rattle.number_map.specs.Records.{record_bytes}
use Rattle.number_map.specs.Sizes.{size_least}
use Rattle.root_change.specs.Copying.{Added}
use Rattle.root_change.specs.Names.{bounds_of}
use Rattle.epoch_store.specs.Entering.{line_by}
use Rattle.store_finding.specs.Files.{map_file_of}
use Rattle.epoch_store.proofs.Entering.{map_respects, nothing_told, wrote_told}
use Rattle.epoch_store.proofs.writing.write_record.Goals as goal

pub returns-in-Deletion-clause-crash_beside : goal.returns-in-Deletion-clause-crash_beside
returns-in-Deletion-clause-crash_beside g c = run_started g.D.Disk (bounds_of c.args.root.now) c.args.disk.now (g.met.D.Disk.only_now c.args.disk.now)

pub returns-in-Deletion-clause-added : goal.returns-in-Deletion-clause-added
returns-in-Deletion-clause-added g c =
    let root = c.args.root.now in
    let k = g.D.Disk.content c.args.disk.now in
    subst (λ (kind : EntryKind). BothTold (Added (line_by kind root.next c.args.epoch c.args.blob) (map_file_of root) root.map.length) k k) (sym c.in-Deletion.is) (nothing_told (map_file_of root) root.map.length k c.requires.inside)

pub returns-in-Message-clause-crash_beside : goal.returns-in-Message-clause-crash_beside
returns-in-Message-clause-crash_beside g c =
    let root = c.args.root.now in
    c.append.ensures.crash_beside (bounds_of root) (subst (λ (f : FileName). RespectsBound (bounds_of root f) root.map.length) (sym c.map_file-map.ensures) (map_respects root))

pub returns-in-Message-clause-added : goal.returns-in-Message-clause-added
returns-in-Message-clause-added g c =
    let root = c.args.root.now in
    let k = g.D.Disk.content c.args.disk.now in
    let m = g.D.Disk.content c.append.new.disk in
    let line = record_bytes (record { number = root.next; epoch = c.args.epoch; blob = c.args.blob }) in
    let size = c.append.ensures.size in
    let least = size_least (form_of c.args.blob) in
    let some : 0 < length line = omega (arith, size, least) in
    on_ok_weaker c.append.result (λ one.
    subst (λ (kind : EntryKind). BothTold (Added (line_by kind root.next c.args.epoch c.args.blob) (map_file_of root) root.map.length) k m) (sym c.in-Message.is)
    (wrote_told line (map_file_of root) root.map.length k m some c.requires.inside (subst (λ (f : FileName). BothTold (OneFile f (Wrote root.map.length line)) k m) c.map_file-map.ensures one))) c.append.ensures.written
