-- The entry is written to its files, and then the root is replaced.
use Rattle.std.proofs.Common.{◌≡◌, ◌∙◌, None, ap, sym, subst}
use Rattle.disk_model.specs.Disk.{BothTold, WhereTold}
use Rattle.epoch_file.specs.declared.entry.Written.{Written}
use Rattle.root_slots.specs.declared.root.Root.{Root}
use Rattle.root_slots.specs.Slots.{slot_number, slot_below}
use Rattle.root_slots.specs.Spelling.{spelling}
use Rattle.root_change.specs.Texts.{HasPartSizes, KeepsNamed}
use Rattle.root_change.proofs.Phases.{beside_one}
use Rattle.epoch_store.specs.Entering.{root_after, root_with}
use Rattle.epoch_store.proofs.Entering.{entered_done, entered_leaves, replaced_root, root_sized, rooted_after, sizes_after, stopped_leaves}
use Rattle.epoch_store.proofs.writing.write_entry.Goals as goal

pub returns-in_err-written-clause-crash : goal.returns-in_err-written-clause-crash
returns-in_err-written-clause-crash g c = λ parts own room.
    stopped_leaves g.D.Disk c.args.root.now c.args.place.now c.args.entry.now (slot_number c.args.free) c.args.disk.now c.write_files.new.disk c.write_files.ensures.crash_beside parts own

pub returns-in_err-replace_root-clause-crash : goal.returns-in_err-replace_root-clause-crash
returns-in_err-replace_root-clause-crash g c = λ parts own room.
    let root = c.args.root.now in
    let p = c.args.place.now in
    let e = c.args.entry.now in
    let made_is : c.next_root-next.result ≡ root_with root p e = c.next_root-next.ensures.root ∙ ap (λ (w : Written). root_after root e.kind p w.end) c.in_ok-written.ensures.written in
    entered_leaves root p c.requires.place c.requires.small e c.requires.form c.root_fits.ensures.count g.D.Disk c.args.disk.now c.write_files.new.disk c.replace_root.new.disk (slot_number c.args.free) c.write_files.ensures.crash_beside c.in_ok-written.ensures.entered c.next_root-next.result made_is c.next_root-next.ensures.valid c.root_fits-2.ensures parts own room c.replace_root.ensures.crash

pub returns-clause-crash : goal.returns-clause-crash
returns-clause-crash g c = λ parts own room.
    let root = c.args.root.now in
    let p = c.args.place.now in
    let e = c.args.entry.now in
    let made_is : c.next_root-next.result ≡ root_with root p e = c.next_root-next.ensures.root ∙ ap (λ (w : Written). root_after root e.kind p w.end) c.in_ok-written.ensures.written in
    entered_leaves root p c.requires.place c.requires.small e c.requires.form c.root_fits.ensures.count g.D.Disk c.args.disk.now c.write_files.new.disk c.replace_root.new.disk (slot_number c.args.free) c.write_files.ensures.crash_beside c.in_ok-written.ensures.entered c.next_root-next.result made_is c.next_root-next.ensures.valid c.root_fits-2.ensures parts own room c.replace_root.ensures.crash

pub returns-clause-done : goal.returns-clause-done
returns-clause-done g c = λ parts own room.
    let root = c.args.root.now in
    let p = c.args.place.now in
    let e = c.args.entry.now in
    let made_is : c.next_root-next.result ≡ root_with root p e = c.next_root-next.ensures.root ∙ ap (λ (w : Written). root_after root e.kind p w.end) c.in_ok-written.ensures.written in
    entered_done root p c.requires.place c.requires.small e c.requires.form c.root_fits.ensures.count g.D.Disk c.args.disk.now c.write_files.new.disk c.replace_root.new.disk (slot_number c.args.free) c.write_files.ensures.crash_beside c.in_ok-written.ensures.entered c.next_root-next.result made_is c.next_root-next.ensures.valid c.root_fits-2.ensures parts own room c.in_ok-replace_root.ensures.done

pub replace_root-requires-clause-size : goal.replace_root-requires-clause-size
replace_root-requires-clause-size g c =
    root_sized c.args.root.now c.args.place.now c.requires.place c.requires.small c.args.entry.now c.requires.form c.root_fits.ensures.count (g.D.Disk.content c.args.disk.now) (g.D.Disk.content c.write_files.new.disk) c.requires.sizes c.in_ok-written.ensures.entered

pub returns-clause-sizes : goal.returns-clause-sizes
returns-clause-sizes g c =
    let root = c.args.root.now in
    let p = c.args.place.now in
    let e = c.args.entry.now in
    let k1 = g.D.Disk.content c.write_files.new.disk in
    let k2 = g.D.Disk.content c.replace_root.new.disk in
    let made_is : c.next_root-next.result ≡ root_with root p e = c.next_root-next.ensures.root ∙ ap (λ (w : Written). root_after root e.kind p w.end) c.in_ok-written.ensures.written in
    let Sized : Root → Type 0 = λ r. BothTold (KeepsNamed r) k1 k2 → WhereTold (HasPartSizes r) k2 in
    subst Sized (sym made_is) (sizes_after root p c.requires.place c.requires.small e c.requires.form c.root_fits.ensures.count (g.D.Disk.content c.args.disk.now) k1 k2 c.requires.sizes c.in_ok-written.ensures.entered) c.in_ok-replace_root.ensures.kept

pub returns-clause-rooted : goal.returns-clause-rooted
returns-clause-rooted g c =
    rooted_after c.args.root.now c.args.place.now c.requires.place c.requires.small c.args.entry.now c.requires.form c.root_fits.ensures.count (slot_number c.args.free) (spelling c.next_root-next.result) (g.D.Disk.content c.args.disk.now) (g.D.Disk.content c.write_files.new.disk) (g.D.Disk.content c.replace_root.new.disk) c.in_ok-written.ensures.entered c.in_ok-replace_root.ensures.rooted

pub returns-in_err-written-clause-crash_root : goal.returns-in_err-written-clause-crash_root
returns-in_err-written-clause-crash_root g c = (None, beside_one g.D.Disk c.args.root.now (slot_number c.args.free) None c.args.disk.now c.write_files.new.disk c.write_files.ensures.crash_beside)

pub returns-in_err-replace_root-clause-crash_root : goal.returns-in_err-replace_root-clause-crash_root
returns-in_err-replace_root-clause-crash_root g c = replaced_root g.D.Disk c.args.root.now (slot_number c.args.free) (spelling c.next_root-next.result) c.args.disk.now c.write_files.new.disk c.replace_root.new.disk (slot_below c.args.free) c.write_files.ensures.crash_beside c.replace_root.ensures.crash_root

pub returns-clause-crash_root : goal.returns-clause-crash_root
returns-clause-crash_root g c = replaced_root g.D.Disk c.args.root.now (slot_number c.args.free) (spelling c.next_root-next.result) c.args.disk.now c.write_files.new.disk c.replace_root.new.disk (slot_below c.args.free) c.write_files.ensures.crash_beside c.replace_root.ensures.crash_root
