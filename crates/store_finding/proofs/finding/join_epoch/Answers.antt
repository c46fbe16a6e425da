-- An epoch without entries, one that is walked, and one whose walk ends early.
use Rattle.std.proofs.Common.{ap, subst, ℕ, ◌∙◌, ◌≡◌, ◌+◌, ◌<◌, sym, arith}
use Rattle.epoch_file.specs.Lying.{LieIn}
use Rattle.root_slots.specs.declared.root.Place.{Place}
use Rattle.store_finding.specs.declared.entries.StoredEntry.{StoredEntry}
use Rattle.store_finding.specs.Files.{as_read}
use Rattle.store_finding.specs.Damage.{named_length}
use Rattle.store_finding.proofs.FindingTold.{where_any, where_both}
use Rattle.store_finding.proofs.ReadUpTo.{read_empty}
use Rattle.arch_model.proofs.ValidArchives.{all_weaker}
use Rattle.store_finding.proofs.finding.join_epoch.Goals as goal

pub returns-then-length-eq0-clause-joined : goal.returns-then-length-eq0-clause-joined
returns-then-length-eq0-clause-joined g c =
    let none : named_length c.args.root.now c.args.epoch ≡ 0 = ap (λ (p : Place). p.length) (sym c.named_place-length.ensures) ∙ c.if-length-eq0.true in
    where_any _ (g.D.Disk.content c.args.disk.now) (λ k rs fits up. read_empty c.args.root.now (as_read k) rs c.args.epoch c.args.joining up none)

pub returns-then-length-eq0-clause-below : goal.returns-then-length-eq0-clause-below
returns-then-length-eq0-clause-below g c = all_weaker (λ (e : StoredEntry). e.epoch < c.args.epoch) (λ (e : StoredEntry). e.epoch < c.args.epoch + 1) c.args.joining.entries (λ e less. omega (arith, less)) c.requires.before

pub returns-in-Ok-clause-joined : goal.returns-in-Ok-clause-joined
returns-in-Ok-clause-joined g c =
    where_both _ _ _ _ _ c.walk.ensures.same (rw c.named_file-file.ensures at (rw c.named_place-length.ensures at c.in-Ok.ensures.walked)) c.take.ensures.taken (λ k walked reads rs fits up. reads rs fits up walked)

pub returns-in-Err-Damaged-clause-joined : goal.returns-in-Err-Damaged-clause-joined
returns-in-Err-Damaged-clause-joined g c =
    let same : c.named_place-length.result.length ≡ named_length c.args.root.now c.args.epoch = ap (λ (p : Place). p.length) c.named_place-length.ensures in
    let some : 0 < named_length c.args.root.now c.args.epoch = (let apart = c.if-length-eq0.false in omega (arith, apart, same)) in
    where_both _ _ _ _ _ c.walk.ensures.same (rw c.named_file-file.ensures at (rw c.named_place-length.ensures at (rw c.in-Err-Damaged.field-0-is at c.in-Err-Damaged.ensures.walked))) c.stop_at.ensures.stops
    (λ k damaged stops rs fits up. stops rs fits some up damaged)

pub returns-in-Ok-clause-named : goal.returns-in-Ok-clause-named
returns-in-Ok-clause-named g c = λ are. c.take.ensures.named (subst (λ (n : ℕ). LieIn 0 n c.in-Ok.seen) (ap (λ (p : Place). p.length) c.named_place-length.ensures) c.in-Ok.ensures.lie) are

pub returns-in-Ok-clause-ids : goal.returns-in-Ok-clause-ids
returns-in-Ok-clause-ids g c = λ are. c.take.ensures.ids c.in-Ok.ensures.ids are
