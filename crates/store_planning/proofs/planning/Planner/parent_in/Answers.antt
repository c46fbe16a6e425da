-- The last entry is in the epoch, or in an earlier one.
use Rattle.std.proofs.Common.{◌≡◌, ◌-◌, ◌∙◌, sym, ap, List, length, arith}
use Rattle.std.specs.List.{slice_get}
use Rattle.std.proofs.lemmas.List.{nil_from_length}
use Rattle.store_finding.specs.declared.entries.StoredEntry.{StoredEntry}
use Rattle.store_planning.specs.Planning.{Planning}
use Rattle.store_planning.proofs.Parents.{parent_last, parent_none, parent_other}
use Rattle.store_planning.proofs.planning.Planner.parent_in.Goals as goal

pub returns-in-None : goal.returns-in-None
returns-in-None c =
    let same : c.args.self.now.entries ≡ c.deref.result.now = sym (ap (λ (p : Planning). p.entries) c.self.view_is) ∙ sym c.deref.ensures.value in
    let item = c.in-None.ensures.item in
    parent_none c.args.self.now.entries c.args.epoch (same ∙ nil_from_length c.deref.result.now (let none = item.3 in omega (arith, none)))

pub returns-then-entry-epoch : goal.returns-then-entry-epoch
returns-then-entry-epoch c =
    let same : c.args.self.now.entries ≡ c.deref.result.now = sym (ap (λ (p : Planning). p.entries) c.self.view_is) ∙ sym c.deref.ensures.value in
    parent_last c.args.self.now.entries c.args.epoch c.in-Some.entry.now (ap (λ (es : List StoredEntry). slice_get es (length es - 1)) same ∙ sym c.in-Some.ensures.value) (omega (arith, c.if-entry-epoch.true))

pub returns-else-entry-epoch : goal.returns-else-entry-epoch
returns-else-entry-epoch c =
    let same : c.args.self.now.entries ≡ c.deref.result.now = sym (ap (λ (p : Planning). p.entries) c.self.view_is) ∙ sym c.deref.ensures.value in
    parent_other c.args.self.now.entries c.args.epoch c.in-Some.entry.now (ap (λ (es : List StoredEntry). slice_get es (length es - 1)) same ∙ sym c.in-Some.ensures.value) (λ is. absurd (omega (arith, is, c.if-entry-epoch.false)))
