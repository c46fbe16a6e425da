-- The last entry that stays, or none.
use Rattle.std.proofs.Common.{◌≡◌, ◌-◌, ◌∙◌, sym, ap, List, length, arith}
use Rattle.std.specs.List.{slice_get}
use Rattle.std.proofs.lemmas.List.{nil_from_length}
use Rattle.store_finding.specs.declared.entries.StoredEntry.{StoredEntry}
use Rattle.store_planning.specs.Planning.{Planning}
use Rattle.store_planning.proofs.Ends.{end_none, end_last}
use Rattle.store_planning.proofs.PlannedExtents.{up_to_last, up_to_none}
use Rattle.store_planning.proofs.planning.Planner.end.Goals as goal

pub returns-in-None-clause-end : goal.returns-in-None-clause-end
returns-in-None-clause-end c = λ b valid kept.
    let same : c.args.self.now.entries ≡ c.deref.result.now = sym (ap (λ (p : Planning). p.entries) c.self.view_is) ∙ sym c.deref.ensures.value in
    let item = c.in-None.ensures.item in
    end_none c.args.self.now.entries b kept (same ∙ nil_from_length c.deref.result.now (let none = item.3 in omega (arith, none)))

pub returns-in-Some-clause-end : goal.returns-in-Some-clause-end
returns-in-Some-clause-end c = λ b valid kept.
    let same : c.args.self.now.entries ≡ c.deref.result.now = sym (ap (λ (p : Planning). p.entries) c.self.view_is) ∙ sym c.deref.ensures.value in
    end_last c.args.self.now.entries b valid.order kept c.in-Some.entry.now (ap (λ (es : List StoredEntry). slice_get es (length es - 1)) same ∙ sym c.in-Some.ensures.value)

pub returns-in-Some-clause-small : goal.returns-in-Some-clause-small
returns-in-Some-clause-small c =
    let same : c.args.self.now.entries ≡ c.deref.result.now = sym (ap (λ (p : Planning). p.entries) c.self.view_is) ∙ sym c.deref.ensures.value in
    c.requires (length c.args.self.now.entries - 1) c.in-Some.entry.now (ap (λ (es : List StoredEntry). slice_get es (length es - 1)) same ∙ sym c.in-Some.ensures.value)

pub returns-in-None-clause-last : goal.returns-in-None-clause-last
returns-in-None-clause-last c = λ lie.
    let same : c.args.self.now.entries ≡ c.deref.result.now = sym (ap (λ (p : Planning). p.entries) c.self.view_is) ∙ sym c.deref.ensures.value in
    let item = c.in-None.ensures.item in
    up_to_none c.args.self.now.entries 0 (same ∙ nil_from_length c.deref.result.now (let none = item.3 in omega (arith, none)))

pub returns-in-Some-clause-last : goal.returns-in-Some-clause-last
returns-in-Some-clause-last c = λ lie.
    let same : c.args.self.now.entries ≡ c.deref.result.now = sym (ap (λ (p : Planning). p.entries) c.self.view_is) ∙ sym c.deref.ensures.value in
    up_to_last c.args.self.now.entries c.in-Some.entry.now lie (ap (λ (es : List StoredEntry). slice_get es (length es - 1)) same ∙ sym c.in-Some.ensures.value)
