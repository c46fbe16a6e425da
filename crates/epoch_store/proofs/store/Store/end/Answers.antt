-- The last entry, or none.
use Rattle.std.proofs.Common.{◌≡◌, ◌-◌, ◌∙◌, sym, ap, subst, List, length, arith}
use Rattle.std.specs.List.{slice_get}
use Rattle.std.proofs.lemmas.List.{nil_from_length}
use Rattle.store_finding.specs.declared.entries.StoredEntry.{StoredEntry}
use Rattle.store_finding.specs.Kept.{StoreState}
use Rattle.epoch_store.proofs.Ends.{end_of_none, end_of_last}
use Rattle.store_finding.specs.Extents.{LieFrom}
use Rattle.store_planning.proofs.PlannedExtents.{up_to_last, up_to_none}
use Rattle.epoch_store.proofs.store.Store.end.Goals as goal

pub returns-in-None-clause-end : goal.returns-in-None-clause-end
returns-in-None-clause-end c = λ a keeps.
    let same : c.args.self.now.entries ≡ c.deref.result.now = sym (ap (λ (v : StoreState). v.entries) c.self.view_is) ∙ sym c.deref.ensures.value in
    let item = c.in-None.ensures.item in
    end_of_none c.args.self.now a keeps (same ∙ nil_from_length c.deref.result.now (let none = item.3 in omega (arith, none)))

pub returns-in-Some-clause-end : goal.returns-in-Some-clause-end
returns-in-Some-clause-end c = λ a keeps.
    let same : c.args.self.now.entries ≡ c.deref.result.now = sym (ap (λ (v : StoreState). v.entries) c.self.view_is) ∙ sym c.deref.ensures.value in
    end_of_last c.args.self.now a keeps c.in-Some.entry.now (ap (λ (es : List StoredEntry). slice_get es (length es - 1)) same ∙ sym c.in-Some.ensures.value)

pub returns-in-None-clause-last : goal.returns-in-None-clause-last
returns-in-None-clause-last c =
    let same : c.args.self.now.entries ≡ c.deref.result.now = sym (ap (λ (v : StoreState). v.entries) c.self.view_is) ∙ sym c.deref.ensures.value in
    let item = c.in-None.ensures.item in
    up_to_none c.args.self.now.entries 0 (same ∙ nil_from_length c.deref.result.now (let none = item.3 in omega (arith, none)))

pub returns-in-Some-clause-last : goal.returns-in-Some-clause-last
returns-in-Some-clause-last c =
    let same : c.args.self.now.entries ≡ c.deref.result.now = sym (ap (λ (v : StoreState). v.entries) c.self.view_is) ∙ sym c.deref.ensures.value in
    let lie : LieFrom 0 0 c.args.self.now.entries = subst (λ (v : StoreState). LieFrom 0 0 v.entries) c.self.view_is c.self.invariant.2.lie in
    up_to_last c.args.self.now.entries c.in-Some.entry.now lie (ap (λ (es : List StoredEntry). slice_get es (length es - 1)) same ∙ sym c.in-Some.ensures.value)
