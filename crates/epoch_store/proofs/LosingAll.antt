-- Just the epochs that lose an entry are written anew once all entries are planned.
use Rattle.std.specs.Prelude.{◌≡◌, ◌+◌, ◌==◌, ℕ, suc, Bool, ◌&&◌, ◌||◌, List, [], ◌∷◌, take, slice_get, Option, Some, None, is_some}
use Rattle.std.proofs.Common.{◌∙◌, sym, ap, arith}
use Rattle.std.proofs.lemmas.List.Folds.{list_any-append}
use Rattle.arch_base.specs.declared.ids.ObjectId.{ObjectId}
use Rattle.arch_base.specs.Ids.{id_eq}
use Rattle.disk_model.specs.declared.name.FileKind.TheVariants as kind
use Rattle.disk_model.specs.declared.name.FileName.{FileName}
use Rattle.root_change.specs.Rewriting.{Plan, plan_of}
use Rattle.root_change.proofs.PlanParts.{of_others, other_part}
use Rattle.number_map.specs.Rewriting.{PlansMap}
use Rattle.epoch_file.specs.Planning.{Planned}
use Rattle.store_finding.specs.declared.entries.StoredEntry.{StoredEntry}
use Rattle.store_planning.specs.Planning.{ChangesNext, ClosesLast, FinishesPlans, Planning, is_anew, is_changed, loses}
use Rattle.store_planning.proofs.Messaged.{epoch_isnt_map}
use Rattle.epoch_store.proofs.Purged.{take_one}
use Rattle.store_planning.proofs.Losing.{or_no, closed_some}

-- So far the epochs of these entries that lose one are to be written anew.
pub lost_more : (es : List StoredEntry) (n : ℕ) (s : StoredEntry) (blob : ObjectId) (number : ℕ) (old new : Planning) → slice_get es n ≡ Some s → number ≡ s.epoch → ((e : ℕ) → is_anew old e ≡ loses (take n es) blob e) → ChangesNext old number (id_eq blob s.seen.blob) new
    → (e : ℕ) → is_anew new e ≡ loses (take (n + 1) es) blob e
lost_more es n s blob number old new here number_is all next = λ e.
    let count : suc n ≡ n + 1 = omega arith in
    let hit = id_eq blob s.seen.blob in
    let one : loses (s ∷ []) blob e ≡ (hit && (s.epoch == e)) = or_no (hit && (s.epoch == e)) in
    let parts : loses (take (n + 1) es) blob e ≡ (loses (take n es) blob e || (hit && (s.epoch == e))) =
    ap (λ (j : ℕ). loses (take j es) blob e) (sym count)
    ∙ (ap (λ (l : List StoredEntry). loses l blob e) (take_one es n s here)
    ∙ (list_any-append (λ (f : StoredEntry). id_eq blob f.seen.blob && (f.epoch == e)) (take n es) (s ∷ []) ∙ ap (λ (t : Bool). loses (take n es) blob e || t) one)) in
    next e ∙ (ap (λ (t : Bool). t || (hit && (number == e))) (all e) ∙ (ap (λ (m : ℕ). loses (take n es) blob e || (hit && (m == e))) number_is ∙ sym parts))

-- Once it is finished, these are planned.
pub finished_some : (old : Planning) (map : FileName) (count : ℕ) (new : Planning) → FinishesPlans old map count new → (e : ℕ) → is_some (plan_of new.plans kind.Epoch e) ≡ is_anew old e
finished_some old map count new finishes e =
    ap (λ (p : Planning). is_some (plan_of p.plans kind.Epoch e)) finishes.2.2.0
    ∙ (ap (λ (o : Option Plan). is_some o) (of_others finishes.0.plans finishes.2.0 kind.Epoch e (other_part finishes.2.0 kind.Epoch e (λ k_is n_is. epoch_isnt_map (sym of_map.kind ∙ k_is)))) ∙ by old.current finishes.1) where
      of_map : PlansMap old.form map count finishes.0.gone finishes.2.0
      of_map = finishes.2.1

      by : (current : Option Planned) → ClosesLast old current finishes.0 → is_some (plan_of finishes.0.plans kind.Epoch e) ≡ (is_some (plan_of old.plans kind.Epoch e) || is_changed current e)
      by None is = ap (λ (p : Planning). is_some (plan_of p.plans kind.Epoch e)) is ∙ sym (or_no (is_some (plan_of old.plans kind.Epoch e)))
      by (Some c) closes = closed_some old c closes.0 finishes.0 e closes.2 closes.3 closes.4
