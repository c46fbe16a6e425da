-- No part is planned twice.
use Rattle.std.specs.Prelude.{◌≡◌, ◌==◌, ◌&&◌, ℕ, suc, false, List, [], ◌∷◌, slice_get, Option, Some, None, refl}
use Rattle.std.proofs.Common.{◌∙◌, sym, ap, subst, arith}
use Rattle.disk_model.specs.declared.name.FileKind.{FileKind}
use Rattle.disk_model.specs.declared.name.FileKind.TheVariants as kind
use Rattle.disk_model.specs.declared.name.FileName.{FileName}
use Rattle.root_slots.specs.declared.root.Root.{Root}
use Rattle.root_change.specs.Rewriting.{Plan, plan_of, same_kind}
use Rattle.root_change.proofs.PlanParts.{is_of, of_others}
use Rattle.epoch_file.specs.Planning.{IsOfEpoch, Planned}
use Rattle.store_planning.specs.Planning.{ArePlansIn, ClosesAs, ClosesLast, EndByCurrent, PlansApart, IsTakenUpTo, Planning, without_current}
use Rattle.store_planning.proofs.Planned.{of_rest}

-- The plan of an epoch that isn't planned yet is of another part.
pub epoch_apart : (plans : List Plan) (file : FileName) (p : Plan) → IsOfEpoch file (Some p) → plan_of plans kind.Epoch file.number ≡ None → plan_of plans p.kind p.number ≡ None
epoch_apart plans file p of none = subst (λ (k : FileKind). plan_of plans k p.number ≡ None) (sym of.kind) (subst (λ (n : ℕ). plan_of plans kind.Epoch n ≡ None) (sym of.number) none)

-- So is the current one's, which is taken out of the planner.
pub current_apart : (inside now : Planning) (c : Planned) → inside ≡ now → inside.current ≡ Some c → PlansApart now.plans now.current → plan_of inside.plans kind.Epoch c.file.number ≡ None
current_apart inside now c same is apart =
    let free : PlansApart inside.plans inside.current = subst (λ (p : Planning). PlansApart p.plans p.current) (sym same) apart in
    subst (PlansApart inside.plans) is free

-- The plan of an epoch isn't that of the map.
isnt_map : (p : Plan) → p.kind ≡ kind.Epoch → is_of p kind.Map 0 ≡ false
isnt_map p is = ap (λ (k : FileKind). same_kind k kind.Map && p.number == 0) is

closed_map : (old : Planning) (file : FileName) (finished : Option Plan) (mid : Planning) → IsOfEpoch file finished → ClosesAs old finished mid → plan_of old.plans kind.Map 0 ≡ None → plan_of mid.plans kind.Map 0 ≡ None
closed_map old file None mid of is none = ap (λ (p : Planning). plan_of p.plans kind.Map 0) is ∙ none
closed_map old file (Some p) mid of is none = ap (λ (q : Planning). plan_of q.plans kind.Map 0) is.0 ∙ (of_others old.plans p kind.Map 0 (isnt_map p of.kind) ∙ none)

-- The map isn't planned yet once the last epoch is closed.
pub last_map : (old : Planning) (current : Option Planned) (mid : Planning) → ClosesLast old current mid → plan_of old.plans kind.Map 0 ≡ None → plan_of mid.plans kind.Map 0 ≡ None
last_map old None mid is none = ap (λ (p : Planning). plan_of p.plans kind.Map 0) is ∙ none
last_map old (Some c) mid closes none = closed_map (without_current old) c.file closes.0 mid closes.2 closes.3 none

-- Nor is it while all plans are those of epochs.
no_map : (plans : List Plan) → ((i : ℕ) (p : Plan) → slice_get plans i ≡ Some p → p.kind ≡ kind.Epoch) → plan_of plans kind.Map 0 ≡ None
no_map [] each = refl
no_map (p ∷ ps) each = of_rest p ps kind.Map 0 (isnt_map p (each 0 p refl)) ∙ no_map ps (λ i q here. each (suc i) q here)

pub plans_map : (root : Root) (p : Planning) → ArePlansIn root p → plan_of p.plans kind.Map 0 ≡ None
plans_map root p are = no_map p.plans (λ i q here. (are.each i q here).of.kind)

-- Entries that were taken in order leave the current epoch apart.
taken_by : (root : Root) (epoch from : ℕ) (p : Planning) (current : Option Planned) → IsTakenUpTo root epoch from p → EndByCurrent root p epoch from current → PlansApart p.plans current
taken_by root epoch from p None taken ends = tt
taken_by root epoch from p (Some c) taken ends = ap (λ (f : FileName). plan_of p.plans kind.Epoch f.number) ends.0 ∙ taken.later epoch (omega arith)

pub taken_apart : (root : Root) (epoch from : ℕ) (p : Planning) → IsTakenUpTo root epoch from p → PlansApart p.plans p.current
taken_apart root epoch from p taken = taken_by root epoch from p p.current taken taken.ends

-- No epoch is current once the last one is closed.
closed_none : (old : Planning) (finished : Option Plan) (mid : Planning) → ClosesAs old finished mid → mid.current ≡ old.current
closed_none old None mid is = ap (λ (p : Planning). p.current) is
closed_none old (Some plan) mid is = ap (λ (p : Planning). p.current) is.0

pub last_none : (old : Planning) (current : Option Planned) (mid : Planning) → old.current ≡ current → ClosesLast old current mid → mid.current ≡ None
last_none old None mid was is = ap (λ (p : Planning). p.current) is ∙ was
last_none old (Some c) mid was closes = closed_none (without_current old) closes.0 mid closes.3
