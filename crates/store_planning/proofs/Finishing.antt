-- The plans of a planner that is finished may be carried out.
use Rattle.std.specs.Prelude.{◌≡◌, ◌+◌, ◌*◌, ◌<◌, ◌≤◌, ℕ, List, [], ◌∷◌, ◌++◌, slice_get, Option, Some, None}
use Rattle.std.proofs.Common.{◌∙◌, sym, ap, subst, arith}
use Rattle.arch_base.specs.declared.ids.Form.{Form}
use Rattle.disk_model.specs.declared.name.FileKind.{FileKind}
use Rattle.disk_model.specs.declared.name.FileKind.TheVariants as kind
use Rattle.disk_model.specs.declared.name.FileName.{FileName}
use Rattle.disk_model.specs.Sizes.{record_size}
use Rattle.root_slots.specs.declared.root.Root.{Root}
use Rattle.root_change.specs.declared.plan.Target.{Target}
use Rattle.root_change.specs.declared.plan.Target.TheVariants.{Anew, Behind}
use Rattle.root_change.specs.Rewriting.{Plan, AreApart, IsPartToPlan, IsPlan, IsPlanFrom, MayCarry, file_by, map_by, map_planned, plan_count, plan_of}
use Rattle.root_change.proofs.PlanParts.{apart_more, is_of_own, of_more}
use Rattle.number_map.specs.Rewriting.{PlansMap, RisesUpTo}
use Rattle.number_map.specs.Sizes.{sizes_one, sizes_sum}
use Rattle.epoch_file.specs.Planning.{Planned}
use Rattle.store_finding.specs.Files.{map_file_of}
use Rattle.store_planning.specs.Planning.{AreAnew, AreFrom, ArePlansIn, AreWithin, ClosesLast, FinishesPlans, IsFileIn, IsPlanIn, IsReadyPlan, Planning, Pushes, without_current}
use Rattle.store_planning.proofs.Planned.{each_plan, of_first}
use Rattle.store_planning.proofs.Taking.{closed_form, closed_in}

-- A plan of a part of a root, that is written anew.
pub record IsAnewIn (root : Root) (p : Plan) : Type 0 where
  pub part : IsPartToPlan p.kind p.number
  pub from : IsPlanFrom (file_by root p.kind p.number) p
  pub anew : p.target ≡ Anew
  pub valid : IsPlan p

pub epoch_anew : (root : Root) (p : Plan) → IsPlanIn root p → IsAnewIn root p
epoch_anew root p in_ =
    let low = in_.small in
    let below : p.number < 64 = omega (arith, low) in
    record {
      part = subst (λ (k : FileKind). IsPartToPlan k p.number) (sym in_.of.kind) below;
      from = subst (λ (k : FileKind). IsPlanFrom (file_by root k p.number) p) (sym in_.of.kind) in_.of.from;
      anew = in_.of.target;
      valid = in_.of.valid;
    }

map_anew : {form : Form} (root : Root) (map : FileName) (count : ℕ) (gone : List ℕ) (p : Plan) → map ≡ map_file_of root → PlansMap form map count gone p → IsAnewIn root p
map_anew root map count gone p map_is of =
    let own : IsPlanFrom (file_by root kind.Map 0) p = subst (λ (f : FileName). IsPlanFrom f p) map_is of.from in
    let at_number : IsPlanFrom (file_by root kind.Map p.number) p = subst (λ (n : ℕ). IsPlanFrom (file_by root kind.Map n) p) (sym of.number) own in
    record {
      part = subst (λ (k : FileKind). IsPartToPlan k p.number) (sym of.kind) of.number;
      from = subst (λ (k : FileKind). IsPlanFrom (file_by root k p.number) p) (sym of.kind) at_number;
      anew = of.target;
      valid = of.valid;
    }

-- The sizes of records, and of one more.
one_more : (form : Form) (count : ℕ) → record_size form * count + record_size form ≡ record_size form * (count + 1)
one_more form count = (let one = sizes_one form in let sum = sizes_sum form count 1 (count + 1) (omega arith) in omega (arith, one, sum))

-- The plan of the map has the form and the numbers that the planner had before.
last_form : (old : Planning) (current : Option Planned) (mid : Planning) → ClosesLast old current mid → mid.form ≡ old.form
last_form old None mid is = ap (λ (p : Planning). p.form) is
last_form old (Some c) mid closes = closed_form (without_current old) closes.0 mid closes.3

pub map_planned_by : (old inside mid : Planning) (map : FileName) (count : ℕ) (plan : Plan) → inside ≡ mid → ClosesLast old old.current mid → PlansMap inside.form map count inside.gone plan → PlansMap old.form map count mid.gone plan
map_planned_by old inside mid map count plan same closes of =
    subst (λ (g : Form). PlansMap g map count mid.gone plan) (last_form old old.current mid closes)
    (subst (λ (p : Planning). PlansMap p.form map count p.gone plan) same of)

pub isnt_behind : (t : Target) → t ≡ Anew → t ≡ Behind → ⊥
isnt_behind t is behind = (let wrong : Anew ≡ Behind = sym is ∙ behind in cc)

-- The current epoch was closed, or there was none.
pub last_in : (root : Root) (old : Planning) (current : Option Planned) (mid : Planning) → ((i : ℕ) (p : Plan) → slice_get old.plans i ≡ Some p → IsPlanIn root p) → IsFileIn root current → ClosesLast old current mid → (i : ℕ) (p : Plan) → slice_get mid.plans i ≡ Some p → IsPlanIn root p
last_in root old None mid each in_ is = λ i p here. each i p (ap (λ (q : Planning). slice_get q.plans i) (sym is) ∙ here)
last_in root old (Some c) mid each in_ closes = closed_in root (without_current old) c closes.0 mid each in_ closes.2 closes.3

-- So each plan may be carried out, and the map has all its records.
module _ (root : Root) (old : Planning) (map : FileName) (count : ℕ) (new : Planning) (finishes : FinishesPlans old map count new) (apart : AreApart finishes.0.plans) (map_is : map ≡ map_file_of root) (are : ArePlansIn root old) where
  abbrev mid : Planning
  mid = finishes.0

  abbrev plan : Plan
  plan = finishes.2.0

  of : PlansMap old.form map count mid.gone plan
  of = finishes.2.1

  pushes : Pushes mid plan new
  pushes = finishes.2.2

  plans_are : new.plans ≡ mid.plans ++ plan ∷ []
  plans_are = ap (λ (p : Planning). p.plans) pushes.0

  each_anew : (i : ℕ) (p : Plan) → slice_get new.plans i ≡ Some p → IsAnewIn root p
  each_anew i p here =
      each_plan (IsAnewIn root) mid.plans plan (λ j q there. epoch_anew root q (last_in root old old.current mid are.each are.current finishes.1 j q there)) (map_anew root map count mid.gone plan map_is of) i p
      (ap (λ (l : List Plan). slice_get l i) (sym plans_are) ∙ here)

  none : plan_of mid.plans kind.Map 0 ≡ None
  none = ap (λ (n : ℕ). plan_of mid.plans kind.Map n) (sym of.number) ∙ (ap (λ (k : FileKind). plan_of mid.plans k plan.number) (sym of.kind) ∙ pushes.1)

  map_here : plan_of new.plans kind.Map 0 ≡ Some plan
  map_here = ap (λ (l : List Plan). plan_of l kind.Map 0) plans_are ∙ (of_more mid.plans (plan ∷ []) kind.Map 0 none ∙ of_first plan [] kind.Map 0 (is_of_own plan kind.Map 0 of.kind of.number))

  map_long : (map_planned (root.sequence + 1) (plan_of new.plans kind.Map 0) root.map).length ≡ plan_count plan
  map_long = ap (λ (o : Option Plan). (map_planned (root.sequence + 1) o root.map).length) map_here ∙ ap (λ (t : Target). (map_by (root.sequence + 1) t root.map (plan_count plan)).length) of.target

  carries : AreWithin root new.plans → (i : ℕ) (p : Plan) → slice_get new.plans i ≡ Some p → MayCarry root p
  carries within i p here =
      let it = each_anew i p here in
      record {
        part = it.part;
        valid = it.valid;
        comes = it.from;
        within = within i p here;
        room = λ behind. absurd (isnt_behind p.target it.anew behind);
        bytes_only = λ behind. absurd (isnt_behind p.target it.anew behind);
      }

  pub finish_ready : AreFrom root new.plans × AreAnew new.plans × (AreWithin root new.plans → IsReadyPlan root new.plans (count + 1))
  finish_ready = (
    λ i p here. (let it = each_anew i p here in (it.part, it.from)),
    λ i p here. (let it = each_anew i p here in it.anew),
    λ within. record {
      plans_may = record { each = carries within; apart = subst AreApart (sym plans_are) (apart_more mid.plans plan apart pushes.1) };
      map = ap (λ (n : ℕ). n + record_size root.config.form) (map_long ∙ of.count_is)
          ∙ (ap (λ (g : Form). record_size g * count + record_size root.config.form) are.form ∙ one_more root.config.form count);
      map_plan = plan;
      map_is = map_here;
      map_anew = of.target;
    },
  )

-- Numbers that rise up to one rise up to a greater one, and one more may follow.
pub rises_higher : (low high top : ℕ) (ns : List ℕ) → high ≤ top → RisesUpTo low high ns → RisesUpTo low top ns
rises_higher low high top [] most rises = tt
rises_higher low high top (n ∷ ns) most rises = (rises.0, (let at = rises.1 in omega (arith, at, most)), rises_higher (n + 1) high top ns most rises.2)

pub rises_more : (low high n : ℕ) (ns : List ℕ) → low ≤ n → high < n → RisesUpTo low high ns → RisesUpTo low n (ns ++ n ∷ [])
rises_more low high n [] least above rises = (least, omega arith, tt)
rises_more low high n (m ∷ ns) least above rises = (rises.0, (let at = rises.1 in omega (arith, at, above)), rises_more (m + 1) high n ns (let at = rises.1 in omega (arith, at, above)) above rises.2)
