-- The entries that a planner has taken: what it planned lies in the bytes that a root names, and what
-- stays lies in the new files.
use Rattle.std.specs.Prelude.{◌≡◌, ◌≢◌, ◌+◌, ◌*◌, ◌<◌, ◌≤◌, ℕ, zero, suc, List, [], ◌∷◌, ◌++◌, drop, get_or, slice_get, Option, Some, None, is_some, refl}
use Rattle.std.specs.List.{AllByRecursion}
use Rattle.std.proofs.Common.{◌∙◌, sym, ap, subst, inl, inr, arith}
use Rattle.std.proofs.lemmas.Bool.{cases_lt}
use Rattle.std.proofs.lemmas.Option.{same_Some}
use Rattle.arch_base.specs.declared.ids.Form.{Form}
use Rattle.arch_model.proofs.ValidArchives.{all_weaker}
use Rattle.disk_model.specs.declared.name.FileKind.TheVariants as kind
use Rattle.disk_model.specs.declared.name.FileName.{FileName}
use Rattle.disk_model.specs.Disk.{Content}
use Rattle.disk_model.specs.Sizes.{record_size}
use Rattle.root_slots.specs.declared.root.Root.{Root}
use Rattle.root_slots.specs.Valid.{no_place}
use Rattle.root_change.specs.Rewriting.{Plan, place_planned, plan_of}
use Rattle.root_change.proofs.PlanParts.{is_of_own, of_more, of_others, other_part}
use Rattle.number_map.specs.Rewriting.{PlansMap}
use Rattle.epoch_file.specs.Lying.{tree_end}
use Rattle.epoch_file.specs.Planning.{EndUpTo, FinishesIn, IsOfEpoch, IsPlannedIn, Planned, reach, reach_by}
use Rattle.store_finding.specs.declared.entries.StoredEntry.{StoredEntry}
use Rattle.store_finding.specs.Damage.{named_length}
use Rattle.store_finding.specs.Extents.{AreNamedAfter, ComesAfter, LieFrom, length_planned}
use Rattle.store_finding.specs.Files.{epoch_file_of, map_file_of}
use Rattle.store_planning.specs.Planning.{ArePlansIn, AreWithin, ClosesEpoch, ClosesAs, ClosesLast, EndByCurrent, EndsInPlan, FinishesPlans, IsFileIn, IsPlanWithin, IsTakenSo, IsTakenToOffset, IsTakenUpTo, PlansEntry, LeavesOut, OpensBy, OpensPlan, Planning, PlanTakes, epoch_start, kept_anew, no_planning, without_current}
use Rattle.store_finding.proofs.Extents.{all_more, lie_more}
use Rattle.store_planning.proofs.PlannedExtents.{anew_planned, none_planned}
use Rattle.store_planning.proofs.Messaged.{epoch_isnt_map}
use Rattle.store_planning.proofs.Planned.{each_plan, of_first}
use Rattle.store_planning.proofs.Ranges.{epoch_within, map_within}
use Rattle.store_planning.proofs.Taking.{closed_in}

-- Before the first entry.
pub taken_none : (form : Form) (root : Root) → IsTakenUpTo root 0 0 (no_planning form)
taken_none form root = record {
  lie = tt;
  ranges = λ i p here. absurd (let wrong : None ≡ Some p = here in cc);
  later = λ x high. refl;
  inside = omega arith;
  ends = (refl, refl);
}

-- Entries reach further where those of the old file do.
reach_more : (from at : ℕ) (c : Planned) → from ≤ at → reach from c ≤ reach at c
reach_more from at c more = by c.changed where
  by : (o : Option Plan) → reach_by from c.end_ o ≤ reach_by at c.end_ o
  by None = more
  by (Some p) = omega arith

-- The current epoch was closed: each entry ends where its epoch does, by the plans.
abbrev pub EndsUpTo : Root → List Plan → ℕ → StoredEntry → Type 0
EndsUpTo root plans epoch e = (e.epoch ≤ epoch) × (tree_end e.seen ≤ length_planned root plans e.epoch)

pub record IsShutIn (root : Root) (epoch : ℕ) (mid : Planning) : Type 0 where
  pub ranges : (i : ℕ) (plan : Plan) → slice_get mid.plans i ≡ Some plan → EndUpTo (named_length root plan.number) plan
  pub later : (x : ℕ) → epoch < x → plan_of mid.plans kind.Epoch x ≡ None
  pub ends : AllByRecursion (EndsUpTo root mid.plans epoch) mid.entries

module _ (root : Root) (epoch from : ℕ) (old : Planning) (c : Planned) (ranges : (i : ℕ) (plan : Plan) → slice_get old.plans i ≡ Some plan → EndUpTo (named_length root plan.number) plan) (later : (x : ℕ) → epoch ≤ x → plan_of old.plans kind.Epoch x ≡ None)
    (inside : from ≤ named_length root epoch) (current : EndByCurrent root old epoch from (Some c)) where
  shut_none : (finishes : FinishesIn (named_length root epoch) c None) (mid : Planning) → mid ≡ without_current old → IsShutIn root epoch mid
  shut_none finishes mid is = subst (IsShutIn root epoch) (sym is) (record {
    ranges = ranges;
    later = λ x high. later x (omega (arith, high));
    ends = all_weaker (EndsInPlan root old.plans c epoch from) (EndsUpTo root old.plans epoch) old.entries one current.2;
  }) where
    one : (e : StoredEntry) → EndsInPlan root old.plans c epoch from e → EndsUpTo root old.plans epoch e
    one e (inl before) = (let low = before.0 in omega (arith, low), before.1)
    one e (inr here) =
        let same = here.0 in
        let stays : from ≡ reach from c = finishes.count here.2 from in
        let ends = here.1 in
        let long : length_planned root old.plans e.epoch ≡ named_length root epoch = none_planned root old.plans e.epoch (later e.epoch (omega (arith, same))) ∙ ap (named_length root) same in
        (omega (arith, same), omega (arith, stays, ends, long, inside))

  shut_some : (q : Plan) → FinishesIn (named_length root epoch) c (Some q) → IsOfEpoch c.file (Some q) → (mid : Planning) → ClosesAs (without_current old) (Some q) mid → IsShutIn root epoch mid
  shut_some q finishes of mid pushed = subst (IsShutIn root epoch) (sym pushed.0) (record {
    ranges = each_plan (λ (p : Plan). EndUpTo (named_length root p.number) p) old.plans q ranges (subst (λ (n : ℕ). EndUpTo (named_length root n) q) (sym number_is) finishes.ranges);
    later = λ x high. other x (λ n_is. (let n = number_is in absurd (omega (arith, n_is, n, high)))) ∙ later x (omega (arith, high));
    ends = all_weaker (EndsInPlan root old.plans c epoch from) (EndsUpTo root (old.plans ++ q ∷ []) epoch) old.entries one current.2;
  }) where
    number_is : q.number ≡ epoch
    number_is = of.number ∙ ap (λ (f : FileName). f.number) current.0

    other : (x : ℕ) → (q.number ≡ x → ⊥) → plan_of (old.plans ++ q ∷ []) kind.Epoch x ≡ plan_of old.plans kind.Epoch x
    other x apart = of_others old.plans q kind.Epoch x (other_part q kind.Epoch x (λ k_is n_is. apart n_is))

    here_is : plan_of (old.plans ++ q ∷ []) kind.Epoch epoch ≡ Some q
    here_is = of_more old.plans (q ∷ []) kind.Epoch epoch (later epoch (omega arith)) ∙ of_first q [] kind.Epoch epoch (is_of_own q kind.Epoch epoch of.kind number_is)

    one : (e : StoredEntry) → EndsInPlan root old.plans c epoch from e → EndsUpTo root (old.plans ++ q ∷ []) epoch e
    one e (inl before) =
        let low = before.0 in
        let n = number_is in
        let long : length_planned root (old.plans ++ q ∷ []) e.epoch ≡ length_planned root old.plans e.epoch =
        ap (λ (o : Option Plan). (place_planned (root.sequence + 1) o (get_or root.epochs e.epoch no_place)).length) (other e.epoch (λ n_is. absurd (omega (arith, n_is, n, low)))) in
        let ends = before.1 in
        (omega (arith, low), omega (arith, ends, long))
    one e (inr here) =
        let same = here.0 in
        let count = finishes.count here.2 from in
        let ends = here.1 in
        let long = anew_planned root (old.plans ++ q ∷ []) epoch q here_is of.target in
        let at : length_planned root (old.plans ++ q ∷ []) e.epoch ≡ length_planned root (old.plans ++ q ∷ []) epoch = ap (length_planned root (old.plans ++ q ∷ [])) same in
        (omega (arith, same), omega (arith, ends, count, long, at))

  pub shut : (mid : Planning) → ClosesEpoch (without_current old) c mid → IsShutIn root epoch mid
  shut mid closes = by closes.0 (closes.5 (named_length root epoch) current.1) closes.2 closes.3 where
    by : (finished : Option Plan) → FinishesIn (named_length root epoch) c finished → IsOfEpoch c.file finished → ClosesAs (without_current old) finished mid → IsShutIn root epoch mid
    by None finishes of is = shut_none finishes mid is
    by (Some q) finishes of is = shut_some q finishes of mid is

-- Closing leaves what is kept of the entries.
closed_same : (old : Planning) (finished : Option Plan) (mid : Planning) → ClosesAs old finished mid → mid.entries ≡ old.entries
closed_same old None mid is = ap (λ (p : Planning). p.entries) is
closed_same old (Some q) mid is = ap (λ (p : Planning). p.entries) is.0

-- A plan is ready for an entry at an offset of its epoch.
pub record IsReadyAt (root : Root) (n at : ℕ) (mid : Planning) (plan : Planned) : Type 0 where
  pub lie : LieFrom 0 0 mid.entries
  pub ranges : (i : ℕ) (p : Plan) → slice_get mid.plans i ≡ Some p → EndUpTo (named_length root p.number) p
  pub later : (x : ℕ) → n ≤ x → plan_of mid.plans kind.Epoch x ≡ None
  pub file : plan.file ≡ epoch_file_of root n
  pub planned : IsPlannedIn (named_length root n) plan
  pub ends : AllByRecursion (EndsInPlan root mid.plans plan n at) mid.entries

-- The plan of an entry's file, whatever was current.
module _ (root : Root) (epoch from n at : ℕ) (old : Planning) (file : FileName) (file_is : file ≡ epoch_file_of root n) (least : epoch ≤ n) (after : epoch ≡ n → from ≤ at) (taken : IsTakenUpTo root epoch from old) where
  starts : (mid : Planning) → mid.entries ≡ [] → mid.plans ≡ [] → IsReadyAt root n at mid (epoch_start old.form file)
  starts mid none no_plans = record {
    lie = subst (LieFrom 0 0) (sym none) tt;
    ranges = λ i p here. absurd (let wrong : None ≡ Some p = ap (λ (l : List Plan). slice_get l i) (sym no_plans) ∙ here in cc);
    later = λ x high. ap (λ (l : List Plan). plan_of l kind.Epoch x) no_plans;
    file = file_is;
    planned = tt;
    ends = subst (AllByRecursion (EndsInPlan root mid.plans (epoch_start old.form file) n at)) (sym none) tt;
  }

  same : (c : Planned) → EndByCurrent root old epoch from (Some c) → c.file ≡ file → IsReadyAt root n at (without_current old) c
  same c current here =
      let n_is : epoch ≡ n = ap (λ (f : FileName). f.number) (sym current.0 ∙ (here ∙ file_is)) in
      let more = after n_is in
      record {
        lie = taken.lie;
        ranges = taken.ranges;
        later = λ x high. taken.later x (omega (arith, high, n_is));
        file = here ∙ file_is;
        planned = subst (λ (m : ℕ). IsPlannedIn (named_length root m) c) n_is current.1;
        ends = all_weaker (EndsInPlan root old.plans c epoch from) (EndsInPlan root old.plans c n at) old.entries one current.2;
      } where
        one : (e : StoredEntry) → EndsInPlan root old.plans c epoch from e → EndsInPlan root old.plans c n at e
        one e (inl before) = inl ((let low = before.0 in omega (arith, low, least)), before.1)
        one e (inr is) =
            let n_is : epoch ≡ n = ap (λ (f : FileName). f.number) (sym current.0 ∙ (here ∙ file_is)) in
            let more = reach_more from at c (after n_is) in
            let ends = is.1 in
            inr (is.0 ∙ n_is, omega (arith, ends, more), is.2)

  next : (c : Planned) → EndByCurrent root old epoch from (Some c) → (c.file ≢ file) → (mid : Planning) → ClosesEpoch (without_current old) c mid → IsReadyAt root n at mid (epoch_start old.form file)
  next c current apart mid closes = record {
    lie = subst (LieFrom 0 0) (sym (closed_same (without_current old) closes.0 mid closes.3)) taken.lie;
    ranges = shut_so.ranges;
    later = λ x high. (let low = below in shut_so.later x (omega (arith, high, low)));
    file = file_is;
    planned = tt;
    ends = all_weaker (EndsUpTo root mid.plans epoch) (EndsInPlan root mid.plans (epoch_start old.form file) n at) mid.entries (λ e so. inl ((let most = so.0 in let low = below in omega (arith, most, low)), so.1)) shut_so.ends;
  } where
    shut_so : IsShutIn root epoch mid
    shut_so = shut root epoch from old c taken.ranges taken.later taken.inside current mid closes

    below : epoch < n
    below = elim (cases_lt epoch n) [
      | inl less ↦ less
      | inr high ↦ absurd (let n_is : epoch ≡ n = omega (arith, high, least) in apart (current.0 ∙ (ap (epoch_file_of root) n_is ∙ sym file_is)))
    ]

  by_current : (current : Option Planned) → EndByCurrent root old epoch from current → (mid : Planning) (plan : Planned) → OpensBy old file current mid plan → IsReadyAt root n at mid plan
  by_current None none mid plan by = subst (IsReadyAt root n at mid) (sym by.1) (starts mid (ap (λ (p : Planning). p.entries) by.0 ∙ none.1) (ap (λ (p : Planning). p.plans) by.0 ∙ none.0))
  by_current (Some c) current mid plan (inl here) = subst (λ (p : Planning). IsReadyAt root n at p plan) (sym here.2) (subst (IsReadyAt root n at (without_current old)) (sym here.1) (same c current here.0))
  by_current (Some c) current mid plan (inr other) = subst (IsReadyAt root n at mid) (sym other.1) (next c current other.0 mid other.2)

  pub ready_at : (mid : Planning) (plan : Planned) → OpensPlan old file mid plan → IsReadyAt root n at mid plan
  ready_at mid plan opens = by_current old.current taken.ends mid plan opens

-- An entry was left out, or kept.
pub left_on : (old : Planning) (file : FileName) (e : StoredEntry) (mid new : Planning) (plan : Planned) → OpensPlan old file mid plan → LeavesOut mid plan e new → PlanTakes old file e new
left_on old file e mid new plan opens left = λ root epoch from file_is comes lies taken.
    let n = e.epoch in
    let so = ready_at root epoch from n e.seen.at old file file_is comes.0 comes.1 taken mid plan opens in
    let after = left.0 in
    let leaves = left.5 e.seen.at (named_length root n) lies so.planned in
    let more = leaves.reach in
    subst (IsTakenUpTo root n (tree_end e.seen)) (sym left.3) (record {
      lie = so.lie;
      ranges = so.ranges;
      later = so.later;
      inside = lies.ends;
      ends = (
        left.2 ∙ so.file,
        leaves.planned,
        all_weaker (EndsInPlan root mid.plans plan n e.seen.at) (EndsInPlan root mid.plans after n (tree_end e.seen)) mid.entries (λ f ends. elim ends [
          | inl before ↦ inl before
          | inr here ↦ inr (here.0, (let most = here.1 in omega (arith, most, more)), ap (λ (o : _). is_some o) leaves.parent ∙ here.2)
        ]) so.ends,
      );
    })

pub kept_on : (old : Planning) (file : FileName) (e : StoredEntry) (content : Option Content) (mid new : Planning) (plan : Planned) → OpensPlan old file mid plan → PlansEntry mid plan e content new → PlanTakes old file e new
kept_on old file e content mid new plan opens keeps = λ root epoch from file_is comes lies taken.
    let n = e.epoch in
    let so = ready_at root epoch from n e.seen.at old file file_is comes.0 comes.1 taken mid plan opens in
    let after = keeps.after in
    let made = kept_anew e keeps.seen in
    let in_ = keeps.lies e.seen.at (named_length root n) lies so.planned in
    let at = in_.lies.at in
    let text = in_.lies.text in
    let ends = in_.lies.ends in
    subst (IsTakenUpTo root n (tree_end e.seen)) (sym keeps.new_is) (record {
      lie = lie_more 0 0 mid.entries made so.lie (omega arith, λ same. omega arith)
          (all_weaker (EndsInPlan root mid.plans plan n e.seen.at) (λ (f : StoredEntry). ComesAfter f.epoch (tree_end f.seen) made) mid.entries (λ f so_f. elim so_f [
            | inl before ↦ (let low = before.0 in (omega (arith, low), λ is. absurd (omega (arith, is, low))))
            | inr here ↦ (let is = here.0 in let most = here.1 in (omega (arith, is), λ again. omega (arith, most, at)))
          ]) so.ends) text;
      ranges = so.ranges;
      later = so.later;
      inside = lies.ends;
      ends = (
        keeps.file ∙ so.file,
        in_.planned,
        all_more (EndsInPlan root mid.plans after n (tree_end e.seen)) mid.entries made
            (all_weaker (EndsInPlan root mid.plans plan n e.seen.at) (EndsInPlan root mid.plans after n (tree_end e.seen)) mid.entries (λ f so_f. elim so_f [
              | inl before ↦ inl before
              | inr here ↦ inr (here.0, (let most = here.1 in omega (arith, most, at, text, ends)), keeps.some)
            ]) so.ends)
            (inr (refl, ends, keeps.some)),
      );
    })

-- What is known once the last epoch is closed.
pub record IsAllShut (root : Root) (p : Planning) : Type 0 where
  pub lie : LieFrom 0 0 p.entries
  pub within : (i : ℕ) (plan : Plan) → slice_get p.plans i ≡ Some plan → IsPlanWithin root plan
  pub ends : AllByRecursion (λ (e : StoredEntry). tree_end e.seen ≤ length_planned root p.plans e.epoch) p.entries

-- All entries were taken: the current epoch is closed.
module _ (root : Root) (old mid : Planning) (are : ArePlansIn root old) (taken : IsTakenToOffset root old) where
  by_last : (current : Option Planned) → IsFileIn root current → EndByCurrent root old taken.epoch taken.from current → ClosesLast old current mid → IsAllShut root mid
  by_last None in_ none is = subst (IsAllShut root) (sym is) (record {
    lie = taken.taken.lie;
    within = λ i p here. epoch_within root p (are.each i p here) (taken.taken.ranges i p here);
    ends = subst (AllByRecursion (λ (e : StoredEntry). tree_end e.seen ≤ length_planned root old.plans e.epoch)) (sym none.1) tt;
  })
  by_last (Some c) in_ current closes =
      let so = shut root taken.epoch taken.from old c taken.taken.ranges taken.taken.later taken.taken.inside current mid closes in
      record {
        lie = subst (LieFrom 0 0) (sym (closed_same (without_current old) closes.0 mid closes.3)) taken.taken.lie;
        within = λ i p here. epoch_within root p (closed_in root (without_current old) c closes.0 mid are.each in_ closes.2 closes.3 i p here) (so.ranges i p here);
        ends = all_weaker (EndsUpTo root mid.plans taken.epoch) (λ (e : StoredEntry). tree_end e.seen ≤ length_planned root mid.plans e.epoch) mid.entries (λ e up. up.1) so.ends;
      }

  pub all_shut : ClosesLast old old.current mid → IsAllShut root mid
  all_shut closes = by_last old.current are.current taken.taken.ends closes

-- The map is planned, too.
module _ (root : Root) (old : Planning) (map : FileName) (count : ℕ) (new : Planning) (finishes : FinishesPlans old map count new) (map_is : map ≡ map_file_of root) (long : root.map.length ≡ record_size root.config.form * count) (are : ArePlansIn root old) (taken : IsTakenToOffset root old) where
  abbrev mid : Planning
  mid = finishes.0

  of : PlansMap root.config.form map count mid.gone finishes.2.0
  of = subst (λ (g : Form). PlansMap g map count mid.gone finishes.2.0) are.form finishes.2.1

  plans_are : new.plans ≡ mid.plans ++ finishes.2.0 ∷ []
  plans_are = ap (λ (p : Planning). p.plans) finishes.2.2.0

  so : IsAllShut root mid
  so = all_shut root old mid are taken finishes.1

  pub finished_within : AreWithin root new.plans
  finished_within = λ i p here. each_plan (IsPlanWithin root) mid.plans finishes.2.0 so.within (map_within root.config.form root map count mid.gone finishes.2.0 map_is long of) i p (ap (λ (l : List Plan). slice_get l i) (sym plans_are) ∙ here)

  same_long : (x : ℕ) → length_planned root mid.plans x ≡ length_planned root new.plans x
  same_long x =
      ap (λ (o : Option Plan). (place_planned (root.sequence + 1) o (get_or root.epochs x no_place)).length)
      (sym (of_others mid.plans finishes.2.0 kind.Epoch x (other_part finishes.2.0 kind.Epoch x (λ k_is n_is. epoch_isnt_map (sym of.kind ∙ k_is)))) ∙ ap (λ (l : List Plan). plan_of l kind.Epoch x) (sym plans_are))

  pub finished_named : AreNamedAfter root new.plans new.entries
  finished_named =
      let entries_are : mid.entries ≡ new.entries = ap (λ (p : Planning). p.entries) (sym finishes.2.2.0) in
      record {
        lie = subst (LieFrom 0 0) entries_are so.lie;
        ends = subst (AllByRecursion (λ (e : StoredEntry). tree_end e.seen ≤ length_planned root new.plans e.epoch)) entries_are
            (all_weaker (λ (e : StoredEntry). tree_end e.seen ≤ length_planned root mid.plans e.epoch) (λ (e : StoredEntry). tree_end e.seen ≤ length_planned root new.plans e.epoch) mid.entries (λ e up. (let long_ = same_long e.epoch in omega (arith, up, long_))) so.ends);
      }

-- One more entry was taken.
drop_here : (es : List StoredEntry) (i : ℕ) (e : StoredEntry) → slice_get es i ≡ Some e → drop i es ≡ e ∷ drop (suc i) es
drop_here [] i e here = absurd (let wrong : None ≡ Some e = here in cc)
drop_here (x ∷ xs) zero e here = ap (λ (y : StoredEntry). y ∷ xs) (same_Some x e here)
drop_here (x ∷ xs) (suc i) e here = drop_here xs i e here

pub taken_more : (root : Root) (es : List StoredEntry) (i : ℕ) (e : StoredEntry) (file : FileName) (old new : Planning) → slice_get es i ≡ Some e → file ≡ epoch_file_of root e.epoch → IsTakenSo root (drop i es) old → PlanTakes old file e new → IsTakenSo root (drop (i + 1) es) new
taken_more root es i e file old new here file_is so takes =
    let rest : drop i es ≡ e ∷ drop (suc i) es = drop_here es i e here in
    let count : suc i ≡ i + 1 = omega arith in
    let lie = subst (LieFrom so.epoch so.from) rest so.lie in
    let ends = subst (AllByRecursion (λ (f : StoredEntry). tree_end f.seen ≤ named_length root f.epoch)) rest so.ends in
    subst (λ (n : ℕ). IsTakenSo root (drop n es) new) count (record {
      epoch = e.epoch;
      from = tree_end e.seen;
      taken = takes root so.epoch so.from file_is lie.0 (record { at = omega arith; text = lie.1; ends = ends.0 }) so.taken;
      lie = lie.2;
      ends = ends.1;
    })
