-- One more text was seen.
use Rattle.std.proofs.Common.{◌≡◌, ◌+◌, ◌<◌, Bool, true, false, not, ◌&&◌, ◌||◌, cond, List, [], ◌∷◌, ◌++◌, length, get_or, take, drop, Option, Some, None, refl, sym, ◌∙◌, ap, subst, ℕ, if◌then◌else◌}
use Rattle.std.specs.BTreeMap.{BTreeMap, is_at, UpdatesBy}
use Rattle.std.specs.List.{list_any}
use Rattle.std.specs.declared.cmp.Ordering.{Ordering}
use Rattle.std.proofs.lemmas.List.{take_more, drop_more}
use Rattle.std.proofs.lemmas.List.Folds.{list_any-append}
use Rattle.arch_base.specs.Ids.{id_cmp, id_eq}
use Rattle.arch_base.specs.declared.ids.ObjectId.{ObjectId}
use Rattle.arch_base.specs.contracts.ids.ObjectIdOrd.TheImpl as order
use Rattle.arch_base.proofs.IdOrder.{derived, is_at-ids, id_eq-Decides, id_eq-flip}
use Rattle.id_clashes.specs.declared.clashes.TwoIds.{TwoIds}
use Rattle.id_clashes.specs.Clashes.{clashes, first_clash_of}
use Rattle.id_clashes.specs.SeenIds.{TellsClash, differs_from, old_in}

chosen : {X : Type 0} (t u : Bool) (a b : X) → t ≡ u → cond t a b ≡ (if u then a else b)
chosen true true a b same = refl
chosen true false a b same = absurd (cc)
chosen false true a b same = absurd (cc)
chosen false false a b same = refl

-- A change of the map by its order is one of the old id of one new id.
pub changed : (old new : BTreeMap ObjectId ObjectId) (id : ObjectId) (w : Option ObjectId) → UpdatesBy order.ghosts.cmp (order.ghosts.cmp id) old new w → (q : ObjectId) → old_in new q ≡ (if id_eq q id then w else old_in old q)
changed old new id w updates q =
    let by_order : UpdatesBy id_cmp (id_cmp id) old new w = subst (λ (cmp : ObjectId → ObjectId → Ordering). UpdatesBy cmp (cmp id) old new w) derived updates in
    by_order.0 q ∙ chosen (is_at (id_cmp id) q) (id_eq q id) w (old_in old q) (is_at-ids id q ∙ id_eq-flip id q)

-- An old id that is there already.
there_step : (t : Bool) (q new : ObjectId) (kept : ObjectId → Option ObjectId) (old : ObjectId) → (t ≡ true → q ≡ new) → kept new ≡ Some old → kept q ≡ (if t then Some old else kept q)
there_step true q new kept old same here = ap kept (same refl) ∙ here
there_step false q new kept old same here = refl

pub stays : (kept : ObjectId → Option ObjectId) (new old there : ObjectId) → kept new ≡ Some there → not (id_eq there old) ≡ false → (q : ObjectId) → kept q ≡ (if id_eq q new then Some old else kept q)
stays kept new old there here same q = there_step (id_eq q new) q new kept old (id_eq-Decides q new).0 (here ∙ ap Some ((id_eq-Decides there old).0 (by (id_eq there old) same))) where
  by : (t : Bool) → not t ≡ false → t ≡ true
  by true is = refl
  by false is = absurd (let wrong : true ≡ false = is in cc)

-- Tests.
or_no : (t : Bool) → (t || false) ≡ t
or_no true = refl
or_no false = refl

both : (t : Bool) → (t || t) ≡ t
both true = refl
both false = refl

not_then : (t : Bool) → not t ≡ false → t ≡ true
not_then true is = refl
not_then false is = absurd (let wrong : true ≡ false = is in cc)

-- The old id of one more text, which doesn't clash, under its new id.
other_flip : (a b : ObjectId) → not (id_eq a b) ≡ not (id_eq b a)
other_flip a b = ap not (id_eq-flip a b)

here_step : (found : Option ObjectId) (x_old e_old : ObjectId) → differs_from found x_old ≡ false → (differs_from found e_old || (not (id_eq e_old x_old) || false)) ≡ not (id_eq x_old e_old)
here_step None x_old e_old none = or_no (not (id_eq e_old x_old)) ∙ other_flip e_old x_old
here_step (Some there) x_old e_old none =
    let same : there ≡ x_old = (id_eq-Decides there x_old).0 (not_then (id_eq there x_old) none) in
    ap (λ (i : ObjectId). not (id_eq i e_old) || (not (id_eq e_old x_old) || false)) same
    ∙ (ap (λ (b : Bool). not (id_eq x_old e_old) || b) (or_no (not (id_eq e_old x_old)) ∙ other_flip e_old x_old) ∙ both (not (id_eq x_old e_old)))

module _ (before : List TwoIds) (kept : ObjectId → Option ObjectId) (x : TwoIds) (tells : TellsClash before kept) (none : list_any (clashes x) before ≡ false) where
  alone : differs_from (kept x.new) x.old ≡ false
  alone = sym (tells x) ∙ none

  step : (e : TwoIds) (t : Bool) → id_eq e.new x.new ≡ t → (differs_from (kept e.new) e.old || ((t && not (id_eq e.old x.old)) || false)) ≡ differs_from (if t then Some x.old else kept e.new) e.old
  step e true is =
      let same : e.new ≡ x.new = (id_eq-Decides e.new x.new).0 is in
      here_step (kept e.new) x.old e.old (subst (λ (i : ObjectId). differs_from (kept i) x.old ≡ false) (sym same) alone)
  step e false is = or_no (differs_from (kept e.new) e.old)

  pub tells_more : (after : ObjectId → Option ObjectId) → ((q : ObjectId) → after q ≡ (if id_eq q x.new then Some x.old else kept q)) → TellsClash (before ++ x ∷ []) after
  tells_more after is e =
      list_any-append (clashes e) before (x ∷ [])
      ∙ (ap (λ (b : Bool). b || (clashes e x || false)) (tells e)
      ∙ (step e (id_eq e.new x.new) refl ∙ ap (λ (o : Option ObjectId). differs_from o e.old) (sym (is e.new))))

-- The first clash is among the texts that are left, if none so far clashes.
pub record FoundSoFar (texts : List TwoIds) (i : ℕ) (seen : BTreeMap ObjectId ObjectId) : Type 0 where
  pub tells : TellsClash (take i texts) (old_in seen)
  pub same : first_clash_of [] texts ≡ first_clash_of (take i texts) (drop i texts)

module _ (texts : List TwoIds) (i : ℕ) (seen : BTreeMap ObjectId ObjectId) (so : FoundSoFar texts i seen) (d : TwoIds) (within : i < length texts) where
  abbrev x : TwoIds
  x = get_or texts i d

  none_is : differs_from (old_in seen x.new) x.old ≡ false → list_any (clashes x) (take i texts) ≡ false
  none_is miss = so.tells x ∙ miss

  next : list_any (clashes x) (take i texts) ≡ false → first_clash_of [] texts ≡ first_clash_of (take i texts ++ x ∷ []) (drop (i + 1) texts)
  next none =
      so.same
      ∙ (ap (first_clash_of (take i texts)) (drop_more texts i d within)
      ∙ ap (λ (t : Bool). if t then Some x.number else first_clash_of (take i texts ++ x ∷ []) (drop (i + 1) texts)) none)

  pub found_more : (new : BTreeMap ObjectId ObjectId) → differs_from (old_in seen x.new) x.old ≡ false → ((q : ObjectId) → old_in new q ≡ (if id_eq q x.new then Some x.old else old_in seen q)) → FoundSoFar texts (i + 1) new
  found_more new miss kept = record {
    tells = subst (λ (l : List TwoIds). TellsClash l (old_in new)) (sym (take_more texts i d within)) (tells_more (take i texts) (old_in seen) x so.tells (none_is miss) (old_in new) kept);
    same = next (none_is miss) ∙ ap (λ (l : List TwoIds). first_clash_of l (drop (i + 1) texts)) (sym (take_more texts i d within));
  }
