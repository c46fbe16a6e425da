-- The root after plans, which is made by one plan after the other.
use Rattle.std.specs.Prelude.{◌≡◌, ◌≢◌, ℕ, ◌+◌, ◌-◌, ◌*◌, ◌<◌, ◌≤◌, ◌^◌, ◌==◌, Bool, if◌then◌else◌, List, [], ◌∷◌, ◌++◌, length, take, get_or, slice_get, Option, Some, None, refl}
use Rattle.std.proofs.Common.{◌∙◌, sym, ap, subst, inl, inr, arith}
use Rattle.std.proofs.lemmas.Bool.{cases_lt}
use Rattle.std.proofs.lemmas.List.Elements.{All-from_get_or}
use Rattle.arch_base.specs.declared.config.Config.{Config}
use Rattle.arch_base.specs.declared.ids.Form.{Form}
use Rattle.arch_base.specs.declared.ids.Form.TheVariants.{Sha1, Sha256}
use Rattle.arch_base.specs.Configs.{IsConfig, with_form}
use Rattle.disk_model.specs.declared.name.FileKind.{FileKind}
use Rattle.disk_model.specs.declared.name.FileKind.TheVariants as kind
use Rattle.disk_model.specs.Sizes.{record_size}
use Rattle.root_slots.specs.declared.root.Place.{Place}
use Rattle.root_slots.specs.declared.root.Root.{Root}
use Rattle.root_slots.specs.Valid.{IsRoot, RootFits, PlaceIsValid, no_place}
use Rattle.root_change.specs.declared.plan.Target.{Target}
use Rattle.root_change.specs.declared.plan.Target.TheVariants.{Anew, Behind}
use Rattle.root_change.specs.Names.{place_of}
use Rattle.root_change.specs.Rewriting.{Plan, IsPartToPlan, IsRootAfter, MayCarryAll, MapFits, plan_of, plan_count, place_anew, place_behind, place_by, place_planned, map_by, map_planned}
use Rattle.root_change.specs.Writing.{SetsPlace}
use Rattle.root_change.proofs.Drops.{not_both}
use Rattle.root_change.proofs.Gathers.{one_more}
use Rattle.root_change.proofs.PlanParts.{is_of, is_of_own, of_or_not, of_more, of_one, of_others, none_before}
use Rattle.root_change.proofs.Roots.{later_place, less_test, least_test}

-- The parts that may be planned: the one map, and epochs.
pub map_number : (k : FileKind) (n : ℕ) → k ≡ kind.Map → IsPartToPlan k n → n ≡ 0
map_number k n is part = subst (λ (j : FileKind). IsPartToPlan j n) is part

module _ (old : Root) (number : ℕ) (form : Form) where
  abbrev next_ : ℕ
  next_ = old.sequence + 1

  -- The `Place` of a part without a plan stays.
  pub place_stays : (plans : List Plan) (new : Root) (k : FileKind) (n : ℕ) → IsRootAfter old plans number form new → IsPartToPlan k n → plan_of plans k n ≡ None → place_of new k n ≡ place_of old k n
  place_stays plans new kind.Root n after part none = absurd part
  place_stays plans new kind.Map n after part none =
      let at_0 : plan_of plans kind.Map 0 ≡ None = subst (λ (m : ℕ). plan_of plans kind.Map m ≡ None) part none in
      ap (λ (p : Place). if n == 0 then p else no_place) (after.map ∙ ap (λ (o : Option Plan). map_planned (old.sequence + 1) o old.map) at_0)
  place_stays plans new kind.Epoch n after part none = after.epochs n part ∙ ap (λ (o : Option Plan). place_planned (old.sequence + 1) o (place_of old kind.Epoch n)) none
  place_stays plans new kind.Cache n after part none = absurd part

  -- Before the first plan.
  pub start_after : (new : Root) → new ≡ old → length old.epochs ≡ 64 → IsRootAfter old [] number form (record { config = with_form form new.config; sequence = old.sequence + 1; next = number; map = new.map; epochs = new.epochs; cache = no_place })
  start_after new same count = record {
    config = ap (λ (r : Root). with_form form r.config) same;
    sequence = refl;
    next = refl;
    map = ap (λ (r : Root). r.map) same;
    epochs = λ e below. ap (λ (r : Root). get_or r.epochs e no_place) same;
    count = ap (λ (r : Root). length r.epochs) same ∙ count;
    cache = refl;
  }

  -- One more plan, of a part that had none.
  set_after : (plans : List Plan) (plan : Plan) (new set : Root) → IsPartToPlan plan.kind plan.number → plan_of plans plan.kind plan.number ≡ None → IsRootAfter old plans number form new → SetsPlace new plan (old.sequence + 1) set → IsRootAfter old (plans ++ plan ∷ []) number form set
  set_after plans plan new set part none after sets = record {
    config = sets.config ∙ after.config;
    sequence = sets.sequence ∙ after.sequence;
    next = sets.number ∙ after.next;
    map = elim (of_or_not plan kind.Map 0) [
      | inl is ↦
          let before = none_at kind.Map 0 is.0 is.1 in
          let was : new.map ≡ old.map = after.map ∙ ap (λ (o : Option Plan). map_planned next_ o old.map) before in
          let here : plan_of (plans ++ plan ∷ []) kind.Map 0 ≡ Some plan = of_more plans (plan ∷ []) kind.Map 0 before ∙ of_one plan kind.Map 0 is.0 is.1 in
          sets.map is.0 ∙ (ap (λ (p : Place). map_by next_ plan.target p (plan_count plan)) was ∙ sym (ap (λ (o : Option Plan). map_planned next_ o old.map) here))
      | inr isnt ↦
          let no_map : plan.kind ≢ kind.Map = λ is. not_both (is_of plan kind.Map 0) (is_of_own plan kind.Map 0 is (map_number plan.kind plan.number is part)) isnt in
          sets.map_stays no_map ∙ (after.map ∙ sym (ap (λ (o : Option Plan). map_planned next_ o old.map) (of_others plans plan kind.Map 0 isnt)))
    ];
    epochs = λ e below. elim (of_or_not plan kind.Epoch e) [
      | inl is ↦
          let before = none_at kind.Epoch e is.0 is.1 in
          let was : get_or new.epochs e no_place ≡ get_or old.epochs e no_place = after.epochs e below ∙ ap (λ (o : Option Plan). place_planned next_ o (get_or old.epochs e no_place)) before in
          let here : plan_of (plans ++ plan ∷ []) kind.Epoch e ≡ Some plan = of_more plans (plan ∷ []) kind.Epoch e before ∙ of_one plan kind.Epoch e is.0 is.1 in
          subst (λ (n : ℕ). get_or set.epochs n no_place ≡ place_by next_ plan.target (get_or new.epochs n no_place) (plan_count plan)) is.1 (sets.here is.0)
          ∙ (ap (λ (p : Place). place_by next_ plan.target p (plan_count plan)) was ∙ sym (ap (λ (o : Option Plan). place_planned next_ o (get_or old.epochs e no_place)) here))
      | inr isnt ↦
          sets.stays e (λ is same. not_both (is_of plan kind.Epoch e) (is_of_own plan kind.Epoch e is (sym same)) isnt)
          ∙ (after.epochs e below ∙ sym (ap (λ (o : Option Plan). place_planned next_ o (get_or old.epochs e no_place)) (of_others plans plan kind.Epoch e isnt)))
    ];
    count = sets.count ∙ after.count;
    cache = sets.cache ∙ after.cache;
  } where
    none_at : (k : FileKind) (n : ℕ) → plan.kind ≡ k → plan.number ≡ n → plan_of plans k n ≡ None
    none_at k n kind_is number_is = subst (λ (m : ℕ). plan_of plans k m ≡ None) number_is (subst (λ (j : FileKind). plan_of plans j plan.number ≡ None) kind_is none)

  module _ (plans : List Plan) (may : MayCarryAll old plans) (i : ℕ) (plan : Plan) (here : slice_get plans i ≡ Some plan) (new : Root) (after : IsRootAfter old (take i plans) number form new) where
    -- The next plan of several.
    pub next_after : (set : Root) → SetsPlace new plan (old.sequence + 1) set → IsRootAfter old (take (i + 1) plans) number form set
    next_after set sets = subst (λ (ps : List Plan). IsRootAfter old ps number form set) (sym (one_more plans i plan here)) (set_after (take i plans) plan new set (may.each i plan here).part (none_before plans i plan may.apart here) after sets)

    -- The part of the next plan has the `Place` that it had.
    pub next_room : plan.target ≡ Behind → (place_of new plan.kind plan.number).length + plan_count plan < 2 ^ 64
    next_room behind =
        let one = may.each i plan here in
        let same = place_stays (take i plans) new plan.kind plan.number after one.part (none_before plans i plan may.apart here) in
        let size = ap (λ (p : Place). p.length) same in
        let room = one.room behind in
        let short = one.valid.short in
        omega (arith, size, room, short)

-- The `Place` of a part after its plan is valid.
anew_valid : (next count : ℕ) → PlaceIsValid next (place_anew next count)
anew_valid next count = elim (cases_lt 0 count) [
  | inl some ↦ subst (PlaceIsValid next) (sym (ap (λ (b : Bool). made b) (less_test 0 count some))) (record { generation = omega arith; empty = λ none. absurd (omega (arith, none, some)) })
  | inr none ↦ subst (PlaceIsValid next) (sym (ap (λ (b : Bool). made b) (least_test 0 count none))) (record { generation = omega arith; empty = λ empty. refl })
] where
  made : Bool → Place
  made b = if b then record { generation = next; length = count } else no_place

behind_valid : (sequence : ℕ) (place : Place) (count : ℕ) → PlaceIsValid sequence place → PlaceIsValid (sequence + 1) (place_behind (sequence + 1) place count)
behind_valid sequence place count valid = elim (cases_lt 0 place.length) [
  | inl some ↦
      let old = valid.generation in
      subst (PlaceIsValid (sequence + 1)) (sym (ap (λ (b : Bool). made b) (less_test 0 place.length some))) (record { generation = omega (arith, old); empty = λ none. absurd (omega (arith, none, some)) })
  | inr none ↦ subst (PlaceIsValid (sequence + 1)) (sym (ap (λ (b : Bool). made b) (least_test 0 place.length none))) (anew_valid (sequence + 1) count)
] where
  made : Bool → Place
  made b = if b then record { generation = place.generation; length = place.length + count } else place_anew (sequence + 1) count

by_valid : (sequence : ℕ) (target : Target) (place : Place) (count : ℕ) → PlaceIsValid sequence place → PlaceIsValid (sequence + 1) (place_by (sequence + 1) target place count)
by_valid sequence Anew place count valid = anew_valid (sequence + 1) count
by_valid sequence Behind place count valid = behind_valid sequence place count valid

planned_valid : (sequence : ℕ) (plan : Option Plan) (place : Place) → PlaceIsValid sequence place → PlaceIsValid (sequence + 1) (place_planned (sequence + 1) plan place)
planned_valid sequence None place valid = later_place sequence (sequence + 1) place (omega arith) valid
planned_valid sequence (Some plan) place valid = by_valid sequence plan.target place (plan_count plan) valid

map_gen : (sequence : ℕ) (target : Target) (place : Place) (count : ℕ) → place.generation ≤ sequence → (map_by (sequence + 1) target place count).generation ≤ sequence + 1
map_gen sequence Anew place count old = omega arith
map_gen sequence Behind place count old = omega (arith, old)

map_gen_planned : (sequence : ℕ) (plan : Option Plan) (place : Place) → place.generation ≤ sequence → (map_planned (sequence + 1) plan place).generation ≤ sequence + 1
map_gen_planned sequence None place old = omega (arith, old)
map_gen_planned sequence (Some plan) place old = map_gen sequence plan.target place (plan_count plan) old

-- Settings with another form are as valid.
config_with_form : (form : Form) (config : Config) → IsConfig config → IsConfig (with_form form config)
config_with_form form config valid = record {
  limit_low = valid.limit_low;
  limit_high = valid.limit_high;
  slice_low = valid.slice_low;
  slice_high = valid.slice_high;
  max_low = valid.max_low;
  max_high = valid.max_high;
  born_low = valid.born_low;
  born_high = valid.born_high;
}

-- A map of records of the form has one for each number below the next one.
map_sized : (form last : Form) (length_ long number next : ℕ) → form ≡ last → length_ ≡ long → long + record_size form ≡ record_size form * number → next ≡ number → 1 ≤ number → length_ ≡ record_size last * (next - 1)
map_sized form last length_ long number next same length_is fits next_is least = subst (λ (f : Form). length_ ≡ record_size f * (next - 1)) same (by form fits) where
  by : (f : Form) → long + record_size f ≡ record_size f * number → length_ ≡ record_size f * (next - 1)
  by Sha1 has = omega (arith, length_is, has, next_is, least)
  by Sha256 has = omega (arith, length_is, has, next_is, least)

-- The root after plans is valid.
pub after_is_root : (old : Root) (plans : List Plan) (number : ℕ) (form : Form) (new : Root) → IsRoot old → RootFits old → 1 ≤ number → number ≤ 2147483648 → MapFits old plans number form → IsRootAfter old plans number form new → IsRoot new
after_is_root old plans number form new valid fits least most map_fits after =
    let next_is = after.next in
    let sequence_is = after.sequence in
    let gen_is = ap (λ (p : Place). p.generation) after.map in
    let length_is = ap (λ (p : Place). p.length) after.map in
    let gen_most = map_gen_planned old.sequence (plan_of plans kind.Map 0) old.map valid.map_gen in
    let size = after.count in
    let was = fits.count in
    record {
      config = subst IsConfig (sym after.config) (config_with_form form old.config valid.config);
      next_least = omega (arith, next_is, least);
      next_most = omega (arith, next_is, most);
      map_gen = omega (arith, gen_is, gen_most, sequence_is);
      map_length = map_sized form new.config.form new.map.length (map_planned (old.sequence + 1) (plan_of plans kind.Map 0) old.map).length number new.next (sym (ap (λ (c : Config). c.form) after.config)) length_is map_fits next_is least;
      epochs = All-from_get_or (PlaceIsValid new.sequence) new.epochs no_place (λ e below.
          let low : e < 64 = omega (arith, size, below) in
          subst (λ (s : ℕ). PlaceIsValid s (get_or new.epochs e no_place)) (sym sequence_is)
          (subst (PlaceIsValid (old.sequence + 1)) (sym (after.epochs e low)) (planned_valid old.sequence (plan_of plans kind.Epoch e) (get_or old.epochs e no_place) (valid.epochs e no_place (omega (arith, was, low))))));
      cache = subst (PlaceIsValid new.sequence) (sym after.cache) (record { generation = omega arith; empty = λ none. refl });
    }
