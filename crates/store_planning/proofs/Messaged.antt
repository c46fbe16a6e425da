-- One more message after what is planned.
use Rattle.std.specs.Prelude.{◌≡◌, ◌+◌, ◌*◌, ◌^◌, ◌<◌, ◌≤◌, ℕ, zero, suc, Bool, true, false, if◌then◌else◌, List, [], ◌∷◌, length, get_or, slice_get, Option, Some, None, unwrap_or, refl}
use Rattle.std.proofs.Common.{◌∙◌, sym, ap, subst, inl, inr, arith}
use Rattle.std.proofs.lemmas.Option.{same_Some}
use Rattle.disk_model.specs.Name.{kind_index}
use Rattle.disk_model.specs.declared.name.FileKind.{FileKind}
use Rattle.disk_model.specs.declared.name.FileKind.TheVariants as kind
use Rattle.disk_model.specs.Sizes.{record_size}
use Rattle.number_map.specs.Sizes.{sizes_one, sizes_sum}
use Rattle.root_slots.specs.declared.root.Root.{Root}
use Rattle.root_slots.specs.Valid.{no_place}
use Rattle.root_change.specs.declared.plan.Target.{Target}
use Rattle.root_change.specs.declared.plan.Target.TheVariants.{Behind}
use Rattle.root_change.specs.declared.sources.Source.{Source}
use Rattle.root_change.specs.declared.sources.Source.TheVariants.{Bytes}
use Rattle.root_change.specs.Names.{place_of}
use Rattle.root_change.specs.Rewriting.{Plan, AreApart, IsPartToPlan, IsPlan, IsPlanFrom, SourceIsWithin, MayCarry, MayCarryAll, file_by, map_by, map_planned, no_plan, plan_count, plan_of, with_bytes}
use Rattle.root_change.proofs.Drops.{true_or_false}
use Rattle.root_change.proofs.PlanParts.{is_of, is_of_is, is_of_own, other_part}
use Rattle.root_change.proofs.Pushes.{count_with_bytes, each_more, from_with_bytes}
use Rattle.store_planning.proofs.Planned.{of_first, of_rest}
use Rattle.store_planning.specs.Planning.{AreValid, IsReadyPlan, plans_with, with_record}

-- The plans with bytes added to that of an epoch.
pub here_with : (plans : List Plan) (e : ℕ) (bytes : List ℕ) → plan_of (plans_with plans e bytes) kind.Epoch e ≡ Some (with_bytes (unwrap_or (plan_of plans kind.Epoch e) (no_plan kind.Epoch e Behind)) bytes)
here_with [] e bytes = of_first (with_bytes (no_plan kind.Epoch e Behind) bytes) [] kind.Epoch e (is_of_own (with_bytes (no_plan kind.Epoch e Behind) bytes) kind.Epoch e refl refl)
here_with (q ∷ qs) e bytes = elim (true_or_false (is_of q kind.Epoch e)) [
  | inl is ↦
      ap (λ (b : Bool). plan_of (if b then with_bytes q bytes ∷ qs else q ∷ plans_with qs e bytes) kind.Epoch e) is
      ∙ (of_first (with_bytes q bytes) qs kind.Epoch e is ∙ ap (λ (o : Option Plan). Some (with_bytes (unwrap_or o (no_plan kind.Epoch e Behind)) bytes)) (sym (of_first q qs kind.Epoch e is)))
  | inr isnt ↦
      ap (λ (b : Bool). plan_of (if b then with_bytes q bytes ∷ qs else q ∷ plans_with qs e bytes) kind.Epoch e) isnt
      ∙ (of_rest q (plans_with qs e bytes) kind.Epoch e isnt ∙ (here_with qs e bytes ∙ ap (λ (o : Option Plan). Some (with_bytes (unwrap_or o (no_plan kind.Epoch e Behind)) bytes)) (sym (of_rest q qs kind.Epoch e isnt))))
]

-- One plan in place of another of the same part, and what follows it.
pub same_first : (p q : Plan) (ps qs : List Plan) (k : FileKind) (n : ℕ) → p.kind ≡ q.kind → p.number ≡ q.number → is_of q k n ≡ false → plan_of ps k n ≡ plan_of qs k n → plan_of (p ∷ ps) k n ≡ plan_of (q ∷ qs) k n
same_first p q ps qs k n k_is n_is isnt rest =
    let other : is_of p k n ≡ false = other_part p k n (λ pk pn. (let wrong = is_of_own q k n (sym k_is ∙ pk) (sym n_is ∙ pn) in let no : true ≡ false = sym wrong ∙ isnt in cc)) in
    of_rest p ps k n other ∙ (rest ∙ sym (of_rest q qs k n isnt))

same_rest : (q : Plan) (ps qs : List Plan) (k : FileKind) (n : ℕ) → plan_of ps k n ≡ plan_of qs k n → plan_of (q ∷ ps) k n ≡ plan_of (q ∷ qs) k n
same_rest q ps qs k n rest = ap (λ (o : Option Plan). if is_of q k n then Some q else o) rest

pub other_with : (plans : List Plan) (e : ℕ) (bytes : List ℕ) (k : FileKind) (n : ℕ) → ((k ≡ kind.Epoch) → (n ≡ e) → ⊥) → plan_of (plans_with plans e bytes) k n ≡ plan_of plans k n
other_with [] e bytes k n apart = of_rest (with_bytes (no_plan kind.Epoch e Behind) bytes) [] k n (other_part (with_bytes (no_plan kind.Epoch e Behind) bytes) k n (λ k_is n_is. apart (sym k_is) (sym n_is)))
other_with (q ∷ qs) e bytes k n apart = elim (true_or_false (is_of q kind.Epoch e)) [
  | inl is ↦
      let parts = is_of_is q kind.Epoch e is in
      ap (λ (b : Bool). plan_of (if b then with_bytes q bytes ∷ qs else q ∷ plans_with qs e bytes) k n) is
      ∙ same_first (with_bytes q bytes) q qs qs k n refl refl (other_part q k n (λ k_is n_is. apart (sym k_is ∙ parts.0) (sym n_is ∙ parts.1))) refl
  | inr isnt ↦
      ap (λ (b : Bool). plan_of (if b then with_bytes q bytes ∷ qs else q ∷ plans_with qs e bytes) k n) isnt ∙ same_rest q (plans_with qs e bytes) qs k n (other_with qs e bytes k n apart)
]

-- The plans with a record added to that of the map.
pub here_record : (plans : List Plan) (bytes : List ℕ) (p : Plan) → plan_of plans kind.Map 0 ≡ Some p → plan_of (with_record plans bytes) kind.Map 0 ≡ Some (with_bytes p bytes)
here_record [] bytes p here = absurd (let wrong : None ≡ Some p = here in cc)
here_record (q ∷ qs) bytes p here = elim (true_or_false (is_of q kind.Map 0)) [
  | inl is ↦
      ap (λ (b : Bool). plan_of (if b then with_bytes q bytes ∷ qs else q ∷ with_record qs bytes) kind.Map 0) is
      ∙ (of_first (with_bytes q bytes) qs kind.Map 0 is ∙ ap (λ (r : Plan). Some (with_bytes r bytes)) (same_Some q p (sym (of_first q qs kind.Map 0 is) ∙ here)))
  | inr isnt ↦
      ap (λ (b : Bool). plan_of (if b then with_bytes q bytes ∷ qs else q ∷ with_record qs bytes) kind.Map 0) isnt
      ∙ (of_rest q (with_record qs bytes) kind.Map 0 isnt ∙ here_record qs bytes p (sym (of_rest q qs kind.Map 0 isnt) ∙ here))
]

pub other_record : (plans : List Plan) (bytes : List ℕ) (k : FileKind) (n : ℕ) → ((k ≡ kind.Map) → (n ≡ 0) → ⊥) → plan_of (with_record plans bytes) k n ≡ plan_of plans k n
other_record [] bytes k n apart = refl
other_record (q ∷ qs) bytes k n apart = elim (true_or_false (is_of q kind.Map 0)) [
  | inl is ↦
      let parts = is_of_is q kind.Map 0 is in
      ap (λ (b : Bool). plan_of (if b then with_bytes q bytes ∷ qs else q ∷ with_record qs bytes) k n) is
      ∙ same_first (with_bytes q bytes) q qs qs k n refl refl (other_part q k n (λ k_is n_is. apart (sym k_is ∙ parts.0) (sym n_is ∙ parts.1))) refl
  | inr isnt ↦
      ap (λ (b : Bool). plan_of (if b then with_bytes q bytes ∷ qs else q ∷ with_record qs bytes) k n) isnt ∙ same_rest q (with_record qs bytes) qs k n (other_record qs bytes k n apart)
]

-- What holds of each plan holds of each with bytes added to one.
each_front : (P : Plan → Type 0) (t : Bool) (q p : Plan) (qs ps : List Plan) → P p → P q → ((i : ℕ) (r : Plan) → slice_get qs i ≡ Some r → P r) → ((i : ℕ) (r : Plan) → slice_get ps i ≡ Some r → P r) → (i : ℕ) (r : Plan) → slice_get (if t then p ∷ qs else q ∷ ps) i ≡ Some r → P r
each_front P true q p qs ps one own rest more zero r here = subst P (same_Some p r here) one
each_front P true q p qs ps one own rest more (suc i) r here = rest i r here
each_front P false q p qs ps one own rest more zero r here = subst P (same_Some q r here) own
each_front P false q p qs ps one own rest more (suc i) r here = more i r here

pub each_with : (P : Plan → Type 0) (plans : List Plan) (e : ℕ) (bytes : List ℕ) → ((i : ℕ) (p : Plan) → slice_get plans i ≡ Some p → P p) → ((p : Plan) → P p → P (with_bytes p bytes)) → (plan_of plans kind.Epoch e ≡ None → P (with_bytes (no_plan kind.Epoch e Behind) bytes))
    → (i : ℕ) (p : Plan) → slice_get (plans_with plans e bytes) i ≡ Some p → P p
each_with P [] e bytes each more new zero p here = subst P (same_Some (with_bytes (no_plan kind.Epoch e Behind) bytes) p here) (new refl)
each_with P [] e bytes each more new (suc i) p here = absurd (let wrong : None ≡ Some p = here in cc)
each_with P (q ∷ qs) e bytes each more new i p here = elim (true_or_false (is_of q kind.Epoch e)) [
  | inl is ↦ each_front P true q (with_bytes q bytes) qs qs (more q (each zero q refl)) (each zero q refl) (λ j r there. each (suc j) r there) (λ j r there. each (suc j) r there) i p (ap (λ (b : Bool). slice_get (if b then with_bytes q bytes ∷ qs else q ∷ plans_with qs e bytes) i) (sym is) ∙ here)
  | inr isnt ↦
      each_front P false q q (plans_with qs e bytes) (plans_with qs e bytes) (each zero q refl) (each zero q refl) (each_with P qs e bytes (λ j r there. each (suc j) r there) more (λ none. new (of_rest q qs kind.Epoch e isnt ∙ none)))
      (each_with P qs e bytes (λ j r there. each (suc j) r there) more (λ none. new (of_rest q qs kind.Epoch e isnt ∙ none))) i p (ap (λ (b : Bool). slice_get (if b then with_bytes q bytes ∷ qs else q ∷ plans_with qs e bytes) i) (sym isnt) ∙ here)
]

pub each_record : (P : Plan → Type 0) (plans : List Plan) (bytes : List ℕ) → ((i : ℕ) (p : Plan) → slice_get plans i ≡ Some p → P p) → ((p : Plan) → P p → P (with_bytes p bytes)) → (i : ℕ) (p : Plan) → slice_get (with_record plans bytes) i ≡ Some p → P p
each_record P [] bytes each more i p here = each i p here
each_record P (q ∷ qs) bytes each more i p here = elim (true_or_false (is_of q kind.Map 0)) [
  | inl is ↦ each_front P true q (with_bytes q bytes) qs qs (more q (each zero q refl)) (each zero q refl) (λ j r there. each (suc j) r there) (λ j r there. each (suc j) r there) i p (ap (λ (b : Bool). slice_get (if b then with_bytes q bytes ∷ qs else q ∷ with_record qs bytes) i) (sym is) ∙ here)
  | inr isnt ↦
      each_front P false q q (with_record qs bytes) (with_record qs bytes) (each zero q refl) (each zero q refl) (each_record P qs bytes (λ j r there. each (suc j) r there) more) (each_record P qs bytes (λ j r there. each (suc j) r there) more) i p
      (ap (λ (b : Bool). slice_get (if b then with_bytes q bytes ∷ qs else q ∷ with_record qs bytes) i) (sym isnt) ∙ here)
]

-- No part is planned twice.
apart_with : (plans : List Plan) (e : ℕ) (bytes : List ℕ) → AreApart plans → AreApart (plans_with plans e bytes)
apart_with [] e bytes apart = (refl, tt)
apart_with (q ∷ qs) e bytes apart = elim (true_or_false (is_of q kind.Epoch e)) [
  | inl is ↦ subst AreApart (ap (λ (b : Bool). if b then with_bytes q bytes ∷ qs else q ∷ plans_with qs e bytes) (sym is)) (apart.0, apart.1)
  | inr isnt ↦
      subst AreApart (ap (λ (b : Bool). if b then with_bytes q bytes ∷ qs else q ∷ plans_with qs e bytes) (sym isnt))
      (other_with qs e bytes q.kind q.number (λ k_is n_is. (let wrong = is_of_own q kind.Epoch e k_is n_is in let no : true ≡ false = sym wrong ∙ isnt in cc)) ∙ apart.0, apart_with qs e bytes apart.1)
]

apart_record : (plans : List Plan) (bytes : List ℕ) → AreApart plans → AreApart (with_record plans bytes)
apart_record [] bytes apart = tt
apart_record (q ∷ qs) bytes apart = elim (true_or_false (is_of q kind.Map 0)) [
  | inl is ↦ subst AreApart (ap (λ (b : Bool). if b then with_bytes q bytes ∷ qs else q ∷ with_record qs bytes) (sym is)) (apart.0, apart.1)
  | inr isnt ↦
      subst AreApart (ap (λ (b : Bool). if b then with_bytes q bytes ∷ qs else q ∷ with_record qs bytes) (sym isnt))
      (other_record qs bytes q.kind q.number (λ k_is n_is. (let wrong = is_of_own q kind.Map 0 k_is n_is in let no : true ≡ false = sym wrong ∙ isnt in cc)) ∙ apart.0, apart_record qs bytes apart.1)
]

-- A plan may be carried out, but that it is valid.
pub record MayRest (root : Root) (plan : Plan) : Type 0 where
  pub part : IsPartToPlan plan.kind plan.number
  pub comes : IsPlanFrom (file_by root plan.kind plan.number) plan
  pub within : (i : ℕ) (source : Source) → slice_get plan.sources i ≡ Some source → SourceIsWithin root source
  pub room : plan.target ≡ Behind → (place_of root plan.kind plan.number).length < 2 ^ 62
  pub bytes_only : plan.target ≡ Behind → (i : ℕ) (source : Source) → slice_get plan.sources i ≡ Some source → (offset count : ℕ) × (source ≡ Bytes offset count)

rest_of : (root : Root) (plan : Plan) → MayCarry root plan → MayRest root plan
rest_of root plan may = record { part = may.part; comes = may.comes; within = may.within; room = may.room; bytes_only = may.bytes_only }

carry_of : (root : Root) (plan : Plan) → MayRest root plan → IsPlan plan → MayCarry root plan
carry_of root plan may valid = record { part = may.part; valid = valid; comes = may.comes; within = may.within; room = may.room; bytes_only = may.bytes_only }

rest_more : (root : Root) (bytes : List ℕ) (p : Plan) → MayRest root p → MayRest root (with_bytes p bytes)
rest_more root bytes p may =
    let last : Source = Bytes (length p.bytes) (length bytes) in
    record {
      part = may.part;
      comes = from_with_bytes (file_by root p.kind p.number) p bytes may.comes;
      within = each_more (SourceIsWithin root) p.sources last may.within tt;
      room = may.room;
      bytes_only = λ behind. each_more (λ (s : Source). (offset count : ℕ) × (s ≡ Bytes offset count)) p.sources last (may.bytes_only behind) (length p.bytes, length bytes, refl);
    }

rest_new : (root : Root) (bytes : List ℕ) (e : ℕ) → e < 64 → (get_or root.epochs e no_place).length < 2 ^ 62 → MayRest root (with_bytes (no_plan kind.Epoch e Behind) bytes)
rest_new root bytes e below room = rest_more root bytes (no_plan kind.Epoch e Behind) (record {
  part = below;
  comes = λ i s here. absurd (let wrong : None ≡ Some s = here in cc);
  within = λ i s here. absurd (let wrong : None ≡ Some s = here in cc);
  room = λ behind. room;
  bytes_only = λ behind i s here. absurd (let wrong : None ≡ Some s = here in cc);
})

pub epoch_isnt_map : kind.Map ≡ kind.Epoch → ⊥
epoch_isnt_map is = let wrong : kind_index kind.Map ≡ kind_index kind.Epoch = ap kind_index is in absurd (omega (arith, wrong))

-- With bytes added to an epoch they still may.
rests_with : (root : Root) (plans : List Plan) (e : ℕ) (piece : List ℕ) → e ≤ 63 → (plan_of plans kind.Epoch e ≡ None → (get_or root.epochs e no_place).length < 2 ^ 62) → MayCarryAll root plans → (i : ℕ) (p : Plan) → slice_get (plans_with plans e piece) i ≡ Some p → MayRest root p
rests_with root plans e piece low room may = each_with (MayRest root) plans e piece (λ j q there. rest_of root q (may.each j q there)) (rest_more root piece) (λ none. rest_new root piece e (omega (arith, low)) (room none))

pub carry_with : (root : Root) (plans : List Plan) (e : ℕ) (piece : List ℕ) → e ≤ 63 → (plan_of plans kind.Epoch e ≡ None → (get_or root.epochs e no_place).length < 2 ^ 62) → AreValid (plans_with plans e piece) → MayCarryAll root plans → MayCarryAll root (plans_with plans e piece)
carry_with root plans e piece low room valid may = record {
  each = λ i p here. carry_of root p (rests_with root plans e piece low room may i p here) (valid i p here);
  apart = apart_with plans e piece may.apart;
}

-- Plans that may be carried out still may with one more message.
pub ready_more : (root : Root) (plans : List Plan) (next e : ℕ) (piece line : List ℕ) → e ≤ 63 → (plan_of plans kind.Epoch e ≡ None → (get_or root.epochs e no_place).length < 2 ^ 62) → length line ≡ record_size root.config.form → AreValid (with_record (plans_with plans e piece) line) → IsReadyPlan root plans next
    → IsReadyPlan root (with_record (plans_with plans e piece) line) (next + 1)
ready_more root plans next e piece line low room size valid ready =
    let mid = plans_with plans e piece in
    let map_mid : plan_of mid kind.Map 0 ≡ Some ready.map_plan = other_with plans e piece kind.Map 0 (λ k_is n_is. epoch_isnt_map k_is) ∙ ready.map_is in
    let map_new = here_record mid line ready.map_plan map_mid in
    let count = count_with_bytes ready.map_plan line in
    let was : plan_count ready.map_plan + record_size root.config.form ≡ record_size root.config.form * next =
    ap (λ (n : ℕ). n + record_size root.config.form) (sym (ap (λ (o : Option Plan). (map_planned (root.sequence + 1) o root.map).length) ready.map_is ∙ ap (λ (t : Target). (map_by (root.sequence + 1) t root.map (plan_count ready.map_plan)).length) ready.map_anew)) ∙ ready.map in
    let is : (map_planned (root.sequence + 1) (plan_of (with_record mid line) kind.Map 0) root.map).length ≡ plan_count (with_bytes ready.map_plan line) =
    ap (λ (o : Option Plan). (map_planned (root.sequence + 1) o root.map).length) map_new ∙ ap (λ (t : Target). (map_by (root.sequence + 1) t root.map (plan_count (with_bytes ready.map_plan line))).length) ready.map_anew in
    record {
      plans_may = record {
        each = λ i p here. carry_of root p (each_record (MayRest root) mid line (rests_with root plans e piece low room ready.plans_may) (rest_more root line) i p here) (valid i p here);
        apart = apart_record mid line (apart_with plans e piece ready.plans_may.apart);
      };
      map = (let one = sizes_one root.config.form in let sum = sizes_sum root.config.form next 1 (next + 1) (omega arith) in omega (arith, is, count, was, size, one, sum));
      map_plan = with_bytes ready.map_plan line;
      map_is = map_new;
      map_anew = ready.map_anew;
    }
