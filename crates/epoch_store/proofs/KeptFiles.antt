-- Which files a purge and an edit keep.
use Rattle.std.specs.Prelude.{◌≡◌, ◌⊎◌, ◌+◌, ◌<◌, ◌==◌, nat_lt, ℕ, zero, suc, Bool, true, false, ◌&&◌, ◌||◌, if◌then◌else◌, List, [], ◌∷◌, length, get_or, Option, Some, None, is_some, unwrap_or, refl}
use Rattle.std.proofs.Common.{◌∙◌, sym, ap, subst, inl, inr, arith}
use Rattle.std.proofs.lemmas.Bool.Decides.{nat_tests}
use Rattle.arch_base.specs.declared.ids.ObjectId.{ObjectId}
use Rattle.arch_base.specs.Ids.{id_eq}
use Rattle.arch_base.proofs.IdOrder.{id_eq-Decides}
use Rattle.disk_model.specs.declared.name.FileKind.TheVariants as kind
use Rattle.root_slots.specs.declared.root.Place.{Place}
use Rattle.root_slots.specs.declared.root.Root.{Root}
use Rattle.root_slots.specs.Valid.{no_place}
use Rattle.root_change.specs.declared.plan.Target.{Target}
use Rattle.root_change.specs.declared.plan.Target.TheVariants.{Anew, Behind}
use Rattle.root_change.specs.Rewriting.{IsRootAfter, Plan, no_plan, place_anew, place_behind, place_by, place_planned, plan_count, plan_of, with_bytes}
use Rattle.root_change.proofs.Drops.{both, is_same, true_or_false}
use Rattle.root_change.proofs.PlanParts.{found}
use Rattle.root_change.proofs.Pushes.{count_with_bytes}
use Rattle.root_change.proofs.Roots.{equal_or_not, same_test}
use Rattle.store_finding.specs.declared.entries.StoredEntry.{StoredEntry}
use Rattle.store_planning.specs.Planning.{KeepsPlanned, Planning, PlansEdit, PlansPurge, loses}
use Rattle.epoch_store.specs.Commands.{EditsFiles, EpochFileGrows, HasBlob, IsMadeAnew, KeepsFiles}
use Rattle.store_finding.specs.Kept.{StoreState}
use Rattle.epoch_store.proofs.Carrying.{anew_goes}

-- An epoch loses an entry exactly if one of its entries has the blob id.
abbrev hits : StoredEntry → ObjectId → ℕ → Bool
hits s blob e = id_eq blob s.seen.blob && (s.epoch == e)

has_first : (s : StoredEntry) (es : List StoredEntry) (blob : ObjectId) (e : ℕ) → hits s blob e ≡ true → HasBlob (s ∷ es) blob e
has_first s es blob e is =
    let tests = both (id_eq blob s.seen.blob) (s.epoch == e) is in
    (s, (0, omega arith, refl), is_same s.epoch e tests.1, sym ((id_eq-Decides blob s.seen.blob).0 tests.0))

has_later : (s : StoredEntry) (es : List StoredEntry) (blob : ObjectId) (e : ℕ) → HasBlob es blob e → HasBlob (s ∷ es) blob e
has_later s es blob e has =
    let at = has.1 in
    let low = at.1 in
    (has.0, (suc at.0, omega (arith, low), at.2), has.2, has.3)

or_true : (t u : Bool) → (t || u) ≡ true → (t ≡ true) ⊎ (u ≡ true)
or_true true u is = inl refl
or_true false u is = inr is

or_either : (t u : Bool) → (t ≡ true) ⊎ (u ≡ true) → (t || u) ≡ true
or_either true u is = refl
or_either false u (inl is) = absurd (let wrong : false ≡ true = is in cc)
or_either false u (inr is) = is

lost_has : (es : List StoredEntry) (blob : ObjectId) (e : ℕ) → loses es blob e ≡ true → HasBlob es blob e
lost_has [] blob e is = absurd (let wrong : false ≡ true = is in cc)
lost_has (s ∷ es) blob e is = elim (or_true (hits s blob e) (loses es blob e) is) [
  | inl this ↦ has_first s es blob e this
  | inr later ↦ has_later s es blob e (lost_has es blob e later)
]

hit_is : (s t : StoredEntry) (blob : ObjectId) (e : ℕ) → s ≡ t → t.epoch ≡ e → t.seen.blob ≡ blob → hits s blob e ≡ true
hit_is s t blob e same epoch_is blob_is =
    ap (λ (r : StoredEntry). hits r blob e) same
    ∙ (ap (λ (b : Bool). b && (t.epoch == e)) ((id_eq-Decides blob t.seen.blob).1 (sym blob_is)) ∙ same_test t.epoch e epoch_is)

has_lost : (es : List StoredEntry) (blob : ObjectId) (e : ℕ) (t : StoredEntry) (k : ℕ) → k < length es → get_or es k t ≡ t → t.epoch ≡ e → t.seen.blob ≡ blob → loses es blob e ≡ true
has_lost [] blob e t k less is epoch_is blob_is = absurd (omega (arith, less))
has_lost (s ∷ es) blob e t zero less is epoch_is blob_is = or_either (hits s blob e) (loses es blob e) (inl (hit_is s t blob e is epoch_is blob_is))
has_lost (s ∷ es) blob e t (suc k) less is epoch_is blob_is = or_either (hits s blob e) (loses es blob e) (inr (has_lost es blob e t k (omega (arith, less)) is epoch_is blob_is))

-- The plan of an epoch by whether it loses an entry.
is_none : (o : Option Plan) → is_some o ≡ false → o ≡ None
is_none None is = refl
is_none (Some p) is = absurd (let wrong : true ≡ false = is in cc)

the_some : (o : Option Plan) → is_some o ≡ true → (p : Plan) × (o ≡ Some p)
the_some None is = absurd (let wrong : false ≡ true = is in cc)
the_some (Some p) is = (p, refl)

module _ (v : StoreState) (blob : ObjectId) (p : Planning) (purge : PlansPurge v blob p.entries p.plans) where
  none_planned : (e : ℕ) → (HasBlob v.entries blob e → ⊥) → plan_of p.plans kind.Epoch e ≡ None
  none_planned e none = elim (true_or_false (loses v.entries blob e)) [
    | inl is ↦ absurd (none (lost_has v.entries blob e is))
    | inr isnt ↦ is_none (plan_of p.plans kind.Epoch e) (purge.lost e ∙ isnt)
  ]

  -- The plan of an epoch that loses an entry writes it anew.
  anew_planned : (e : ℕ) → HasBlob v.entries blob e → (q : Plan) × (plan_of p.plans kind.Epoch e ≡ Some q) × (q.target ≡ Anew)
  anew_planned e has =
      let at = has.1 in
      let some = the_some (plan_of p.plans kind.Epoch e) (purge.lost e ∙ has_lost v.entries blob e has.0 at.0 at.1 at.2 has.2 has.3) in
      let there = found p.plans kind.Epoch e some.0 some.1 in
      (some.0, some.1, purge.anew there.index some.0 there.here)

  -- An epoch whose plan writes it anew.
  made_anew : (new : Root) (plans : List Plan) (next : ℕ) (after : IsRootAfter v.root plans next v.root.config.form new) (e : ℕ) → e < 64 → (q : Plan) → plan_of plans kind.Epoch e ≡ Some q → q.target ≡ Anew → IsMadeAnew new e
  made_anew new plans next after e below q is anew =
      let old = get_or v.root.epochs e no_place in
      let n = v.root.sequence + 1 in
      let place_is : get_or new.epochs e no_place ≡ place_anew n (plan_count q) =
      after.epochs e below ∙ (ap (λ (o : Option Plan). place_planned n o old) is ∙ ap (λ (t : Target). place_by n t old (plan_count q)) anew) in
      subst (λ (x : Place). (x.generation ≡ new.sequence) ⊎ (x ≡ no_place)) (sym place_is)
      (subst (λ (m : ℕ). ((place_anew n (plan_count q)).generation ≡ m) ⊎ (place_anew n (plan_count q) ≡ no_place)) (sym after.sequence) (anew_goes n (plan_count q)))

  stays : (new : Root) (plans : List Plan) (next : ℕ) (after : IsRootAfter v.root plans next v.root.config.form new) (e : ℕ) → e < 64 → plan_of plans kind.Epoch e ≡ None → get_or new.epochs e no_place ≡ get_or v.root.epochs e no_place
  stays new plans next after e below is = after.epochs e below ∙ ap (λ (o : Option Plan). place_planned (v.root.sequence + 1) o (get_or v.root.epochs e no_place)) is

  -- Epochs that lose no entry keep their files, and the others don't.
  pub purge_keeps : (new : StoreState) → KeepsPlanned v p v.root.next new → KeepsFiles v new blob
  purge_keeps new kept = record {
    kept = λ e below none. stays new.root p.plans v.root.next kept.root e below (none_planned e none);
    anew = λ e below has. (let is = anew_planned e has in made_anew new.root p.plans v.root.next kept.root e below is.0 is.1 is.2);
  }

  -- The file of the epoch of a new entry grows.
  module _ (text : List ℕ) (moment : ℕ) (q : Planning) (edit : PlansEdit v p text moment q) (new : StoreState) (kept : KeepsPlanned v q (v.root.next + 1) new) where
    abbrev own : ℕ
    own = edit.entry.epoch

    grows : (n generation len count : ℕ) → 0 < count
        → ((0 < len) × ((place_behind n (record { generation = generation; length = len }) count).generation ≡ generation) × (len < (place_behind n (record { generation = generation; length = len }) count).length))
        ⊎ ((len ≡ 0) × ((place_behind n (record { generation = generation; length = len }) count).generation ≡ n))
    grows n generation len count some = by (nat_lt 0 len) refl (nat_lt 0 count) refl where
      by : (t : Bool) → nat_lt 0 len ≡ t → (u : Bool) → nat_lt 0 count ≡ u
          → ((0 < len) × ((if t then record { generation = generation; length = len + count } else (if u then record { generation = n; length = count } else no_place)).generation ≡ generation)
          × (len < (if t then record { generation = generation; length = len + count } else (if u then record { generation = n; length = count } else no_place)).length))
          ⊎ ((len ≡ 0) × ((if t then record { generation = generation; length = len + count } else (if u then record { generation = n; length = count } else no_place)).generation ≡ n))
      by true is u test = inl (grind (arith, nat_tests, is), refl, omega (arith, some))
      by false is true test = inr (grind (arith, nat_tests, is), refl)
      by false is false test = absurd (let none : count ≡ 0 = grind (arith, nat_tests, test) in omega (arith, none, some))

    grown : (HasBlob v.entries blob own → ⊥) → EpochFileGrows v.root new.root own
    grown none =
        let old = get_or v.root.epochs own no_place in
        let n = v.root.sequence + 1 in
        let plan = with_bytes (no_plan kind.Epoch own Behind) edit.piece in
        let low = edit.small in
        let size = count_with_bytes (no_plan kind.Epoch own Behind) edit.piece in
        let some = edit.some in
        let plan_is : plan_of q.plans kind.Epoch own ≡ Some plan = edit.own ∙ ap (λ (o : Option Plan). Some (with_bytes (unwrap_or o (no_plan kind.Epoch own Behind)) edit.piece)) (none_planned own none) in
        let place_is : get_or new.root.epochs own no_place ≡ place_behind n old (plan_count plan) = kept.root.epochs own (omega (arith, low)) ∙ ap (λ (o : Option Plan). place_planned n o old) plan_is in
        subst (λ (x : Place). ((0 < old.length) × (x.generation ≡ old.generation) × (old.length < x.length)) ⊎ ((old.length ≡ 0) × (x.generation ≡ new.root.sequence))) (sym place_is)
        (subst (λ (m : ℕ). ((0 < old.length) × ((place_behind n old (plan_count plan)).generation ≡ old.generation) × (old.length < (place_behind n old (plan_count plan)).length)) ⊎ ((old.length ≡ 0) × ((place_behind n old (plan_count plan)).generation ≡ m))) (sym kept.root.sequence)
        (grows n old.generation old.length (plan_count plan) (omega (arith, size, some))))

    anew : (e : ℕ) → e < 64 → HasBlob v.entries blob e → IsMadeAnew new.root e
    anew e below has =
        let is = anew_planned e has in
        elim (equal_or_not e own) [
          | inl here ↦
              let here_is : plan_of p.plans kind.Epoch own ≡ Some is.0 = ap (λ (m : ℕ). plan_of p.plans kind.Epoch m) (sym here) ∙ is.1 in
              made_anew new.root q.plans (v.root.next + 1) kept.root e below (with_bytes is.0 edit.piece)
              (ap (λ (m : ℕ). plan_of q.plans kind.Epoch m) here ∙ (edit.own ∙ ap (λ (o : Option Plan). Some (with_bytes (unwrap_or o (no_plan kind.Epoch own Behind)) edit.piece)) here_is)) is.2
          | inr other ↦ made_anew new.root q.plans (v.root.next + 1) kept.root e below is.0 (edit.others e other ∙ is.1) is.2
        ]

    pub edit_files : EditsFiles v new blob
    edit_files = record {
      front = p.entries;
      entry = edit.entry;
      entries = kept.entries ∙ edit.entries;
      kept = λ e below other none. stays new.root q.plans (v.root.next + 1) kept.root e below (edit.others e other ∙ none_planned e none);
      grown = grown;
      anew = anew;
    }
