-- Plans that were carried out: what is written becomes the texts of the next root.
use Rattle.std.specs.Prelude.{◌≡◌, ◌≢◌, ◌⊎◌, ℕ, ◌+◌, ◌<◌, ◌≤◌, ◌==◌, ◌&&◌, nat_lt, Bool, true, false, if◌then◌else◌, List, [], ◌++◌, length, slice_get, Option, Some, None, refl}
use Rattle.std.proofs.Common.{◌∙◌, sym, ap, subst, inl, inr, arith, length-append}
use Rattle.std.proofs.lemmas.Bool.{cases_lt}
use Rattle.std.proofs.lemmas.List.{get_or_past, nil_from_length}
use Rattle.std.proofs.lemmas.Option.{same_Some}
use Rattle.arch_base.specs.declared.ids.Form.{Form}
use Rattle.disk_model.specs.declared.name.FileKind.{FileKind}
use Rattle.disk_model.specs.declared.name.FileKind.TheVariants as kind
use Rattle.disk_model.specs.declared.name.FileName.{FileName}
use Rattle.disk_model.specs.Disk.{File, Content, BothTold, WhereTold, bytes_of}
use Rattle.disk_model.specs.Images.{same_or_other}
use Rattle.root_slots.specs.declared.root.Place.{Place}
use Rattle.root_slots.specs.declared.root.Root.{Root}
use Rattle.root_slots.specs.RootName.{root_name}
use Rattle.root_slots.specs.Sizes.{sequence-spelling}
use Rattle.root_slots.specs.Valid.{IsRoot, RootFits, no_place}
use Rattle.root_change.specs.declared.plan.Target.{Target}
use Rattle.root_change.specs.declared.plan.Target.TheVariants.{Anew, Behind}
use Rattle.root_change.specs.Changing.{ReadsAsTexts, BecomesRoot}
use Rattle.root_change.specs.Gathering.{gathered, AreSources, IsSourceFor}
use Rattle.root_change.specs.Names.{place_of, has_place, named_by, names_file, named_end, named_none, named_some}
use Rattle.root_change.specs.Parts.{Parts, texts_of, PartsFit}
use Rattle.root_change.specs.Rewriting.{Plan, IsPartToPlan, IsRootAfter, MayCarryAll, bytes_by, file_by, map_by, map_planned, place_anew, place_by, place_planned, plan_count, plan_of, planned, rewritten, written_by}
use Rattle.root_change.specs.Texts.{Texts, IsOn, OnDisk, HasLengths, HasPartSizes}
use Rattle.root_change.specs.Writing.{MayWrite, MayWriteAll, WritesPlans}
use Rattle.root_change.proofs.Changes.{text_named, text_unnamed, part_full, part_measure, parts_measure}
use Rattle.root_change.proofs.Drops.{both, is_same, not_both, true_or_false, named, named_root, named_map, named_number, named_epoch, named_bytes}
use Rattle.root_change.proofs.Grown.{epoch_is_named, map_is_named}
use Rattle.root_change.proofs.PlanParts.{IsFound, found, is_of, is_of_own, none_found, plan_of_each}
use Rattle.root_change.proofs.Plans.{gathered_own}
use Rattle.root_change.proofs.Pushes.{sources_to}
use Rattle.root_change.proofs.Roots.{equal_or_not, less_test, least_test, other_test, none_at_most}
use Rattle.root_change.proofs.Sizes.{end_at_most}
use Rattle.root_change.proofs.Written.{part_isnt_root, part_no_cache}

-- A plan is there, or none.
there_or_none : (plan : Option Plan) → ((p : Plan) × (plan ≡ Some p)) ⊎ (plan ≡ None)
there_or_none None = inr refl
there_or_none (Some p) = inl (p, refl)

-- The `Place` of an epoch written anew.
anew_some : (next count : ℕ) → 0 < count → place_anew next count ≡ record { generation = next; length = count }
anew_some next count some = ap (λ (b : Bool). made b) (less_test 0 count some) where
  made : Bool → Place
  made b = if b then record { generation = next; length = count } else no_place

anew_none : (next count : ℕ) → count ≡ 0 → place_anew next count ≡ no_place
anew_none next count none = ap (λ (b : Bool). made b) (least_test 0 count (none_at_most count 0 none)) where
  made : Bool → Place
  made b = if b then record { generation = next; length = count } else no_place

-- What is written in place of no bytes, or after none.
first_bytes : (target : Target) (before written : List ℕ) → (target ≡ Behind → length before ≡ 0) → bytes_by target before written ≡ written
first_bytes Anew before written none = refl
first_bytes Behind before written none = ap (λ (l : List ℕ). l ++ written) (nil_from_length before (none refl))

more_bytes : (target : Target) (before written : List ℕ) → target ≡ Behind → bytes_by target before written ≡ before ++ written
more_bytes target before written is = ap (λ (t : Target). bytes_by t before written) is

module _ (old new : Root) (plans : List Plan) (number : ℕ) (form : Form) (valid : IsRoot old) (fits : RootFits old) (may : MayCarryAll old plans) (after : IsRootAfter old plans number form new) where
  abbrev next_ : ℕ
  next_ = old.sequence + 1

  -- The generations of the old root.
  old_gen : (k : FileKind) (n : ℕ) → IsPartToPlan k n → (place_of old k n).generation ≤ old.sequence
  old_gen kind.Root n part = absurd part
  old_gen kind.Map n part = subst (λ (m : ℕ). (place_of old kind.Map m).generation ≤ old.sequence) (sym part) valid.map_gen
  old_gen kind.Epoch n part = (valid.epochs n no_place (let size = fits.count in omega (arith, size, part))).generation
  old_gen kind.Cache n part = absurd part

  -- A root that names a file of a part has its generation.
  named_gen : (root : Root) (k : FileKind) (n g : ℕ) → IsPartToPlan k n → named_by root k n g ≡ true → g ≡ (place_of root k n).generation
  named_gen root kind.Root n g part is = absurd part
  named_gen root kind.Map n g part is = ap (λ (f : FileName). f.generation) (named_map root n g is) ∙ subst (λ (m : ℕ). root.map.generation ≡ (place_of root kind.Map m).generation) (sym part) refl
  named_gen root kind.Epoch n g part is = named_epoch root n g is
  named_gen root kind.Cache n g part is = absurd part

  -- A file of the next generation isn't named by the old root.
  fresh_unnamed : (k : FileKind) (n g : ℕ) → IsPartToPlan k n → g ≡ old.sequence + 1 → names_file old (named k n g) ≡ false
  fresh_unnamed k n g part is = elim (true_or_false (names_file old (named k n g))) [
    | inl was ↦ absurd (let gen_is = named_gen old k n g part was in let low = old_gen k n part in omega (arith, is, gen_is, low))
    | inr wasnt ↦ wasnt
  ]

  -- The `Place` of a part after plans.
  abbrev part_planned : FileKind → Option Plan → Place → Place
  part_planned kind.Root plan place = place
  part_planned kind.Map plan place = map_planned next_ plan place
  part_planned kind.Epoch plan place = place_planned next_ plan place
  part_planned kind.Cache plan place = place

  place_is : (k : FileKind) (n : ℕ) → IsPartToPlan k n → place_of new k n ≡ part_planned k (plan_of plans k n) (place_of old k n)
  place_is kind.Root n part = absurd part
  place_is kind.Map n part = subst (λ (m : ℕ). place_of new kind.Map m ≡ map_planned next_ (plan_of plans kind.Map m) (place_of old kind.Map m)) (sym part) after.map
  place_is kind.Epoch n part = after.epochs n part
  place_is kind.Cache n part = absurd part

  none_same : (k : FileKind) (place : Place) → part_planned k None place ≡ place
  none_same kind.Root place = refl
  none_same kind.Map place = refl
  none_same kind.Epoch place = refl
  none_same kind.Cache place = refl

  place_kept : (k : FileKind) (n : ℕ) → IsPartToPlan k n → plan_of plans k n ≡ None → place_of new k n ≡ place_of old k n
  place_kept k n part none = place_is k n part ∙ (ap (λ (o : Option Plan). part_planned k o (place_of old k n)) none ∙ none_same k (place_of old k n))

  -- Its file is one of the next generation, or goes on, or there is nothing to write.
  record IsFresh (k : FileKind) (n : ℕ) (target : Target) (count : ℕ) : Type 0 where
    gen_is : (place_of new k n).generation ≡ old.sequence + 1
    length_is : (place_of new k n).length ≡ count
    before : target ≡ Behind → (place_of old k n).length ≡ 0

  record IsBehind (k : FileKind) (n : ℕ) (target : Target) (count : ℕ) : Type 0 where
    target_is : target ≡ Behind
    length_is : (place_of new k n).length ≡ (place_of old k n).length + count
    was_named : names_file old (file_by new k n) ≡ true

  record IsNothing (k : FileKind) (n : ℕ) (target : Target) (count : ℕ) : Type 0 where
    kind_is : k ≡ kind.Epoch
    length_is : (place_of new k n).length ≡ 0
    count_is : count ≡ 0
    before : target ≡ Behind → (place_of old k n).length ≡ 0

  abbrev Goes : FileKind → ℕ → Target → ℕ → Type 0
  Goes k n target count = IsFresh k n target count ⊎ (IsBehind k n target count ⊎ IsNothing k n target count)

  anew_goes : (n : ℕ) (target : Target) (count : ℕ) → place_of new kind.Epoch n ≡ place_anew next_ count → (target ≡ Behind → (place_of old kind.Epoch n).length ≡ 0) → Goes kind.Epoch n target count
  anew_goes n target count is before = elim (cases_lt 0 count) [
    | inl some ↦
        let there = is ∙ anew_some next_ count some in
        inl (record { gen_is = ap (λ (p : Place). p.generation) there; length_is = ap (λ (p : Place). p.length) there; before = before })
    | inr least ↦
        let none : count ≡ 0 = omega (arith, least) in
        inr (inr (record { kind_is = refl; length_is = ap (λ (p : Place). p.length) (is ∙ anew_none next_ count none); count_is = none; before = before }))
  ]

  epoch_goes : (n : ℕ) (target : Target) (count : ℕ) → n < 64 → place_of new kind.Epoch n ≡ place_by next_ target (place_of old kind.Epoch n) count → Goes kind.Epoch n target count
  epoch_goes n Anew count below is = anew_goes n Anew count is (λ wrong. absurd cc)
  epoch_goes n Behind count below is = elim (cases_lt 0 (place_of old kind.Epoch n).length) [
    | inl some ↦
        let there : place_of new kind.Epoch n ≡ record { generation = (place_of old kind.Epoch n).generation; length = (place_of old kind.Epoch n).length + count } = is ∙ ap (λ (b : Bool). made b) (less_test 0 (place_of old kind.Epoch n).length some) in
        inr (inl (record { target_is = refl; length_is = ap (λ (p : Place). p.length) there; was_named = epoch_is_named old n (place_of new kind.Epoch n).generation below some (sym (ap (λ (p : Place). p.generation) there)) }))
    | inr least ↦ anew_goes n Behind count (is ∙ ap (λ (b : Bool). made b) (least_test 0 (place_of old kind.Epoch n).length least)) (λ behind. omega (arith, least))
  ] where
    made : Bool → Place
    made b = if b then record { generation = (place_of old kind.Epoch n).generation; length = (place_of old kind.Epoch n).length + count } else place_anew next_ count

  map_goes : (n : ℕ) (target : Target) (count : ℕ) → n ≡ 0 → place_of new kind.Map n ≡ map_by next_ target (place_of old kind.Map n) count → Goes kind.Map n target count
  map_goes n Anew count part is = inl (record { gen_is = ap (λ (p : Place). p.generation) is; length_is = ap (λ (p : Place). p.length) is; before = λ wrong. absurd cc })
  map_goes n Behind count part is =
      let same : new.map.generation ≡ old.map.generation = subst (λ (m : ℕ). (place_of new kind.Map m).generation ≡ (place_of old kind.Map m).generation) part (ap (λ (p : Place). p.generation) is) in
      inr (inl (record {
        target_is = refl;
        length_is = ap (λ (p : Place). p.length) is;
        was_named = subst (λ (m : ℕ). names_file old (file_by new kind.Map m) ≡ true) (sym part) (map_is_named old new.map.generation same);
      }))

  part_goes : (k : FileKind) (n : ℕ) (plan : Plan) → IsPartToPlan k n → plan_of plans k n ≡ Some plan → Goes k n plan.target (plan_count plan)
  part_goes kind.Root n plan part is = absurd part
  part_goes kind.Map n plan part is = map_goes n plan.target (plan_count plan) part (place_is kind.Map n part ∙ ap (λ (o : Option Plan). map_planned next_ o (place_of old kind.Map n)) is)
  part_goes kind.Epoch n plan part is = epoch_goes n plan.target (plan_count plan) part (place_is kind.Epoch n part ∙ ap (λ (o : Option Plan). place_planned next_ o (place_of old kind.Epoch n)) is)
  part_goes kind.Cache n plan part is = absurd part

  -- Each file that the new root names is that of a part.
  named_part : (k : FileKind) (n g : ℕ) → named k n g ≢ root_name → named_by new k n g ≡ true → IsPartToPlan k n
  named_part kind.Root n g apart is = absurd (apart (named_root new n g is))
  named_part kind.Map n g apart is = is_same n 0 (both (n == 0) (g == new.map.generation) is).0
  named_part kind.Epoch n g apart is = named_number new n g is
  named_part kind.Cache n g apart is = absurd (not_both (has_place new.cache g) (both (n == 0) (has_place new.cache g) is).1 (ap (λ (p : Place). has_place p g) after.cache))

  named_file : (name : FileName) → IsPartToPlan name.kind name.number → names_file new name ≡ true → name ≡ file_by new name.kind name.number
  named_file name part is = ap (named name.kind name.number) (named_gen new name.kind name.number name.generation part is)

  -- Both roots name a part's file if its `Place` stays.
  named_same : (k : FileKind) (n g : ℕ) → IsPartToPlan k n → place_of new k n ≡ place_of old k n → named_by new k n g ≡ named_by old k n g
  named_same kind.Root n g part same = absurd part
  named_same kind.Map n g part same =
      let at_0 : new.map ≡ old.map = subst (λ (m : ℕ). place_of new kind.Map m ≡ place_of old kind.Map m) part same in
      ap (λ (p : Place). n == 0 && g == p.generation) at_0
  named_same kind.Epoch n g part same = ap (λ (p : Place). nat_lt n 64 && has_place p g) same
  named_same kind.Cache n g part same = absurd part

  -- The new root names the file of the map, and that of an epoch with bytes.
  file_named : (k : FileKind) (n : ℕ) → IsPartToPlan k n → names_file new (file_by new k n) ≡ false → (k ≡ kind.Epoch) × ((place_of new k n).length ≡ 0)
  file_named kind.Root n part isnt = absurd part
  file_named kind.Map n part isnt = absurd (not_both (names_file new (file_by new kind.Map n)) (subst (λ (m : ℕ). names_file new (file_by new kind.Map m) ≡ true) (sym part) (map_is_named new new.map.generation refl)) isnt)
  file_named kind.Epoch n part isnt = elim (cases_lt 0 (place_of new kind.Epoch n).length) [
    | inl some ↦ absurd (not_both (names_file new (file_by new kind.Epoch n)) (epoch_is_named new n (place_of new kind.Epoch n).generation part some refl) isnt)
    | inr least ↦ (refl, omega (arith, least))
  ]
  file_named kind.Cache n part isnt = absurd part

  -- No plan of a part, no file of one.
  no_file : (name : FileName) → plan_of plans name.kind name.number ≡ None → (i : ℕ) (plan : Plan) → slice_get plans i ≡ Some plan → name ≢ file_by new plan.kind plan.number
  no_file name none i plan here same =
      not_both (is_of plan name.kind name.number) (is_of_own plan name.kind name.number (sym (ap (λ (f : FileName). f.kind) same)) (sym (ap (λ (f : FileName). f.number) same)))
      (none_found plans name.kind name.number i plan none here)

  module _ (i : ℕ) (plan : Plan) (here : slice_get plans i ≡ Some plan) where
    abbrev to : FileName
    to = file_by new plan.kind plan.number

    plan_part : IsPartToPlan plan.kind plan.number
    plan_part = (may.each i plan here).part

    goes : Goes plan.kind plan.number plan.target (plan_count plan)
    goes = part_goes plan.kind plan.number plan plan_part (plan_of_each plans i plan may.apart here)

    -- The plan may be written there.
    fresh_sources : (place_of new plan.kind plan.number).generation ≡ old.sequence + 1 → AreSources to plan.sources
    fresh_sources gen_is =
        sources_to (file_by old plan.kind plan.number) to plan
        (λ same. absurd (let gens = ap (λ (f : FileName). f.generation) same in let low = old_gen plan.kind plan.number plan_part in omega (arith, gen_is, gens, low)))
        (may.each i plan here).comes (may.each i plan here).valid

    byte_sources : plan.target ≡ Behind → AreSources to plan.sources
    byte_sources behind = λ j source is. let bytes = (may.each i plan here).bytes_only behind j source is in subst (IsSourceFor to) (sym bytes.2) tt

    may_write : MayWrite old plan to
    may_write = record {
      other = part_isnt_root new plan.kind plan.number plan_part;
      no_cache = part_no_cache plan.kind plan.number plan_part;
      sources = λ some. elim goes [
        | inl fresh ↦ fresh_sources fresh.gen_is
        | inr rest ↦ elim rest [
          | inl on ↦ byte_sources on.target_is
          | inr none ↦ absurd (let count_is = none.count_is in omega (arith, some, count_is))
        ]
      ];
      short = λ some.
          let few = (may.each i plan here).valid.short in
          elim goes [
            | inl fresh ↦ (let end_ = named_none old to (fresh_unnamed plan.kind plan.number to.generation plan_part fresh.gen_is) in omega (arith, end_, few))
            | inr rest ↦ elim rest [
              | inl on ↦ (let most = end_at_most old to in let room = (may.each i plan here).room on.target_is in omega (arith, most, room, few))
              | inr none ↦ absurd (let count_is = none.count_is in omega (arith, some, count_is))
            ]
          ];
    }

    -- Its bytes end where the new root says.
    ends : names_file new to ≡ true → named_end new to ≤ named_end old to + plan_count plan
    ends is =
        let most = end_at_most new to in
        elim goes [
          | inl fresh ↦ (let size = fresh.length_is in omega (arith, most, size))
          | inr rest ↦ elim rest [
            | inl on ↦ (let size = on.length_is in let was = named_some old to on.was_named in omega (arith, most, size, was))
            | inr none ↦ (let size = none.length_is in omega (arith, most, size))
          ]
        ]

  -- Each plan may be written to the file of its part.
  pub may_write_all : MayWriteAll old new plans
  may_write_all i plan here = may_write i plan here

  -- A name is that of the file of a plan, or of none.
  abbrev IsFile : FileName → Type 0
  IsFile name = (i : ℕ) × ((plan : Plan) × ((slice_get plans i ≡ Some plan) × (name ≡ file_by new plan.kind plan.number)))

  abbrev IsNoFile : FileName → Type 0
  IsNoFile name = (i : ℕ) (plan : Plan) → slice_get plans i ≡ Some plan → name ≢ file_by new plan.kind plan.number

  which_file : (name : FileName) → IsFile name ⊎ IsNoFile name
  which_file name = elim (there_or_none (plan_of plans name.kind name.number)) [
    | inl some ↦
        let plan = some.0 in
        let one = found plans name.kind name.number plan some.1 in
        elim (same_or_other (file_by new plan.kind plan.number) name) [
          | inl same ↦ inl (one.index, (plan, (one.here, same)))
          | inr other ↦ inr (λ j q there same. other (same ∙ ap (λ (p : Plan). file_by new p.kind p.number) (only name plan some.1 j q there same)))
        ]
    | inr none ↦ inr (no_file name none)
  ] where
    only : (name : FileName) (plan : Plan) → plan_of plans name.kind name.number ≡ Some plan → (j : ℕ) (q : Plan) → slice_get plans j ≡ Some q → name ≡ file_by new q.kind q.number → q ≡ plan
    only name plan is j q there same =
        same_Some q plan
        (sym (plan_of_each plans j q may.apart there)
        ∙ (ap (λ (k : FileKind). plan_of plans k q.number) (sym (ap (λ (f : FileName). f.kind) same))
        ∙ (ap (λ (n : ℕ). plan_of plans name.kind n) (sym (ap (λ (f : FileName). f.number) same)) ∙ is)))

  -- The file of a part with a plan.
  planned_file : (name : FileName) (plan : Plan) (one : IsFound plans name.kind name.number plan) → IsPartToPlan name.kind name.number → names_file new name ≡ true → name ≡ file_by new plan.kind plan.number
  planned_file name plan one part is =
      named_file name part is
      ∙ (ap (λ (k : FileKind). file_by new k name.number) (sym one.kind_is) ∙ ap (λ (n : ℕ). file_by new plan.kind n) (sym one.number_is))

  -- The files are as long as the new root says.
  long_now : (k m : Content) → HasPartSizes old k → WritesPlans old new plans k m → HasLengths new m
  long_now k m sizes wrote name apart = elim (true_or_false (names_file new name)) [
    | inl is ↦
        let part = named_part name.kind name.number name.generation apart is in
        elim (there_or_none (plan_of plans name.kind name.number)) [
          | inl some ↦
              let one = found plans name.kind name.number some.0 some.1 in
              let same = planned_file name some.0 one part is in
              subst (λ (f : FileName). named_end new f ≤ length (bytes_of (m f).seen)) (sym same) (at_plan one.index some.0 one.here (subst (λ (f : FileName). names_file new f ≡ true) same is))
          | inr none ↦
              let same = place_kept name.kind name.number part none in
              let was : names_file old name ≡ true = sym (named_same name.kind name.number name.generation part same) ∙ is in
              let now_end = named_some new name is in
              let was_end = named_some old name was in
              let size = ap (λ (p : Place). p.length) same in
              let inside = sizes.lengths name apart (part_no_cache name.kind name.number part) in
              subst (λ (f : File). named_end new name ≤ length (bytes_of f)) (sym (wrote.others name (no_file name none))) (omega (arith, now_end, was_end, size, inside))
        ]
    | inr isnt ↦ (let none = named_none new name isnt in omega (arith, none))
  ] where
    at_plan : (i : ℕ) (plan : Plan) (here : slice_get plans i ≡ Some plan) → names_file new (file_by new plan.kind plan.number) ≡ true → named_end new (file_by new plan.kind plan.number) ≤ length (bytes_of (m (file_by new plan.kind plan.number)).seen)
    at_plan i plan here is = (let most = ends i plan here is in let reached = (wrote.each i plan here).reaches in omega (arith, most, reached))

  pub long_told : (k m : Option Content) → WhereTold (HasPartSizes old) k → BothTold (WritesPlans old new plans) k m → WhereTold (HasLengths new) m
  long_told None None sizes wrote = tt
  long_told None (Some m) sizes wrote = absurd wrote
  long_told (Some k) None sizes wrote = absurd wrote
  long_told (Some k) (Some m) sizes wrote = long_now k m sizes wrote

  module _ (parts : Parts) (long : PartsFit old parts) where
    abbrev texts : Texts
    texts = texts_of old parts

    abbrev next : Parts
    next = rewritten old plans parts

    -- A part that may be planned is as long as the old root says.
    full_part : (k : FileKind) (n : ℕ) → IsPartToPlan k n → length (parts k n) ≡ (place_of old k n).length
    full_part k n part = part_full k (place_of old k n).length (length (parts k n)) (part_no_cache k n part) (long k n)

    next_is : (k : FileKind) (n : ℕ) → IsPartToPlan k n → next k n ≡ planned texts (plan_of plans k n) (parts k n)
    next_is kind.Root n part = absurd part
    next_is kind.Map n part = refl
    next_is kind.Epoch n part = refl
    next_is kind.Cache n part = absurd part

    next_kept : (k : FileKind) (n : ℕ) → IsPartToPlan k n → plan_of plans k n ≡ None → next k n ≡ parts k n
    next_kept k n part none = next_is k n part ∙ ap (λ (o : Option Plan). planned texts o (parts k n)) none

    next_planned : (k : FileKind) (n : ℕ) (plan : Plan) → IsPartToPlan k n → plan_of plans k n ≡ Some plan → next k n ≡ bytes_by plan.target (parts k n) (written_by texts plan)
    next_planned k n plan part is = next_is k n part ∙ ap (λ (o : Option Plan). planned texts o (parts k n)) is

    module _ (free : ℕ) (k m : Content) (on : IsOn old free texts k) (wrote : WritesPlans old new plans k m) where
      -- What each plan wrote.
      written_is : (i : ℕ) (plan : Plan) → slice_get plans i ≡ Some plan → gathered plan.bytes k plan.sources ≡ written_by texts plan
      written_is i plan here =
          let one = may.each i plan here in
          let source = file_by old plan.kind plan.number in
          gathered_own source plan.bytes k texts plan.sources (on.exact.ends source (part_isnt_root old plan.kind plan.number one.part)) one.comes

      written_full : (i : ℕ) (plan : Plan) → slice_get plans i ≡ Some plan → length (written_by texts plan) ≡ plan_count plan
      written_full i plan here = ap length (sym (written_is i plan here)) ∙ (wrote.each i plan here).full

      -- How its file reads then.
      file_reads : (i : ℕ) (plan : Plan) → slice_get plans i ≡ Some plan → bytes_of (m (file_by new plan.kind plan.number)).seen ≡ texts (file_by new plan.kind plan.number) ++ written_by texts plan
      file_reads i plan here =
          let file = file_by new plan.kind plan.number in
          let other = part_isnt_root new plan.kind plan.number (may.each i plan here).part in
          let reads = on.exact.ends file other in
          (wrote.each i plan here).there (ap length reads ∙ part_measure old parts long file (part_no_cache plan.kind plan.number (may.each i plan here).part))
          ∙ (ap (λ (l : List ℕ). l ++ gathered plan.bytes k plan.sources) reads ∙ ap (λ (l : List ℕ). texts file ++ l) (written_is i plan here))

      -- The length of a part after its plan.
      part_long : (i : ℕ) (plan : Plan) (here : slice_get plans i ≡ Some plan) → length (next plan.kind plan.number) ≡ (place_of new plan.kind plan.number).length
      part_long i plan here =
          let before = parts plan.kind plan.number in
          let part = (may.each i plan here).part in
          let was = full_part plan.kind plan.number part in
          let is = next_planned plan.kind plan.number plan part (plan_of_each plans i plan may.apart here) in
          let full = written_full i plan here in
          ap length is ∙ elim (goes i plan here) [
            | inl fresh ↦ ap length (first_bytes plan.target before (written_by texts plan) (λ behind. was ∙ fresh.before behind)) ∙ (full ∙ sym fresh.length_is)
            | inr rest ↦ elim rest [
              | inl on_ ↦
                  let size = on_.length_is in
                  ap length (more_bytes plan.target before (written_by texts plan) on_.target_is) ∙ omega (arith, was, full, size, length-append before (written_by texts plan))
              | inr none ↦ ap length (first_bytes plan.target before (written_by texts plan) (λ behind. was ∙ none.before behind)) ∙ (full ∙ (none.count_is ∙ sym none.length_is))
            ]
          ]

      long_part : (j : FileKind) (n : ℕ) → IsPartToPlan j n → length (next j n) ≡ (place_of new j n).length
      long_part j n part = elim (there_or_none (plan_of plans j n)) [
        | inl some ↦
            let one = found plans j n some.0 some.1 in
            subst (λ (l : FileKind). length (next l n) ≡ (place_of new l n).length) one.kind_is
            (subst (λ (l : ℕ). length (next some.0.kind l) ≡ (place_of new some.0.kind l).length) one.number_is (part_long one.index some.0 one.here))
        | inr none ↦ ap length (next_kept j n part none) ∙ (full_part j n part ∙ sym (ap (λ (p : Place). p.length) (place_kept j n part none)))
      ]

      -- There is no plan of other parts.
      no_plan_of : (j : FileKind) (n : ℕ) → (IsPartToPlan j n → ⊥) → plan_of plans j n ≡ None
      no_plan_of j n isnt = elim (there_or_none (plan_of plans j n)) [
        | inl some ↦
            let one = found plans j n some.0 some.1 in
            absurd (isnt (subst (λ (l : FileKind). IsPartToPlan l n) one.kind_is (subst (λ (l : ℕ). IsPartToPlan some.0.kind l) one.number_is (may.each one.index some.0 one.here).part)))
        | inr none ↦ none
      ]

      -- The parts are as long as the new root says.
      pub next_fit : PartsFit new next
      next_fit kind.Root n = long kind.Root n
      next_fit kind.Map n = elim (equal_or_not n 0) [
        | inl part ↦ long_part kind.Map n part
        | inr apart ↦
            ap (λ (o : Option Plan). length (planned texts o (parts kind.Map n))) (no_plan_of kind.Map n apart)
            ∙ (long kind.Map n
            ∙ (ap (λ (b : Bool). (if b then old.map else no_place).length) (other_test n 0 apart) ∙ sym (ap (λ (b : Bool). (if b then new.map else no_place).length) (other_test n 0 apart))))
      ]
      next_fit kind.Epoch n = elim (cases_lt n 64) [
        | inl below ↦ long_part kind.Epoch n below
        | inr past ↦
            let old_size = fits.count in
            let new_size = after.count in
            ap (λ (o : Option Plan). length (planned texts o (parts kind.Epoch n))) (no_plan_of kind.Epoch n (λ below. absurd (omega (arith, below, past))))
            ∙ (long kind.Epoch n
            ∙ (ap (λ (p : Place). p.length) (get_or_past old.epochs n no_place (omega (arith, old_size, past))) ∙ sym (ap (λ (p : Place). p.length) (get_or_past new.epochs n no_place (omega (arith, new_size, past))))))
      ]
      next_fit kind.Cache n = by (n == 0) where
        by : (b : Bool) → 0 ≤ (if b then new.cache else no_place).length
        by true = omega arith
        by false = omega arith

      -- A file that both roots don't name has no bytes.
      nothing_written : (i : ℕ) (plan : Plan) (here : slice_get plans i ≡ Some plan) → names_file new (file_by new plan.kind plan.number) ≡ false → names_file old (file_by new plan.kind plan.number) ≡ false → plan_count plan ≡ 0
      nothing_written i plan here isnt wasnt =
          let size = (file_named plan.kind plan.number (may.each i plan here).part isnt).1 in
          elim (goes i plan here) [
            | inl fresh ↦ sym fresh.length_is ∙ size
            | inr rest ↦ elim rest [ inl on_ ↦ absurd (not_both (names_file old (file_by new plan.kind plan.number)) on_.was_named wasnt) | inr none ↦ none.count_is ]
          ]

      -- The bytes of a named file are those of its part.
      plan_reads : (i : ℕ) (plan : Plan) (here : slice_get plans i ≡ Some plan) → names_file new (file_by new plan.kind plan.number) ≡ true → bytes_of (m (file_by new plan.kind plan.number)).seen ≡ next plan.kind plan.number
      plan_reads i plan here is =
          let file = file_by new plan.kind plan.number in
          let before = parts plan.kind plan.number in
          let written = written_by texts plan in
          let part = (may.each i plan here).part in
          let was = full_part plan.kind plan.number part in
          file_reads i plan here ∙ (elim (goes i plan here) [
            | inl fresh ↦
                ap (λ (l : List ℕ). l ++ written) (text_unnamed old parts file (fresh_unnamed plan.kind plan.number file.generation part fresh.gen_is))
                ∙ sym (first_bytes plan.target before written (λ behind. was ∙ fresh.before behind))
            | inr rest ↦ elim rest [
              | inl on_ ↦ ap (λ (l : List ℕ). l ++ written) (text_named old parts file on_.was_named) ∙ sym (more_bytes plan.target before written on_.target_is)
              | inr none ↦
                  let size = none.length_is in
                  let there = named_bytes new plan.number file.generation (subst (λ (l : FileKind). named_by new l plan.number file.generation ≡ true) none.kind_is is) in
                  let size_ : (place_of new kind.Epoch plan.number).length ≡ 0 = subst (λ (l : FileKind). (place_of new l plan.number).length ≡ 0) none.kind_is size in
                  absurd (omega (arith, there, size_))
            ]
          ] ∙ sym (next_planned plan.kind plan.number plan part (plan_of_each plans i plan may.apart here)))

      -- What the files read after the plans.
      abbrev read_now : Texts
      read_now name = bytes_of (m name).seen

      reads_now : ReadsAsTexts old read_now m
      reads_now = record {
        bytes = λ name apart. refl;
        no_other = λ name isnt none. elim (which_file name) [
          | inl is ↦
              let i = is.0 in
              let plan = is.1.0 in
              let here = is.1.1.0 in
              let same = is.1.1.1 in
              let file = file_by new plan.kind plan.number in
              let empty : texts file ++ written_by texts plan ≡ [] = sym (file_reads i plan here) ∙ subst (λ (f : FileName). bytes_of (m f).seen ≡ []) same none in
              let size : length (texts file ++ written_by texts plan) ≡ 0 = ap length empty in
              let written : written_by texts plan ≡ [] = nil_from_length (written_by texts plan) (omega (arith, size, length-append (texts file) (written_by texts plan))) in
              subst (λ (f : FileName). (m f).seen ≡ None) (sym same)
              ((wrote.each i plan here).alone (written_is i plan here ∙ written) ∙ on.exact.no_other file (subst (λ (f : FileName). names_file old f ≡ false) same isnt))
          | inr isnt_one ↦ wrote.others name isnt_one ∙ on.exact.no_other name isnt
        ];
      }

      becomes_now : BecomesRoot old read_now new (texts_of new next)
      becomes_now = record {
        later = (let is = sequence-spelling old fits.sequence in let next_is_ = after.sequence in omega (arith, is, next_is_));
        measures = parts_measure new next next_fit;
        named = λ name apart is.
            let part = named_part name.kind name.number name.generation apart is in
            elim (there_or_none (plan_of plans name.kind name.number)) [
              | inl some ↦
                  let plan = some.0 in
                  let one = found plans name.kind name.number plan some.1 in
                  let same = planned_file name plan one part is in
                  let now = subst (λ (f : FileName). names_file new f ≡ true) same is in
                  subst (λ (f : FileName). bytes_of (m f).seen ≡ texts_of new next f) (sym same)
                  (plan_reads one.index plan one.here now ∙ sym (text_named new next (file_by new plan.kind plan.number) now))
              | inr none ↦
                  let same = place_kept name.kind name.number part none in
                  let was : names_file old name ≡ true = sym (named_same name.kind name.number name.generation part same) ∙ is in
                  ap bytes_of (wrote.others name (no_file name none))
                  ∙ (on.exact.ends name apart ∙ (text_named old parts name was ∙ (sym (next_kept name.kind name.number part none) ∙ sym (text_named new next name is))))
            ];
        others = λ name isnt. elim (true_or_false (names_file old name)) [
          | inl was ↦ inl was
          | inr wasnt ↦ inr (elim (which_file name) [
            | inl is ↦
                let i = is.0 in
                let plan = is.1.0 in
                let here = is.1.1.0 in
                let same = is.1.1.1 in
                let file = file_by new plan.kind plan.number in
                let wasnt_ = subst (λ (f : FileName). names_file old f ≡ false) same wasnt in
                let count_is = nothing_written i plan here (subst (λ (f : FileName). names_file new f ≡ false) same isnt) wasnt_ in
                let full = written_full i plan here in
                subst (λ (f : FileName). bytes_of (m f).seen ≡ []) (sym same)
                (file_reads i plan here
                ∙ (ap (λ (l : List ℕ). l ++ written_by texts plan) (text_unnamed old parts file wasnt_) ∙ nil_from_length (written_by texts plan) (full ∙ count_is)))
            | inr isnt_one ↦ ap bytes_of (wrote.others name isnt_one ∙ on.exact.no_other name wasnt)
          ])
        ];
      }

    -- The same, of a disk that may tell its content.
    abbrev pub reading : Option Content → Texts
    reading None name = []
    reading (Some m) name = bytes_of (m name).seen

    pub reads_told : (free : ℕ) (k m : Option Content) → OnDisk old free texts k → BothTold (WritesPlans old new plans) k m → WhereTold (ReadsAsTexts old (reading m)) m
    reads_told free None m on wrote = absurd on
    reads_told free (Some k) None on wrote = tt
    reads_told free (Some k) (Some m) on wrote = reads_now free k m on wrote

    pub becomes_told : (free : ℕ) (k m : Option Content) → OnDisk old free texts k → BothTold (WritesPlans old new plans) k m → BecomesRoot old (reading m) new (texts_of new next)
    becomes_told free None m on wrote = absurd on
    becomes_told free (Some k) None on wrote = absurd wrote
    becomes_told free (Some k) (Some m) on wrote = becomes_now free k m on wrote

    pub fit_told : (free : ℕ) (k m : Option Content) → OnDisk old free texts k → BothTold (WritesPlans old new plans) k m → PartsFit new next
    fit_told free None m on wrote = absurd on
    fit_told free (Some k) None on wrote = absurd wrote
    fit_told free (Some k) (Some m) on wrote = next_fit free k m on wrote
