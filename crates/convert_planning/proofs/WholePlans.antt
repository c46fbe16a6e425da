-- What is planned of a whole archive in another form may be carried out, and writes its parts.
use Rattle.std.specs.Prelude.{◌≡◌, ◌≢◌, ◌+◌, ◌-◌, ◌<◌, ◌≤◌, ◌==◌, ℕ, suc, Bool, true, false, if◌then◌else◌, List, [], ◌∷◌, ◌++◌, get_or, slice_get, Option, Some, None, refl}
use Rattle.std.specs.List.{AllZip, flat_map}
use Rattle.std.proofs.Common.{◌∙◌, sym, ap, subst, inl, inr, arith}
use Rattle.std.proofs.lemmas.Bool.{cases_lt}
use Rattle.std.proofs.lemmas.Bool.Decides.{nat_tests}
use Rattle.std.proofs.lemmas.Option.{slice_get-get_or, slice_get_within}
use Rattle.arch_base.specs.declared.ids.Form.{Form}
use Rattle.disk_model.specs.Name.{kind_index}
use Rattle.disk_model.specs.declared.name.FileKind.{FileKind}
use Rattle.disk_model.specs.declared.name.FileKind.TheVariants as kind
use Rattle.disk_model.specs.declared.name.FileName.{FileName}
use Rattle.disk_model.specs.Disk.{Content, WhereTold}
use Rattle.root_slots.specs.declared.root.Root.{Root}
use Rattle.root_slots.specs.Valid.{no_place}
use Rattle.root_change.specs.declared.plan.Target.{Target}
use Rattle.root_change.specs.declared.plan.Target.TheVariants.{Anew, Behind}
use Rattle.root_change.specs.declared.sources.Source.{Source}
use Rattle.root_change.specs.declared.sources.Source.TheVariants.{Bytes, Range}
use Rattle.root_change.specs.Names.{named_end, named_some}
use Rattle.root_change.specs.Parts.{texts_of}
use Rattle.root_change.specs.Rewriting.{AreApart, IsPartToPlan, IsPlanFrom, IsPlanWhole, IsSourceFrom, MapFits, MayCarry, MayCarryAll, Plan, SourceIsWithin, bytes_by, file_by, map_by, map_planned, plan_count, plan_of, planned, rewritten, written_by}
use Rattle.root_change.specs.Texts.{Texts}
use Rattle.root_change.proofs.Grown.{epoch_is_named}
use Rattle.root_change.proofs.PlanParts.{apart_more, is_of, of_more, of_one, of_others, other_part, plan_of_each}
use Rattle.root_change.proofs.Roots.{same_test}
use Rattle.root_change.proofs.Sizes.{end_at_most}
use Rattle.number_map.specs.Records.{record_bytes}
use Rattle.arch_model.specs.Archives.{Archive, Entry, in_epoch, messages}
use Rattle.arch_model.specs.Epochs.{epoch_bytes}
use Rattle.arch_model.specs.Validity.{IsEntry}
use Rattle.arch_model.proofs.ValidArchives.{all_weaker}
use Rattle.epoch_file.specs.Lying.{tree_end}
use Rattle.epoch_file.specs.Planning.{SourceEndsBy}
use Rattle.store_finding.specs.declared.entries.StoredEntry.{StoredEntry}
use Rattle.store_finding.specs.Damage.{named_length}
use Rattle.store_finding.specs.Extents.{AreNamedAfter, length_planned}
use Rattle.store_finding.specs.Files.{epoch_file_of}
use Rattle.store_finding.specs.Kept.{IsDiskWith}
use Rattle.store_finding.specs.Recovery.{bytes_in, map_bytes, parts_of, records_from}
use Rattle.store_finding.proofs.Lasts.{none_in}
use Rattle.store_planning.proofs.PlannedExtents.{anew_planned}
use Rattle.store_planning.proofs.Planned.{each_plan, of_rest}
use Rattle.convert_planning.specs.Converting.{Conversion, ConvertedOf, ConvertsOwn, ConvertsParts, PlansConversion, converted, kept_store}
use Rattle.convert_planning.specs.ConvertSteps.{ConvertsAll, ConvertsFirst, EndsInPlans, HasTaken, IsEpochPlan, TakenUpTo}
use Rattle.store_planning.specs.Epochs.{PlansMapOf, PlansRecords}

-- There is no plan of a part if each is of another.
none_of : (plans : List Plan) (k : FileKind) (n : ℕ) → ((i : ℕ) (q : Plan) → slice_get plans i ≡ Some q → is_of q k n ≡ false) → plan_of plans k n ≡ None
none_of [] k n each = refl
none_of (q ∷ qs) k n each = of_rest q qs k n (each 0 q refl) ∙ none_of qs k n (λ i p here. each (suc i) p here)

-- Plans of epochs in order are apart.
apart_from : (plans : List Plan) (n : ℕ) → ((i : ℕ) (q : Plan) → slice_get plans i ≡ Some q → q.number ≡ n + i) → AreApart plans
apart_from [] n each = tt
apart_from (q ∷ qs) n each =
    let first : q.number ≡ n + 0 = each 0 q refl in (
      none_of qs q.kind q.number (λ i p here. other_part p q.kind q.number (λ k_is n_is. (let at = each (suc i) p here in absurd (omega (arith, first, at, n_is))))),
      apart_from qs (n + 1) (λ i p here. (let at = each (suc i) p here in omega (arith, at))),
    )

-- A source that ends by the length of an epoch lies in the bytes that count.
counts_epoch : (root : Root) (x : ℕ) → x < 64 → named_end root (epoch_file_of root x) ≡ named_length root x
counts_epoch root x below = elim (cases_lt 0 (get_or root.epochs x no_place).length) [
  | inl some ↦ named_some root (epoch_file_of root x) (epoch_is_named root x (get_or root.epochs x no_place).generation below some refl)
  | inr none ↦ (let most = end_at_most root (epoch_file_of root x) in omega (arith, most, none))
]

source_within : (root : Root) (file : FileName) (s : Source) (end_ : ℕ) → IsSourceFrom file s → end_ ≡ named_end root file → SourceEndsBy end_ s → SourceIsWithin root s
source_within root file (Bytes offset count) end_ own is up = tt
source_within root file (Range range) end_ own is up = subst (λ (f : FileName). range.offset + range.count ≤ named_end root f) (sym own) (omega (arith, is, up))

not_behind : {P : Type 0} (target : Target) → target ≡ Anew → target ≡ Behind → P
not_behind target anew behind = absurd (let wrong : Anew ≡ Behind = sym anew ∙ behind in cc)

-- A plan of an epoch, and that of the map, may be carried out.
epoch_may : (root : Root) (x : ℕ) (q : Plan) → x < 64 → IsEpochPlan root x q → MayCarry root q
epoch_may root x q below of = record {
  part = subst (λ (k : FileKind). IsPartToPlan k q.number) (sym of.kind_is) (let n = of.number in omega (arith, n, below));
  valid = of.valid;
  comes = subst (λ (k : FileKind). IsPlanFrom (file_by root k q.number) q) (sym of.kind_is) (subst (λ (n : ℕ). IsPlanFrom (file_by root kind.Epoch n) q) (sym of.number) of.from);
  within = λ i s here. source_within root (epoch_file_of root x) s (named_length root x) (of.from i s here) (sym (counts_epoch root x below)) (of.ends i s here);
  room = λ behind. not_behind q.target of.target behind;
  bytes_only = λ behind. not_behind q.target of.target behind;
}

module _ (root : Root) (form : Form) (next : ℕ) (kept : List StoredEntry) (q : Plan) (of : PlansMapOf form kept next q) where
  abbrev its : PlansRecords form of.0 next q
  its = of.2

  map_comes : (file : FileName) → IsPlanFrom file q
  map_comes file = λ i s here. subst (IsSourceFrom file) (sym (its.bytes_only i s here).2) tt

  map_within : (i : ℕ) (s : Source) → slice_get q.sources i ≡ Some s → SourceIsWithin root s
  map_within i s here = subst (SourceIsWithin root) (sym (its.bytes_only i s here).2) tt

  map_may : MayCarry root q
  map_may = record {
    part = subst (λ (k : FileKind). IsPartToPlan k q.number) (sym its.kind) its.number;
    valid = its.valid;
    comes = map_comes (file_by root q.kind q.number);
    within = map_within;
    room = λ behind. not_behind q.target its.target behind;
    bytes_only = λ behind. not_behind q.target its.target behind;
  }

-- All entries were taken, and the map is planned after the epochs.
module _ (root : Root) (form : Form) (old : List StoredEntry) (p new : Conversion) (taken : HasTaken root form old p) (q : Plan) (of : PlansMapOf form p.entries root.next q)
    (new_is : new ≡ record { plans = p.plans ++ q ∷ []; entries = p.entries; form = p.form }) where
  abbrev up : TakenUpTo root form taken.0 old p
  up = taken.1

  abbrev all : List Plan
  all = p.plans ++ q ∷ []

  plans_are : new.plans ≡ all
  plans_are = ap (λ (c : Conversion). c.plans) new_is

  entries_are : new.entries ≡ p.entries
  entries_are = ap (λ (c : Conversion). c.entries) new_is

  k_is : q.kind ≡ kind.Map
  k_is = of.2.kind

  n_is : q.number ≡ 0
  n_is = of.2.number

  anew : q.target ≡ Anew
  anew = of.2.target

  map_isnt_epoch : (x : ℕ) → is_of q kind.Epoch x ≡ false
  map_isnt_epoch x = other_part q kind.Epoch x (λ wrong at. (let no : kind_index kind.Map ≡ kind_index kind.Epoch = ap kind_index (sym k_is ∙ wrong) in absurd (omega (arith, no))))

  epoch_isnt_map : (n i : ℕ) (r : Plan) → slice_get p.plans i ≡ Some r → is_of r kind.Map n ≡ false
  epoch_isnt_map n i r here = other_part r kind.Map n (λ wrong at. (let no : kind_index kind.Epoch ≡ kind_index kind.Map = ap kind_index (sym (up.each i r here).kind_is ∙ wrong) in absurd (omega (arith, no))))

  apart : AreApart p.plans
  apart = apart_from p.plans 0 (λ i r here. (let n = (up.each i r here).number in omega (arith, n)))

  no_map : (n : ℕ) → plan_of p.plans kind.Map n ≡ None
  no_map n = none_of p.plans kind.Map n (epoch_isnt_map n)

  -- The plan of an epoch.
  epoch_plan : (x : ℕ) (r : Plan) → slice_get p.plans x ≡ Some r → plan_of all kind.Epoch x ≡ Some r
  epoch_plan x r here =
      let is = up.each x r here in
      of_others p.plans q kind.Epoch x (map_isnt_epoch x)
      ∙ subst (λ (k : FileKind). plan_of p.plans k x ≡ Some r) is.kind_is (subst (λ (n : ℕ). plan_of p.plans r.kind n ≡ Some r) is.number (plan_of_each p.plans x r apart here))

  there : (x : ℕ) → x < 64 → (r : Plan) × (slice_get p.plans x ≡ Some r)
  there x below = (get_or p.plans x q, slice_get-get_or p.plans x q (let count = up.count in omega (arith, count, below)))

  no_epoch : (x : ℕ) → 64 ≤ x → plan_of all kind.Epoch x ≡ None
  no_epoch x high =
      of_others p.plans q kind.Epoch x (map_isnt_epoch x)
      ∙ none_of p.plans kind.Epoch x (λ i r here. other_part r kind.Epoch x (λ same at. (let n = (up.each i r here).number in let within = slice_get_within p.plans i r here in let count = up.count in absurd (omega (arith, n, within, count, at, high)))))

  map_plan : plan_of all kind.Map 0 ≡ Some q
  map_plan = of_more p.plans (q ∷ []) kind.Map 0 (no_map 0) ∙ of_one q kind.Map 0 k_is n_is

  no_other_map : (n : ℕ) → n ≢ 0 → plan_of all kind.Map n ≡ None
  no_other_map n other = of_others p.plans q kind.Map n (other_part q kind.Map n (λ same at. other (sym at ∙ n_is))) ∙ no_map n

  may : MayCarryAll root all
  may = record {
    each = each_plan (MayCarry root) p.plans q (λ i r here. epoch_may root i r (let within = slice_get_within p.plans i r here in let count = up.count in omega (arith, within, count)) (up.each i r here)) (map_may root form root.next p.entries q of);
    apart = apart_more p.plans q apart (subst (λ (k : FileKind). plan_of p.plans k q.number ≡ None) (sym k_is) (no_map q.number));
  }

  fits : MapFits root all root.next form
  fits =
      let long : (map_planned (root.sequence + 1) (plan_of all kind.Map 0) root.map).length ≡ plan_count q =
      ap (λ (o : Option Plan). (map_planned (root.sequence + 1) o root.map).length) map_plan ∙ ap (λ (g : Target). (map_by (root.sequence + 1) g root.map (plan_count q)).length) anew in
      let count = of.2.count in
      omega (arith, long, count)

  planned_anew : (kind_ : FileKind) (n : ℕ) → IsPartToPlan kind_ n → (r : Plan) × (plan_of all kind_ n ≡ Some r) × (r.target ≡ Anew)
  planned_anew kind.Root n part = absurd part
  planned_anew kind.Cache n part = absurd part
  planned_anew kind.Map n part = (q, ap (plan_of all kind.Map) part ∙ map_plan, anew)
  planned_anew kind.Epoch n part = (let r = there n part in (r.0, epoch_plan n r.0 r.1, (up.each n r.0 r.1).target))

  named : AreNamedAfter root all p.entries
  named = record {
    lie = up.lie;
    ends = all_weaker (EndsInPlans p.plans taken.0) (λ (e : StoredEntry). tree_end e.seen ≤ length_planned root all e.epoch) p.entries (λ e so.
        (let long = anew_planned root all e.epoch so.plan (epoch_plan e.epoch so.plan so.there) (up.each e.epoch so.plan so.there).target in let ends = so.ends in omega (arith, long, ends))) up.ends;
  }

  pub plans_conversion : PlansConversion root form old new
  plans_conversion = record {
    may = subst (MayCarryAll root) (sym plans_are) may;
    map = subst (λ (l : List Plan). MapFits root l root.next form) (sym plans_are) fits;
    anew = subst (λ (l : List Plan). (kind_ : FileKind) (n : ℕ) → IsPartToPlan kind_ n → (r : Plan) × (plan_of l kind_ n ≡ Some r) × (r.target ≡ Anew)) (sym plans_are) planned_anew;
    kept = subst (AllZip (ConvertedOf form) old) (sym entries_are) up.kept;
    named = subst (λ (l : List Plan). AreNamedAfter root l new.entries) (sym plans_are) (subst (AreNamedAfter root all) (sym entries_are) named);
  }

  -- On the disk of an archive.
  module _ (slot : ℕ) (a : Archive) (cache : List ℕ) (k : Content) (own : IsDiskWith (kept_store root slot old) cache a k) (first : ConvertsFirst (texts_of root (parts_of a cache)) form a.entries p) where
    abbrev t : Texts
    t = texts_of root (parts_of a cache)

    lines_so : of.0 ≡ records_from form (messages a.entries) 1 (a.next - 1)
    lines_so = of.1 a.entries first.entries own.keeps.valid.order ∙ ap (λ (n : ℕ). records_from form (messages a.entries) 1 (n - 1)) own.keeps.names.next

    map_so : written_by t q ≡ map_bytes (converted form a)
    map_so = of.2.written t ∙ ap (flat_map record_bytes) lines_so

    map_part : (n : ℕ) (b : Bool) → (n == 0) ≡ b → planned t (plan_of all kind.Map n) (if b then map_bytes a else []) ≡ (if b then map_bytes (converted form a) else [])
    map_part n true zero_is =
        let at : n ≡ 0 = grind (arith, nat_tests, zero_is) in
        ap (λ (m : ℕ). planned t (plan_of all kind.Map m) (map_bytes a)) at
        ∙ (ap (λ (o : Option Plan). planned t o (map_bytes a)) map_plan ∙ (ap (λ (g : Target). bytes_by g (map_bytes a) (written_by t q)) anew ∙ map_so))
    map_part n false other =
        let apart_n : n ≢ 0 = (λ is. (let wrong = same_test n 0 is in let no : true ≡ false = sym wrong ∙ other in cc)) in
        ap (λ (o : Option Plan). planned t o []) (no_other_map n apart_n)

    empty : (x : ℕ) → 64 ≤ x → in_epoch a.entries x ≡ []
    empty x high = none_in a.entries x (all_weaker IsEntry (λ (f : Entry). f.epoch < x) a.entries (λ f entry. (let low = entry.epoch in omega (arith, low, high))) own.keeps.valid.entries)

    epoch_part : (x : ℕ) → planned t (plan_of all kind.Epoch x) (bytes_in a x) ≡ bytes_in (converted form a) x
    epoch_part x = elim (cases_lt x 64) [
      | inl below ↦
          let r = there x below in
          let so = first.written x r.0 r.1 in
          ap (λ (o : Option Plan). planned t o (bytes_in a x)) (epoch_plan x r.0 r.1) ∙ (ap (λ (g : Target). bytes_by g (bytes_in a x) (written_by t r.0)) (up.each x r.0 r.1).target ∙ so.1)
      | inr high ↦ ap (λ (o : Option Plan). planned t o (bytes_in a x)) (no_epoch x high) ∙ (ap (epoch_bytes a.config.form) (empty x high) ∙ sym (ap (epoch_bytes form) (empty x high)))
    ]

    cache_part : (n : ℕ) → [] ≡ parts_of (converted form a) [] kind.Cache n
    cache_part n = by (n == 0) where
      by : (b : Bool) → ◌≡◌ {A = List ℕ} [] (if b then [] else [])
      by true = refl
      by false = refl

    part : (kind_ : FileKind) (n : ℕ) → rewritten root all (parts_of a cache) kind_ n ≡ parts_of (converted form a) [] kind_ n
    part kind.Root n = refl
    part kind.Cache n = cache_part n
    part kind.Map n = map_part n (n == 0) refl
    part kind.Epoch n = epoch_part n

    whole : (i : ℕ) (r : Plan) → slice_get all i ≡ Some r → IsPlanWhole t r
    whole = each_plan (IsPlanWhole t) p.plans q (λ i r here. (first.written i r here).0) (of.2.whole t)

    converts_parts : ConvertsParts root cache a form new
    converts_parts = record {
      entries = entries_are ∙ first.entries;
      parts = subst (λ (l : List Plan). (kind_ : FileKind) (n : ℕ) → rewritten root l (parts_of a cache) kind_ n ≡ parts_of (converted form a) [] kind_ n) (sym plans_are) part;
      whole = subst (λ (l : List Plan). (i : ℕ) (r : Plan) → slice_get l i ≡ Some r → IsPlanWhole t r) (sym plans_are) whole;
    }

  pub converts_own : (content : Option Content) → WhereTold (ConvertsAll root form old p) content → ConvertsOwn root form old new content
  converts_own None up_so = λ slot a cache store. absurd store
  converts_own (Some k) up_so = λ slot a cache own. converts_parts slot a cache k own (up_so slot a cache own)
