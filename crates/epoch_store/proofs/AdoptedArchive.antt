-- An adopted archive: the map is planned after the epochs, and all may be carried out.
use Rattle.std.specs.Prelude.{◌≡◌, ◌≢◌, ◌+◌, ◌-◌, ◌*◌, ◌==◌, ◌≤◌, ℕ, Bool, true, false, if◌then◌else◌, List, [], ◌∷◌, ◌++◌, get_or, slice_get, Option, Some, None, refl}
use Rattle.std.specs.List.{flat_map}
use Rattle.std.proofs.Common.{◌∙◌, sym, ap, subst, arith}
use Rattle.std.proofs.lemmas.Bool.Decides.{nat_tests}
use Rattle.arch_base.specs.declared.config.Config.{Config}
use Rattle.arch_base.specs.declared.ids.Form.{Form}
use Rattle.disk_model.specs.Disk.{Content}
use Rattle.disk_model.specs.Name.{kind_index}
use Rattle.disk_model.specs.Sizes.{record_size}
use Rattle.disk_model.specs.declared.name.FileKind.{FileKind}
use Rattle.disk_model.specs.declared.name.FileName.{FileName}
use Rattle.disk_model.specs.declared.name.FileKind.TheVariants as kind
use Rattle.number_map.specs.Records.{record_bytes}
use Rattle.number_map.specs.declared.line.Record.{Record}
use Rattle.root_slots.specs.declared.root.Root.{Root}
use Rattle.root_slots.specs.Valid.{no_place}
use Rattle.root_change.specs.declared.plan.Target.{Target}
use Rattle.root_change.specs.declared.plan.Target.TheVariants.{Anew, Behind}
use Rattle.root_change.specs.declared.sources.Source.{Source}
use Rattle.root_change.specs.Parts.{texts_of}
use Rattle.root_change.specs.Rewriting.{Plan, AreApart, IsPartToPlan, IsPlanFrom, IsPlanWhole, MayCarry, SourceIsWithin, bytes_by, file_by, map_by, map_planned, plan_count, plan_of, planned, rewritten, place_planned, written_by, IsSourceFrom}
use Rattle.root_change.specs.Texts.{Texts}
use Rattle.root_change.proofs.PlanParts.{apart_more, is_of_own, of_more, of_others, other_part}
use Rattle.root_change.proofs.Roots.{same_test}
use Rattle.arch_model.specs.Archives.{Archive, in_epoch, messages}
use Rattle.arch_model.specs.Epochs.{epoch_bytes}
use Rattle.arch_model.specs.Validity.{IsArchive}
use Rattle.arch_model.proofs.ValidArchives.{all_weaker}
use Rattle.epoch_file.specs.Lying.{tree_end}
use Rattle.store_finding.specs.Extents.{AreNamedAfter, length_planned}
use Rattle.store_finding.specs.Kept.{IsStoreWith, StoreState, stored_after}
use Rattle.store_finding.specs.Recovery.{bytes_in, map_bytes, parts_of, records_from}
use Rattle.store_finding.specs.declared.entries.StoredEntry.{StoredEntry}
use Rattle.store_planning.specs.Epochs.{AreEpochsReady, PlansEpochs, PlansMapOf, PlansRecords}
use Rattle.store_planning.specs.Planning.{IsReadyPlan, Planning, PlansArchive, Pushes}
use Rattle.store_planning.proofs.Planned.{each_plan, of_first}
use Rattle.epoch_store.specs.AdoptedLines.{ClosesAdoption}
use Rattle.epoch_store.specs.Adopting.{AdoptionState, Adopts}

module _ (root : Root) (mid : Planning) (plan : Plan) (new : Planning) (next : ℕ) (lines : List Record) (form : Form) (records : PlansRecords form lines next plan) (pushes : Pushes mid plan new) where
  plans_are : new.plans ≡ mid.plans ++ plan ∷ []
  plans_are = ap (λ (p : Planning). p.plans) pushes.0

  pub entries_are : mid.entries ≡ new.entries
  entries_are = ap (λ (p : Planning). p.entries) (sym pushes.0)

  map_first : plan_of mid.plans kind.Map 0 ≡ None → plan_of new.plans kind.Map 0 ≡ Some plan
  map_first none = ap (λ (l : List Plan). plan_of l kind.Map 0) plans_are ∙ (of_more mid.plans (plan ∷ []) kind.Map 0 none ∙ of_first plan [] kind.Map 0 (is_of_own plan kind.Map 0 records.kind records.number))

  epochs_stay : (n : ℕ) → plan_of new.plans kind.Epoch n ≡ plan_of mid.plans kind.Epoch n
  epochs_stay n =
      ap (λ (l : List Plan). plan_of l kind.Epoch n) plans_are
      ∙ of_others mid.plans plan kind.Epoch n (other_part plan kind.Epoch n (λ k_is n_is. (let wrong : kind_index kind.Map ≡ kind_index kind.Epoch = ap kind_index (sym records.kind ∙ k_is) in absurd (omega (arith, wrong)))))

  -- The plans may be carried out.
  isnt_behind : plan.target ≡ Behind → ⊥
  isnt_behind behind = (let wrong : Anew ≡ Behind = sym records.target ∙ behind in cc)

  from_bytes : (file : FileName) → IsPlanFrom file plan
  from_bytes file = λ i s here. (let is = records.bytes_only i s here in subst (IsSourceFrom file) (sym is.2) tt)

  within_bytes : (i : ℕ) (s : Source) → slice_get plan.sources i ≡ Some s → SourceIsWithin root s
  within_bytes i s here = (let is = records.bytes_only i s here in subst (SourceIsWithin root) (sym is.2) tt)

  map_may : MayCarry root plan
  map_may = record {
    part = subst (λ (k : FileKind). IsPartToPlan k plan.number) (sym records.kind) records.number;
    valid = records.valid;
    comes = from_bytes (file_by root plan.kind plan.number);
    within = within_bytes;
    room = λ behind. absurd (isnt_behind behind);
    bytes_only = λ behind. absurd (isnt_behind behind);
  }

  pub adopted_ready : form ≡ root.config.form → AreEpochsReady root mid → IsReadyPlan root new.plans next
  adopted_ready form_is ready = record {
    plans_may = record {
      each = λ i p here. each_plan (MayCarry root) mid.plans plan ready.may.each map_may i p (ap (λ (l : List Plan). slice_get l i) (sym plans_are) ∙ here);
      apart = subst AreApart (sym plans_are) (apart_more mid.plans plan ready.may.apart pushes.1);
    };
    map =
        let long : (map_planned (root.sequence + 1) (plan_of new.plans kind.Map 0) root.map).length ≡ plan_count plan =
        ap (λ (o : Option Plan). (map_planned (root.sequence + 1) o root.map).length) (map_first (ready.no_map 0)) ∙ ap (λ (t : Target). (map_by (root.sequence + 1) t root.map (plan_count plan)).length) records.target in
        ap (λ (n : ℕ). n + record_size root.config.form) long ∙ subst (λ (g : Form). plan_count plan + record_size g ≡ record_size g * next) form_is records.count;
    map_plan = plan;
    map_is = map_first (ready.no_map 0);
    map_anew = records.target;
  }

  pub adopted_named : AreEpochsReady root mid → AreNamedAfter root new.plans new.entries
  adopted_named ready = subst (AreNamedAfter root new.plans) entries_are (record {
    lie = ready.named.lie;
    ends = all_weaker (λ (e : StoredEntry). tree_end e.seen ≤ length_planned root mid.plans e.epoch) (λ (e : StoredEntry). tree_end e.seen ≤ length_planned root new.plans e.epoch) mid.entries
        (λ e up. (let long : length_planned root mid.plans e.epoch ≡ length_planned root new.plans e.epoch = ap (λ (o : Option Plan). (place_planned (root.sequence + 1) o (get_or root.epochs e.epoch no_place)).length) (sym (epochs_stay e.epoch)) in omega (arith, up, long))) ready.named.ends;
  })

  -- They write the adopted archive.
  module _ (cache : List ℕ) (a b : Archive) (valid : IsArchive b) (config : b.config ≡ a.config) (next_is : b.next ≡ next) (epochs : PlansEpochs root cache a b.entries mid) (lines_are : lines ≡ records_from b.config.form (messages b.entries) 1 (next - 1)) where
    abbrev texts : Texts
    texts = texts_of root (parts_of a cache)

    same_form : a.config.form ≡ b.config.form
    same_form = ap (λ (c : Config). c.form) (sym config)

    map_part : (n : ℕ) (t : Bool) → (n == 0) ≡ t → planned texts (plan_of new.plans kind.Map n) (parts_of a cache kind.Map n) ≡ (if t then map_bytes b else [])
    map_part n true is =
        let zero_is : n ≡ 0 = grind (arith, nat_tests, is) in
        let here : plan_of new.plans kind.Map n ≡ Some plan = ap (plan_of new.plans kind.Map) zero_is ∙ map_first (epochs.map 0) in
        ap (λ (o : Option Plan). planned texts o (parts_of a cache kind.Map n)) here
        ∙ (ap (λ (t : Target). bytes_by t (parts_of a cache kind.Map n) (written_by texts plan)) records.target
        ∙ (records.written texts ∙ (ap (flat_map record_bytes) lines_are ∙ ap (λ (m : ℕ). flat_map record_bytes (records_from b.config.form (messages b.entries) 1 (m - 1))) (sym next_is))))
    map_part n false is =
        let apart : n ≢ 0 = (λ zero_is. (let wrong = same_test n 0 zero_is in let no : true ≡ false = sym wrong ∙ is in cc)) in
        let none : plan_of new.plans kind.Map n ≡ None = ap (λ (l : List Plan). plan_of l kind.Map n) plans_are ∙ (of_others mid.plans plan kind.Map n (other_part plan kind.Map n (λ k_is n_is. apart (sym n_is ∙ records.number))) ∙ epochs.map n) in
        ap (λ (o : Option Plan). planned texts o (parts_of a cache kind.Map n)) none ∙ ap (λ (t : Bool). if t then map_bytes a else []) is

    cache_part : (n : ℕ) → ◌≡◌ {A = List ℕ} [] (parts_of b [] kind.Cache n)
    cache_part n = by (n == 0) where
      by : (t : Bool) → ◌≡◌ {A = List ℕ} [] (if t then [] else [])
      by true = refl
      by false = refl

    part : (k : FileKind) (n : ℕ) → rewritten root new.plans (parts_of a cache) k n ≡ parts_of b [] k n
    part kind.Root n = refl
    part kind.Cache n = cache_part n
    part kind.Map n = map_part n (n == 0) refl
    part kind.Epoch n = ap (λ (o : Option Plan). planned texts o (bytes_in a n)) (epochs_stay n) ∙ (epochs.parts n ∙ ap (λ (g : Form). epoch_bytes g (in_epoch b.entries n)) same_form)

    pub adopted_archive : PlansArchive root cache a b new next
    adopted_archive = record {
      valid = valid;
      config = config;
      next_is = next_is;
      entries = sym entries_are ∙ (epochs.entries ∙ ap (λ (g : Form). stored_after g [] b.entries) same_form);
      parts = part;
      whole = λ i p here. each_plan (IsPlanWhole texts) mid.plans plan epochs.whole (records.whole texts) i p (ap (λ (l : List Plan). slice_get l i) (sym plans_are) ∙ here);
    }

-- All together.
pub adopts_archive : (v : StoreState) (first mid : AdoptionState) (plan : Plan) (new : Planning) (next : ℕ) (content : Option Content) → ClosesAdoption v first mid → PlansMapOf v.root.config.form mid.planned.entries next plan → Pushes mid.planned plan new
    → (a b : Archive) (cache : List ℕ) → IsStoreWith v cache a content → Adopts v first next content a b → PlansArchive v.root cache a b new next
adopts_archive v first mid plan new next None closed map pushes a b cache store adopts = absurd store
adopts_archive v first mid plan new next (Some k) closed map pushes a b cache own adopts =
    let epochs = closed.epochs k cache a b.entries own (adopts.planned cache own) in
    let form_is : v.root.config.form ≡ b.config.form = ap (λ (c : Config). c.form) (own.keeps.names.config ∙ sym adopts.config) in
    let entries_so : mid.planned.entries ≡ stored_after v.root.config.form [] b.entries = epochs.entries ∙ ap (λ (c : Config). stored_after c.form [] b.entries) (sym own.keeps.names.config) in
    let lines_are = map.1 b.entries entries_so adopts.valid.order ∙ ap (λ (g : Form). records_from g (messages b.entries) 1 (next - 1)) form_is in
    adopted_archive v.root mid.planned plan new next map.0 v.root.config.form map.2 pushes cache a b adopts.valid adopts.config adopts.next_is epochs lines_are
