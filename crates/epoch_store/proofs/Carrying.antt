-- Plans that are carried out: the archive that they leave, and what the store then keeps.
use Rattle.std.specs.Prelude.{◌≡◌, ◌≢◌, ◌⊎◌, ◌+◌, ◌-◌, ◌≤◌, nat_lt, ℕ, Bool, true, false, if◌then◌else◌, List, [], length, get_or, Option, Some, None, refl}
use Rattle.std.proofs.Common.{◌∙◌, sym, ap, subst, inl, inr, arith}
use Rattle.std.proofs.lemmas.Bool.{cases_lt}
use Rattle.disk_model.specs.declared.disk.Disk.{Ghosts as Disk}
use Rattle.disk_model.specs.declared.name.FileKind.{FileKind}
use Rattle.disk_model.specs.declared.name.FileKind.TheVariants as kind
use Rattle.disk_model.specs.declared.name.FileName.{FileName}
use Rattle.disk_model.specs.Disk.{Content, WhereTold, bytes_of}
use Rattle.disk_model.specs.Moments.{LeavesOnly}
use Rattle.root_slots.specs.declared.root.Place.{Place}
use Rattle.root_slots.specs.declared.root.Root.{Root}
use Rattle.root_slots.specs.RootName.{root_name}
use Rattle.root_slots.specs.Valid.{no_place}
use Rattle.root_change.specs.declared.plan.Target.{Target}
use Rattle.root_change.specs.declared.plan.Target.TheVariants.{Anew, Behind}
use Rattle.root_change.specs.Names.{named_by, names_file, named_some, named_none, place_of}
use Rattle.root_change.specs.Parts.{Parts, IsOwnOfParts}
use Rattle.root_change.specs.Rewriting.{IsRootAfter, Plan, RecoversPlanned, map_by, map_planned, place_anew, place_by, place_planned, plan_count, plan_of, rewritten}
use Rattle.root_change.specs.Texts.{HasPartSizes, HasSizes as HasAllSizes}
use Rattle.root_change.proofs.Drops.{named, named_root, named_map, named_number, named_epoch, true_or_false}
use Rattle.root_change.proofs.Grown.{epoch_isnt_root, map_isnt_root, epoch_is_named, map_is_named}
use Rattle.root_change.proofs.Sizes.{end_at_most}
use Rattle.arch_model.specs.Archives.{Archive}
use Rattle.store_finding.specs.declared.entries.StoredEntry.{StoredEntry}
use Rattle.store_finding.specs.Files.{map_file_of, epoch_file_of}
use Rattle.store_planning.specs.Planning.{IsReadyPlan, Planning, PlansArchive}
use Rattle.store_finding.specs.Recovery.{parts_of}
use Rattle.epoch_store.specs.Commands.{StoreHasSizes, RecoversOneOf, GoesOnAnew}
use Rattle.store_finding.specs.Kept.{IsStoreWith, StoreState}
use Rattle.epoch_store.proofs.NextArchive.{IsNext, next_leaves, store_next}
use Rattle.store_finding.proofs.FrontParts.{store_keeps, store_owns}

-- Plans of a store's own disk make the next archive.
module _ (v : StoreState) (cache : List ℕ) (a b : Archive) (p : Planning) (next : ℕ) (k : Option Content) (store : IsStoreWith v cache a k) (made : PlansArchive v.root cache a b p next) where
  planned_next : IsNext (IsRootAfter v.root p.plans next v.root.config.form) (rewritten v.root p.plans (parts_of a cache)) [] b
  planned_next = record {
    valid = made.valid;
    parts_are = made.parts;
    config = λ root after. after.config ∙ ((store_keeps v cache a k store).names.config ∙ sym made.config);
    next = λ root after. after.next ∙ sym made.next_is;
    cache_fits = λ root after. omega arith;
  }

  -- What a crash leaves.
  pub carried_leaves : {D : Type 0} (g : Disk D) (disk new : D) → ((parts : Parts) → IsOwnOfParts v.root (1 - v.slot) parts k → LeavesOnly g disk new (RecoversPlanned v.root p.plans next v.root.config.form parts)) → LeavesOnly g disk new (RecoversOneOf cache a [] b)
  carried_leaves g disk new leaves = next_leaves _ _ [] b planned_next g disk new v cache a k store (leaves (parts_of a cache) (store_owns v cache a k store))

  -- What the store has then.
  pub carried_store : (root : Root) (m : Option Content) → IsRootAfter v.root p.plans next v.root.config.form root → ((parts : Parts) → IsOwnOfParts v.root (1 - v.slot) parts k → IsOwnOfParts root (1 - (1 - v.slot)) (rewritten v.root p.plans parts) m) → IsStoreWith (record { root = root; slot = 1 - v.slot; entries = p.entries }) [] b m
  carried_store root m after done = store_next _ _ [] b planned_next root after (1 - v.slot) p.entries m made.entries (done (parts_of a cache) (store_owns v cache a k store))

-- The files that a store names have at least their sizes, but for the cache.
pub part_sizes : (v : StoreState) (k : Option Content) → WhereTold (StoreHasSizes v) k → WhereTold (HasPartSizes v.root) k
part_sizes v None sizes = tt
part_sizes v (Some k) sizes = record {
  root_file = sizes.root;
  lengths = λ name apart other.
      elim (true_or_false (names_file v.root name)) [
        | inl is ↦ (let at_most = end_at_most v.root name in let enough = by name.kind name.number name.generation apart other is in omega (arith, at_most, enough))
        | inr isnt ↦ (let none = named_none v.root name isnt in omega (arith, none))
      ];
} where
  by : (t : FileKind) (n g : ℕ) → named t n g ≢ root_name → t ≢ kind.Cache → named_by v.root t n g ≡ true → (place_of v.root t n).length ≤ length (bytes_of (k (named t n g)).seen)
  by kind.Root n g apart other is = absurd (apart (named_root v.root n g is))
  by kind.Map n g apart other is =
      subst (λ (f : FileName). (place_of v.root kind.Map f.number).length ≤ length (bytes_of (k f).seen)) (sym (named_map v.root n g is)) sizes.map_long
  by kind.Cache n g apart other is = absurd (other refl)
  by kind.Epoch n g apart other is =
      subst (λ (h : ℕ). (place_of v.root kind.Epoch n).length ≤ length (bytes_of (k (named kind.Epoch n h)).seen)) (sym (named_epoch v.root n g is)) (sizes.epochs_long n (named_number v.root n g is))

-- So have those of a store whose root names files of these sizes.
pub sizes_of_parts : (root : Root) (slot : ℕ) (entries : List StoredEntry) (k : Option Content) → WhereTold (HasPartSizes root) k → WhereTold (StoreHasSizes (record { root = root; slot = slot; entries = entries })) k
sizes_of_parts root slot entries None sizes = tt
sizes_of_parts root slot entries (Some k) sizes = record {
  root = sizes.root_file;
  map_long = subst (λ (n : ℕ). n ≤ length (bytes_of (k (map_file_of root)).seen)) (named_some root (map_file_of root) (map_is_named root root.map.generation refl)) (sizes.lengths (map_file_of root) (map_isnt_root root.map.generation) (λ wrong. absurd cc));
  epochs_long = λ e below. elim (cases_lt 0 (get_or root.epochs e no_place).length) [
    | inl some ↦
        subst (λ (n : ℕ). n ≤ length (bytes_of (k (epoch_file_of root e)).seen)) (named_some root (epoch_file_of root e) (epoch_is_named root e (get_or root.epochs e no_place).generation below some refl))
        (sizes.lengths (epoch_file_of root e) (epoch_isnt_root e (get_or root.epochs e no_place).generation) (λ wrong. absurd cc))
    | inr none ↦ omega (arith, none)
  ];
}

pub sizes_carried : (root : Root) (slot : ℕ) (entries : List StoredEntry) (k : Option Content) → WhereTold (HasAllSizes root) k → WhereTold (StoreHasSizes (record { root = root; slot = slot; entries = entries })) k
sizes_carried root slot entries None sizes = tt
sizes_carried root slot entries (Some k) sizes = sizes_of_parts root slot entries (Some k) (record { root_file = sizes.root_file; lengths = λ name apart other. sizes.lengths name apart })

-- A part stays in its file, or is in one of the new generation, or has no bytes.
pub anew_goes : (n count : ℕ) → ((place_anew n count).generation ≡ n) ⊎ (place_anew n count ≡ no_place)
anew_goes n count = by (nat_lt 0 count) where
  by : (t : Bool) → ((if t then record { generation = n; length = count } else no_place).generation ≡ n) ⊎ ((if t then record { generation = n; length = count } else no_place) ≡ no_place)
  by true = inl refl
  by false = inr refl

target_goes : (n : ℕ) (target : Target) (place : Place) (count : ℕ) → ((place_by n target place count).generation ≡ place.generation) ⊎ (((place_by n target place count).generation ≡ n) ⊎ (place_by n target place count ≡ no_place))
target_goes n Anew place count = inr (anew_goes n count)
target_goes n Behind place count = by (nat_lt 0 place.length) where
  after : Place
  after = record { generation = place.generation; length = place.length + count }

  by : (t : Bool) → ((if t then after else place_anew n count).generation ≡ place.generation) ⊎ (((if t then after else place_anew n count).generation ≡ n) ⊎ ((if t then after else place_anew n count) ≡ no_place))
  by true = inl refl
  by false = inr (anew_goes n count)

plan_goes : (n : ℕ) (plan : Option Plan) (place : Place) → ((place_planned n plan place).generation ≡ place.generation) ⊎ (((place_planned n plan place).generation ≡ n) ⊎ (place_planned n plan place ≡ no_place))
plan_goes n None place = inl refl
plan_goes n (Some plan) place = target_goes n plan.target place (plan_count plan)

-- The new root goes on from the old one.
pub carried_on : (old new : Root) (plans : List Plan) (next : ℕ) → IsReadyPlan old plans next → IsRootAfter old plans next old.config.form new → GoesOnAnew old new
carried_on old new plans next ready after = record {
  sequence = after.sequence;
  config = after.config;
  map =
      ap (λ (q : Place). q.generation) after.map
      ∙ (ap (λ (o : Option Plan). (map_planned (old.sequence + 1) o old.map).generation) ready.map_is
      ∙ (ap (λ (t : Target). (map_by (old.sequence + 1) t old.map (plan_count ready.map_plan)).generation) ready.map_anew ∙ sym after.sequence));
  cache = after.cache;
  epochs = λ e below.
      subst (λ (q : Place). (q.generation ≡ (get_or old.epochs e no_place).generation) ⊎ ((q.generation ≡ new.sequence) ⊎ (q ≡ no_place))) (sym (after.epochs e below))
      (subst (λ (n : ℕ). ((place_planned (old.sequence + 1) (plan_of plans kind.Epoch e) (get_or old.epochs e no_place)).generation ≡ (get_or old.epochs e no_place).generation) ⊎ (((place_planned (old.sequence + 1) (plan_of plans kind.Epoch e) (get_or old.epochs e no_place)).generation ≡ n) ⊎ (place_planned (old.sequence + 1) (plan_of plans kind.Epoch e) (get_or old.epochs e no_place) ≡ no_place))) (sym after.sequence)
      (plan_goes (old.sequence + 1) (plan_of plans kind.Epoch e) (get_or old.epochs e no_place)));
}
