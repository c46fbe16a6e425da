-- An archive without entries, and the files that stand for it.
use Rattle.std.specs.Prelude.{◌≡◌, ◌<◌, ◌==◌, ℕ, Bool, true, false, if◌then◌else◌, List, [], length, take, get_or, Option, Some, None, Ok, IsSome, ◌↔◌, refl}
use Rattle.std.proofs.Common.{◌∙◌, sym, ap, subst, inl, inr, arith}
use Rattle.std.proofs.lemmas.Bool.{cases_lt}
use Rattle.std.proofs.lemmas.List.{get_or-replicate, get_or_past, length-replicate}
use Rattle.std.specs.List.{Contains}
use Rattle.store_finding.specs.Listing.{AreAllNames}
use Rattle.arch_base.specs.declared.config.Config.{Config}
use Rattle.arch_base.specs.Configs.{IsConfig}
use Rattle.arch_base.specs.Names.{IsArchiveName}
use Rattle.disk_model.specs.declared.disk.Disk.{Ghosts as Disk}
use Rattle.disk_model.specs.declared.name.FileKind.{FileKind}
use Rattle.disk_model.specs.declared.name.FileKind.TheVariants as kind
use Rattle.disk_model.specs.declared.name.FileName.{FileName}
use Rattle.disk_model.specs.Disk.{File, Files, Kept, Content, Image, BothTold, WhereTold, Unchanged, Synced, MaySurvive, exact, bytes_of, ReadsFit, Elapses}
use Rattle.disk_model.specs.Synced.{IsSettled}
use Rattle.disk_model.specs.Moments.{LeavesOnly, started, goes_on, joined}
use Rattle.disk_model.specs.Tells.{told_where}
use Rattle.disk_model.specs.Laws.{MaySurvive-Within, MaySurvive-exact, sync_image}
use Rattle.arch_model.specs.Archives.{empty_archive}
use Rattle.root_slots.specs.declared.root.Place.{Place}
use Rattle.root_slots.specs.declared.root.Root.{Root}
use Rattle.root_slots.specs.RootName.{root_name}
use Rattle.root_slots.specs.Each.{IfThere}
use Rattle.root_slots.specs.Slots.{HasFirstRoot, HasRoot, Ready, IsShutFile, EachShut}
use Rattle.root_slots.specs.Spelling.{spelling}
use Rattle.root_slots.specs.Valid.{PlaceFits, no_place}
use Rattle.root_change.specs.Names.{place_of, names_file}
use Rattle.root_change.specs.Texts.{counted, StandsFor}
use Rattle.root_change.specs.Parts.{texts_of}
use Rattle.arch_model.specs.Validity.{IsArchive}
use Rattle.store_finding.specs.Recovery.{map_bytes, parts_of, NamesArchive}
use Rattle.store_finding.specs.Kept.{IsDiskOf}
use Rattle.epoch_store.specs.Commands.{StoreHasSizes}
use Rattle.epoch_store.specs.First.{IsFirstRoot, MakesRoot, MakingLeaves, HasOnly, first_root_of}
use Rattle.root_change.proofs.Drops.{unnamed_apart}
use Rattle.store_finding.proofs.FindingTold.{where_so}
use Rattle.epoch_store.proofs.Making.{first_is_root}

-- An archive without entries is valid.
pub empty_valid : (config : Config) → IsArchiveName config.name → IsConfig config → IsArchive (empty_archive config)
empty_valid config name valid = record { name = name; config = valid; next_least = omega arith; next_most = omega arith; entries = tt; below = tt; order = tt; ends = tt; ids = tt; blobs = tt }

-- All places of the first root are empty.
first_place : (config : Config) (e : ℕ) → e < 64 → get_or (first_root_of config).epochs e no_place ≡ no_place
first_place config e below = get_or-replicate 64 e no_place no_place below

-- The first root names the archive without entries.
pub empty_names : (config : Config) → IsArchiveName config.name → IsConfig config → NamesArchive (first_root_of config) (empty_archive config)
empty_names config name valid = record {
  is_root = first_is_root config valid;
  fits = record {
    name = name;
    sequence = omega arith;
    map = record { generation = omega arith; length = omega arith };
    epochs = λ e below. subst PlaceFits (sym (first_place config e below)) (record { generation = omega arith; length = omega arith });
    count = length-replicate {A = Place} 64 no_place;
    cache = record { generation = omega arith; length = omega arith };
  };
  config = refl;
  next = refl;
  epochs = λ e below. ap (λ (p : Place). p.length) (first_place config e below);
}

-- Each part of an archive without entries is empty, and so is each text of the first root.
empty_either : (b : Bool) (bytes : List ℕ) → bytes ≡ [] → (if b then bytes else []) ≡ []
empty_either true bytes none = none
empty_either false bytes none = refl

no_part : (config : Config) (k : FileKind) (n : ℕ) → parts_of (empty_archive config) [] k n ≡ []
no_part config kind.Root n = refl
no_part config kind.Map n = empty_either (n == 0) (map_bytes (empty_archive config)) refl
no_part config kind.Epoch n = refl
no_part config kind.Cache n = empty_either (n == 0) [] refl

no_text : (config : Config) (name : FileName) → texts_of (first_root_of config) (parts_of (empty_archive config) []) name ≡ []
no_text config name = empty_either (names_file (first_root_of config) name) (parts_of (empty_archive config) [] name.kind name.number) (no_part config name.kind name.number)

-- No byte of a file counts by the first root.
no_end : (config : Config) (b : Bool) (k : FileKind) (n : ℕ) → (if b then (place_of (first_root_of config) k n).length else 0) ≡ 0
no_end config false k n = refl
no_end config true kind.Root n = refl
no_end config true kind.Map n = by (n == 0) where
  by : (b : Bool) → (if b then (first_root_of config).map else no_place).length ≡ 0
  by true = refl
  by false = refl
no_end config true kind.Epoch n = elim (cases_lt n 64) [
  | inl below ↦ ap (λ (p : Place). p.length) (first_place config n below)
  | inr above ↦ ap (λ (p : Place). p.length) (get_or_past (first_root_of config).epochs n no_place (let size : length (first_root_of config).epochs ≡ 64 = length-replicate {A = Place} 64 no_place in omega (arith, above, size)))
]
no_end config true kind.Cache n = by (n == 0) where
  by : (b : Bool) → (if b then (first_root_of config).cache else no_place).length ≡ 0
  by true = refl
  by false = refl

no_front : (config : Config) (name : FileName) (file : File) → counted (first_root_of config) name file ≡ texts_of (first_root_of config) (parts_of (empty_archive config) []) name
no_front config name file = ap (λ (n : ℕ). take n (bytes_of file)) (no_end config (names_file (first_root_of config) name) name.kind name.number) ∙ sym (no_text config name)

-- Files with the first root stand for the archive without entries.
pub empty_stands : (config : Config) (image : Files) → IfThere (HasRoot (spelling (first_root_of config))) (image root_name) → StandsFor (first_root_of config) (texts_of (first_root_of config) (parts_of (empty_archive config) [])) image
empty_stands config image there = record {
  current = there;
  fronts = λ name apart. no_front config name (image name);
}

-- The first root is the current one.
first_there : (body : List ℕ) (file : File) → IfThere (IsFirstRoot body) file → IfThere (HasRoot body) file
first_there body None there = absurd there
first_there body (Some file) there = (0, there.current)

-- What a crash leaves while the root is created.
pub makes_empty : (config : Config) (old k : Option Content) (image : Files) → IsArchiveName config.name → IsConfig config → (k ≡ None → old ≡ None) → WhereTold (λ c. IsShutFile (c root_name).seen) old → MakesRoot (spelling (first_root_of config)) k image → MakingLeaves config old image
makes_empty config old None image name valid same was makes = inl (subst (λ (o : Option Content). Image o image) (sym (same refl)) tt)
makes_empty config old (Some k) image name valid same was (inl shut) = inr (was, inl shut)
makes_empty config old (Some k) image name valid same was (inr there) = inr (was, inr ((first_root_of config, record { valid = empty_valid config name valid; names = empty_names config name valid; cache_fits = omega arith; stands = empty_stands config image (first_there (spelling (first_root_of config)) (image root_name) there) }), there))

-- A root that is ready is there.
root_there : (body : List ℕ) (file : File) → IfThere (Ready 1 body) file → IfThere (HasRoot body) file
root_there body None there = absurd there
root_there body (Some file) there = (0, there.current)

-- What the store has at the end.
pub owns_empty : (config : Config) (k : Option Content) → IsArchiveName config.name → IsConfig config → ReadsFit k → WhereTold (HasOnly (spelling (first_root_of config))) k → WhereTold (IsDiskOf (record { root = first_root_of config; slot = 0; entries = [] }) (empty_archive config)) k
owns_empty config None name valid fit only = tt
owns_empty config (Some k) name valid fit only = record {
  keeps = record { valid = empty_valid config name valid; names = empty_names config name valid; kept = refl };
  cache_fits = omega arith;
  on = record {
    roots = only.roots;
    fronts = λ other apart file fits. no_front config other file;
    exact = record {
      current = root_there (spelling (first_root_of config)) (k root_name).seen (only.roots (k root_name).seen (fit k refl root_name));
      ends = λ other apart. ap bytes_of (only.others other apart) ∙ sym (no_text config other);
      no_other = λ other isnt. only.others other (unnamed_apart (first_root_of config) other isnt);
    };
  };
}

-- All that reads give is on the disk.
pub only_settled : (config : Config) (k : Option Content) → WhereTold (HasOnly (spelling (first_root_of config))) k → WhereTold IsSettled k
only_settled config k only = where_so _ IsSettled k only (λ c has. has.settled)

-- Its root file has the first root, and is otherwise zeros.
pub only_rooted : (config : Config) (k : Option Content) → WhereTold (HasOnly (spelling (first_root_of config))) k → WhereTold (HasFirstRoot (spelling (first_root_of config))) k
only_rooted config k only = where_so _ (HasFirstRoot (spelling (first_root_of config))) k only (λ c has. has.first)

-- Its files have their sizes.
pub sized_empty : (config : Config) (k : Option Content) → ReadsFit k → WhereTold (HasOnly (spelling (first_root_of config))) k → WhereTold (StoreHasSizes (record { root = first_root_of config; slot = 0; entries = [] })) k
sized_empty config None fit only = tt
sized_empty config (Some k) fit only = record {
  root = size_there (k root_name).seen (only.roots (k root_name).seen (fit k refl root_name));
  map_long = omega arith;
  epochs_long = λ e below. (let is : (get_or (first_root_of config).epochs e no_place).length ≡ 0 = ap (λ (p : Place). p.length) (first_place config e below) in omega (arith, is));
} where
  size_there : (file : File) → IfThere (Ready 1 (spelling (first_root_of config))) file → length (bytes_of file) ≡ 4096
  size_there None there = absurd there
  size_there (Some file) there = there.current.size

-- After a sync a crash leaves the root file as it reads.
pub shut_synced : (old new : Option Content) → BothTold Synced old new → WhereTold (λ k. IsShutFile (k root_name).seen) old → EachShut new
shut_synced None None synced shut = tt
shut_synced None (Some m) synced shut = absurd synced
shut_synced (Some k) None synced shut = absurd synced
shut_synced (Some k) (Some m) synced shut = λ file fits.
    let is : file ≡ (k root_name).seen = MaySurvive-exact (k root_name).seen file (MaySurvive-Within (m root_name).sure (exact (k root_name).seen) file (synced.crash root_name) fits) in
    subst IsShutFile (sym is) shut

-- A disk that doesn't change still has no open slot.
pub shut_unchanged : (old new : Option Content) → BothTold Unchanged old new → EachShut old → EachShut new
shut_unchanged None None same shut = tt
shut_unchanged None (Some m) same shut = absurd same
shut_unchanged (Some k) None same shut = absurd same
shut_unchanged (Some k) (Some m) same shut = λ file fits. shut file (subst (λ (kept : Kept). MaySurvive kept.sure file) (same root_name) fits)

-- A disk that doesn't change still has the same names.
pub names_unchanged : (names : List FileName) (old new : Option Content) → BothTold Unchanged old new → WhereTold (AreAllNames names) old → WhereTold (AreAllNames names) new
names_unchanged names old new =
    told_where Unchanged (AreAllNames names) (AreAllNames names) old new
    (λ k m is told same all. record { in_order = all.in_order; all = λ name. subst (λ (kept : Kept). IsSome kept.seen ↔ Contains names name) (sym (same name)) (all.all name) })

-- A sync adds no image.
pub synced_fewer : (old new : Option Content) (image : Files) → ReadsFit old → BothTold Synced old new → Image new image → Image old image
synced_fewer old new image fit synced left = sync_image {T = Unit {0}} {E = Unit {0}} (Ok tt) old new image fit synced tt left

-- A disk that doesn't tell its content at the end didn't tell it before.
pub none_before : (k m n : Option Content) → BothTold Synced k m → BothTold Unchanged m n → n ≡ None → k ≡ None
none_before None m n synced same none = refl
none_before (Some k) None n synced same none = absurd synced
none_before (Some k) (Some m) None synced same none = absurd same
none_before (Some k) (Some m) (Some n) synced same none = let wrong : Some n ≡ None = none in cc

-- An archive is made on a disk on which there is none, from the clauses of the calls.
module _ (config : Config) (name : IsArchiveName config.name) (valid : IsConfig config) (root : Root) (root_is : root ≡ first_root_of config) (k0 k1 k2 : Option Content) (synced : BothTold Synced k0 k1) (same : BothTold Unchanged k1 k2) (shut : WhereTold (λ k. IsShutFile (k root_name).seen) k0) where
  -- What a crash leaves at each moment of it.
  pub making_leaves : {D : Type 0} (g : Disk D) (disk d1 d2 new : D) → ReadsFit k0 → LeavesOnly g disk d1 (Image k0) → LeavesOnly g d1 d2 (Image k1)
      → (EachShut k2 → LeavesOnly g d2 new (MakesRoot (spelling root) k2)) → LeavesOnly g disk new (MakingLeaves config k0)
  making_leaves g disk d1 d2 new fit looks lists makes =
      let P = MakingLeaves config k0 in
      let body = spelling (first_root_of config) in
      let first = joined g disk d1 d2 (Image k0) (Image k1) P looks lists (λ image left. inl left) (λ image left. inl (synced_fewer k0 k1 image fit synced left)) in
      let made : LeavesOnly g d2 new (MakesRoot body k2) =
      subst (λ (r : Root). LeavesOnly g d2 new (MakesRoot (spelling r) k2)) root_is (makes (shut_unchanged k1 k2 same (shut_synced k0 k1 synced shut))) in
      joined g disk d2 new P (MakesRoot body k2) P first made (λ image leaves. leaves) (λ image. makes_empty config k0 k2 image name valid (none_before k0 k1 k2 synced same) shut)

-- At the end only the root is there.
pub makes_only : (config : Config) (root : Root) → root ≡ first_root_of config → (names listed : List FileName) → names ≡ listed → (k1 k2 k3 : Option Content) → BothTold Unchanged k1 k2 → WhereTold (AreAllNames listed) k1
    → (WhereTold (AreAllNames names) k2 → 0 < root.sequence → WhereTold (HasOnly (spelling root)) k3) → WhereTold (HasOnly (spelling (first_root_of config))) k3
makes_only config root root_is names listed names_are k1 k2 k3 same all done =
    let named = names_unchanged names k1 k2 same (subst (λ (l : List FileName). WhereTold (AreAllNames l) k1) (sym names_are) all) in
    subst (λ (r : Root). WhereTold (HasOnly (spelling r)) k3) root_is (done named (subst (λ (r : Root). 0 < r.sequence) (sym root_is) (omega arith)))

-- A sync and a read after it leave what a crash before might have left.
pub looking_leaves : {D : Type 0} (g : Disk D) (disk mid new : D) (k0 k1 : Option Content) → ((image : Files) → g.left_since disk (g.moment disk) image → Image k0 image) → Elapses (g.moment disk) (g.moment mid) (g.left_since disk) (g.left_since mid) k1
    → ((image : Files) → Image k1 image → Image k0 image) → LeavesOnly g mid new (Image k1) → LeavesOnly g disk new (Image k0)
looking_leaves g disk mid new k0 k1 now time fewer looks =
    let first = goes_on g disk disk mid (Image k0) k1 (started g disk (Image k0) now) time fewer in
    joined g disk mid new (Image k0) (Image k1) (Image k0) first looks (λ image left. left) fewer
