-- The files of an archive, part by part.
use Rattle.std.specs.Prelude.{◌≡◌, ◌≢◌, ◌-◌, ◌*◌, ◌<◌, ◌≤◌, ◌==◌, nat_lt, ℕ, Bool, true, false, if◌then◌else◌, List, [], ◌∷◌, length, take, get_or, Option, Some, None, refl}
use Rattle.std.specs.List.{AllByRecursion}
use Rattle.std.proofs.Common.{◌∙◌, sym, ap, subst, inl, inr, arith}
use Rattle.std.proofs.lemmas.Bool.{cases_lt, and_from}
use Rattle.std.proofs.lemmas.Bool.Decides.{nat_tests}
use Rattle.std.proofs.lemmas.List.{get_or_past, nil_from_length}
use Rattle.disk_model.specs.declared.name.FileKind.{FileKind}
use Rattle.disk_model.specs.declared.name.FileKind.TheVariants as kind
use Rattle.disk_model.specs.declared.name.FileName.{FileName}
use Rattle.disk_model.specs.Name.{kind_index}
use Rattle.disk_model.specs.Disk.{File, Files, Content, bytes_of}
use Rattle.disk_model.specs.Sizes.{record_size}
use Rattle.arch_model.specs.Archives.{Entry, Archive, in_epoch}
use Rattle.arch_model.specs.Epochs.{epoch_bytes}
use Rattle.arch_model.specs.Validity.{IsEntry, IsArchive}
use Rattle.root_slots.specs.declared.root.Place.{Place}
use Rattle.root_slots.specs.declared.root.Root.{Root}
use Rattle.root_slots.specs.RootName.{root_name}
use Rattle.root_slots.specs.Each.{IfThere}
use Rattle.root_slots.specs.Slots.{HasRoot}
use Rattle.root_slots.specs.Spelling.{spelling}
use Rattle.root_slots.specs.Valid.{no_place}
use Rattle.root_change.specs.Names.{cache_name, has_place, named_by, named_some, names_file, place_of}
use Rattle.root_change.specs.Texts.{Texts, Fronts, StandsFor, IsExact, Measures}
use Rattle.root_change.specs.Parts.{texts_of, PartsFit, IsOwnOfParts}
use Rattle.root_change.proofs.Drops.{true_or_false, named, named_root, named_map, named_cache, named_number, named_epoch}
use Rattle.root_change.proofs.Phases.{counted_equal, counted_none}
use Rattle.root_change.proofs.Roots.{same_test, less_test}
use Rattle.root_change.proofs.Changes.{text_named, text_unnamed, parts_measure}
use Rattle.root_change.proofs.Grown.{epoch_isnt_root, map_isnt_root, epoch_is_named, map_is_named}
use Rattle.store_finding.specs.Files.{map_file_of, epoch_file_of, cache_file_of}
use Rattle.store_finding.specs.Recovery.{map_bytes, bytes_in, parts_of, NamesArchive, RecoversArchiveBy}
use Rattle.store_finding.specs.Kept.{StoreState, IsDiskWith, IsStoreWith, KeepsArchive}
use Rattle.store_finding.specs.Openings.{cache_in}
use Rattle.store_finding.proofs.Mapped.{map_length}
use Rattle.store_finding.proofs.Opening.{fronts_by}

-- No entry is in an epoch above 63.
pub none_above : (es : List Entry) (n : ℕ) → AllByRecursion IsEntry es → 63 < n → in_epoch es n ≡ []
none_above [] n all above = refl
none_above (e ∷ es) n all above =
    let low = all.0.epoch in
    let other : (e.epoch == n) ≡ false = grind (arith, nat_tests) in
    rw other (none_above es n all.1 above)

-- The file of a cache isn't the root file.
cache_isnt_root : (generation : ℕ) → cache_name generation ≢ root_name
cache_isnt_root generation is = let wrong : kind_index (cache_name generation).kind ≡ kind_index root_name.kind = ap (λ (f : FileName). kind_index f.kind) is in absurd (omega (arith, wrong))

-- A root names the file of its cache, if that has bytes.
cache_is_named : (root : Root) → 0 < root.cache.length → names_file root (cache_file_of root) ≡ true
cache_is_named root some =
    and_from (0 == 0) (has_place root.cache root.cache.generation) (same_test 0 0 refl) (and_from (nat_lt 0 root.cache.length) (root.cache.generation == root.cache.generation) (less_test 0 root.cache.length some) (same_test root.cache.generation root.cache.generation refl))

-- The length of the map that a root names for an archive.
pub map_long : (root : Root) (a : Archive) → IsArchive a → NamesArchive root a → root.map.length ≡ length (map_bytes a)
map_long root a valid names = names.is_root.map_length ∙ ((λ i. record_size (names.config i).form * (names.next i - 1)) ∙ sym (map_length a valid))

module _ (root : Root) (a : Archive) (cache : List ℕ) (valid : IsArchive a) (names : NamesArchive root a) (cache_fits : length cache ≤ root.cache.length) where
  -- Each part is as long as the root says, the cache at most so long.
  pub parts_fit : PartsFit root (parts_of a cache)
  parts_fit kind.Root n = refl
  parts_fit kind.Map n = by (n == 0) where
    by : (b : Bool) → length (if b then map_bytes a else []) ≡ (if b then root.map else no_place).length
    by true = sym (map_long root a valid names)
    by false = refl
  parts_fit kind.Epoch n = elim (cases_lt n 64) [
    | inl below ↦ sym (names.epochs n below)
    | inr above ↦
        let count = names.fits.count in
        ap (λ (es : List Entry). length (epoch_bytes a.config.form es)) (none_above a.entries n valid.entries (omega (arith, above)))
        ∙ sym (ap (λ (p : Place). p.length) (get_or_past root.epochs n no_place (omega (arith, count, above))))
  ]
  parts_fit kind.Cache n = by (n == 0) where
    by : (b : Bool) → length (if b then cache else []) ≤ (if b then root.cache else no_place).length
    by true = cache_fits
    by false = omega arith

  -- No text is longer than the root says.
  pub texts_measure : Measures root (texts_of root (parts_of a cache))
  texts_measure = parts_measure root (parts_of a cache) parts_fit

-- A file that starts with bytes has just these up to their end.
front_whole : (n : ℕ) (bytes : List ℕ) (file : File) → n ≡ length bytes → Fronts bytes file → take n (bytes_of file) ≡ bytes
front_whole n bytes file size front = ap (λ (m : ℕ). take m (bytes_of file)) size ∙ front.front

-- A file starts with no bytes.
fronts_none : (bytes : List ℕ) (file : File) → length bytes ≡ 0 → Fronts bytes file
fronts_none [] file none = record { long = omega arith; front = refl }
fronts_none (b ∷ bs) file none = absurd (omega (arith, none))

-- Files that stand for an archive have each of its parts at the front of its file, and of the cache what
-- there is of it.
pub record PartFronts (root : Root) (a : Archive) (cache : List ℕ) (image : Files) : Type 0 where
  pub current : IfThere (HasRoot (spelling root)) (image root_name)
  pub map_front : Fronts (map_bytes a) (image (map_file_of root))
  pub epochs_front : (e : ℕ) → e < 64 → Fronts (bytes_in a e) (image (epoch_file_of root e))
  pub cache_is : cache_in root image ≡ cache

module _ (root : Root) (a : Archive) (cache : List ℕ) (valid : IsArchive a) (names : NamesArchive root a) (cache_fits : length cache ≤ root.cache.length) (image : Files) where
  -- The bytes that count of a file that is named are those of its part.
  named_part : StandsFor root (texts_of root (parts_of a cache)) image → (name : FileName) → name ≢ root_name → names_file root name ≡ true → take (place_of root name.kind name.number).length (bytes_of (image name)) ≡ parts_of a cache name.kind name.number
  named_part stands name apart is = ap (λ (n : ℕ). take n (bytes_of (image name))) (sym (named_some root name is)) ∙ (stands.fronts name apart ∙ text_named root (parts_of a cache) name is)

  pub by_part : StandsFor root (texts_of root (parts_of a cache)) image → PartFronts root a cache image
  by_part stands = record {
    current = stands.current;
    map_front = fronts_by root.map.length (map_bytes a) (image (map_file_of root)) (named_part stands (map_file_of root) (map_isnt_root root.map.generation) (map_is_named root root.map.generation refl)) (map_long root a valid names);
    epochs_front = λ e below. elim (cases_lt 0 (get_or root.epochs e no_place).length) [
      | inl some ↦ fronts_by (get_or root.epochs e no_place).length (bytes_in a e) (image (epoch_file_of root e)) (named_part stands (epoch_file_of root e) (epoch_isnt_root e (get_or root.epochs e no_place).generation) (epoch_is_named root e (get_or root.epochs e no_place).generation below some refl)) (names.epochs e below)
      | inr none ↦ fronts_none (bytes_in a e) (image (epoch_file_of root e)) (let long = names.epochs e below in omega (arith, long, none))
    ];
    cache_is = elim (cases_lt 0 root.cache.length) [
      | inl some ↦ named_part stands (cache_file_of root) (cache_isnt_root root.cache.generation) (cache_is_named root some)
      | inr none ↦
          let nothing : root.cache.length ≡ 0 = omega (arith, none) in
          ap (λ (n : ℕ). take n (bytes_of (image (cache_file_of root)))) nothing ∙ sym (nil_from_length cache (omega (arith, cache_fits, none)))
    ];
  }

  pub from_parts : PartFronts root a cache image → StandsFor root (texts_of root (parts_of a cache)) image
  from_parts parts = record {
    current = parts.current;
    fronts = λ name apart. elim (true_or_false (names_file root name)) [
      | inl is ↦ ap (λ (n : ℕ). take n (bytes_of (image name))) (named_some root name is) ∙ (at_kind name.kind name.number name.generation apart is ∙ sym (text_named root (parts_of a cache) name is))
      | inr isnt ↦ counted_none root name (image name) isnt ∙ sym (text_unnamed root (parts_of a cache) name isnt)
    ];
  } where
    at_kind : (t : FileKind) (n g : ℕ) → named t n g ≢ root_name → named_by root t n g ≡ true → take (place_of root t n).length (bytes_of (image (named t n g))) ≡ parts_of a cache t n
    at_kind kind.Root n g apart is = absurd (apart (named_root root n g is))
    at_kind kind.Map n g apart is =
        subst (λ (f : FileName). take (place_of root kind.Map f.number).length (bytes_of (image f)) ≡ parts_of a cache kind.Map f.number) (sym (named_map root n g is))
        (front_whole root.map.length (map_bytes a) (image (map_file_of root)) (map_long root a valid names) parts.map_front)
    at_kind kind.Epoch n g apart is =
        let below = named_number root n g is in
        subst (λ (h : ℕ). take (get_or root.epochs n no_place).length (bytes_of (image (named kind.Epoch n h))) ≡ bytes_in a n) (sym (named_epoch root n g is))
        (front_whole (get_or root.epochs n no_place).length (bytes_in a n) (image (epoch_file_of root n)) (names.epochs n below) (parts.epochs_front n below))
    at_kind kind.Cache n g apart is =
        subst (λ (f : FileName). take (place_of root kind.Cache f.number).length (bytes_of (image f)) ≡ parts_of a cache kind.Cache f.number) (sym (named_cache root n g is)) parts.cache_is

-- The parts of files that stand for an archive by a root.
pub parts_front : (root : Root) (cache : List ℕ) (files : Files) (a : Archive) → RecoversArchiveBy root cache files a → PartFronts root a cache files
parts_front root cache files a r = by_part root a cache r.valid r.names r.cache_fits files r.stands

-- Files that are exactly those of texts stand for them.
pub exact_stands : (root : Root) (texts : Texts) (files : Files) → Measures root texts → IsExact root texts files → StandsFor root texts files
exact_stands root texts files measures exact = record {
  current = exact.current;
  fronts = λ name apart. counted_equal root name (texts name) (files name) (measures name apart) (exact.ends name apart);
}

-- A store keeps its archive, and a cache that is at most as long as its root says.
pub store_keeps : (v : StoreState) (cache : List ℕ) (a : Archive) (k : Option Content) → IsStoreWith v cache a k → KeepsArchive v a
store_keeps v cache a None store = absurd store
store_keeps v cache a (Some k) store = store.keeps

pub store_cache : (v : StoreState) (cache : List ℕ) (a : Archive) (k : Option Content) → IsStoreWith v cache a k → length cache ≤ v.root.cache.length
store_cache v cache a None store = absurd store
store_cache v cache a (Some k) store = store.cache_fits

-- A store's own disk is that of its archive's parts.
pub store_owns : (v : StoreState) (cache : List ℕ) (a : Archive) (k : Option Content) → IsStoreWith v cache a k → IsOwnOfParts v.root (1 - v.slot) (parts_of a cache) k
store_owns v cache a None store = absurd store
store_owns v cache a (Some k) store = record {
  valid = store.keeps.names.is_root;
  fits = store.keeps.names.fits;
  long = parts_fit v.root a cache store.keeps.valid store.keeps.names store.cache_fits;
  on = store.on;
}

-- The parts of a store's own disk as it reads.
pub disk_fronts : (v : StoreState) (cache : List ℕ) (a : Archive) (k : Content) → IsDiskWith v cache a k → PartFronts v.root a cache (λ (name : FileName). (k name).seen)
disk_fronts v cache a k own =
    by_part v.root a cache own.keeps.valid own.keeps.names own.cache_fits (λ (name : FileName). (k name).seen)
    (exact_stands v.root (texts_of v.root (parts_of a cache)) (λ (name : FileName). (k name).seen) (texts_measure v.root a cache own.keeps.valid own.keeps.names own.cache_fits) own.on.exact)
