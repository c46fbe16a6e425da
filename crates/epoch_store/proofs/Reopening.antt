-- An archive is opened: its files stand for the same before the sync and after it, and the store
-- keeps it.
use Rattle.std.specs.Prelude.{◌≡◌, ◌-◌, ◌*◌, ◌<◌, ◌≤◌, ℕ, zero, suc, List, [], ◌∷◌, length, take, get_or, unwrap_or, Option, Some, None, Result, Err, refl}
use Rattle.std.specs.List.{flat_map}
use Rattle.std.proofs.Common.{◌∙◌, sym, ap, subst, inl, inr, arith, length-take}
use Rattle.std.proofs.lemmas.Bool.{cases_lt}
use Rattle.disk_model.specs.declared.name.FileName.{FileName}
use Rattle.disk_model.specs.Disk.{File, Files, Content, Image, BothTold, WhereTold, Synced, bytes_of, ReadsFit}
use Rattle.disk_model.specs.Sizes.{record_size}
use Rattle.disk_model.specs.Synced.{settled_image}
use Rattle.disk_model.specs.Tells.{told_then, told_where}
use Rattle.arch_model.specs.Archives.{Archive, in_epoch}
use Rattle.arch_model.specs.Epochs.{epoch_bytes}
use Rattle.arch_model.specs.declared.opening.OpenRefusal.{OpenRefusal}
use Rattle.arch_model.specs.declared.opening.OpenRefusal.TheVariants.{NoArchive, Damaged, DiskFault, NoMemory}
use Rattle.number_map.specs.Records.{record_bytes}
use Rattle.number_map.specs.Sizes.{records_length}
use Rattle.root_slots.specs.declared.root.Root.{Root}
use Rattle.root_slots.specs.Laws.{SpellingsDiffer}
use Rattle.root_slots.specs.RootName.{root_name}
use Rattle.root_slots.specs.Each.{IfThere}
use Rattle.root_slots.specs.Slots.{slot_number, Current, HasRoot, body_at}
use Rattle.root_slots.specs.Slots as slots
use Rattle.root_slots.specs.Sizes.{spelling_length}
use Rattle.root_slots.specs.Spelling.{spelling}
use Rattle.root_slots.specs.Valid.{no_place}
use Rattle.root_change.specs.Names.{named_end, named_some}
use Rattle.root_change.specs.Texts.{Texts, StandsFor, OnDisk, Fronts}
use Rattle.root_change.specs.Parts.{texts_of}
use Rattle.root_change.proofs.Phases.{current_has}
use Rattle.root_change.proofs.Roots.{none_at_most}
use Rattle.root_change.proofs.Grown.{epoch_isnt_root, map_isnt_root, epoch_is_named, map_is_named}
use Rattle.store_finding.specs.declared.entries.StoredEntry.{StoredEntry}
use Rattle.store_finding.specs.declared.finding.Found.{Found}
use Rattle.store_finding.specs.Files.{map_file_of, epoch_file_of, as_read}
use Rattle.store_finding.specs.Finding.{FindsStore, IsFoundIn, IsCurrentRoot, IsDamagedFile}
use Rattle.store_finding.specs.Joined.{AreBefore}
use Rattle.epoch_store.specs.Laws.{RecoversOne, OpenedStands}
use Rattle.store_finding.specs.Openings.{archive_of, cache_in, HasMap, OpenedRecovers, RecoversUndamaged}
use Rattle.epoch_store.specs.Opens.{RecoversOfWith, AllRecoverWith, ReadsWith, OpensFiles, OpensNone, IsOpenedIn, IsWant, IsOnlySynced, SyncsBy, OnSynced}
use Rattle.epoch_store.specs.Reads.{HasTexts}
use Rattle.store_finding.specs.Recovery.{parts_of, RecoversWith, RecoversArchiveBy}
use Rattle.epoch_store.specs.Settling.{IsFoundDisk, IsSettledRoot, FoundOn, KeepsSlots, IsSettledBy}
use Rattle.store_finding.specs.Kept.{StoreState, IsStoreWith, InEpochs, stored_after}
use Rattle.epoch_store.specs.Commands.{StoreHasSizes}
use Rattle.epoch_store.proofs.TextsOpened.{fronts-kept, texts-stand}
use Rattle.epoch_store.proofs.Readying.{slots_size}
use Rattle.store_finding.proofs.UniqueRoots.{root_is_one, not_shut}

-- What is found after a sync is found of the files as they read before it.
pub found_before : (result : Result Found OpenRefusal) (k m : Option Content) → BothTold Synced k m → WhereTold (λ c. FindsStore (as_read c) result) m → WhereTold (λ c. FindsStore (as_read c) result) k
found_before result None m synced found = tt
found_before result (Some k) None synced found = absurd synced
found_before result (Some k) (Some m) synced found = subst (λ (files : Files). FindsStore files result) (λ i. λ (name : FileName). synced.seen name i) found

-- An epoch below 64 is one up to 63.
pub in_epochs : (es : List StoredEntry) → AreBefore 64 es → InEpochs es
in_epochs [] before i e is = let wrong : None ≡ Some e = is in cc
in_epochs (x ∷ xs) before zero e is =
    let low = before.0 in
    subst (λ (s : StoredEntry). s.epoch ≤ 63) (ap (λ (o : Option StoredEntry). unwrap_or o e) is) (omega (arith, low))
in_epochs (x ∷ xs) before (suc i) e is = in_epochs xs before.1 i e is

-- A root file with a current root has its size.
sized_root : (slot : ℕ) (body : List ℕ) (file : File) → IfThere (Current slot body) file → length (bytes_of file) ≡ 4096
sized_root slot body None there = absurd there
sized_root slot body (Some bytes) there = there.size

-- Files that stand for texts still do after the sync.
found_so : (root : Root) (slot : ℕ) (texts : Texts) (k m : Content) → IsOnlySynced k m → IsCurrentRoot root slot (as_read k) → StandsFor root texts (as_read k) → IsFoundDisk root slot texts m
found_so root slot texts k m synced current stands =
    let one : as_read m ≡ as_read k = (λ i. λ (name : FileName). synced.seen name i) in
    record {
      files_are = record {
        in_range = current.in_range;
        settled = synced.settled;
        current = subst (IfThere (Current slot (spelling root))) (sym (synced.seen root_name)) current.current;
      };
      stands = subst (StandsFor root texts) (sym one) stands;
    }

-- Files stand for an archive by their current root.
by_current : SpellingsDiffer → (files : Files) (cache : List ℕ) (a : Archive) (root : Root) (slot : ℕ) → RecoversWith cache files a → IsCurrentRoot root slot files → RecoversArchiveBy root cache files a
by_current spellings files cache a root slot r is =
    let there = current_has slot (spelling root) (files root_name) is.current in
    let one : r.0 ≡ root = spellings r.0 root r.1.names.fits is.fits r.1.names.is_root is.is_root (root_is_one (files root_name) (spelling r.0) (spelling root) r.1.stands.current there) in
    subst (λ (s : Root). RecoversArchiveBy s cache files a) one r.1

module _ (found : Found) (files : Files) (is : IsFoundIn files found) where
  root : Root
  root = found.root

  -- The files have this root.
  has_root : IfThere (HasRoot (spelling found.root)) (files root_name)
  has_root = current_has (slot_number found.slot) (spelling found.root) (files root_name) is.root.current

  -- The archive's entries are those that were read.
  kept_is : RecoversOne → OpenedRecovers → (cache : List ℕ) (a : Archive) → RecoversArchiveBy found.root cache files a → found.entries.items ≡ stored_after a.config.form [] a.entries
  kept_is one opened cache a r =
      let map : HasMap found.root files is.records = record { is_root = is.root.is_root; fits = is.root.fits; current = has_root; count = is.has.count; begins = is.has.begins } in
      let read = opened found.root files is.records is.read.entries map is.read.opened in
      let same : archive_of found.root is.read.entries ≡ a = one files (archive_of found.root is.read.entries) a (cache_in found.root files) cache (found.root, read) (found.root, r) in
      is.read.kept_are ∙ ap (λ (b : Archive). stored_after b.config.form [] b.entries) same

-- Files of which a store is opened stand for an archive that it keeps.
pub opened_stands : OpenedRecovers → OpenedStands
opened_stands opened files v is =
    let there = current_has v.slot (spelling v.root) (files root_name) is.root.current in
    let map : HasMap v.root files is.records = record { is_root = is.root.is_root; fits = is.root.fits; current = there; count = is.has.count; begins = is.has.begins } in
    let r = opened v.root files is.records is.read.entries map is.read.opened in
    (archive_of v.root is.read.entries, (v.root, r), record { valid = r.valid; names = r.names; kept = is.read.kept_are })

-- The texts of what was found of an archive.
abbrev pub texts_found : Found → List ℕ → Archive → Texts
texts_found found cache a = texts_of found.root (parts_of a cache)

-- What was found of an archive is found so after the sync.
found_archive : (found : Found) (cache : List ℕ) (a : Archive) (k m : Content) → IsFoundIn (as_read k) found → RecoversArchiveBy found.root cache (as_read k) a → IsOnlySynced k m → IsFoundDisk found.root (slot_number found.slot) (texts_found found cache a) m
found_archive found cache a k m is r synced =
    found_so found.root (slot_number found.slot) (texts_found found cache a) k m synced is.root r.stands

-- The view of what was found.
abbrev pub view_of : Found → StoreState
view_of found = record { root = found.root; slot = slot_number found.slot; entries = found.entries.items }

-- What is answered of what was found, of an error of reading, and of one that says nothing of the files.
pub opens_view : (found : Found) (k : Option Content) → WhereTold (λ c. IsFoundIn (as_read c) found) k → WhereTold (λ c. IsOpenedIn (as_read c) (view_of found)) k
opens_view found None is = tt
opens_view found (Some k) is = record { records = is.records; root = is.root; has = is.has; read = is.read }

pub opens_refused : (refusal : OpenRefusal) (k : Option Content) → WhereTold (λ c. FindsStore (as_read c) (Err refusal)) k → WhereTold (λ c. OpensFiles (as_read c) (Err refusal)) k
opens_refused refusal None is = tt
opens_refused NoArchive (Some k) is = is
opens_refused (Damaged file at) (Some k) is = is
opens_refused DiskFault (Some k) is = tt
opens_refused NoMemory (Some k) is = tt

pub opens_want : (refusal : OpenRefusal) (k : Option Content) → IsWant refusal → WhereTold (λ c. OpensFiles (as_read c) (Err refusal)) k
opens_want refusal None is = tt
opens_want NoArchive (Some k) is = absurd is
opens_want (Damaged file at) (Some k) is = absurd is
opens_want DiskFault (Some k) is = tt
opens_want NoMemory (Some k) is = tt

-- Files of which an archive was found can be opened.
pub opens_found : (found : Found) (k : Option Content) → WhereTold (λ c. IsFoundIn (as_read c) found) k → OpensNone k → ⊥
opens_found found None is none = none
opens_found found (Some k) is none = none (view_of found) (opens_view found (Some k) is)

-- A file with the bytes that count has at least as many.
still_long : (root : Root) (name : FileName) (k n : Content) → named_end root name ≤ length (bytes_of (k name).seen) → take (named_end root name) (bytes_of (n name).seen) ≡ take (named_end root name) (bytes_of (k name).seen) → named_end root name ≤ length (bytes_of (n name).seen)
still_long root name k n long same =
    let sizes : length (take (named_end root name) (bytes_of (n name).seen)) ≡ length (take (named_end root name) (bytes_of (k name).seen)) = ap length same in
    omega (arith, long, sizes, length-take {A = ℕ} (named_end root name) (bytes_of (n name).seen), length-take {A = ℕ} (named_end root name) (bytes_of (k name).seen))

-- The files have their sizes at the end, with or without a cache.
sized_so : (found : Found) (k n : Content) → IsFoundIn (as_read k) found → IsSettledBy found.root (slot_number found.slot) k n → StoreHasSizes (view_of found) n
sized_so found k n is kept = record {
  root =
      let slot = slot_number found.slot in
      let body = spelling found.root in
      slots_size slot body (bytes_of (k root_name).seen) (bytes_of (n root_name).seen) is.root.in_range (spelling_length found.root is.root.fits.name is.root.fits.count) (sized_root slot body (k root_name).seen is.root.current) kept.slots;
  map_long = map_there;
  epochs_long = λ e below. elim (cases_lt 0 (get_or found.root.epochs e no_place).length) [
    | inl some ↦ epoch_there e below some
    | inr none ↦ none_at_most (get_or found.root.epochs e no_place).length (length (bytes_of (n (epoch_file_of found.root e)).seen)) (omega (arith, none))
  ];
} where
  map_there : found.root.map.length ≤ length (bytes_of (n (map_file_of found.root)).seen)
  map_there =
      let name = map_file_of found.root in
      let end_ : named_end found.root name ≡ found.root.map.length = named_some found.root name (map_is_named found.root found.root.map.generation refl) in
      let form = found.root.config.form in
      let size = records_length form 1 is.records is.has.begins.valid in
      let spelled : length (take (record_size form * length is.records) (bytes_of (k name).seen)) ≡ length (flat_map record_bytes is.records) = ap (λ (b : List ℕ). length b) is.has.begins.spelled in
      let long = is.root.is_root.map_length in
      let count = ap (λ (n : ℕ). record_size form * n) is.has.count in
      let was : named_end found.root name ≤ length (bytes_of (k name).seen) = omega (arith, end_, size, spelled, long, count, length-take {A = ℕ} (record_size form * length is.records) (bytes_of (k name).seen)) in
      let now = still_long found.root name k n was (kept.fronts name (map_isnt_root found.root.map.generation)) in
      omega (arith, now, end_)

  epoch_there : (e : ℕ) → e < 64 → 0 < (get_or found.root.epochs e no_place).length → (get_or found.root.epochs e no_place).length ≤ length (bytes_of (n (epoch_file_of found.root e)).seen)
  epoch_there e below some =
      let name = epoch_file_of found.root e in
      let end_ : named_end found.root name ≡ (get_or found.root.epochs e no_place).length = named_some found.root name (epoch_is_named found.root e (get_or found.root.epochs e no_place).generation below some refl) in
      let whole = is.read.opened.whole.lengths e below in
      let front = (is.read.opened.whole.fronts e below).long in
      let was : named_end found.root name ≤ length (bytes_of (k name).seen) = omega (arith, end_, whole, front) in
      let now = still_long found.root name k n was (kept.fronts name (epoch_isnt_root e (get_or found.root.epochs e no_place).generation)) in
      omega (arith, now, end_)

-- What settling keeps of the files after the sync it keeps of those before.
settled_since : (root : Root) (slot : ℕ) (k m n : Content) → IsOnlySynced k m → IsSettledBy root slot m n → IsSettledBy root slot k n
settled_since root slot k m n synced kept = record {
  gone = kept.gone;
  short = kept.short;
  fronts = λ name apart. kept.fronts name apart ∙ ap (λ (file : File). take (named_end root name) (bytes_of file)) (synced.seen name);
  slots = subst (λ (file : File). KeepsSlots slot (spelling root) (bytes_of file) (bytes_of (n root_name).seen)) (synced.seen root_name) kept.slots;
}

pub opened_kept : (root : Root) (slot : ℕ) (k m n : Option Content) → BothTold IsOnlySynced k m → BothTold (IsSettledBy root slot) m n → BothTold (IsSettledBy root slot) k n
opened_kept root slot k m n synced kept = told_then IsOnlySynced (IsSettledBy root slot) (IsSettledBy root slot) k m n (λ a b c is told one two. settled_since root slot a b c one two) synced kept

-- The current root that was found, once the disk is synced.
pub found_root : (found : Found) (k m : Option Content) → WhereTold (λ c. IsFoundIn (as_read c) found) k → BothTold IsOnlySynced k m → WhereTold (IsSettledRoot (slot_number found.slot) (spelling found.root)) m
found_root found k m is synced = told_where IsOnlySynced (λ c. IsFoundIn (as_read c) found) (IsSettledRoot (slot_number found.slot) (spelling found.root)) k m (λ a b before after one had. record {
  in_range = had.root.in_range;
  settled = one.settled;
  current = subst (IfThere (Current (slot_number found.slot) (spelling found.root))) (sym (one.seen root_name)) had.root.current;
}) synced is

pub opened_sizes : (found : Found) (k m n : Option Content) → WhereTold (λ c. IsFoundIn (as_read c) found) k → BothTold IsOnlySynced k m → BothTold (IsSettledBy found.root (slot_number found.slot)) m n → WhereTold (StoreHasSizes (view_of found)) n
opened_sizes found k m n is synced kept =
    told_where (IsSettledBy found.root (slot_number found.slot)) (λ c. IsFoundIn (as_read c) found) (StoreHasSizes (view_of found)) k n (λ a b before after settled has. sized_so found a b has settled)
    (opened_kept found.root (slot_number found.slot) k m n synced kept) is

-- A file starts with no bytes.
none_fronts : (bytes : List ℕ) (file : File) → length bytes ≡ 0 → Fronts bytes file
none_fronts [] file none = record { long = omega arith; front = refl }
none_fronts (b ∷ bytes) file none = absurd (omega (arith, none))

-- The texts that were read are in their places at the end.
texts_so : (found : Found) (k n : Content) → IsFoundIn (as_read k) found → IsSettledBy found.root (slot_number found.slot) k n → HasTexts (view_of found) n
texts_so found k n is kept = texts-stand (view_of found) is.read.entries n is.read.kept_are is.read.opened.first.valid (λ e below. elim (cases_lt 0 (get_or found.root.epochs e no_place).length) [
  | inl some ↦ there e below some
  | inr none ↦ none_fronts (epoch_bytes found.root.config.form (in_epoch is.read.entries e)) (n (epoch_file_of found.root e)).seen (let whole = is.read.opened.whole.lengths e below in omega (arith, whole, none))
]) where
  there : (e : ℕ) → e < 64 → 0 < (get_or found.root.epochs e no_place).length → Fronts (epoch_bytes found.root.config.form (in_epoch is.read.entries e)) (n (epoch_file_of found.root e)).seen
  there e below some =
      let name = epoch_file_of found.root e in
      let end_ : named_end found.root name ≡ (get_or found.root.epochs e no_place).length = named_some found.root name (epoch_is_named found.root e (get_or found.root.epochs e no_place).generation below some refl) in
      let count : named_end found.root name ≡ length (epoch_bytes found.root.config.form (in_epoch is.read.entries e)) = end_ ∙ is.read.opened.whole.lengths e below in
      fronts-kept (epoch_bytes found.root.config.form (in_epoch is.read.entries e)) (k name).seen (n name).seen (is.read.opened.whole.fronts e below)
      (subst (λ (m : ℕ). take m (bytes_of (n name).seen) ≡ take m (bytes_of (k name).seen)) count (kept.fronts name (epoch_isnt_root e (get_or found.root.epochs e no_place).generation)))

pub opened_texts : (found : Found) (k m n : Option Content) → WhereTold (λ c. IsFoundIn (as_read c) found) k → BothTold IsOnlySynced k m → BothTold (IsSettledBy found.root (slot_number found.slot)) m n → WhereTold (HasTexts (view_of found)) n
opened_texts found k m n is synced kept =
    told_where (IsSettledBy found.root (slot_number found.slot)) (λ c. IsFoundIn (as_read c) found) (HasTexts (view_of found)) k n (λ a b before after settled has. texts_so found a b has settled)
    (opened_kept found.root (slot_number found.slot) k m n synced kept) is

-- A crash before anything is done leaves files of one of these archives.
pub at_first : (cache : List ℕ) (may : List (Option Archive)) (k : Option Content) (image : Files) → AllRecoverWith cache may k → Image k image → RecoversOfWith cache may image
at_first cache may None image all left = absurd all
at_first cache may (Some k) image all left = all image left

module _ (spellings : SpellingsDiffer) where
  -- The store is the archive's, and the disk its own.
  pub opened_store : RecoversOne → OpenedRecovers → (found : Found) (cache : List ℕ) (a : Archive) (k m n : Option Content) → WhereTold (λ c. IsFoundIn (as_read c) found) k → ReadsWith cache a k → BothTold IsOnlySynced k m
      → ((texts : Texts) → FoundOn found.root (slot_number found.slot) texts m → OnDisk found.root (1 - slot_number found.slot) texts n) → IsStoreWith (view_of found) cache a n
  opened_store one opened found cache a None m n is reads synced done = absurd reads
  opened_store one opened found cache a (Some k) None n is reads synced done = absurd synced
  opened_store one opened found cache a (Some k) (Some m) n is reads synced done =
      let r = by_current spellings (as_read k) cache a found.root (slot_number found.slot) reads is.root in
      of_disk n (done (texts_found found cache a) (found_archive found cache a k m is r synced)) where
        of_disk : (n : Option Content) → OnDisk found.root (1 - slot_number found.slot) (texts_found found cache a) n → IsStoreWith (view_of found) cache a n
        of_disk None on = absurd on
        of_disk (Some n) on =
            let r = by_current spellings (as_read k) cache a found.root (slot_number found.slot) reads is.root in
            record { keeps = record { valid = r.valid; names = r.names; kept = kept_is found (as_read k) is one opened cache a r }; cache_fits = r.cache_fits; on = on }

  -- While the disk is settled, files stand for an archive that they might have stood for.
  pub opening_stands : (cache : List ℕ) (may : List (Option Archive)) (found : Found) (k m : Option Content) → ReadsFit k → WhereTold (λ c. IsFoundIn (as_read c) found) k → AllRecoverWith cache may k → BothTold IsOnlySynced k m
      → (a : Archive) × FoundOn found.root (slot_number found.slot) (texts_found found cache a) m × ((image : Files) → StandsFor found.root (texts_found found cache a) image → RecoversOfWith cache may image)
  opening_stands cache may found None m fit is all synced = absurd all
  opening_stands cache may found (Some k) None fit is all synced = absurd synced
  opening_stands cache may found (Some k) (Some m) fit is all synced = of_one (all (as_read k) (λ name. fit k refl name)) where
    of_one : RecoversOfWith cache may (as_read k) → (a : Archive) × FoundOn found.root (slot_number found.slot) (texts_found found cache a) (Some m) × ((image : Files) → StandsFor found.root (texts_found found cache a) image → RecoversOfWith cache may image)
    of_one (None, in_may, shut) = absurd (not_shut (as_read k root_name) (spelling found.root) (has_root found (as_read k) is) shut)
    of_one (Some a, in_may, recovers) =
        let r = by_current spellings (as_read k) cache a found.root (slot_number found.slot) recovers is.root in
        (a, found_archive found cache a k m is r synced, λ image stands. (Some a, in_may, (found.root, record { valid = r.valid; names = r.names; cache_fits = r.cache_fits; stands = stands })))

  -- While the disk is settled, files stand for the archive as which they read.
  pub reading_stands : (found : Found) (cache : List ℕ) (a : Archive) (k m : Option Content) → WhereTold (λ c. IsFoundIn (as_read c) found) k → ReadsWith cache a k → BothTold IsOnlySynced k m
      → FoundOn found.root (slot_number found.slot) (texts_found found cache a) m × ((image : Files) → StandsFor found.root (texts_found found cache a) image → RecoversWith cache image a)
  reading_stands found cache a None m is reads synced = absurd reads
  reading_stands found cache a (Some k) None is reads synced = absurd synced
  reading_stands found cache a (Some k) (Some m) is reads synced =
      let r = by_current spellings (as_read k) cache a found.root (slot_number found.slot) reads is.root in
      (found_archive found cache a k m is r synced, λ image stands. (found.root, record { valid = r.valid; names = r.names; cache_fits = r.cache_fits; stands = stands }))

  -- Files that stand for an archive are opened.
  module _ (undamaged : RecoversUndamaged) (files : Files) (cache : List ℕ) (a : Archive) (recovers : RecoversWith cache files a) where
    -- Their current root is a root.
    root_undamaged : (at : ℕ) (file : File) → IfThere (HasRoot (spelling recovers.0)) file → slots.SpellsNoRoot at (bytes_of file) → ⊥
    root_undamaged at None there damaged = absurd there
    root_undamaged at (Some bytes) there damaged =
        damaged.none recovers.0 recovers.1.names.fits recovers.1.names.is_root
        (root_is_one (Some bytes) (body_at bytes damaged.slot) (spelling recovers.0) (damaged.slot, damaged.current) there)

    no_damage : (file : FileName) (at : ℕ) → IsDamagedFile files file at → ⊥
    no_damage file at (inl d) = root_undamaged at (files root_name) recovers.1.stands.current d.damaged
    no_damage file at (inr (inl d)) = (undamaged d.root files a cache (by_current spellings files cache a d.root d.slot recovers d.current)).0 at d.damaged
    no_damage file at (inr (inr d)) =
        let r = by_current spellings files cache a d.root d.slot recovers d.current in
        let map : HasMap d.root files d.records = record {
          is_root = d.current.is_root;
          fits = d.current.fits;
          current = current_has d.slot (spelling d.root) (files root_name) d.current.current;
          count = d.has.count;
          begins = d.has.begins;
        } in
        (undamaged d.root files a cache r).1 d.records d.epoch at map d.first

    finds_well : (refusal : OpenRefusal) → FindsStore files (Err refusal) → IsWant refusal
    finds_well NoArchive shut = absurd (not_shut (files root_name) (spelling recovers.0) recovers.1.stands.current shut)
    finds_well (Damaged file at) damaged = absurd (no_damage file at damaged)
    finds_well DiskFault found = tt
    finds_well NoMemory found = tt

  pub opens_well : RecoversUndamaged → (cache : List ℕ) (a : Archive) (k : Option Content) (refusal : OpenRefusal) → ReadsWith cache a k → WhereTold (λ c. FindsStore (as_read c) (Err refusal)) k → IsWant refusal
  opens_well undamaged cache a None refusal reads finds = absurd reads
  opens_well undamaged cache a (Some k) refusal reads finds = finds_well undamaged (as_read k) cache a reads refusal finds

-- What a crash leaves of a disk that was only synced stands for the archive as which its files read.
pub synced_recovers : (cache : List ℕ) (a : Archive) (k m : Option Content) (image : Files) → ReadsWith cache a k → BothTold IsOnlySynced k m → Image m image → RecoversWith cache image a
synced_recovers cache a None m image reads synced left = absurd reads
synced_recovers cache a (Some k) None image reads synced left = absurd synced
synced_recovers cache a (Some k) (Some m) image reads synced left =
    let one : image ≡ as_read m = (λ i. λ (name : FileName). settled_image m image synced.settled left name i) in
    let two : as_read m ≡ as_read k = (λ i. λ (name : FileName). synced.seen name i) in
    subst (λ (files : Files). RecoversWith cache files a) (sym (one ∙ two)) reads

-- A refusal of a call after the sync comes after it.
pub refused_first : (T U P : Type 0) (why : OpenRefusal) (k m : Option Content) → SyncsBy {T = T} (Err why) k m → (BothTold IsOnlySynced k m → P) → OnSynced {T = U} (Err why) P
refused_first T U P NoArchive k m synced so = so synced
refused_first T U P (Damaged file at) k m synced so = so synced
refused_first T U P DiskFault k m synced so = tt
refused_first T U P NoMemory k m synced so = so synced

-- So does one of a later call.
pub on_synced : (U P : Type 0) (why : OpenRefusal) → P → OnSynced {T = U} (Err why) P
on_synced U P NoArchive so = so
on_synced U P (Damaged file at) so = so
on_synced U P DiskFault so = tt
on_synced U P NoMemory so = so
