-- An archive with one more entry: that it is valid, its parts, and what a store then keeps.
use Rattle.std.specs.Prelude.{◌≡◌, ◌+◌, ◌-◌, ◌^◌, ◌<◌, ◌≤◌, ◌==◌, ℕ, Bool, true, false, if◌then◌else◌, List, [], ◌∷◌, ◌++◌, length, Option, Some, None, Result, refl}
use Rattle.std.specs.List.{AllByRecursion}
use Rattle.std.proofs.Common.{◌∙◌, sym, ap, subst, inl, inr, arith}
use Rattle.std.proofs.lemmas.Bool.Decides.{nat_tests}
use Rattle.std.proofs.lemmas.List.{append-nil}
use Rattle.arch_base.specs.declared.config.Config.{Config}
use Rattle.arch_base.specs.declared.ids.ObjectId.{ObjectId}
use Rattle.arch_base.specs.Moments.{last_moment}
use Rattle.arch_base.specs.declared.ids.Form.{Form}
use Rattle.disk_model.specs.declared.disk.Disk.{Ghosts as Disk}
use Rattle.disk_model.specs.declared.name.FileKind.{FileKind}
use Rattle.disk_model.specs.declared.name.FileKind.TheVariants as file_kind
use Rattle.disk_model.specs.Disk.{Content}
use Rattle.disk_model.specs.Moments.{LeavesOnly}
use Rattle.git_objects.specs.Objects.{blob_id_of}
use Rattle.git_objects.specs.declared.entry_kind.EntryKind.TheVariants.{Message, Deletion}
use Rattle.mail_reader.specs.StorageTexts.{IsStorageText}
use Rattle.arch_model.specs.Archives.{Entry, Archive, live, text_of, in_epoch, with_entry}
use Rattle.arch_model.specs.Delivery.{new_epoch}
use Rattle.arch_model.specs.Epochs.{last_commit}
use Rattle.arch_model.specs.Validity.{IsEntry}
use Rattle.arch_model.proofs.LiveEntries.{live-all, found-has, live-has, all-text}
use Rattle.arch_model.proofs.ValidArchives.{all_weaker, archive_ends, not_before}
use Rattle.epoch_file.specs.declared.entry.NewEntry.{NewEntry}
use Rattle.epoch_file.specs.declared.refusal.StoreRefusal.{StoreRefusal}
use Rattle.epoch_file.specs.Appending.{front_at, appended, entry_of}
use Rattle.epoch_file.specs.Entries.{bytes_after}
use Rattle.root_slots.specs.declared.root.Root.{Root}
use Rattle.root_change.specs.Parts.{Parts, IsOwnOfParts}
use Rattle.root_change.proofs.Roots.{equal_or_not, same_test, other_test}
use Rattle.store_finding.specs.declared.entries.StoredEntry.{StoredEntry}
use Rattle.store_planning.specs.declared.next.NextPlace.{NextPlace}
use Rattle.epoch_store.specs.Entering.{Enters, RecoversEntered, line_by, line_of, numbers_by, parts_with, root_with, with_new}
use Rattle.epoch_store.specs.Promises.{AddsMessage, ChangesStore, EndsMessage, WriteKind}
use Rattle.store_finding.specs.Recovery.{bytes_in, map_bytes, parts_of}
use Rattle.epoch_store.specs.Commands.{Accepts, IsNextPlace, RecoversOneOf, next_sequence}
use Rattle.store_finding.specs.Kept.{IsStoreWith, KeepsArchive, StoreState, stored_after, stored_at}
use Rattle.epoch_store.proofs.CarriedOut.{edited_valid, epoch_low}
use Rattle.store_finding.proofs.Growing.{bytes_here, bytes_other, map_grows, map_stays, stored_more}
use Rattle.epoch_store.proofs.NextArchive.{IsNext, next_leaves, store_next}
use Rattle.store_finding.proofs.FrontParts.{store_cache, store_keeps, store_owns}

-- A number that has a text is below a bound of all.
below_step : (b : Bool) (e : Entry) (rest : Option (List ℕ)) (high n : ℕ) (text : List ℕ) → (e.number == n) ≡ b → e.number < high → (rest ≡ Some text → n < high) → (if b then Some e.text else rest) ≡ Some text → n < high
below_step true e rest high n text test less more is = let same : e.number ≡ n = grind (arith, nat_tests) in omega (arith, same, less)
below_step false e rest high n text test less more is = more is

number_below : (es : List Entry) (high n : ℕ) (text : List ℕ) → AllByRecursion (λ (e : Entry). e.number < high) es → text_of es n ≡ Some text → n < high
number_below [] high n text below is = let wrong : None ≡ Some text = is in cc
number_below (e ∷ es) high n text below is = below_step (e.number == n) e (text_of es n) high n text refl below.0 (number_below es high n text below.1) is

-- A message that is accepted enters with the next number.
pub message_enters : (v : StoreState) (a b : Archive) (text : List ℕ) (moment : ℕ) → KeepsArchive v a → Accepts v text → moment ≤ last_moment → AddsMessage text moment a b → Enters Message v.root.next text moment a b
message_enters v a b text moment keeps accepts in_time adds = subst (Enters Message v.root.next text moment a) (sym adds.is) (subst (λ (n : ℕ). Enters Message n text moment a (with_entry a (new_epoch a) text moment)) (sym keeps.names.next) (record {
  valid = edited_valid a text moment keeps.valid (let left = accepts.number_left in let at = keeps.names.next in let same = ap (λ (c : Config). c.max) keeps.names.config in omega (arith, left, at, same)) accepts.storage (accepts.id a keeps) adds.alone in_time;
  is = refl;
  map_is = map_grows a (new_epoch a) text moment keeps.valid.next_least keeps.valid.below;
}))

-- The deletion of a live number enters.
pub deletion_enters : (v : StoreState) (a b : Archive) (number : ℕ) (text : List ℕ) (moment : ℕ) → KeepsArchive v a → moment ≤ last_moment → EndsMessage number text moment a b → Enters Deletion number text moment a b
deletion_enters v a b number text moment keeps in_time ends = subst (Enters Deletion number text moment a) (sym ends.is) (record {
  valid =
      let has = live-has a.entries text (found-has (live a.entries) number text ends.shown) in
      let storage : AllByRecursion (λ (e : Entry). IsStorageText e.text) a.entries = all_weaker IsEntry (λ (e : Entry). IsStorageText e.text) a.entries (λ e entry. entry.text) keeps.valid.entries in
      archive_ends a number (new_epoch a) text moment keeps.valid (number_below (live a.entries) a.next number text (live-all (λ (e : Entry). e.number < a.next) a.entries keeps.valid.below) ends.shown)
      (record { text = all-text IsStorageText a.entries text storage has; epoch = epoch_low a keeps.valid; moment = in_time }) (not_before a) ends.shown;
  is = λ i. record { config = a.config; entries = a.entries ++ record { kind = Deletion; number = number; epoch = new_epoch a; text = text; moment = moment } ∷ []; next = (let none : a.next ≡ a.next + 0 = omega arith in none) i };
  map_is = map_stays a number (new_epoch a) text moment ∙ sym (append-nil (map_bytes a));
})

-- An entry that enters makes the parts of the next archive.
module _ (v : StoreState) (a b : Archive) (cache : List ℕ) (p : NextPlace) (e : NewEntry) (number : ℕ) (keeps : KeepsArchive v a) (next : IsNextPlace v.root a (next_sequence v.root.sequence) p) (parent : e.parent ≡ p.parent) (form_is : e.form ≡ a.config.form) (enters : Enters e.kind number e.text.now e.moment a b) where
  abbrev new : Entry
  new = record { kind = e.kind; number = number; epoch = p.epoch; text = e.text.now; moment = e.moment }

  abbrev made : Archive
  made = with_new a e.kind number p.epoch e.text.now e.moment

  made_is : made ≡ b
  made_is = ap (λ (n : ℕ). with_new a e.kind number n e.text.now e.moment) next.epoch ∙ sym enters.is

  piece_is : appended p.length e ≡ front_at a.config.form (length (bytes_in a p.epoch)) ++ bytes_after a.config.form (last_commit a.config.form None (in_epoch a.entries p.epoch)) (entry_of e)
  piece_is =
      ap (λ (g : Form). front_at g p.length ++ bytes_after g e.parent (entry_of e)) form_is
      ∙ (ap (λ (n : ℕ). front_at a.config.form n ++ bytes_after a.config.form e.parent (entry_of e)) next.length_is
      ∙ ap (λ (q : Option ObjectId). front_at a.config.form (length (bytes_in a p.epoch)) ++ bytes_after a.config.form q (entry_of e)) (parent ∙ next.parent))

  line_is : line_of v.root p e ≡ line_by e.kind a.next (new_epoch a) (blob_id_of a.config.form e.text.now)
  line_is =
      ap (λ (g : Form). line_by e.kind v.root.next p.epoch (blob_id_of g e.text.now)) form_is
      ∙ (ap (λ (n : ℕ). line_by e.kind n p.epoch (blob_id_of a.config.form e.text.now)) keeps.names.next ∙ ap (λ (n : ℕ). line_by e.kind a.next n (blob_id_of a.config.form e.text.now)) next.epoch)

  parts_are : (k : FileKind) (n : ℕ) → parts_with v.root p e (parts_of a cache) k n ≡ parts_of b cache k n
  parts_are file_kind.Root n = refl
  parts_are file_kind.Cache n = refl
  parts_are file_kind.Map n = by (n == 0) where
    by : (t : Bool) → (if t then map_bytes a ++ line_of v.root p e else (if t then map_bytes a else [])) ≡ (if t then map_bytes b else [])
    by true = ap (λ (l : List ℕ). map_bytes a ++ l) line_is ∙ sym enters.map_is
    by false = refl
  parts_are file_kind.Epoch n = elim (equal_or_not n p.epoch) [
    | inl at ↦
        ap (λ (t : Bool). if t then bytes_in a p.epoch ++ appended p.length e else bytes_in a n) (same_test n p.epoch at)
        ∙ (ap (λ (l : List ℕ). bytes_in a p.epoch ++ l) piece_is ∙ (sym (bytes_here a new) ∙ (ap (λ (m : ℕ). bytes_in made m) (sym at) ∙ ap (λ (c : Archive). bytes_in c n) made_is)))
    | inr apart ↦
        ap (λ (t : Bool). if t then bytes_in a p.epoch ++ appended p.length e else bytes_in a n) (other_test n p.epoch apart)
        ∙ (sym (bytes_other a new n (λ at. apart (sym at))) ∙ ap (λ (c : Archive). bytes_in c n) made_is)
  ]

  entry_next : length cache ≤ v.root.cache.length → IsNext (λ root. root ≡ root_with v.root p e) (parts_with v.root p e (parts_of a cache)) cache b
  entry_next cache_fits = record {
    valid = enters.valid;
    parts_are = parts_are;
    config = λ root is. ap (λ (r : Root). r.config) is ∙ (keeps.names.config ∙ ap (λ (c : Archive). c.config) made_is);
    next = λ root is. ap (λ (r : Root). r.next) is ∙ (ap (λ (n : ℕ). n + numbers_by e.kind) keeps.names.next ∙ ap (λ (c : Archive). c.next) made_is);
    cache_fits = λ root is. (let same : root.cache.length ≡ v.root.cache.length = ap (λ (r : Root). r.cache.length) is in omega (arith, same, cache_fits));
  }

  entries_next : v.entries ++ stored_at a.config.form a.entries new ∷ [] ≡ stored_after b.config.form [] b.entries
  entries_next = ap (λ (es : List StoredEntry). es ++ stored_at a.config.form a.entries new ∷ []) keeps.kept ∙ (sym (stored_more a.config.form [] a.entries new) ∙ ap (λ (c : Archive). stored_after c.config.form [] c.entries) made_is)

-- What is promised of parts holds of the archives of a store that got room for one more entry.
module _ (e : NewEntry) {w v : StoreState} {p : NextPlace} {free number : ℕ} (k : Option Content) (same : w ≡ v) (free_is : free ≡ 1 - w.slot) (next : (a : Archive) → KeepsArchive v a → IsNextPlace v.root a (next_sequence v.root.sequence) p) (parent : e.parent ≡ p.parent) (form_is : e.form ≡ w.root.config.form)
    (a b : Archive) (cache : List ℕ) (store : IsStoreWith v cache a k) (room : v.root.sequence + 1 < 2 ^ 64) (enters : Enters e.kind number e.text.now e.moment a b) where
  store_now : IsStoreWith w cache a k
  store_now = subst (λ (u : StoreState). IsStoreWith u cache a k) (sym same) store

  keeps_now : KeepsArchive w a
  keeps_now = store_keeps w cache a k store_now

  place_now : IsNextPlace w.root a (next_sequence w.root.sequence) p
  place_now = subst (λ (u : StoreState). IsNextPlace u.root a (next_sequence u.root.sequence) p) (sym same) (next a (store_keeps v cache a k store))

  own_now : IsOwnOfParts w.root free (parts_of a cache) k
  own_now = subst (λ (n : ℕ). IsOwnOfParts w.root n (parts_of a cache) k) (sym free_is) (store_owns w cache a k store_now)

  form_now : e.form ≡ a.config.form
  form_now = form_is ∙ ap (λ (c : Config). c.form) keeps_now.names.config

  room_now : w.root.sequence + 1 < 2 ^ 64
  room_now = subst (λ (u : StoreState). u.root.sequence + 1 < 2 ^ 64) (sym same) room

  is_next : IsNext (λ root. root ≡ root_with w.root p e) (parts_with w.root p e (parts_of a cache)) cache b
  is_next = entry_next w a b cache p e number keeps_now place_now parent form_now enters (store_cache w cache a k store_now)

  pub enters_leaves : {D : Type 0} (g : Disk D) (disk after : D) → ((parts : Parts) → IsOwnOfParts w.root free parts k → w.root.sequence + 1 < 2 ^ 64 → LeavesOnly g disk after (RecoversEntered w.root p e parts)) → LeavesOnly g disk after (RecoversOneOf cache a cache b)
  enters_leaves g disk after leaves = next_leaves _ _ cache b is_next g disk after w cache a k store_now (leaves (parts_of a cache) own_now room_now)

  pub enters_store : (root : Root) (entries : List StoredEntry) (stored : StoredEntry) (m : Option Content) → root ≡ root_with w.root p e → entries ≡ w.entries ++ stored ∷ []
      → ((c : Archive) → KeepsArchive w c → IsNextPlace w.root c (next_sequence w.root.sequence) p → stored ≡ stored_at c.config.form c.entries (record { kind = e.kind; number = number; epoch = p.epoch; text = e.text.now; moment = e.moment }))
      → ((parts : Parts) → IsOwnOfParts w.root free parts k → w.root.sequence + 1 < 2 ^ 64 → IsOwnOfParts root (1 - free) (parts_with w.root p e parts) m) → IsStoreWith (record { root = root; slot = free; entries = entries }) cache b m
  enters_store root entries stored m root_is more kept done =
      store_next _ _ cache b is_next root root_is free entries m
      (more ∙ (ap (λ (s : StoredEntry). w.entries ++ s ∷ []) (kept a keeps_now place_now) ∙ entries_next w a b cache p e number keeps_now place_now parent form_now enters))
      (done (parts_of a cache) own_now room_now)

-- A command that makes an archive of another one makes each that it comes to.
pub changes_so : {D : Type 0} {g : Disk D} {old new : D} {before after : StoreState} {way : WriteKind} {Makes Other : Archive → Archive → Type 0} {result : Result (Unit {0}) StoreRefusal} → ((a b : Archive) → KeepsArchive before a → Makes a b → Other a b)
    → ChangesStore g old new before after way Other result → ChangesStore g old new before after way Makes result
changes_so {g = g} {old = old} {before = before} so changes = record {
  crash = λ a b cache store room makes. changes.crash a b cache store room (so a b (store_keeps before cache a (g.content old) store) makes);
  done = λ a b cache store room makes. changes.done a b cache store room (so a b (store_keeps before cache a (g.content old) store) makes);
  settled = changes.settled;
  sizes = changes.sizes;
  goes_on = changes.goes_on;
  slot = changes.slot;
  same = changes.same;
  untouched = changes.untouched;
  undamaged = changes.undamaged;
  cause = changes.cause;
  count = changes.count;
  rooted = changes.rooted;
  crash_root = changes.crash_root;
  damage = changes.damage;
}
