-- A message may be edited to a text whose own id no entry has.
use Rattle.std.specs.Prelude.{◌≡◌, ◌≢◌, ◌≤◌, ◌<◌, ℕ, Bool, true, false, not, ◌&&◌, List, [], ◌∷◌, ◌++◌, Option, Some, None, IsSome, unwrap_or, if◌then◌else◌, length, get_or, refl}
use Rattle.std.specs.List.{AllByRecursion}
use Rattle.std.specs.Str.{bytes_eq}
use Rattle.std.proofs.Common.{ap, subst, arith}
use Rattle.std.proofs.lemmas.Bool.{false_from_ne_true}
use Rattle.std.proofs.lemmas.Slice.Eq.{bytes_eq-Decides}
use Rattle.mail_reader.specs.Ids.{own_id}
use Rattle.arch_model.specs.Archives.{Entry, Archive, is_message, is_ended, is_id, live, owner, IsFree, without_text}
use Rattle.arch_base.specs.declared.ids.Form.{Form}
use Rattle.arch_base.specs.declared.ids.ObjectId.{ObjectId}
use Rattle.store_finding.specs.declared.entries.StoredEntry.{StoredEntry}
use Rattle.mail_reader.specs.StorageTexts.{IsStorageText}
use Rattle.store_finding.specs.Kept.{StoreState, KeepsArchive, stored_after}
use Rattle.epoch_store.specs.Commands.{MayEdit, MayPurge}

-- Each of these entries has another own id than a text.
abbrev pub Apart : List ℕ → List StoredEntry → Type 0
Apart text entries = AllByRecursion (λ (s : StoredEntry). own_id text ≢ Some s.seen.id) entries

not_own : (id : List ℕ) (own : Option (List ℕ)) → Some id ≢ Some (unwrap_or own []) → is_id id own ≡ false
not_own id None other = refl
not_own id (Some own) other = false_from_ne_true (bytes_eq id own) (λ same. other (ap Some ((bytes_eq-Decides id own).0 same)))

step : (t : Bool) (e : Entry) (es : List Entry) (id : List ℕ) → is_id id (own_id e.text) ≡ false → owner es id ≡ None → owner (if t then e ∷ es else es) id ≡ None
step true e es id other more = rw other more
step false e es id other more = more

-- No entry has an own id that is none of those that are kept.
others : (form : Form) (before es : List Entry) (id : List ℕ) → AllByRecursion (λ (s : StoredEntry). Some id ≢ Some s.seen.id) (stored_after form before es) → AllByRecursion (λ (e : Entry). is_id id (own_id e.text) ≡ false) es
others form before [] id all = tt
others form before (e ∷ es) id all = (not_own id (own_id e.text) all.0, others form (before ++ e ∷ []) es id all.1)

none_owns : (es : List Entry) (id : List ℕ) → AllByRecursion (λ (e : Entry). is_id id (own_id e.text) ≡ false) es → owner (live es) id ≡ None
none_owns [] id all = refl
none_owns (e ∷ es) id all =
    step (is_message e.kind && not (is_ended es e.number)) e (live es) id all.0 (none_owns es id all.1)

-- Nor has one of those that stay without a text.
some_stay : (P : Entry → Type 0) (es : List Entry) (text : List ℕ) → AllByRecursion P es → AllByRecursion P (without_text es text)
some_stay P [] text all = tt
some_stay P (e ∷ es) text all = by (not (bytes_eq text e.text)) (some_stay P es text all.1) where
  by : (stays : Bool) → AllByRecursion P (without_text es text) → AllByRecursion P (if stays then e ∷ without_text es text else without_text es text)
  by true some = (all.0, some)
  by false some = some

found : (o : Option (List ℕ)) → IsSome o → (id : List ℕ) × (o ≡ Some id)
found None some = absurd (let no : false ≡ true = some in cc)
found (Some id) some = (id, refl)

-- The own id of a text, and what is said of the entries of an archive.
ids_of : (v : StoreState) (text : List ℕ) → IsSome (own_id text) → Apart text v.entries → (a : Archive) → KeepsArchive v a → (id : List ℕ) × (own_id text ≡ Some id) × AllByRecursion (λ (e : Entry). is_id id (own_id e.text) ≡ false) a.entries
ids_of v text some apart a keeps =
    let own = found (own_id text) some in
    let all = subst (λ (es : List StoredEntry). AllByRecursion (λ (s : StoredEntry). own_id text ≢ Some s.seen.id) es) keeps.kept apart in
    (own.0, own.1, others a.config.form [] a.entries own.0 (subst (λ (o : Option (List ℕ)). AllByRecursion (λ (s : StoredEntry). o ≢ Some s.seen.id) (stored_after a.config.form [] a.entries)) own.1 all))

-- The text is free in the archive without another one.
free_without : (v : StoreState) (text : List ℕ) → IsSome (own_id text) → Apart text v.entries → (a : Archive) → KeepsArchive v a → (old : List ℕ) → IsFree (live (without_text a.entries old)) text
free_without v text some apart a keeps old =
    let ids = ids_of v text some apart a keeps in
    (ids.0, ids.1, none_owns (without_text a.entries old) ids.0 (some_stay (λ (e : Entry). is_id ids.0 (own_id e.text) ≡ false) a.entries old ids.2))

-- The edit may be done.
pub editable : (v : StoreState) (number : ℕ) (blob : ObjectId) (text : List ℕ) → MayPurge v number blob → v.root.next ≤ v.root.config.max → IsStorageText text → Apart text v.entries → MayEdit v number blob text
editable v number blob text purge left storage apart = record { purge = purge; number_left = left; storage = storage; id = λ a n old keeps shown is. free_without v text storage.id apart a keeps old }

pub of_two : (text : List ℕ) (es : List StoredEntry) (e f : StoredEntry) → length es < 3 → e ≡ get_or es 0 e → f ≡ get_or es 1 f → own_id text ≢ Some e.seen.id → own_id text ≢ Some f.seen.id → Apart text es
of_two text [] e f few first second one two = tt
of_two text (x ∷ []) e f few first second one two = (subst (λ (z : StoredEntry). own_id text ≢ Some z.seen.id) first one, tt)
of_two text (x ∷ y ∷ []) e f few first second one two = (subst (λ (z : StoredEntry). own_id text ≢ Some z.seen.id) first one, (subst (λ (z : StoredEntry). own_id text ≢ Some z.seen.id) second two, tt))
of_two text (x ∷ y ∷ z ∷ es) e f few first second one two = absurd (omega (arith, few))
