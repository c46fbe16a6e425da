-- A text whose own id no entry has is free.
use Rattle.std.specs.Prelude.{◌≡◌, ◌≢◌, ◌≤◌, ◌<◌, ℕ, Bool, true, false, not, ◌&&◌, List, [], ◌∷◌, ◌++◌, Option, Some, None, IsSome, unwrap_or, if◌then◌else◌, length, get_or, refl}
use Rattle.std.specs.List.{AllByRecursion}
use Rattle.std.specs.Str.{bytes_eq}
use Rattle.std.proofs.Common.{ap, subst, arith}
use Rattle.std.proofs.lemmas.Bool.{false_from_ne_true}
use Rattle.std.proofs.lemmas.Slice.Eq.{bytes_eq-Decides}
use Rattle.mail_reader.specs.Ids.{own_id}
use Rattle.arch_base.specs.declared.ids.Form.{Form}
use Rattle.arch_model.specs.Archives.{Entry, Archive, is_message, is_ended, is_id, live, owner, IsFree}
use Rattle.store_finding.specs.declared.entries.StoredEntry.{StoredEntry}
use Rattle.mail_reader.specs.StorageTexts.{IsStorageText}
use Rattle.store_finding.specs.Kept.{StoreState, KeepsArchive, stored_after}
use Rattle.epoch_store.specs.Commands.{Accepts}

-- Each of these entries has another own id than a text.
abbrev pub Apart : List ℕ → List StoredEntry → Type 0
Apart text entries = AllByRecursion (λ (s : StoredEntry). own_id text ≢ Some s.seen.id) entries

not_own : (id : List ℕ) (own : Option (List ℕ)) → Some id ≢ Some (unwrap_or own []) → is_id id own ≡ false
not_own id None other = refl
not_own id (Some own) other = false_from_ne_true (bytes_eq id own) (λ same. other (ap Some ((bytes_eq-Decides id own).0 same)))

step : (t : Bool) (e : Entry) (es : List Entry) (id : List ℕ) → is_id id (own_id e.text) ≡ false → owner es id ≡ None → owner (if t then e ∷ es else es) id ≡ None
step true e es id other more = rw other more
step false e es id other more = more

none_owns : (form : Form) (before es : List Entry) (id : List ℕ) → AllByRecursion (λ (s : StoredEntry). Some id ≢ Some s.seen.id) (stored_after form before es) → owner (live es) id ≡ None
none_owns form before [] id all = refl
none_owns form before (e ∷ es) id all =
    step (is_message e.kind && not (is_ended es e.number)) e (live es) id (not_own id (own_id e.text) all.0) (none_owns form (before ++ e ∷ []) es id all.1)

found : (o : Option (List ℕ)) → IsSome o → (id : List ℕ) × (o ≡ Some id)
found None some = absurd (let no : false ≡ true = some in cc)
found (Some id) some = (id, refl)

pub free_of : (v : StoreState) (text : List ℕ) → IsSome (own_id text) → Apart text v.entries → (a : Archive) → KeepsArchive v a → IsFree (live a.entries) text
free_of v text some apart a keeps =
    let own = found (own_id text) some in
    let all = subst (λ (es : List StoredEntry). AllByRecursion (λ (s : StoredEntry). own_id text ≢ Some s.seen.id) es) keeps.kept apart in
    (own.0, own.1, none_owns a.config.form [] a.entries own.0 (subst (λ (o : Option (List ℕ)). AllByRecursion (λ (s : StoredEntry). o ≢ Some s.seen.id) (stored_after a.config.form [] a.entries)) own.1 all))

-- A storage text whose own id no entry has is accepted.
pub accepted : (v : StoreState) (text : List ℕ) → v.root.config.mirror ≡ false → v.root.next ≤ v.root.config.max → IsStorageText text → Apart text v.entries → Accepts v text
accepted v text writable left storage apart = record { writable = writable; number_left = left; storage = storage; id = free_of v text storage.id apart }

pub of_none : (text : List ℕ) (es : List StoredEntry) → length es < 1 → Apart text es
of_none text [] few = tt
of_none text (x ∷ es) few = absurd (omega (arith, few))

pub of_one : (text : List ℕ) (es : List StoredEntry) (e : StoredEntry) → length es < 2 → e ≡ get_or es 0 e → own_id text ≢ Some e.seen.id → Apart text es
of_one text [] e few is apart = tt
of_one text (x ∷ []) e few is apart = (subst (λ (z : StoredEntry). own_id text ≢ Some z.seen.id) is apart, tt)
of_one text (x ∷ y ∷ es) e few is apart = absurd (omega (arith, few))
