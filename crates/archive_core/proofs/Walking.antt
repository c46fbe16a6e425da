-- What is walked through of a store.
use Rattle.std.specs.Prelude.{◌≡◌, ◌<◌, ℕ, zero, suc, List, [], ◌∷◌, length, slice_get, Option, Some, None, Result, Ok, Err, IfErr, refl}
use Rattle.std.proofs.Common.{◌∙◌, sym, ap, subst, arith}
use Rattle.std.proofs.lemmas.Option.{same_Some}
use Rattle.arch_base.specs.Ids.{form_of}
use Rattle.disk_model.specs.Disk.{Content, WhereTold}
use Rattle.git_objects.specs.Objects.{blob_id_of}
use Rattle.arch_model.specs.Archives.{Entry, Archive}
use Rattle.arch_model.specs.Shelves.{IsUndamaged}
use Rattle.arch_model.specs.Walking.{GivesLine, GivesTextAt, HasTextAt}
use Rattle.arch_model.specs.declared.line.EntryLine.{EntryLine}
use Rattle.arch_model.specs.declared.text_refusal.TextRefusal.{TextRefusal}
use Rattle.arch_model.specs.declared.text_refusal.TextRefusal.TheVariants as reading
use Rattle.epoch_store.specs.Reads.{line_of, line_if, GivesText, FindsText, GivesTextOf, HasTexts, text_if}
use Rattle.store_finding.specs.Kept.{StoreState}
use Rattle.store_finding.specs.declared.entries.StoredEntry.{StoredEntry}
use Rattle.epoch_store.proofs.OwnForm.{in_own_form}
use Rattle.archive_core.specs.Numbers.{TellsOther}
use Rattle.archive_core.specs.Walks.{lines_kept, IsSound}

-- The lines of what is kept, at an index.
pub line-index : (ss : List StoredEntry) (i : ℕ) → line_if (slice_get ss i) ≡ slice_get (lines_kept ss) i
line-index [] i = refl
line-index (s ∷ ss) zero = refl
line-index (s ∷ ss) (suc i) = line-index ss i

pub lines-length : (ss : List StoredEntry) → length (lines_kept ss) ≡ length ss
lines-length [] = refl
lines-length (s ∷ ss) = let rest = lines-length ss in omega (arith, rest)

pub line-kept-of : (ss : List StoredEntry) (i : ℕ) (line : EntryLine) → slice_get (lines_kept ss) i ≡ Some line → (s : StoredEntry) × (slice_get ss i ≡ Some s) × (line_of s ≡ line)
line-kept-of [] i line is = absurd (cc)
line-kept-of (s ∷ ss) zero line is = (s, refl, same_Some (line_of s) line is)
line-kept-of (s ∷ ss) (suc i) line is = line-kept-of ss i line is

-- The text of an entry is that of its line.
pub gives-line : (s : StoredEntry) (line : EntryLine) (old new : List ℕ) (r : Result Unit TextRefusal) → line_of s ≡ line → GivesText s old new r → GivesLine line old new r
gives-line s line old new (Ok x) same given = (given.0, subst (λ (l : EntryLine). blob_id_of (form_of l.blob) given.0 ≡ l.blob) same given.1.blob, given.2)
gives-line s line old new (Err reading.DiskFault) same given = given
gives-line s line old new (Err reading.NoMemory) same given = given
gives-line s line old new (Err (reading.Damaged named found)) same given = (given.0, given.1 ∙ ap (λ (l : EntryLine). l.blob) same, given.2)

text_at : (es : List Entry) (i : ℕ) (text : List ℕ) (found : Option Entry) → slice_get es i ≡ found → text_if found ≡ Some text → HasTextAt es i text
text_at es i text None there is = absurd (cc)
text_at es i text (Some e) there is = (e, there, same_Some e.text text is)

pub gives-at : (a : Archive) (i : ℕ) (old new : List ℕ) (r : Result Unit TextRefusal) → GivesTextOf a i old new r → GivesTextAt a.entries i old new r
gives-at a i old new (Ok x) given = (given.0, text_at a.entries i given.0 (slice_get a.entries i) refl given.1, given.2)
gives-at a i old new (Err reading.DiskFault) given = tt
gives-at a i old new (Err reading.NoMemory) given = tt
gives-at a i old new (Err (reading.Damaged named found)) given = given

-- A text that is in its place isn't damaged.
pub sound-undamaged : (v : StoreState) (k : Content) (i : ℕ) (s : StoredEntry) (old new : List ℕ) (why : TextRefusal) → HasTexts v k → slice_get v.entries i ≡ Some s → GivesText s old new (Err why) → FindsText v.root s old new (Err why) k → IsUndamaged why
sound-undamaged v k i s old new reading.DiskFault texts there given finds = tt
sound-undamaged v k i s old new reading.NoMemory texts there given finds = tt
sound-undamaged v k i s old new (reading.Damaged named found) texts there given finds =
    let here = texts i s there in
    let same : found ≡ named = finds.2 ∙ ap (blob_id_of (form_of s.seen.blob)) (finds.1 here.long) ∙ in_own_form v.root.config.form _ s.seen.blob here.blob ∙ sym given.1 in
    given.2 same

pub sound-if : (v : StoreState) (k : Option Content) (i : ℕ) (s : StoredEntry) (old new : List ℕ) (r : Result Unit TextRefusal) → IsSound v k → slice_get v.entries i ≡ Some s → GivesText s old new r → WhereTold (FindsText v.root s old new r) k → IfErr r IsUndamaged
sound-if v None i s old new r sound there given finds = absurd sound
sound-if v (Some k) i s old new (Ok x) sound there given finds = tt
sound-if v (Some k) i s old new (Err why) sound there given finds = sound-undamaged v k i s old new why sound there given finds

-- If bytes with another id were found, the two ids differ.
pub text-other : (s : StoredEntry) (old new : List ℕ) (r : Result Unit TextRefusal) → GivesText s old new r → TellsOther r
text-other s old new (Ok x) given = tt
text-other s old new (Err reading.DiskFault) given = tt
text-other s old new (Err reading.NoMemory) given = tt
text-other s old new (Err (reading.Damaged named found)) given = given.2

-- There is an entry at an index below their number.
pub entry-inside : (ss : List StoredEntry) (i : ℕ) → i < length ss → (s : StoredEntry) × (slice_get ss i ≡ Some s)
entry-inside [] i less = absurd (omega (arith, less))
entry-inside (s ∷ ss) zero less = (s, refl)
entry-inside (s ∷ ss) (suc i) less = entry-inside ss i (omega (arith, less))
