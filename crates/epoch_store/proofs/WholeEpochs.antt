-- The bytes of a whole epoch on the disk of an archive, and an epoch without bytes.
use Rattle.std.specs.Prelude.{◌≡◌, ◌⊎◌, ◌-◌, ◌<◌, ◌≤◌, ℕ, zero, suc, true, false, List, [], ◌∷◌, ◌++◌, length, take, get_or, Option, Some, None, Ok, refl}
use Rattle.std.proofs.Common.{◌∙◌, sym, ap, subst, inl, inr, arith, length-append}
use Rattle.std.proofs.lemmas.List.{append-nil}
use Rattle.arch_base.specs.declared.ids.Form.{Form}
use Rattle.disk_model.specs.declared.name.FileName.{FileName}
use Rattle.disk_model.specs.Disk.{Content, WhereTold, bytes_of}
use Rattle.arch_model.specs.Archives.{Entry, Archive, in_epoch, has_entry}
use Rattle.arch_model.specs.Epochs.{epoch_bytes, entries_bytes}
use Rattle.mail_commits.specs.Entries.{magic}
use Rattle.arch_model.specs.Standing.{GivesEpochIn}
use Rattle.root_slots.specs.Valid.{no_place}
use Rattle.store_finding.specs.Files.{epoch_file_of}
use Rattle.store_finding.specs.Recovery.{bytes_in}
use Rattle.store_finding.specs.Reading.{StandsAt}
use Rattle.store_finding.specs.Kept.{StoreState, IsStoreWith}
use Rattle.store_finding.proofs.FrontParts.{none_above, disk_fronts}
use Rattle.store_finding.proofs.Magics.{magic_length}

-- An epoch without bytes has no entry.
empty : (form : Form) (es : List Entry) → length (epoch_bytes form es) ≡ 0 → es ≡ []
empty form [] none = refl
empty form (e ∷ es) none =
    let eight = magic_length form in
    let parts = length-append (magic form) (entries_bytes form None (e ∷ es)) in
    absurd (omega (arith, eight, parts, none))

-- An epoch with bytes has an entry.
some : (form : Form) (es : List Entry) → 0 < length (epoch_bytes form es) → has_entry es ≡ true
some form [] there = absurd (omega (arith, there))
some form (e ∷ es) there = refl

-- Without an entry nothing is appended.
nothing : (form : Form) (es : List Entry) (old : List ℕ) → es ≡ [] → GivesEpochIn form es old old (Ok false)
nothing form es old is = subst (λ (l : List Entry). GivesEpochIn form l old old (Ok false)) (sym is) (sym (append-nil old), refl)

zero_or_not : (n : ℕ) → (n ≡ 0) ⊎ (0 < n)
zero_or_not zero = inl refl
zero_or_not (suc n) = inr (omega arith)

-- The result for an epoch of which the root names no bytes, or that there is not.
pub unnamed_gives : (v : StoreState) (cache : List ℕ) (a : Archive) (k : Option Content) (n : ℕ) (old : List ℕ) → IsStoreWith v cache a k → (get_or v.root.epochs n no_place).length ≡ 0 → GivesEpochIn a.config.form (in_epoch a.entries n) old old (Ok false)
unnamed_gives v cache a None n old own unnamed = absurd own
unnamed_gives v cache a (Some k) n old own unnamed =
    nothing a.config.form (in_epoch a.entries n) old
    (elim (zero_or_not (n - 63)) [
      | inl low ↦ empty a.config.form (in_epoch a.entries n) (sym (own.keeps.names.epochs n (omega (arith, low))) ∙ unnamed)
      | inr above ↦ none_above a.entries n own.keeps.valid.entries (omega (arith, above))
    ])

-- The first bytes of a file are the bytes that it starts with.
front_is : (bytes file text : List ℕ) (size : ℕ) → size ≡ length bytes → length bytes ≤ length file → take (length bytes) file ≡ bytes → StandsAt file 0 size text → text ≡ bytes
front_is bytes file text size is long front stands = stands (omega (arith, is, long)) ∙ (ap (λ (n : ℕ). take n file) is ∙ front)

-- The result for an epoch of which the root names bytes.
pub read_gives : (v : StoreState) (cache : List ℕ) (a : Archive) (k : Option Content) (n : ℕ) (old new text : List ℕ) (file : FileName) → IsStoreWith v cache a k → n ≤ 63 → file ≡ epoch_file_of v.root n → 0 < (get_or v.root.epochs n no_place).length
    → WhereTold (λ (c : Content). StandsAt (bytes_of (c file).seen) 0 (get_or v.root.epochs n no_place).length text) k → new ≡ old ++ text → GivesEpochIn a.config.form (in_epoch a.entries n) old new (Ok true)
read_gives v cache a None n old new text file own low file_is there stands added = absurd own
read_gives v cache a (Some k) n old new text file own low file_is there stands added =
    let fronts = (disk_fronts v cache a k own).epochs_front n (omega (arith, low)) in
    let named = own.keeps.names.epochs n (omega (arith, low)) in
    let here = bytes_of (k (epoch_file_of v.root n)).seen in
    let stands_here : StandsAt here 0 (get_or v.root.epochs n no_place).length text =
    subst (λ (f : FileName). StandsAt (bytes_of (k f).seen) 0 (get_or v.root.epochs n no_place).length text) file_is stands in
    let whole : text ≡ bytes_in a n = front_is (bytes_in a n) here text (get_or v.root.epochs n no_place).length named fronts.long fronts.front stands_here in
    (added ∙ ap (λ (t : List ℕ). old ++ t) whole, sym (some a.config.form (in_epoch a.entries n) (subst (λ (m : ℕ). 0 < m) named there)))
