-- The commit of a text, and the bytes of an entry.
use Rattle.std.proofs.Common.{◌≡◌, ℕ, List, [], ◌∷◌, ◌++◌, codes, length, arith, FitsSigned, w16, Option, refl, sym, ap, ◌∙◌, append_assoc}
use Rattle.std.specs.Fmt.{decimal}
use Rattle.std.specs.Prelude.{ℤ, Result, Ok, Err, IfOk}
use Rattle.std.proofs.lemmas.Int.{ints}
use Rattle.arch_base.specs.declared.sequence.NoMemory.{NoMemory}
use Rattle.git_objects.specs.Commits.{IsCommitZone, commit_spelling}
use Rattle.arch_base.specs.declared.ids.Form.{Form}
use Rattle.arch_base.specs.declared.ids.ObjectId.{ObjectId}
use Rattle.git_objects.specs.declared.commits.Commit.{Commit}
use Rattle.git_objects.specs.declared.entry_kind.EntryKind.{EntryKind}
use Rattle.git_objects.specs.CleanText.{clean}
use Rattle.git_objects.specs.Objects.{blob_spelling, id_of}
use Rattle.mail_date.specs.declared.moment.Moment.{Moment}
use Rattle.mail_commits.specs.Facts.{from_fact, email_fact, subject_fact, date_fact}
use Rattle.mail_commits.specs.Commits.{commit_of, written_at}
use Rattle.mail_commits.specs.Entries.{tree_of, commit_text, commit_id, entry_bytes}

-- The commit of what a text says of itself.
pub commit_of-made : (text : List ℕ) (tree : ObjectId) (parent : Option ObjectId) (moment : ℕ) (author email subject : List ℕ) (written : Moment) (zone : ℤ)
    → author ≡ from_fact text → email ≡ email_fact text → subject ≡ clean (subject_fact text) → written ≡ written_at (date_fact text) moment
    → zone ≡ written.zone → let made : Commit = record { tree = tree; parent = parent; author = author; email = email; secs = written.secs; zone = zone; committed = moment; subject = subject } in
    made ≡ commit_of text tree parent moment
unfolding commit_of
commit_of-made text tree parent moment author email subject written zone a e s w z = rw (z, a, e, s, w) refl

-- The zone of a commit fits in 16 bits.
pub zone_fits : (zone : ℤ) → IsCommitZone zone → FitsSigned w16 zone
zone_fits zone h =
    let low = h.low in
    let high = h.high in
    omega (arith, ints)

-- The form of the commit of a text.
pub commit_text-made : (made : Result (List ℕ) NoMemory) (form : Form) (kind : EntryKind) (text : List ℕ) (moment : ℕ) (parent : Option ObjectId) (tree : ObjectId) (commit : Commit) → tree ≡ id_of form (tree_of form kind text)
    → commit ≡ commit_of text tree parent moment → IfOk made (λ spelled. spelled ≡ commit_spelling commit) → IfOk made (λ spelled. spelled ≡ commit_text form kind text moment parent)
unfolding commit_text
commit_text-made (Ok spelled) form kind text moment parent tree commit t e h =
    h ∙ ap commit_spelling (e ∙ ap (λ id. commit_of text id parent moment) t)
commit_text-made (Err refused) form kind text moment parent tree commit t e h = tt

-- The objects of an entry, its blob's in two parts.
pub entry_bytes-pieces : (form : Form) (kind : EntryKind) (text : List ℕ) (moment : ℕ) (parent : Option ObjectId) (head tree commit : List ℕ)
    → head ≡ codes "blob " ++ (decimal (length text) ++ 0 ∷ []) → tree ≡ tree_of form kind text → commit ≡ commit_text form kind text moment parent
    → head ++ (text ++ (tree ++ commit)) ≡ entry_bytes form kind text moment parent
unfolding entry_bytes
entry_bytes-pieces form kind text moment parent head tree commit h t c =
    let inner : (decimal (length text) ++ 0 ∷ []) ++ (text ++ (tree ++ commit)) ≡ (decimal (length text) ++ 0 ∷ text) ++ (tree ++ commit) =
    append_assoc (decimal (length text)) (0 ∷ []) (text ++ (tree ++ commit)) ∙ sym (append_assoc (decimal (length text)) (0 ∷ text) (tree ++ commit)) in
    let blob : head ++ (text ++ (tree ++ commit)) ≡ blob_spelling text ++ (tree ++ commit) = rw h (ap (λ bytes. codes "blob " ++ bytes) inner) in
    blob ∙ rw (t, c) refl

-- The id of the commit of a text.
pub commit_id-made : (form : Form) (kind : EntryKind) (text : List ℕ) (moment : ℕ) (parent : Option ObjectId) (id : ObjectId) → id ≡ id_of form (commit_text form kind text moment parent) → id ≡ commit_id form kind text moment parent
unfolding commit_id
commit_id-made form kind text moment parent id h = h
