-- The pieces of an entry's bytes, and their lengths.
use Rattle.std.proofs.Common.{◌≡◌, ℕ, ◌+◌, ◌<◌, ◌≤◌, ◌^◌, List, [], ◌∷◌, ◌++◌, codes, length, length-append, Option, sym, ap, ◌∙◌, arith}
use Rattle.std.specs.Fmt.{decimal}
use Rattle.std.proofs.lemmas.List.{append_assoc}
use Rattle.std.proofs.lemmas.Fmt.{length-decimal-le}
use Rattle.arch_base.specs.declared.ids.Form.{Form}
use Rattle.arch_base.specs.declared.ids.ObjectId.{ObjectId}
use Rattle.arch_base.specs.Ids.{form_of}
use Rattle.arch_base.proofs.SameIds.{form_with}
use Rattle.git_objects.specs.Commits.{commit_content}
use Rattle.git_objects.specs.declared.entry_kind.EntryKind.{EntryKind}
use Rattle.git_objects.specs.Objects.{blob_spelling, blob_id_of, digest_of, id_of}
use Rattle.git_objects.specs.Trees.{tree_size}
use Rattle.git_objects.proofs.Spellings.{length-tree_spelling}
use Rattle.git_objects.proofs.ObjectIds.{IsObjectId-id_of}
use Rattle.mail_commits.specs.Commits.{commit_of}
use Rattle.mail_commits.specs.Entries.{tree_of, commit_text, entry_bytes}
use Rattle.epoch_file.specs.Entries.{EpochEntry, bytes_after}
use Rattle.epoch_file.specs.Walking.{blob_front}
use Rattle.epoch_file.specs.Sights.{commit_offset}

-- The content of an entry's commit.
abbrev pub content_after : Form → Option ObjectId → EpochEntry → List ℕ
content_after form parent e = commit_content (commit_of e.text (id_of form (tree_of form e.kind e.text)) parent e.moment)

-- The type and the size of an object, and the byte after them.
abbrev pub head_of : List ℕ → ℕ → List ℕ
head_of word size = word ++ (decimal size ++ 0 ∷ [])

-- An entry's bytes before what follows, object by object.
pub objects : (form : Form) (parent : Option ObjectId) (e : EpochEntry) (rest : List ℕ)
    → bytes_after form parent e ++ rest ≡ blob_spelling e.text ++ (tree_of form e.kind e.text ++ ((codes "commit " ++ (decimal (length (content_after form parent e)) ++ 0 ∷ content_after form parent e)) ++ rest))
unfolding entry_bytes commit_text
objects form parent e rest =
    let commit = codes "commit " ++ (decimal (length (content_after form parent e)) ++ 0 ∷ content_after form parent e) in
    append_assoc (blob_spelling e.text) (tree_of form e.kind e.text ++ commit) rest
    ∙ ap (λ (l : List ℕ). blob_spelling e.text ++ l) (append_assoc (tree_of form e.kind e.text) commit rest)

-- A type and a size before what follows.
pub headed : (word content rest : List ℕ) → (word ++ (decimal (length content) ++ 0 ∷ content)) ++ rest ≡ word ++ (decimal (length content) ++ 0 ∷ (content ++ rest))
headed word content rest =
    append_assoc word (decimal (length content) ++ 0 ∷ content) rest ∙ ap (λ (l : List ℕ). word ++ l) (append_assoc (decimal (length content)) (0 ∷ content) rest)

-- The same with the type and the size as one piece.
pub head_first : (word tail : List ℕ) (size : ℕ) → word ++ (decimal size ++ 0 ∷ tail) ≡ head_of word size ++ tail
head_first word tail size =
    ap (λ (l : List ℕ). word ++ l) (sym (append_assoc (decimal size) (0 ∷ []) tail)) ∙ sym (append_assoc word (decimal size ++ 0 ∷ []) tail)

-- The length of a type and a size.
pub length-head : (word : List ℕ) (size : ℕ) → length (head_of word size) ≡ length word + length (decimal size) + 1
length-head word size = omega (arith, length-append word (decimal size ++ 0 ∷ []), length-append (decimal size) (0 ∷ []))

-- A size of 64 bits has up to twenty digits.
pub digits-le : (n : ℕ) → n < 2 ^ 64 → length (decimal n) ≤ 20
digits-le n small = length-decimal-le 20 n (omega arith) (omega (arith, small)) small

-- The length of a blob.
pub length-blob : (text : List ℕ) → length (blob_spelling text) ≡ blob_front text + length text
length-blob text = omega (arith, length-append (codes "blob ") (decimal (length text) ++ 0 ∷ text), length-append (decimal (length text)) (0 ∷ text))

-- The id of a blob is of the form in which it is made, and so its tree has the form's length.
pub tree_by_blob : (form : Form) (text : List ℕ) → tree_size (form_of (blob_id_of form text)) ≡ tree_size form
tree_by_blob form text = ap tree_size (form_with form (digest_of form (blob_spelling text)))

-- The length of a tree.
pub length-tree : (form : Form) (kind : EntryKind) (text : List ℕ) → length (tree_of form kind text) ≡ tree_size form
length-tree form kind text = length-tree_spelling form kind (blob_id_of form text) (IsObjectId-id_of form (blob_spelling text)).len

-- The length of an entry.
pub length-entry : (form : Form) (parent : Option ObjectId) (e : EpochEntry)
    → length (bytes_after form parent e) ≡ commit_offset form e.text + length (codes "commit " ++ decimal (length (content_after form parent e))) + 1 + length (content_after form parent e)
unfolding entry_bytes commit_text
length-entry form parent e =
    let content = content_after form parent e in
    let commit = codes "commit " ++ (decimal (length content) ++ 0 ∷ content) in
    omega (
      arith,
      length-append (blob_spelling e.text) (tree_of form e.kind e.text ++ commit),
      length-append (tree_of form e.kind e.text) commit,
      length-blob e.text,
      length-tree form e.kind e.text,
      length-append (codes "commit ") (decimal (length content) ++ 0 ∷ content),
      length-append (decimal (length content)) (0 ∷ content),
      length-append (codes "commit ") (decimal (length content)),
    )
