-- The three objects of an entry, read one after the other.
use Rattle.std.proofs.Common.{◌≡◌, ℕ, ◌+◌, ◌-◌, ◌<◌, ◌^◌, List, ◌∷◌, ◌++◌, codes, length, drop, Option, sym, ap, ◌∙◌, arith, length-append}
use Rattle.std.specs.Fmt.{decimal}
use Rattle.std.proofs.lemmas.List.{append_assoc, drop_at}
use Rattle.arch_base.specs.declared.ids.Form.{Form}
use Rattle.arch_base.specs.declared.ids.ObjectId.{ObjectId}
use Rattle.arch_base.specs.Ids.{IsObjectId}
use Rattle.git_objects.specs.Objects.{CommitOf, HasSize, blob_spelling, tree_spelling, blob_id_of, spelling}
use Rattle.git_objects.proofs.ObjectIds.{IsObjectId-id_of}
use Rattle.mail_commits.specs.Entries.{tree_of}
use Rattle.epoch_file.specs.Entries.{EpochEntry, IsEpochEntry, bytes_after}
use Rattle.epoch_file.specs.Walking.{blob_front}
use Rattle.epoch_file.proofs.Sizes.{content_after, objects, length-blob, length-tree, length-entry}

-- The bytes after the blob.
abbrev pub after_blob : Form → Option ObjectId → EpochEntry → List ℕ → List ℕ
after_blob form parent e rest = tree_of form e.kind e.text ++ (spelling (CommitOf (content_after form parent e)) ++ rest)

-- An entry starts with its blob.
pub blob_first : (form : Form) (parent : Option ObjectId) (e : EpochEntry) (rest bytes : List ℕ) → bytes ≡ bytes_after form parent e ++ rest → bytes ≡ blob_spelling e.text ++ after_blob form parent e rest
blob_first form parent e rest bytes is = is ∙ objects form parent e rest

-- The blob's content has a size.
pub text_size : (e : EpochEntry) → IsEpochEntry e → HasSize e.text
text_size e valid = omega (arith, valid.text.short)

-- The tree follows the blob.
pub tree_next : (form : Form) (parent : Option ObjectId) (e : EpochEntry) (rest bytes after : List ℕ) (blob : ℕ) → bytes ≡ bytes_after form parent e ++ rest → blob ≡ length (blob_spelling e.text) → after ≡ drop blob bytes
    → after ≡ tree_spelling e.kind (blob_id_of form e.text) ++ (spelling (CommitOf (content_after form parent e)) ++ rest)
tree_next form parent e rest bytes after blob is size cut =
    cut ∙ (ap (drop blob) (blob_first form parent e rest bytes is) ∙ drop_at (blob_spelling e.text) (after_blob form parent e rest) blob (sym size))

-- The commit follows the tree.
pub commit_next : (form : Form) (parent : Option ObjectId) (e : EpochEntry) (rest bytes after : List ℕ) (blob tree : ℕ) → bytes ≡ bytes_after form parent e ++ rest → blob ≡ length (blob_spelling e.text)
    → tree ≡ length (tree_spelling e.kind (blob_id_of form e.text)) → after ≡ drop (blob + tree) bytes → after ≡ spelling (CommitOf (content_after form parent e)) ++ rest
commit_next form parent e rest bytes after blob tree is size tree_size cut =
    let front = blob_spelling e.text ++ tree_of form e.kind e.text in
    let commit = spelling (CommitOf (content_after form parent e)) ++ rest in
    let both : length front ≡ blob + tree = omega (arith, size, tree_size, length-append (blob_spelling e.text) (tree_of form e.kind e.text)) in
    cut ∙ (ap (drop (blob + tree)) (blob_first form parent e rest bytes is ∙ sym (append_assoc (blob_spelling e.text) (tree_of form e.kind e.text) commit)) ∙ drop_at front commit (blob + tree) both)

-- The commit's content has a size.
pub content_size : (form : Form) (parent : Option ObjectId) (e : EpochEntry) (rest bytes : List ℕ) → length bytes < 2 ^ 64 → bytes ≡ bytes_after form parent e ++ rest → HasSize (content_after form parent e)
content_size form parent e rest bytes small is = omega (arith, small, ap length is, length-append (bytes_after form parent e) rest, length-entry form parent e)

-- The id of the text's blob is valid.
pub blob_id_valid : (form : Form) (text : List ℕ) → IsObjectId form (blob_id_of form text)
blob_id_valid form text = IsObjectId-id_of form (blob_spelling text)

-- The three objects take as many bytes as the entry.
pub whole_size : (form : Form) (parent : Option ObjectId) (e : EpochEntry) (blob tree commit : ℕ) → blob ≡ length (blob_spelling e.text) → tree ≡ length (tree_spelling e.kind (blob_id_of form e.text))
    → commit ≡ length (spelling (CommitOf (content_after form parent e))) → blob + tree + commit ≡ length (bytes_after form parent e)
whole_size form parent e blob tree commit b t m =
    let content = content_after form parent e in
    omega (
      arith,
      b,
      t,
      m,
      length-blob e.text,
      length-tree form e.kind e.text,
      length-entry form parent e,
      length-append (codes "commit ") (decimal (length content) ++ 0 ∷ content),
      length-append (decimal (length content)) (0 ∷ content),
      length-append (codes "commit ") (decimal (length content)),
    )

-- The text follows the front of its blob.
pub front_size : (e : EpochEntry) (text : List ℕ) (blob : ℕ) → text ≡ e.text → blob ≡ length (blob_spelling e.text) → blob - length text ≡ blob_front e.text
front_size e text blob t b = omega (arith, b, length-blob e.text, ap length t)
