-- Where the blob and the text of an entry are in the bytes of its epoch.
use Rattle.std.specs.Prelude.{◌≡◌, ◌+◌, ◌≤◌, ℕ, List, [], ◌∷◌, ◌++◌, length, take, drop, Option, Some, None, refl}
use Rattle.std.proofs.Common.{◌∙◌, sym, ap, arith, append_assoc, length-append}
use Rattle.arch_base.specs.declared.ids.ObjectId.{ObjectId}
use Rattle.arch_base.specs.declared.ids.Form.{Form}
use Rattle.git_objects.specs.declared.entry_kind.EntryKind.{EntryKind}
use Rattle.git_objects.specs.Objects.{blob_spelling}
use Rattle.mail_commits.specs.Entries.{commit_id, commit_text, entry_bytes, magic, tree_of}
use Rattle.arch_model.specs.Archives.{Entry}
use Rattle.arch_model.specs.Epochs.{epoch_bytes, entries_bytes, last_commit}
use Rattle.epoch_file.specs.Walking.{blob_front}
use Rattle.epoch_file.proofs.Sizes.{length-blob}
use Rattle.root_change.specs.Copying.{range_of}
use Rattle.store_finding.proofs.Magics.{magic_length}
use Rattle.store_finding.proofs.TextBytes.{Divided, divided_reads, epoch_text}

-- The bytes of an entry, part by part.
pub entry_parts : (form : Form) (kind : EntryKind) (text : List ℕ) (moment : ℕ) (parent : Option ObjectId) → entry_bytes form kind text moment parent ≡ blob_spelling text ++ (tree_of form kind text ++ commit_text form kind text moment parent)
unfolding entry_bytes
entry_parts form kind text moment parent = refl

-- The bytes of entries with one among them.
entries_split : (form : Form) (parent : Option ObjectId) (xs : List Entry) (e : Entry) (ys : List Entry)
    → entries_bytes form parent (xs ++ e ∷ ys) ≡ entries_bytes form parent xs ++ (entry_bytes form e.kind e.text e.moment (last_commit form parent xs) ++ entries_bytes form (Some (commit_id form e.kind e.text e.moment (last_commit form parent xs))) ys)
entries_split form parent [] e ys = refl
entries_split form parent (x ∷ xs) e ys =
    let next : Option ObjectId = Some (commit_id form x.kind x.text x.moment parent) in
    ap (λ (b : List ℕ). entry_bytes form x.kind x.text x.moment parent ++ b) (entries_split form next xs e ys)
    ∙ sym (append_assoc (entry_bytes form x.kind x.text x.moment parent) (entries_bytes form next xs) (entry_bytes form e.kind e.text e.moment (last_commit form next xs) ++ entries_bytes form (Some (commit_id form e.kind e.text e.moment (last_commit form next xs))) ys))

pub epoch_split : (form : Form) (xs : List Entry) (e : Entry) (ys : List Entry) → epoch_bytes form (xs ++ e ∷ ys) ≡ magic form ++ entries_bytes form None (xs ++ e ∷ ys)
epoch_split form [] e ys = refl
epoch_split form (x ∷ xs) e ys = refl

-- A blob in the bytes of its epoch.
epoch_blob : (form : Form) (xs : List Entry) (e : Entry) (ys : List Entry) → Divided (epoch_bytes form (xs ++ e ∷ ys)) (8 + length (entries_bytes form None xs)) (blob_spelling e.text)
epoch_blob form xs e ys =
    let parent = last_commit form None xs in
    let others = entries_bytes form None xs in
    let rest = entries_bytes form (Some (commit_id form e.kind e.text e.moment parent)) ys in
    let objects = tree_of form e.kind e.text ++ commit_text form e.kind e.text e.moment parent in
    let eight = magic_length form in
    let size = length-append (magic form) others in
    record {
      before = magic form ++ others;
      after = objects ++ rest;
      is =
          epoch_split form xs e ys
          ∙ (ap (λ (b : List ℕ). magic form ++ b) (entries_split form None xs e ys)
          ∙ (ap (λ (b : List ℕ). magic form ++ (others ++ (b ++ rest))) (entry_parts form e.kind e.text e.moment parent)
          ∙ (ap (λ (b : List ℕ). magic form ++ (others ++ b)) (append_assoc (blob_spelling e.text) objects rest) ∙ sym (append_assoc (magic form) others (blob_spelling e.text ++ (objects ++ rest))))));
      len = omega (arith, eight, size);
    }

-- So the bytes from there on, as many as the blob has, are the blob.
pub blob_range : (form : Form) (xs : List Entry) (e : Entry) (ys : List Entry) (at text_at count : ℕ) → at ≡ 8 + length (entries_bytes form None xs) → text_at ≡ at + blob_front e.text → at + count ≡ text_at + length e.text
    → (at + count ≤ length (epoch_bytes form (xs ++ e ∷ ys))) × (range_of (epoch_bytes form (xs ++ e ∷ ys)) at count ≡ blob_spelling e.text)
blob_range form xs e ys at text_at count at_is front sum =
    let bytes = epoch_bytes form (xs ++ e ∷ ys) in
    let reads = divided_reads bytes (8 + length (entries_bytes form None xs)) (blob_spelling e.text) (epoch_blob form xs e ys) in
    let inside = reads.0 in
    let size = length-blob e.text in
    let count_is : count ≡ length (blob_spelling e.text) = omega (arith, front, sum, size) in
    (omega (arith, inside, count_is, at_is), ap (λ (n : ℕ). range_of bytes at n) count_is ∙ (ap (λ (n : ℕ). range_of bytes n (length (blob_spelling e.text))) at_is ∙ reads.1))

-- A text that was read in its place is the entry's, and it is there.
pub text_read : (form : Form) (xs : List Entry) (e : Entry) (ys : List Entry) (bytes : List ℕ) (text_at : ℕ) → bytes ≡ epoch_bytes form (xs ++ e ∷ ys) → text_at ≡ 8 + length (entries_bytes form None xs) + blob_front e.text
    → (text_at + length e.text ≤ length bytes) × (take (length e.text) (drop text_at bytes) ≡ e.text)
text_read form xs e ys bytes text_at is at_is =
    let whole = epoch_bytes form (xs ++ e ∷ ys) in
    let at = 8 + length (entries_bytes form None xs) + blob_front e.text in
    let reads = divided_reads whole at e.text (epoch_text form xs e ys) in
    let inside = reads.0 in
    let size = ap length is in
    (omega (arith, inside, size, at_is), ap (λ (n : ℕ). take (length e.text) (drop n bytes)) at_is ∙ (ap (λ (b : List ℕ). take (length e.text) (drop at b)) is ∙ reads.1))
