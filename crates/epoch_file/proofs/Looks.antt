-- The front of held bytes that start with an entry.
use Rattle.std.proofs.Common.{◌≡◌, ℕ, ◌+◌, ◌<◌, ◌≤◌, ◌^◌, ◌⊎◌, List, ◌∷◌, ◌++◌, codes, length, drop, length-append, Option, Some, None, sym, ap, ◌∙◌, arith}
use Rattle.std.specs.Fmt.{decimal}
use Rattle.std.proofs.lemmas.List.{append_assoc}
use Rattle.std.proofs.lemmas.Option.{none-some, same_Some}
use Rattle.arch_base.specs.declared.ids.Form.{Form}
use Rattle.arch_base.specs.declared.ids.ObjectId.{ObjectId}
use Rattle.git_objects.specs.Objects.{blob_spelling}
use Rattle.mail_reader.specs.StorageTexts.{max_text_len}
use Rattle.mail_commits.specs.Entries.{tree_of}
use Rattle.epoch_file.specs.declared.sight.Sight.{Sight}
use Rattle.epoch_file.specs.declared.sight.Sight.TheVariants.{Lacks, Short, Whole}
use Rattle.epoch_file.specs.Entries.{EpochEntry, bytes_after}
use Rattle.epoch_file.specs.Sights.{StartsWithEntry, Sees, SeesCommit, SeesAll, commit_offset, EndsCommit}
use Rattle.epoch_file.proofs.Fronts.{within, fits, after}
use Rattle.epoch_file.proofs.Sizes.{content_after, head_of, objects, headed, head_first, length-head, digits-le, length-blob, length-tree, length-entry}

-- The type and the size of the blob are held.
pub blob_head : (form : Form) (parent : Option ObjectId) (e : EpochEntry) (held more rest : List ℕ) (left : ℕ) → StartsWithEntry form parent e held more rest left → (28 ≤ length held) ⊎ (left ≤ length held)
    → (tail : List ℕ) × (held ≡ codes "blob " ++ (decimal (length e.text) ++ 0 ∷ tail))
blob_head form parent e held more rest left s enough =
    let after_text = tree_of form e.kind e.text ++ ((codes "commit " ++ (decimal (length (content_after form parent e)) ++ 0 ∷ content_after form parent e)) ++ rest) in
    let head = head_of (codes "blob ") (length e.text) in
    let whole : held ++ more ≡ head ++ (e.text ++ after_text) =
    s.is ∙ (objects form parent e rest ∙ (headed (codes "blob ") e.text after_text ∙ head_first (codes "blob ") (e.text ++ after_text) (length e.text))) in
    let short : length e.text < 2 ^ 64 = omega (arith, s.valid.text.short) in
    let size : length head ≤ 28 = omega (arith, length-head (codes "blob ") (length e.text), digits-le (length e.text) short) in
    let here = within held more head (e.text ++ after_text) whole (fits held more head (e.text ++ after_text) 28 left whole s.all size enough) in
    (drop (length head) held, here ∙ sym (head_first (codes "blob ") (drop (length head) held) (length e.text)))

-- An entry has no more bytes than are left.
pub entry-le : (form : Form) (parent : Option ObjectId) (e : EpochEntry) (held more rest : List ℕ) (left : ℕ) → StartsWithEntry form parent e held more rest left → length (bytes_after form parent e) ≤ left
entry-le form parent e held more rest left s = omega (arith, s.all, ap length s.is, length-append (bytes_after form parent e) rest)

-- The type and the size of the commit are held.
pub record CommitHead (form : Form) (parent : Option ObjectId) (e : EpochEntry) (held : List ℕ) : Type 0 where
  pub tail : List ℕ
  pub offset : commit_offset form e.text ≤ length held
  pub is : drop (commit_offset form e.text) held ≡ codes "commit " ++ (decimal (length (content_after form parent e)) ++ 0 ∷ tail)

pub commit_head : (form : Form) (parent : Option ObjectId) (e : EpochEntry) (held more rest : List ℕ) (left : ℕ) → left < 2 ^ 64 → StartsWithEntry form parent e held more rest left
    → (commit_offset form e.text + 28 ≤ length held) ⊎ (left ≤ length held) → CommitHead form parent e held
commit_head form parent e held more rest left small s enough =
    let content = content_after form parent e in
    let front = blob_spelling e.text ++ tree_of form e.kind e.text in
    let head = head_of (codes "commit ") (length content) in
    let commit_is = headed (codes "commit ") content rest ∙ head_first (codes "commit ") (content ++ rest) (length content) in
    let whole : held ++ more ≡ (front ++ head) ++ (content ++ rest) =
    s.is ∙ (objects form parent e rest ∙ (ap (λ (l : List ℕ). blob_spelling e.text ++ (tree_of form e.kind e.text ++ l)) commit_is
    ∙ (sym (append_assoc (blob_spelling e.text) (tree_of form e.kind e.text) (head ++ (content ++ rest))) ∙ sym (append_assoc front head (content ++ rest))))) in
    let long = entry-le form parent e held more rest left s in
    let size : length content < 2 ^ 64 = omega (arith, small, long, length-entry form parent e) in
    let digits = digits-le (length content) size in
    let front_len : length front ≡ commit_offset form e.text = omega (arith, length-append (blob_spelling e.text) (tree_of form e.kind e.text), length-blob e.text, length-tree form e.kind e.text) in
    let both_len : length (front ++ head) ≡ commit_offset form e.text + length head = omega (arith, length-append front head, front_len) in
    let head_len : length head ≤ 28 = omega (arith, length-head (codes "commit ") (length content), digits) in
    let short : length (front ++ head) ≤ commit_offset form e.text + 28 = omega (arith, both_len, head_len) in
    let inside : length (front ++ head) ≤ length held = fits held more (front ++ head) (content ++ rest) (commit_offset form e.text + 28) left whole s.all short enough in
    let here : held ≡ (front ++ head) ++ drop (length (front ++ head)) held = within held more (front ++ head) (content ++ rest) whole inside in
    let tail = drop (length (front ++ head)) held in
    let split : held ≡ front ++ (head ++ tail) = here ∙ append_assoc front head tail in record {
      tail = tail;
      offset = omega (arith, inside, both_len);
      is = after held front (head ++ tail) (commit_offset form e.text) (sym front_len) split ∙ sym (head_first (codes "commit ") tail (length content));
    }

-- The end of a commit is that of its entry.
pub commit_end : (form : Form) (parent : Option ObjectId) (e : EpochEntry) (held more rest : List ℕ) (left at : ℕ) (found : Option ℕ) → left < 2 ^ 64 → StartsWithEntry form parent e held more rest left → at ≡ commit_offset form e.text
    → (at + 28 ≤ length held) ⊎ (left ≤ length held) → EndsCommit at held found → found ≡ Some (length (bytes_after form parent e))
commit_end form parent e held more rest left at found small s offset enough ends =
    let content = content_after form parent e in
    let moved : (commit_offset form e.text + 28 ≤ length held) ⊎ (left ≤ length held) = rw (← offset) enough in
    let head = commit_head form parent e held more rest left small s moved in
    let long = entry-le form parent e held more rest left s in
    let size = length-entry form parent e in
    let end = ends (length content) head.tail (omega (arith, offset, head.offset)) (omega (arith, offset, size, long, small)) (ap (λ (n : ℕ). drop n held) offset ∙ head.is) in
    end ∙ ap Some (ap (λ (n : ℕ). n + length (codes "commit " ++ decimal (length content)) + 1 + length content) offset ∙ sym size)

-- By an entry's length.
pub sees-by_length : (form : Form) (at : ℕ) (held : List ℕ) (left len : ℕ) (sight : Sight) → left < 2 ^ 64 → (at + 28 ≤ length held) ⊎ (left ≤ length held) → EndsCommit at held (Some len) → SeesAll form len held left sight → SeesCommit form at held left sight
sees-by_length form at held left len Lacks small enough ends all = λ parent e more rest offset s.
    all parent e more rest (same_Some len (length (bytes_after form parent e)) (commit_end form parent e held more rest left at (Some len) small s offset enough ends)) s
sees-by_length form at held left len Short small enough ends all = all
sees-by_length form at held left len Whole small enough ends all = λ parent e more rest offset s.
    all parent e more rest (same_Some len (length (bytes_after form parent e)) (commit_end form parent e held more rest left at (Some len) small s offset enough ends)) s

-- Without a length there is no entry.
pub sees-no_length : (form : Form) (at : ℕ) (held : List ℕ) (left : ℕ) → left < 2 ^ 64 → (at + 28 ≤ length held) ⊎ (left ≤ length held) → EndsCommit at held None → SeesCommit form at held left Lacks
sees-no_length form at held left small enough ends = λ parent e more rest offset s. none-some (length (bytes_after form parent e)) (commit_end form parent e held more rest left at None small s offset enough ends)

-- The offset of the commit is found by the size of the blob.
abbrev pub FindsPlace : Form → List ℕ → Option ℕ → Type 0
FindsPlace form held found = (text rest : List ℕ) → length text ≤ max_text_len → held ≡ codes "blob " ++ (decimal (length text) ++ 0 ∷ rest) → found ≡ Some (commit_offset form text)

place_found : (form : Form) (parent : Option ObjectId) (e : EpochEntry) (held more rest : List ℕ) (left : ℕ) (found : Option ℕ) → StartsWithEntry form parent e held more rest left → (28 ≤ length held) ⊎ (left ≤ length held) → FindsPlace form held found
    → found ≡ Some (commit_offset form e.text)
place_found form parent e held more rest left found s enough finds = let head = blob_head form parent e held more rest left s enough in finds e.text head.0 s.valid.text.short head.1

-- By the offset of the commit.
pub sees-by_place : (form : Form) (held : List ℕ) (left at : ℕ) (sight : Sight) → (28 ≤ length held) ⊎ (left ≤ length held) → FindsPlace form held (Some at) → SeesCommit form at held left sight → Sees form held left sight
sees-by_place form held left at Lacks enough finds all = λ parent e more rest any s.
    all parent e more rest (same_Some at (commit_offset form e.text) (place_found form parent e held more rest left (Some at) s enough finds)) s
sees-by_place form held left at Short enough finds all = all
sees-by_place form held left at Whole enough finds all = λ parent e more rest any s.
    all parent e more rest (same_Some at (commit_offset form e.text) (place_found form parent e held more rest left (Some at) s enough finds)) s

-- Without an offset of the commit there is no entry.
pub sees-no_place : (form : Form) (held : List ℕ) (left : ℕ) → (28 ≤ length held) ⊎ (left ≤ length held) → FindsPlace form held None → Sees form held left Lacks
sees-no_place form held left enough finds = λ parent e more rest any s. none-some (commit_offset form e.text) (place_found form parent e held more rest left None s enough finds)
