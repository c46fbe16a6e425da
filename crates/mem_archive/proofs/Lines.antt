-- Kept entries without their texts, and their texts by blob ids.
use Rattle.std.proofs.Common.{◌≡◌, ◌<◌, ◌≤◌, ℕ, zero, suc, Bool, true, false, if◌then◌else◌, List, [], ◌∷◌, ◌++◌, length, get_or, slice_get, Option, Some, None, refl, sym, ap, ◌∙◌, arith}
use Rattle.arch_base.specs.declared.config.Config.{Config}
use Rattle.arch_base.specs.Ids.{id_eq}
use Rattle.arch_base.specs.declared.ids.ObjectId.{ObjectId}
use Rattle.arch_base.specs.declared.ids.Form.{Form}
use Rattle.git_objects.specs.Objects.{blob_id_of}
use Rattle.git_objects.specs.declared.entry_kind.EntryKind.{EntryKind}
use Rattle.arch_model.specs.Archives.{Archive, Entry, messages, text_of, blob_number}
use Rattle.arch_model.specs.Shelves.{line_at, blob_text}
use Rattle.arch_model.specs.declared.line.EntryLine.{EntryLine}
use Rattle.arch_model.proofs.Shelving.{rises-from, blob_found-text, blob-none}
use Rattle.arch_judge.specs.Indexes.{number_in}
use Rattle.arch_judge.specs.declared.index.Index.{Index}
use Rattle.mem_archive.specs.Memory.{archive_of, entry_of, entries_of, line_of, lines_of, IsKept}
use Rattle.mem_archive.specs.declared.kept.End.{End}
use Rattle.mem_archive.specs.declared.kept.Kept.{Kept}
use Rattle.mem_archive.specs.declared.kept.KeptPlace.{KeptPlace}

-- One more entry.
pub entries_of-push : (ks : List Kept) (k : Kept) → entries_of (ks ++ k ∷ []) ≡ entries_of ks ++ entry_of k ∷ []
entries_of-push [] k = refl
entries_of-push (x ∷ ks) k = ap (λ (es : List Entry). entry_of x ∷ es) (entries_of-push ks k)

-- The entry of a kind.
pub of-kind : (k : Kept) (kind : EntryKind) → k.kind ≡ kind → entry_of k ≡ record { kind = kind; number = k.number; epoch = k.epoch; text = k.text; moment = k.moment }
of-kind k kind is = ap (λ (l : EntryKind). record { kind = l; number = k.number; epoch = k.epoch; text = k.text; moment = k.moment }) is

pub length-entries_of : (ks : List Kept) → length (entries_of ks) ≡ length ks
length-entries_of [] = refl
length-entries_of (k ∷ ks) = let rest = length-entries_of ks in omega (arith, rest)

pub lines_of-push : (form : Form) (ks : List Kept) (k : Kept) → lines_of form (ks ++ k ∷ []) ≡ lines_of form ks ++ line_of form k ∷ []
lines_of-push form [] k = refl
lines_of-push form (x ∷ ks) k = ap (λ (ls : List EntryLine). line_of form x ∷ ls) (lines_of-push form ks k)

-- The entry at an index.
lines_of-at : (form : Form) (i : ℕ) (ks : List Kept) (k : Kept) → i < length ks → k ≡ get_or ks i k → slice_get (lines_of form ks) i ≡ Some (line_of form k)
lines_of-at form i [] k h at = absurd (omega arith)
lines_of-at form zero (x ∷ ks) k h at = ap (λ (y : Kept). Some (line_of form y)) (sym at)
lines_of-at form (suc i) (x ∷ ks) k h at = lines_of-at form i ks k (omega arith) at

-- There is none past the last.
lines_of-past : (form : Form) (i : ℕ) (ks : List Kept) → length ks ≤ i → slice_get (lines_of form ks) i ≡ None
lines_of-past form i [] h = refl
lines_of-past form zero (x ∷ ks) h = absurd (omega arith)
lines_of-past form (suc i) (x ∷ ks) h = lines_of-past form i ks (omega arith)

-- Where a number has a blob id, a text has it.
number_step : (t : Bool) (e : Entry) (number : Option ℕ) (text : Option (List ℕ)) (n : ℕ) → (if t then Some e.number else number) ≡ Some n → (if t then Some e.text else text) ≡ None → (number ≡ Some n → text ≡ None → ⊥) → ⊥
number_step true e number text n some none rest = absurd (let wrong : Some e.text ≡ None = none in cc)
number_step false e number text n some none rest = rest some none

blob-both : (form : Form) (es : List Entry) (blob : ObjectId) (n : ℕ) → blob_number form es blob ≡ Some n → blob_text form es blob ≡ None → ⊥
blob-both form [] blob n some none = absurd (let wrong : None ≡ Some n = some in cc)
blob-both form (e ∷ es) blob n some none = number_step (id_eq blob (blob_id_of form e.text)) e (blob_number form es blob) (blob_text form es blob) n some none (blob-both form es blob n)

module _ (config : Config) (ks : List Kept) (places : List (Option KeptPlace)) (index : Index) (end_ : End) (a : Archive) (is : archive_of config ks places ≡ a) (kept : IsKept config ks places index end_) where
  same_lines : (i : ℕ) → slice_get (lines_of config.form ks) i ≡ line_at a.config.form a.entries i
  same_lines i = ap (λ (ls : List EntryLine). slice_get ls i) kept.lines ∙ ap (λ (b : Archive). line_at b.config.form b.entries i) is

  -- The entry at an index.
  pub line_in-at : (i : ℕ) (k : Kept) → i < length ks → k ≡ get_or ks i k → Some (line_of config.form k) ≡ line_at a.config.form a.entries i
  line_in-at i k h at = sym (lines_of-at config.form i ks k h at) ∙ same_lines i

  pub line_in-past : (i : ℕ) → length ks ≤ i → None ≡ line_at a.config.form a.entries i
  line_in-past i h = sym (lines_of-past config.form i ks h) ∙ same_lines i

  numbered : (blob : ObjectId) → number_in index.blobs blob ≡ blob_number config.form (entries_of ks) blob
  numbered blob = kept.indexed.blobs blob

  -- No entry has the blob id.
  pub blob_in-none : (blob : ObjectId) → None ≡ number_in index.blobs blob → None ≡ blob_text a.config.form a.entries blob
  blob_in-none blob none = sym (blob-none config.form (entries_of ks) blob (sym (numbered blob) ∙ sym none)) ∙ ap (λ (b : Archive). blob_text b.config.form b.entries blob) is

  -- The message with this number is the first that has it, and its text is the one.
  pub blob_in-some : (blob : ObjectId) (n : ℕ) (found : Option (List ℕ)) → Some n ≡ number_in index.blobs blob → found ≡ text_of (messages a.entries) n → found ≡ blob_text a.config.form a.entries blob
  blob_in-some blob n found some found_is =
      found_is
      ∙ sym (ap (λ (b : Archive). text_of (messages b.entries) n) is)
      ∙ blob_found-text config.form 1 (entries_of ks) blob n kept.deletions (rises-from 1 0 (entries_of ks) kept.order) (sym (numbered blob) ∙ sym some)
      ∙ ap (λ (b : Archive). blob_text b.config.form b.entries blob) is

  -- A number that the index has for a blob id has a message.
  pub number_in-some : (blob : ObjectId) (n : ℕ) → number_in index.blobs blob ≡ Some n → text_of (messages a.entries) n ≡ None → ⊥
  number_in-some blob n some none =
      let text_is : None ≡ blob_text a.config.form a.entries blob = blob_in-some blob n None (sym some) (sym none) in
      blob-both config.form (entries_of ks) blob n (sym (numbered blob) ∙ some) (ap (λ (b : Archive). blob_text b.config.form b.entries blob) is ∙ sym text_is)
