-- Where the text of an entry is in the file of its epoch.
use Rattle.std.specs.Prelude.{◌≡◌, ◌+◌, ◌≤◌, ◌==◌, ℕ, true, List, [], ◌∷◌, ◌++◌, codes, length, take, drop, Option, Some, None, refl}
use Rattle.std.specs.Fmt.{decimal}
use Rattle.std.specs.List.{AllByRecursion}
use Rattle.std.proofs.Common.{◌∙◌, sym, ap, subst, arith, append_assoc, length-append}
use Rattle.std.proofs.lemmas.List.{take-append-drop}
use Rattle.std.proofs.Math.Seq.{take-append_seam, drop-append_seam}
use Rattle.std.proofs.lemmas.List.Elements.{filter-append}
use Rattle.std.proofs.lemmas.Bool.Decides.{nat_tests}
use Rattle.arch_base.specs.declared.ids.ObjectId.{ObjectId}
use Rattle.arch_base.specs.declared.ids.Form.{Form}
use Rattle.disk_model.specs.Disk.{File, bytes_of}
use Rattle.git_objects.specs.declared.entry_kind.EntryKind.{EntryKind}
use Rattle.arch_model.specs.Archives.{Entry, in_epoch}
use Rattle.arch_model.specs.Epochs.{epoch_bytes, entries_bytes, last_commit}
use Rattle.mail_commits.specs.Entries.{entry_bytes, tree_of, commit_text, magic, commit_id}
use Rattle.epoch_file.specs.Entries.{bytes_after}
use Rattle.epoch_file.specs.Walking.{blob_front}
use Rattle.root_change.specs.Texts.{Fronts}
use Rattle.store_finding.specs.Kept.{in_file}
use Rattle.store_finding.proofs.Magics.{magic_length}

-- What holds of all items holds of one among them.
pub one_of_all : (P : Entry → Type 0) (xs : List Entry) (e : Entry) (ys : List Entry) → AllByRecursion P (xs ++ e ∷ ys) → P e
one_of_all P [] e ys all = all.0
one_of_all P (x ∷ xs) e ys all = one_of_all P xs e ys all.1

-- Bytes have a text at an offset.
pub record Divided (bytes : List ℕ) (offset : ℕ) (text : List ℕ) : Type 0 where
  pub before : List ℕ
  pub after : List ℕ
  pub is : bytes ≡ before ++ (text ++ after)
  pub len : length before ≡ offset

divided_after : (front bytes : List ℕ) (offset : ℕ) (text : List ℕ) → Divided bytes offset text → Divided (front ++ bytes) (length front + offset) text
divided_after front bytes offset text d = record {
  before = front ++ d.before;
  after = d.after;
  is = ap (λ (b : List ℕ). front ++ b) d.is ∙ sym (append_assoc front d.before (text ++ d.after));
  len = length-append front d.before ∙ ap (λ (n : ℕ). length front + n) d.len;
}

divided_before : (bytes more : List ℕ) (offset : ℕ) (text : List ℕ) → Divided bytes offset text → Divided (bytes ++ more) offset text
divided_before bytes more offset text d = record {
  before = d.before;
  after = d.after ++ more;
  is = ap (λ (b : List ℕ). b ++ more) d.is ∙ (append_assoc d.before (text ++ d.after) more ∙ ap (λ (b : List ℕ). d.before ++ b) (append_assoc text d.after more));
  len = d.len;
}

-- The bytes from there on, as many as the text has, are the text.
pub divided_reads : (bytes : List ℕ) (offset : ℕ) (text : List ℕ) → Divided bytes offset text → (offset + length text ≤ length bytes) × (take (length text) (drop offset bytes) ≡ text)
divided_reads bytes offset text d =
    let size : length bytes ≡ length (d.before ++ (text ++ d.after)) = ap length d.is in
    let parts = length-append d.before (text ++ d.after) in
    let rest = length-append text d.after in
    let len = d.len in
    let dropped : drop offset bytes ≡ text ++ d.after =
    ap (λ (n : ℕ). drop n bytes) (sym len) ∙ (ap (drop (length d.before)) d.is ∙ drop-append_seam d.before (text ++ d.after)) in
    (omega (arith, size, parts, rest, len), ap (take (length text)) dropped ∙ take-append_seam text d.after)

-- The bytes of entries with one among them.
entries_split : (form : Form) (parent : Option ObjectId) (xs : List Entry) (e : Entry) (ys : List Entry)
    → entries_bytes form parent (xs ++ e ∷ ys) ≡ entries_bytes form parent xs ++ (bytes_after form (last_commit form parent xs) (in_file e) ++ entries_bytes form (Some (commit_id form e.kind e.text e.moment (last_commit form parent xs))) ys)
entries_split form parent [] e ys = refl
entries_split form parent (x ∷ xs) e ys =
    let next : Option ObjectId = Some (commit_id form x.kind x.text x.moment parent) in
    ap (λ (b : List ℕ). entry_bytes form x.kind x.text x.moment parent ++ b) (entries_split form next xs e ys)
    ∙ sym (append_assoc (entry_bytes form x.kind x.text x.moment parent) (entries_bytes form next xs) (bytes_after form (last_commit form next xs) (in_file e) ++ entries_bytes form (Some (commit_id form e.kind e.text e.moment (last_commit form next xs))) ys))

epoch_split : (form : Form) (xs : List Entry) (e : Entry) (ys : List Entry) → epoch_bytes form (xs ++ e ∷ ys) ≡ magic form ++ entries_bytes form None (xs ++ e ∷ ys)
epoch_split form [] e ys = refl
epoch_split form (x ∷ xs) e ys = refl

pub in_epoch_split : (xs : List Entry) (e : Entry) (ys : List Entry) → in_epoch (xs ++ e ∷ ys) e.epoch ≡ in_epoch xs e.epoch ++ e ∷ in_epoch ys e.epoch
in_epoch_split xs e ys =
    let same : (e.epoch == e.epoch) ≡ true = grind (arith, nat_tests) in
    filter-append (λ (f : Entry). f.epoch == e.epoch) xs (e ∷ ys) ∙ rw same refl

-- A text in the bytes of a blob: after its type, its size and NUL.
sized_text : (digits text more : List ℕ) → Divided ((codes "blob " ++ (digits ++ 0 ∷ text)) ++ more) (6 + length digits) text
sized_text digits text more = record {
  before = codes "blob " ++ (digits ++ 0 ∷ []);
  after = more;
  is = ap (λ (b : List ℕ). codes "blob " ++ b) (append_assoc digits (0 ∷ text) more ∙ sym (append_assoc digits (0 ∷ []) (text ++ more)));
  len = let size = length-append digits (0 ∷ []) in omega (arith, size);
}

entry_text : (form : Form) (kind : EntryKind) (text : List ℕ) (moment : ℕ) (parent : Option ObjectId) → Divided (entry_bytes form kind text moment parent) (6 + length (decimal (length text))) text
unfolding entry_bytes
entry_text form kind text moment parent = sized_text (decimal (length text)) text (tree_of form kind text ++ commit_text form kind text moment parent)

-- A text in the bytes of its epoch.
pub epoch_text : (form : Form) (xs : List Entry) (e : Entry) (ys : List Entry) → Divided (epoch_bytes form (xs ++ e ∷ ys)) (8 + length (entries_bytes form None xs) + blob_front e.text) e.text
epoch_text form xs e ys =
    let parent = last_commit form None xs in
    let rest = entries_bytes form (Some (commit_id form e.kind e.text e.moment parent)) ys in
    let all = entries_bytes form None xs ++ (bytes_after form parent (in_file e) ++ rest) in
    let here = divided_before (bytes_after form parent (in_file e)) rest (blob_front e.text) e.text (entry_text form e.kind e.text e.moment parent) in
    let after = divided_after (entries_bytes form None xs) (bytes_after form parent (in_file e) ++ rest) (blob_front e.text) e.text here in
    let whole : Divided (magic form ++ all) (length (magic form) + (length (entries_bytes form None xs) + blob_front e.text)) e.text = divided_after (magic form) all (length (entries_bytes form None xs) + blob_front e.text) e.text after in
    let offset : length (magic form) + (length (entries_bytes form None xs) + blob_front e.text) ≡ 8 + length (entries_bytes form None xs) + blob_front e.text = omega (arith, magic_length form) in
    subst (λ (n : ℕ). Divided (epoch_bytes form (xs ++ e ∷ ys)) n e.text) offset
    (subst (λ (b : List ℕ). Divided b (length (magic form) + (length (entries_bytes form None xs) + blob_front e.text)) e.text) (sym (epoch_split form xs e ys ∙ ap (λ (b : List ℕ). magic form ++ b) (entries_split form None xs e ys))) whole)

-- A text in the bytes that a file starts with is in the file.
pub in_fronts : (bytes : List ℕ) (file : File) (offset : ℕ) (text : List ℕ) → Fronts bytes file → Divided bytes offset text → Divided (bytes_of file) offset text
in_fronts bytes file offset text fronts d =
    let whole : bytes ++ drop (length bytes) (bytes_of file) ≡ bytes_of file =
    ap (λ (b : List ℕ). b ++ drop (length bytes) (bytes_of file)) (sym fronts.front) ∙ take-append-drop (length bytes) (bytes_of file) in
    subst (λ (b : List ℕ). Divided b offset text) whole (divided_before bytes (drop (length bytes) (bytes_of file)) offset text d)
