-- Epochs with the same bytes have the same entries.
use Rattle.std.proofs.Common.{◌≡◌, ℕ, ◌<◌, ◌≤◌, ◌^◌, List, [], ◌∷◌, ◌++◌, codes, length, length-append, Option, Some, None, refl, sym, ap, ◌∙◌, arith}
use Rattle.std.proofs.lemmas.List.{append_cancel_left}
use Rattle.std.proofs.lemmas.Fmt.{decimal_injective}
use Rattle.std.specs.Fmt.{decimal}
use Rattle.std.specs.Prelude.{ℤ, pos}
use Rattle.hex.specs.Hex.{encode_lower}
use Rattle.arch_base.specs.declared.ids.Form.{Form}
use Rattle.arch_base.specs.declared.ids.ObjectId.{ObjectId}
use Rattle.arch_base.specs.Ids.{id_bytes}
use Rattle.arch_base.proofs.SameIds.{id_size-most}
use Rattle.git_objects.specs.CleanText.{clean}
use Rattle.git_objects.specs.Commits.{commit_content, tree_line, parent_line, author_line, committed_part, text_part, email_part, name_part, number_part, zone_text}
use Rattle.git_objects.specs.declared.entry_kind.EntryKind.{EntryKind}
use Rattle.git_objects.specs.Objects.{blob_spelling, blob_id_of, id_of, tree_content, sized_before}
use Rattle.git_objects.proofs.Spellings.{sized-once, tree-once, length-tree_content}
use Rattle.git_objects.proofs.ObjectIds.{IsObjectId-id_of}
use Rattle.git_objects.proofs.Splitting.{parted-once}
use Rattle.git_objects.proofs.Numbers.{NoByte-decimal}
use Rattle.mail_date.specs.declared.moment.Moment.{Moment}
use Rattle.mail_commits.specs.Facts.{from_fact, email_fact, subject_fact, date_fact}
use Rattle.mail_commits.specs.Commits.{commit_of, written_at}
use Rattle.mail_commits.specs.Entries.{magic, tree_of}
use Rattle.epoch_file.specs.Entries.{EpochEntry, IsEpochEntry, AreEpochEntries, bytes_after, commit_after, chain, EpochsDiffer}
use Rattle.arch_base.specs.Moments.{last_moment}
use Rattle.epoch_file.proofs.Sizes.{content_after, objects, headed, length-entry}

-- A number and a space determine the number.
number_once : (m n : ℕ) (x y : List ℕ) → m < 2 ^ 64 → n < 2 ^ 64 → decimal m ++ 32 ∷ x ≡ decimal n ++ 32 ∷ y → m ≡ n
number_once m n x y small fits e =
    decimal_injective m n small fits (parted-once 32 (decimal m) (decimal n) x y (NoByte-decimal 32 m (omega arith) small) (NoByte-decimal 32 n (omega arith) fits) e).0

-- Lists with the same head.
tail_once : (c : ℕ) (x y : List ℕ) → c ∷ x ≡ c ∷ y → x ≡ y
tail_once c x y e = cc

-- The bytes after digits and a line feed.
after_digits : (digits x y : List ℕ) (end : ℕ) → digits ++ end ∷ x ≡ digits ++ end ∷ y → x ≡ y
after_digits digits x y end e = tail_once end x y (append_cancel_left digits (end ∷ x) (end ∷ y) e)

-- The bytes after a parent's line.
after_parent : (parent : Option ObjectId) (x y : List ℕ) → parent_line parent x ≡ parent_line parent y → x ≡ y
after_parent None x y e = e
after_parent (Some id) x y e = after_digits (encode_lower (id_bytes id)) x y 10 (append_cancel_left (codes "parent ") (encode_lower (id_bytes id) ++ 10 ∷ x) (encode_lower (id_bytes id) ++ 10 ∷ y) e)

-- The bytes after the lines of tree and parent.
after_ids : (tree : ObjectId) (parent : Option ObjectId) (x y : List ℕ) → tree_line tree (parent_line parent x) ≡ tree_line tree (parent_line parent y) → x ≡ y
after_ids tree parent x y e =
    after_parent parent x y (after_digits (encode_lower (id_bytes tree)) (parent_line parent x) (parent_line parent y) 10
    (append_cancel_left (codes "tree ") (encode_lower (id_bytes tree) ++ 10 ∷ parent_line parent x) (encode_lower (id_bytes tree) ++ 10 ∷ parent_line parent y) e))

-- The bytes after the author's name and address.
after_author : (name email : List ℕ) (m n : ℕ) (z w : ℤ) (x y : List ℕ) → author_line name email m z x ≡ author_line name email n w y → decimal m ++ 32 ∷ zone_text z x ≡ decimal n ++ 32 ∷ zone_text w y
after_author name email m n z w x y e =
    let a = number_part 32 m (zone_text z x) in
    let b = number_part 32 n (zone_text w y) in
    let names = append_cancel_left (codes "author ") (name_part name (email_part email a)) (name_part name (email_part email b)) e in
    let emails = tail_once 60 (email_part email a) (email_part email b) (after_digits name (60 ∷ email_part email a) (60 ∷ email_part email b) 32 names) in
    tail_once 32 a b (after_digits email (32 ∷ a) (32 ∷ b) 62 emails)

-- The bytes after a time zone.
after_zone : (zone : ℤ) (x y : List ℕ) → zone_text zone x ≡ zone_text zone y → x ≡ y
after_zone zone x y e = cc

-- Two commits with the same text, tree, parent and content have the same moment.
moment_once : (text : List ℕ) (tree : ObjectId) (parent : Option ObjectId) (m n : ℕ) → m ≤ last_moment → n ≤ last_moment
    → commit_content (commit_of text tree parent m) ≡ commit_content (commit_of text tree parent n) → m ≡ n
unfolding commit_of
moment_once text tree parent m n small fits e = go (date_fact text) (after_ids tree parent _ _ e) where
  go : (written : Option Moment)
      → author_line (from_fact text) (email_fact text) (written_at written m).secs (written_at written m).zone (committed_part m (text_part 10 (clean (subject_fact text)) []))
      ≡ author_line (from_fact text) (email_fact text) (written_at written n).secs (written_at written n).zone (committed_part n (text_part 10 (clean (subject_fact text)) [])) → m ≡ n
  go None is =
      number_once m n (zone_text (pos 0) (committed_part m (text_part 10 (clean (subject_fact text)) []))) (zone_text (pos 0) (committed_part n (text_part 10 (clean (subject_fact text)) []))) (omega (arith, small)) (omega (arith, fits))
      (after_author (from_fact text) (email_fact text) m n (pos 0) (pos 0) (committed_part m (text_part 10 (clean (subject_fact text)) [])) (committed_part n (text_part 10 (clean (subject_fact text)) [])) is)
  go (Some date) is =
      let end = text_part 10 (clean (subject_fact text)) [] in
      let numbers = after_author (from_fact text) (email_fact text) date.secs date.secs date.zone date.zone (committed_part m end) (committed_part n end) is in
      let zones = after_digits (decimal date.secs) (zone_text date.zone (committed_part m end)) (zone_text date.zone (committed_part n end)) 32 numbers in
      let parts = after_zone date.zone (committed_part m end) (committed_part n end) zones in
      number_once m n (codes "+0000\n\n" ++ end) (codes "+0000\n\n" ++ end) (omega (arith, small)) (omega (arith, fits))
      (append_cancel_left (codes "\ncommitter piv2 <piv2@localhost> ") (number_part 32 m (codes "+0000\n\n" ++ end)) (number_part 32 n (codes "+0000\n\n" ++ end)) parts)

-- The content of a tree is small.
tree_small : (form : Form) (kind : EntryKind) (text : List ℕ) → length (tree_content kind (blob_id_of form text)) < 2 ^ 64
tree_small form kind text = omega (arith, length-tree_content kind (blob_id_of form text), (IsObjectId-id_of form (blob_spelling text)).len, id_size-most form)

-- Entries with equal parts are equal.
same_entry : (e f : EpochEntry) → e.kind ≡ f.kind → e.text ≡ f.text → e.moment ≡ f.moment → e ≡ f
same_entry e f n t m = λ i. record { kind = n i; text = t i; moment = m i }

-- Bytes determine the first entry that they start with, and the rest after it.
pub entry_once : (form : Form) (parent : Option ObjectId) (e f : EpochEntry) (x y : List ℕ) → IsEpochEntry e → IsEpochEntry f → length (bytes_after form parent e ++ x) < 2 ^ 64
    → bytes_after form parent e ++ x ≡ bytes_after form parent f ++ y → (e ≡ f) × (x ≡ y)
entry_once form parent e f x y h k small is =
    let ce = content_after form parent e in
    let cf = content_after form parent f in
    let commit_e = (codes "commit " ++ (decimal (length ce) ++ 0 ∷ ce)) ++ x in
    let commit_f = (codes "commit " ++ (decimal (length cf) ++ 0 ∷ cf)) ++ y in
    let te = tree_content e.kind (blob_id_of form e.text) in
    let tf = tree_content f.kind (blob_id_of form f.text) in
    let sizes : length (bytes_after form parent e ++ x) ≡ length (bytes_after form parent f ++ y) = ap length is in
    let blobs : codes "blob " ++ sized_before e.text (tree_of form e.kind e.text ++ commit_e) ≡ codes "blob " ++ sized_before f.text (tree_of form f.kind f.text ++ commit_f) =
    sym (headed (codes "blob ") e.text (tree_of form e.kind e.text ++ commit_e)) ∙ (sym (objects form parent e x) ∙ (is ∙ (objects form parent f y ∙ headed (codes "blob ") f.text (tree_of form f.kind f.text ++ commit_f)))) in
    let texts = sized-once e.text f.text (tree_of form e.kind e.text ++ commit_e) (tree_of form f.kind f.text ++ commit_f) (omega (arith, h.text.short)) (omega (arith, k.text.short))
    (append_cancel_left (codes "blob ") (sized_before e.text (tree_of form e.kind e.text ++ commit_e)) (sized_before f.text (tree_of form f.kind f.text ++ commit_f)) blobs) in
    let trees : codes "tree " ++ sized_before te commit_e ≡ codes "tree " ++ sized_before tf commit_f = sym (headed (codes "tree ") te commit_e) ∙ (texts.1 ∙ headed (codes "tree ") tf commit_f) in
    let tree_parts = sized-once te tf commit_e commit_f (tree_small form e.kind e.text) (tree_small form f.kind f.text) (append_cancel_left (codes "tree ") (sized_before te commit_e) (sized_before tf commit_f) trees) in
    let kinds : e.kind ≡ f.kind = (tree-once e.kind f.kind (blob_id_of form e.text) (blob_id_of form f.text) (IsObjectId-id_of form (blob_spelling e.text)) (IsObjectId-id_of form (blob_spelling f.text)) tree_parts.0).0 in
    let commits : codes "commit " ++ sized_before ce x ≡ codes "commit " ++ sized_before cf y = sym (headed (codes "commit ") ce x) ∙ (tree_parts.1 ∙ headed (codes "commit ") cf y) in
    let contents = sized-once ce cf x y (omega (arith, small, length-entry form parent e, length-append (bytes_after form parent e) x)) (omega (arith, small, sizes, length-entry form parent f, length-append (bytes_after form parent f) y))
    (append_cancel_left (codes "commit ") (sized_before ce x) (sized_before cf y) commits) in
    let t = sym texts.0 in
    let n = sym kinds in
    let moved : commit_content (commit_of f.text (id_of form (tree_of form f.kind f.text)) parent e.moment) ≡ ce = λ i. commit_content (commit_of (t i) (id_of form (tree_of form (n i) (t i))) parent e.moment) in
    let moments = moment_once f.text (id_of form (tree_of form f.kind f.text)) parent e.moment f.moment h.moment k.moment (moved ∙ contents.0) in
    (same_entry e f kinds texts.0 moments, contents.1)

-- An entry isn't empty.
entry_not_none : (form : Form) (parent : Option ObjectId) (e : EpochEntry) (x : List ℕ) → [] ≡ bytes_after form parent e ++ x → ⊥
entry_not_none form parent e x is = omega (arith, ap length is, length-append (bytes_after form parent e) x, length-entry form parent e)

-- The bytes of entries after a parent determine them.
chain_once : (form : Form) (parent : Option ObjectId) (es fs : List EpochEntry) → AreEpochEntries es → AreEpochEntries fs → length (chain form parent es) < 2 ^ 64 → chain form parent es ≡ chain form parent fs → es ≡ fs
chain_once form parent [] [] h k small is = refl
chain_once form parent [] (f ∷ fs) h k small is = absurd (entry_not_none form parent f (chain form (Some (commit_after form parent f)) fs) is)
chain_once form parent (e ∷ es) [] h k small is = absurd (entry_not_none form parent e (chain form (Some (commit_after form parent e)) es) (sym is))
chain_once form parent (e ∷ es) (f ∷ fs) h k small is =
    let rest = chain form (Some (commit_after form parent e)) es in
    let first = entry_once form parent e f rest (chain form (Some (commit_after form parent f)) fs) h.0 k.0 small is in
    let moved : chain form (Some (commit_after form parent f)) fs ≡ chain form (Some (commit_after form parent e)) fs = ap (λ (d : EpochEntry). chain form (Some (commit_after form parent d)) fs) (sym first.0) in
    let others = chain_once form (Some (commit_after form parent e)) es fs h.1 k.1 (omega (arith, small, length-append (bytes_after form parent e) rest)) (first.1 ∙ moved) in
    let one = first.0 in
    λ i. one i ∷ others i

-- The bytes of an epoch determine its entries.
pub epochs_differ : EpochsDiffer
epochs_differ form es fs h k small is = chain_once form None es fs h k (omega (arith, small, length-append (magic form) (chain form None es))) (append_cancel_left (magic form) (chain form None es) (chain form None fs) is)
