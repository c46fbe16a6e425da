-- An archive with one more entry is still valid.
use Rattle.std.specs.Prelude.{◌≡◌, ◌≢◌, ◌+◌, ◌<◌, ◌≤◌, ℕ, List, [], ◌∷◌, ◌++◌, Some}
use Rattle.std.specs.List.{AllByRecursion}
use Rattle.std.proofs.Common.{arith, inl, inr, sym, ap, subst, ◌∙◌}
use Rattle.git_objects.specs.declared.entry_kind.EntryKind.{EntryKind}
use Rattle.git_objects.specs.declared.entry_kind.EntryKind.TheVariants.{Message, Deletion}
use Rattle.std.proofs.lemmas.Bool.Decides.{nat_tests}
use Rattle.arch_base.specs.declared.ids.Form.{Form}
use Rattle.git_objects.specs.Objects.{blob_id_of}
use Rattle.mail_reader.specs.Ids.{own_id}
use Rattle.arch_model.specs.Archives.{Entry, Archive, message, deletion, live, text_of, with_entry, with_deletion}
use Rattle.arch_model.specs.Delivery.{greater, last_epoch, new_epoch}
use Rattle.arch_model.specs.Validity.{IsEntry, NumberIsFrom, number_after, Rise, EndsLive, IdsDiffer, LiveDiffer, BlobsAgree, IsArchive}
use Rattle.arch_model.proofs.LiveEntries.{live-message, live-deletion, place-push, ids-now, ids-without, HasText, found-has, live-has, all-text}

-- What holds for each of a list and for one more.
pub all_after : {X : Type 0} (P : X → Type 0) (xs : List X) (x : X) → AllByRecursion P xs → P x → AllByRecursion P (xs ++ x ∷ [])
all_after P [] x all one = (one, tt)
all_after P (y ∷ ys) x all one = (all.0, all_after P ys x all.1 one)

-- A weaker fact holds for each.
pub all_weaker : {X : Type 0} (P Q : X → Type 0) (xs : List X) → ((x : X) → P x → Q x) → AllByRecursion P xs → AllByRecursion Q xs
all_weaker P Q [] less all = tt
all_weaker P Q (x ∷ xs) less all = (less x all.0, all_weaker P Q xs less all.1)

-- No entry has an epoch after the last one.
pub none_later : (es : List Entry) → AllByRecursion (λ (e : Entry). e.epoch ≤ last_epoch es) es
none_later [] = tt
none_later (e ∷ es) = (grind (arith, nat_tests), weaker es (none_later es)) where
  weaker : (fs : List Entry) → AllByRecursion (λ (f : Entry). f.epoch ≤ last_epoch es) fs → AllByRecursion (λ (f : Entry). f.epoch ≤ greater e.epoch (last_epoch es)) fs
  weaker [] all = tt
  weaker (f ∷ fs) all = ((let low : f.epoch ≤ last_epoch es = all.0 in grind (arith, nat_tests)), weaker fs all.1)

-- The epoch of the next entry isn't before that of any other.
pub not_before : (a : Archive) → AllByRecursion (λ (e : Entry). e.epoch ≤ new_epoch a) a.entries
not_before a = all_weaker (λ (e : Entry). e.epoch ≤ last_epoch a.entries) (λ (e : Entry). e.epoch ≤ new_epoch a) a.entries (λ e low. later e.epoch low) (none_later a.entries) where
  later : (epoch : ℕ) → epoch ≤ last_epoch a.entries → epoch ≤ new_epoch a
  later epoch low = grind arith

-- A number from one on is from the one after an entry on, if it is after that entry's number.
from_step : (k new : EntryKind) (number own n : ℕ) → NumberIsFrom new number n → NumberIsFrom new (own + 1) n → NumberIsFrom new (number_after k number own) n
from_step Message new number own n low above = above
from_step Deletion new number own n low above = low

-- Numbers still rise, and epochs still don't fall.
pub rise_more : (number epoch : ℕ) (es : List Entry) (new : Entry) → Rise number epoch es → NumberIsFrom new.kind number new.number → epoch ≤ new.epoch → AllByRecursion (λ (e : Entry). NumberIsFrom new.kind (e.number + 1) new.number) es → AllByRecursion (λ (e : Entry). e.epoch ≤ new.epoch) es → Rise number epoch (es ++ new ∷ [])
rise_more number epoch [] new rise low in_time below older = (low, in_time, tt)
rise_more number epoch (e ∷ es) new rise low in_time below older =
    (rise.0, rise.1, rise_more (number_after e.kind number e.number) e.epoch es new rise.2 (from_step e.kind new.kind number e.number new.number low below.0) older.0 below.1 older.1)

-- Own ids still differ.
pub ids_more : (es : List Entry) (new : Entry) → IdsDiffer es → AllByRecursion (λ (e : Entry). own_id new.text ≢ own_id e.text) es → IdsDiffer (es ++ new ∷ [])
ids_more [] new differ free = (tt, tt)
ids_more (e ∷ es) new differ free = (all_after (λ (f : Entry). own_id f.text ≢ own_id e.text) es new differ.0 free.0, ids_more es new differ.1 free.1)

-- Each entry with the blob id of a text has the text.
abbrev pub Agrees : Form → List ℕ → List Entry → Type 0
Agrees form text es = AllByRecursion (λ (e : Entry). blob_id_of form text ≡ blob_id_of form e.text → text ≡ e.text) es

-- Each blob id still has one text.
pub blobs_more : (form : Form) (es : List Entry) (new : Entry) → BlobsAgree form es → Agrees form new.text es → BlobsAgree form (es ++ new ∷ [])
blobs_more form [] new agree same = (tt, tt)
blobs_more form (e ∷ es) new agree same = (all_after (λ (f : Entry). blob_id_of form f.text ≡ blob_id_of form e.text → f.text ≡ e.text) es new agree.0 same.0, blobs_more form es new agree.1 same.1)

-- A text that is there agrees with all.
pub agrees-has : (form : Form) (es : List Entry) (text : List ℕ) → BlobsAgree form es → HasText text es → Agrees form text es
agrees-has form [] text agree has = tt
agrees-has form (e ∷ es) text agree (inl is) = (
  λ same. sym is,
  all_weaker (λ (f : Entry). blob_id_of form f.text ≡ blob_id_of form e.text → f.text ≡ e.text) (λ (f : Entry). blob_id_of form text ≡ blob_id_of form f.text → text ≡ f.text) es (λ f h same. sym is ∙ sym (h (sym same ∙ ap (blob_id_of form) (sym is)))) agree.0,
)
agrees-has form (e ∷ es) text agree (inr more) = (all-text (λ (t : List ℕ). blob_id_of form t ≡ blob_id_of form e.text → t ≡ e.text) es text agree.0 more, agrees-has form es text agree.1 more)

-- An archive stays valid with one more message that has its next number, an epoch not before any
-- other, an own id that no live entry has, and the text of each entry with its blob id.
pub archive_grows : (a : Archive) (epoch : ℕ) (text : List ℕ) (moment : ℕ) → IsArchive a → a.next < 2147483648 → IsEntry (message a.next epoch text moment)
    → AllByRecursion (λ (e : Entry). e.epoch ≤ epoch) a.entries → AllByRecursion (λ (e : Entry). own_id text ≢ own_id e.text) (live a.entries) → Agrees a.config.form text a.entries
    → IsArchive (with_entry a epoch text moment)
archive_grows a epoch text moment valid room entry older id same =
    let new : Entry = message a.next epoch text moment in
    let least = valid.next_least in
    record {
      name = valid.name;
      config = valid.config;
      next_least = omega arith;
      next_most = omega (arith, room);
      entries = all_after IsEntry a.entries new valid.entries entry;
      below = all_after (λ (e : Entry). e.number < a.next + 1) a.entries new (all_weaker (λ (e : Entry). e.number < a.next) (λ (e : Entry). e.number < a.next + 1) a.entries (λ e less. omega (arith, less)) valid.below) (omega arith);
      order = rise_more 1 0 a.entries new valid.order least (omega arith) (all_weaker (λ (e : Entry). e.number < a.next) (λ (e : Entry). e.number + 1 ≤ a.next) a.entries (λ e less. omega (arith, less)) valid.below) older;
      ends = place-push (λ (before : List Entry) (e : Entry). EndsLive e.kind before e) [] a.entries new valid.ends tt;
      ids = place-push LiveDiffer [] a.entries new valid.ids (subst (λ (l : List Entry). IdsDiffer l) (sym (live-message a.entries a.next epoch text moment)) (ids_more (live a.entries) new (ids-now a.entries valid.ids) id));
      blobs = blobs_more a.config.form a.entries new valid.blobs same;
    }

none_asked : (n : ℕ) (es : List Entry) → AllByRecursion (λ (e : Entry). NumberIsFrom Deletion (e.number + 1) n) es
none_asked n [] = tt
none_asked n (e ∷ es) = (tt, none_asked n es)

-- An archive stays valid with one more deletion, which has the number and the text of a live message
-- and an epoch not before any other.
pub archive_ends : (a : Archive) (number epoch : ℕ) (text : List ℕ) (moment : ℕ) → IsArchive a → number < a.next → IsEntry (deletion number epoch text moment)
    → AllByRecursion (λ (e : Entry). e.epoch ≤ epoch) a.entries → text_of (live a.entries) number ≡ Some text → IsArchive (with_deletion a number epoch text moment)
archive_ends a number epoch text moment valid less entry older is =
    let new : Entry = deletion number epoch text moment in
    record {
      name = valid.name;
      config = valid.config;
      next_least = valid.next_least;
      next_most = valid.next_most;
      entries = all_after IsEntry a.entries new valid.entries entry;
      below = all_after (λ (e : Entry). e.number < a.next) a.entries new valid.below less;
      order = rise_more 1 0 a.entries new valid.order tt (omega arith) (none_asked number a.entries) older;
      ends = place-push (λ (before : List Entry) (e : Entry). EndsLive e.kind before e) [] a.entries new valid.ends is;
      ids = place-push LiveDiffer [] a.entries new valid.ids (subst (λ (l : List Entry). IdsDiffer l) (sym (live-deletion a.entries number epoch text moment)) (ids-without number (live a.entries) (ids-now a.entries valid.ids)));
      blobs = blobs_more a.config.form a.entries new valid.blobs (agrees-has a.config.form a.entries text valid.blobs (live-has a.entries text (found-has (live a.entries) number text is)));
    }
