-- What an edit gives.
use Rattle.std.proofs.Common.{◌≡◌, ◌≢◌, ◌+◌, ◌==◌, ℕ, Bool, true, false, List, [], ◌∷◌, ◌++◌, Some, None, if◌then◌else◌, refl, ap, ◌∙◌, sym, subst, arith}
use Rattle.std.proofs.lemmas.Bool.Decides.{nat_tests}
use Rattle.arch_base.specs.declared.ids.ObjectId.{ObjectId}
use Rattle.arch_model.specs.Archives.{Entry, Archive, message, live, text_of, without_entries}
use Rattle.arch_model.specs.Delivery.{Done, delivered, new_epoch}
use Rattle.arch_model.specs.Validity.{IsArchive}
use Rattle.arch_model.specs.declared.answer.Answer.TheVariants as named
use Rattle.arch_model.proofs.Deliveries.{Comes, comes, keeps-numbers}
use Rattle.arch_model.proofs.LiveEntries.{live-message}
use Rattle.arch_model.proofs.Purging.{live_without}
use Rattle.archive_laws.specs.Edits.{Exchanges}
use Rattle.archive_laws.proofs.Filtered.{stays_shown}
use Rattle.archive_laws.proofs.Purged.{none_shown}

last_step : (t : Bool) (e : Entry) (m : ℕ) (text : List ℕ) → (e.number == m) ≡ t → e.number ≢ m → (if t then Some e.text else None) ≡ Some text → text_of [] m ≡ Some text
last_step true e m text at apart is = absurd (apart (grind (arith, nat_tests, at)))
last_step false e m text at apart is = is

front_step : (t : Bool) (f e : Entry) (fs : List Entry) (m : ℕ) (text : List ℕ) → (f.number == m) ≡ t → (text_of (fs ++ e ∷ []) m ≡ Some text → text_of fs m ≡ Some text)
    → (if t then Some f.text else text_of (fs ++ e ∷ []) m) ≡ Some text → (if t then Some f.text else text_of fs m) ≡ Some text
front_step true f e fs m text at rest is = is
front_step false f e fs m text at rest is = rest is

-- A text under another number than that of the last entry stands before it.
before_last : (fs : List Entry) (e : Entry) (m : ℕ) (text : List ℕ) → e.number ≢ m → text_of (fs ++ e ∷ []) m ≡ Some text → text_of fs m ≡ Some text
before_last [] e m text apart is = last_step (e.number == m) e m text refl apart is
before_last (f ∷ fs) e m text apart is = front_step (f.number == m) f e fs m text refl (before_last fs e m text apart) is

-- An accepted delivery gives the next number, and shows nothing else that was not shown.
record Adds (a : Archive) (n : ℕ) (b : Archive) : Type 0 where
  number : n ≡ a.next
  next : b.next ≡ a.next + 1
  old : (m : ℕ) (text : List ℕ) → m ≢ n → text_of (live b.entries) m ≡ Some text → text_of (live a.entries) m ≡ Some text

adds_by : (a : Archive) (bytes : List ℕ) (moment n : ℕ) (id : ObjectId) (d : Done) → Comes a bytes moment d → d.answer ≡ named.Ok n id → Adds a n d.archive
adds_by a bytes moment n id d (Comes.Refused answer other) e = absurd (other n id e)
adds_by a bytes moment n id d (Comes.Accepted form kept is takes alone room) e =
    let same : a.next ≡ n = cc in
    record {
      number = sym same;
      next = refl;
      old = λ m text apart shows. before_last (live a.entries) (message a.next (new_epoch a) kept moment) m text (λ own. apart (sym own ∙ same))
          (subst (λ (l : List Entry). text_of l m ≡ Some text) (live-message a.entries a.next (new_epoch a) kept moment) shows);
    }

-- A delivery on the archive without a text that was accepted exchanges the text.
pub exchanges : (a : Archive) (bytes text kept : List ℕ) (moment n : ℕ) (id : ObjectId) → IsArchive a → (delivered (without_entries a text) bytes moment).answer ≡ named.Ok n id
    → text_of (live (delivered (without_entries a text) bytes moment).archive.entries) n ≡ Some kept → Exchanges a text kept n (delivered (without_entries a text) bytes moment).archive
exchanges a bytes text kept moment n id valid ok new =
    let rest = without_entries a text in
    let adds = adds_by rest bytes moment n id (delivered rest bytes moment) (comes rest bytes moment) ok in
    record {
      number = adds.number;
      next = adds.next;
      new = new;
      shown = λ m other apart shows. keeps-numbers rest bytes moment m other (ap (λ es. text_of es m) (live_without a text valid) ∙ stays_shown text other m (live a.entries) apart shows);
      hidden = λ m apart shows. none_shown text m a valid (adds.old m text apart shows);
    }
