-- What a delivery and a removal give, which texts and numbers stay, and that the delivered text is
-- shown.
use Rattle.std.proofs.Common.{◌⊎◌, inl, inr, ◌≡◌, ◌≢◌, ◌≤◌, ◌==◌, ℕ, Bool, true, false, nat_lt, List, [], ◌∷◌, ◌++◌, Option, Some, None, Result, Ok, Err, refl, sym, ap, ◌∙◌, subst, arith, if◌then◌else◌}
use Rattle.std.proofs.lemmas.Bool.Decides.{nat_tests}
use Rattle.mail_reader.specs.Stored.{stored}
use Rattle.mail_reader.specs.declared.storing.StoredRefusal.{StoredRefusal}
use Rattle.mail_reader.specs.declared.storing.StoredRefusal.TheVariants as stored_refusal
use Rattle.arch_base.specs.declared.ids.ObjectId.{ObjectId}
use Rattle.git_objects.specs.Objects.{blob_id_of}
use Rattle.arch_model.specs.Archives.{Entry, Archive, live, text_of, with_entry, with_deletion, message}
use Rattle.arch_model.specs.Candidates.{choice_of}
use Rattle.arch_model.specs.Delivery.{Done, refused, collision, delivered, delivered_kept, delivered_choice, delivered_form, removed, removed_text, new_epoch}
use Rattle.arch_model.specs.declared.choice.Choice.{Choice}
use Rattle.arch_model.specs.declared.choice.Choice.TheVariants.{Take, Repeat}
use Rattle.arch_model.specs.Laws.{NumbersInRange, KeepsNumbers, ShowsDelivered, TakesFromView}
use Rattle.arch_model.specs.declared.answer.Answer.{Answer}
use Rattle.arch_model.specs.declared.answer.Answer.TheVariants as named
use Rattle.arch_model.proofs.LiveEntries.{without, live-message, live-deletion, text-without-other, text-without-own}

-- The result of a delivery: a refusal that leaves the archive unchanged, or one more entry.
pub data Comes (a : Archive) (bytes : List ℕ) (moment : ℕ) : Done → Type 0 where
  Refused : (answer : Answer) → ((number : ℕ) (id : ObjectId) → answer ≡ named.Ok number id → ⊥) → Comes a bytes moment (refused a answer)
  Accepted : (text kept : List ℕ) → stored bytes ≡ Ok text → choice_of a text ≡ Take kept → collision a.config.form a.entries kept ≡ None → nat_lt a.config.max a.next ≡ false → Comes a bytes moment (record { archive = with_entry a (new_epoch a) kept moment; answer = named.Ok a.next (blob_id_of a.config.form kept) })

comes_new : (a : Archive) (bytes text kept : List ℕ) (moment : ℕ) (t : Bool) → stored bytes ≡ Ok text → choice_of a text ≡ Take kept → collision a.config.form a.entries kept ≡ None → nat_lt a.config.max a.next ≡ t
    → Comes a bytes moment (if t then refused a (named.Full a.config.max) else record { archive = with_entry a (new_epoch a) kept moment; answer = named.Ok a.next (blob_id_of a.config.form kept) })
comes_new a bytes text kept moment true is takes alone room = Refused (named.Full a.config.max) (λ number id e. cc e)
comes_new a bytes text kept moment false is takes alone room = Accepted text kept is takes alone room

comes_kept : (a : Archive) (bytes text kept : List ℕ) (moment : ℕ) (clash : Option ℕ) → stored bytes ≡ Ok text → choice_of a text ≡ Take kept → collision a.config.form a.entries kept ≡ clash → Comes a bytes moment (delivered_kept a kept moment clash)
comes_kept a bytes text kept moment (Some n) is takes alone = Refused (named.Collision n) (λ number id e. cc e)
comes_kept a bytes text kept moment None is takes alone = comes_new a bytes text kept moment (nat_lt a.config.max a.next) is takes alone refl

comes_choice : (a : Archive) (bytes text : List ℕ) (moment : ℕ) (choice : Choice) → stored bytes ≡ Ok text → choice_of a text ≡ choice → Comes a bytes moment (delivered_choice a moment choice)
comes_choice a bytes text moment (Repeat n) is takes = Refused (named.Duplicate n) (λ number id e. cc e)
comes_choice a bytes text moment (Take kept) is takes = comes_kept a bytes text kept moment (collision a.config.form a.entries kept) is takes refl

comes_form : (a : Archive) (bytes : List ℕ) (moment : ℕ) (source : Result (List ℕ) StoredRefusal) → stored bytes ≡ source → Comes a bytes moment (delivered_form a moment source)
comes_form a bytes moment (Ok text) is = comes_choice a bytes text moment (choice_of a text) is refl
comes_form a bytes moment (Err stored_refusal.NoFields) is = Refused named.NoFields (λ number id e. cc e)
comes_form a bytes moment (Err (stored_refusal.TooLarge len)) is = Refused (named.TooLarge len) (λ number id e. cc e)
comes_form a bytes moment (Err stored_refusal.NoMemory) is = Refused named.NoMemory (λ number id e. cc e)

comes_mirror : (a : Archive) (bytes : List ℕ) (moment : ℕ) (mirror : Bool) → Comes a bytes moment (if mirror then refused a named.IsMirror else delivered_form a moment (stored bytes))
comes_mirror a bytes moment true = Refused named.IsMirror (λ number id e. cc e)
comes_mirror a bytes moment false = comes_form a bytes moment (stored bytes) refl

pub comes : (a : Archive) (bytes : List ℕ) (moment : ℕ) → Comes a bytes moment (delivered a bytes moment)
comes a bytes moment = comes_mirror a bytes moment a.config.mirror

front_step : (e : Entry) (es fs : List Entry) (n : ℕ) (text : List ℕ) (t : Bool) → (e.number == n) ≡ t → (text_of es n ≡ Some text → text_of (es ++ fs) n ≡ Some text) → text_of (e ∷ es) n ≡ Some text → text_of ((e ∷ es) ++ fs) n ≡ Some text
front_step e es fs n text true is later h = rw is (rw is at h)
front_step e es fs n text false is later h = rw is (later (rw is at h))

-- What is found in the first list stays found.
text_of-front : (es fs : List Entry) (n : ℕ) (text : List ℕ) → text_of es n ≡ Some text → text_of (es ++ fs) n ≡ Some text
text_of-front [] fs n text h = absurd (cc h)
text_of-front (e ∷ es) fs n text h = front_step e es fs n text (e.number == n) refl (text_of-front es fs n text) h

none_step : (e : Entry) (n : ℕ) (text : List ℕ) (t : Bool) → (e.number == n) ≡ t → text_of (e ∷ []) n ≡ Some text → (text_of [] n ≡ Some text) ⊎ (e.number ≡ n)
none_step e n text true is h = inr (grind (arith, nat_tests))
none_step e n text false is h = let none : None ≡ Some text = rw is at h in absurd (cc)

either_step : (x e : Entry) (es : List Entry) (n : ℕ) (text : List ℕ) (t : Bool) → (x.number == n) ≡ t → (text_of (es ++ e ∷ []) n ≡ Some text → (text_of es n ≡ Some text) ⊎ (e.number ≡ n)) → text_of ((x ∷ es) ++ e ∷ []) n ≡ Some text → (text_of (x ∷ es) n ≡ Some text) ⊎ (e.number ≡ n)
either_step x e es n text true is later h = inl (rw is (rw is at h))
either_step x e es n text false is later h = rw is (later (rw is at h))

-- What is found is in the first list or is the last entry.
text_of-either : (es : List Entry) (e : Entry) (n : ℕ) (text : List ℕ) → text_of (es ++ e ∷ []) n ≡ Some text → (text_of es n ≡ Some text) ⊎ (e.number ≡ n)
text_of-either [] e n text h = none_step e n text (e.number == n) refl h
text_of-either (x ∷ es) e n text h = either_step x e es n text (x.number == n) refl (text_of-either es e n text) h

last_step : (x e : Entry) (es : List Entry) (t : Bool) → (x.number == e.number) ≡ t → (((text : List ℕ) → text_of es e.number ≡ Some text → ⊥) → text_of (es ++ e ∷ []) e.number ≡ Some e.text)
    → ((text : List ℕ) → text_of (x ∷ es) e.number ≡ Some text → ⊥) → text_of ((x ∷ es) ++ e ∷ []) e.number ≡ Some e.text
last_step x e es true is later none = absurd (none x.text (rw is refl))
last_step x e es false is later none = rw is (later (λ text h. none text (rw is h)))

-- The last entry is found if no entry before it has its number.
text_of-last : (es : List Entry) (e : Entry) → ((text : List ℕ) → text_of es e.number ≡ Some text → ⊥) → text_of (es ++ e ∷ []) e.number ≡ Some e.text
text_of-last [] e none = let same : (e.number == e.number) ≡ true = grind (arith, nat_tests) in rw same refl
text_of-last (x ∷ es) e none = last_step x e es (x.number == e.number) refl (text_of-last es e) none

-- The result of a removal: a refusal that leaves the archive unchanged, or one more deletion.
pub data Ends (a : Archive) (number moment : ℕ) : Done → Type 0 where
  Still : (answer : Answer) → ((id : ObjectId) → answer ≡ named.Ok number id → ⊥) → Ends a number moment (refused a answer)
  Ended : (text : List ℕ) → text_of (live a.entries) number ≡ Some text → Ends a number moment (record { archive = with_deletion a number (new_epoch a) text moment; answer = named.Ok number (blob_id_of a.config.form text) })

ends_text : (a : Archive) (number moment : ℕ) (found : Option (List ℕ)) → text_of (live a.entries) number ≡ found → Ends a number moment (removed_text a number moment found)
ends_text a number moment None is = Still (named.NotLive number) (λ id e. cc e)
ends_text a number moment (Some text) is = Ended text is

ends_mirror : (a : Archive) (number moment : ℕ) (mirror : Bool) → Ends a number moment (if mirror then refused a named.IsMirror else removed_text a number moment (text_of (live a.entries) number))
ends_mirror a number moment true = Still named.IsMirror (λ id e. cc e)
ends_mirror a number moment false = ends_text a number moment (text_of (live a.entries) number) refl

pub ends : (a : Archive) (number moment : ℕ) → Ends a number moment (removed a number moment)
ends a number moment = ends_mirror a number moment a.config.mirror

keeps_by : (a : Archive) (bytes : List ℕ) (moment n : ℕ) (text : List ℕ) (d : Done) → Comes a bytes moment d → text_of (live a.entries) n ≡ Some text → text_of (live d.archive.entries) n ≡ Some text
keeps_by a bytes moment n text d (Refused answer other) h = h
keeps_by a bytes moment n text d (Accepted source kept is takes alone room) h =
    subst (λ (l : List Entry). text_of l n ≡ Some text) (sym (live-message a.entries a.next (new_epoch a) kept moment)) (text_of-front (live a.entries) (message a.next (new_epoch a) kept moment ∷ []) n text h)

pub keeps-numbers : KeepsNumbers
keeps-numbers a bytes moment n text h = keeps_by a bytes moment n text (delivered a bytes moment) (comes a bytes moment) h

pub numbered_by : (a : Archive) (bytes : List ℕ) (moment : ℕ) (d : Done) → Comes a bytes moment d → 1 ≤ a.next → NumbersInRange a → (1 ≤ d.archive.next) × NumbersInRange d.archive
numbered_by a bytes moment d (Refused answer other) some h = (some, h)
numbered_by a bytes moment d (Accepted source kept is takes alone room) some h = (
  omega arith,
  λ n text found. elim (text_of-either (live a.entries) (message a.next (new_epoch a) kept moment) n text (subst (λ (l : List Entry). text_of l n ≡ Some text) (live-message a.entries a.next (new_epoch a) kept moment) found)) [ inl before ↦ (let r = h n text before in (r.0, omega (arith, r.1))) | inr last ↦ (omega (arith, last), omega (arith, last)) ],
)

-- A number that has a text without another number had it before.
shown_before : (a : Archive) (number n : ℕ) (text : List ℕ) (t : Bool) → (n == number) ≡ t → text_of (without number (live a.entries)) n ≡ Some text → text_of (live a.entries) n ≡ Some text
shown_before a number n text true test is =
    let same : n ≡ number = grind (arith, nat_tests, test) in
    let none : None ≡ Some text = sym (ap (λ (m : ℕ). text_of (without number (live a.entries)) m) same ∙ text-without-own (live a.entries) number) ∙ is in
    absurd (cc)
shown_before a number n text false test is = sym (text-without-other (live a.entries) number n (λ same. (let yes : (n == number) ≡ true = grind (arith, nat_tests, same) in let wrong : true ≡ false = sym yes ∙ test in cc))) ∙ is

pub ended_numbers : (a : Archive) (number moment : ℕ) (d : Done) → Ends a number moment d → 1 ≤ a.next → NumbersInRange a → (1 ≤ d.archive.next) × NumbersInRange d.archive
ended_numbers a number moment d (Still answer other) some h = (some, h)
ended_numbers a number moment d (Ended text is) some h = (some, λ n shown found. h n shown (shown_before a number n shown (n == number) refl (subst (λ (l : List Entry). text_of l n ≡ Some shown) (live-deletion a.entries number (new_epoch a) text moment) found)))

view_by : (a : Archive) (number moment : ℕ) (d : Done) → Ends a number moment d → ((n : ℕ) → n ≢ number → text_of (live d.archive.entries) n ≡ text_of (live a.entries) n) × ((id : ObjectId) → d.answer ≡ named.Ok number id → text_of (live d.archive.entries) number ≡ None)
view_by a number moment d (Still answer other) = (λ n apart. refl, λ id e. absurd (other id e))
view_by a number moment d (Ended text is) =
    let now = live-deletion a.entries number (new_epoch a) text moment in
    (λ n apart. ap (λ (l : List Entry). text_of l n) now ∙ text-without-other (live a.entries) number n apart, λ id e. ap (λ (l : List Entry). text_of l number) now ∙ text-without-own (live a.entries) number)

-- A removal takes its number from view, and leaves all others.
pub takes-from-view : TakesFromView
takes-from-view a number moment = view_by a number moment (removed a number moment) (ends a number moment)

shows_by : (a : Archive) (bytes : List ℕ) (moment number : ℕ) (id : ObjectId) (d : Done) → Comes a bytes moment d → NumbersInRange a → d.answer ≡ named.Ok number id
    → (text : List ℕ) × (kept : List ℕ) × (stored bytes ≡ Ok text) × (choice_of a text ≡ Take kept) × (text_of (live d.archive.entries) number ≡ Some kept)
shows_by a bytes moment number id d (Refused answer other) h e = absurd (other number id e)
shows_by a bytes moment number id d (Accepted source kept is takes alone room) h e =
    let same : a.next ≡ number = cc in (
      source,
      kept,
      is,
      takes,
      subst (λ n. text_of (live (with_entry a (new_epoch a) kept moment).entries) n ≡ Some kept) same
          (ap (λ (l : List Entry). text_of l a.next) (live-message a.entries a.next (new_epoch a) kept moment)
          ∙ text_of-last (live a.entries) (message a.next (new_epoch a) kept moment) (λ text found. omega (arith, (h a.next text found).1))),
    )

pub shows-delivered : ShowsDelivered
shows-delivered a bytes moment number id h e = shows_by a bytes moment number id (delivered a bytes moment) (comes a bytes moment) h e
