-- Numbers that are gone stay gone after each command.
use Rattle.std.proofs.Common.{◌⊎◌, inl, inr, ◌≡◌, ◌≢◌, ◌+◌, ◌-◌, ◌<◌, ◌≤◌, ◌==◌, ℕ, Bool, true, false, List, [], ◌∷◌, ◌++◌, Option, Some, None, is_some, refl, sym, ap, ◌∙◌, arith, if◌then◌else◌}
use Rattle.std.specs.List.{filter, range_with_len, AllByRecursion}
use Rattle.std.proofs.lemmas.Bool.{cases_lt}
use Rattle.std.proofs.lemmas.Bool.Decides.{eqb_tells}
use Rattle.arch_model.specs.Archives.{Entry, Archive, message, live, text_of, with_entry, with_deletion, without_entries}
use Rattle.arch_model.specs.Delivery.{Done, new_epoch, delivered, removed, purged, edited}
use Rattle.arch_model.specs.Validity.{IsArchive}
use Rattle.arch_model.specs.declared.command.Command.TheVariants.{Deliver, Remove, Purge, Edit}
use Rattle.arch_model.proofs.Deliveries.{Comes, Refused, Accepted, comes, Ends, Still, Ended, ends}
use Rattle.arch_model.proofs.Rewrites.{Purges, Spared, Dropped, purges, Edits, Unedited, Redelivered, edits}
use Rattle.arch_model.proofs.LiveEntries.{live-message, live-deletion, without, text-without-other, text-without-own, live-all}
use Rattle.arch_model.proofs.Purging.{live_without}
use Rattle.known_uids.specs.Told.{is_live, passing, RisesBelow, after_last}
use Rattle.known_uids.specs.Staying.{GoneStay, CommandsKeepGone, GoneStayItself, GoneStayThrough, SuitsLater, SuitsTold}
use Rattle.known_uids.proofs.Rising.{apart, after-le}
use Rattle.known_uids.proofs.Passing.{passing-rises, has-passing}

pub stays_itself : GoneStayItself
stays_itself a = record { next = omega arith; live = λ n given alive. alive }

pub stays_through : GoneStayThrough
stays_through a b c p q =
    let first = p.next in
    let second = q.next in
    record { next = omega (arith, first, second); live = λ n given alive. p.live n given (q.live n (omega (arith, given, first)) alive) }

-- One more entry changes no other number.
text-push : (es : List Entry) (e : Entry) (n : ℕ) → (e.number == n) ≡ false → text_of (es ++ e ∷ []) n ≡ text_of es n
text-push [] e n other = ap (λ t. if t then Some e.text else None) other
text-push (f ∷ fs) e n other = ap (λ o. if f.number == n then Some f.text else o) (text-push fs e n other)

stays-entry : (a : Archive) (epoch : ℕ) (text : List ℕ) (moment : ℕ) → GoneStay a (with_entry a epoch text moment)
stays-entry a epoch text moment = record {
  next = omega arith;
  live = λ n given alive.
      let other : (a.next == n) ≡ false = apart a.next n (λ e. omega (arith, e, given)) in
      sym (ap is_some (ap (λ es. text_of es n) (live-message a.entries a.next epoch text moment) ∙ text-push (live a.entries) (message a.next epoch text moment) n other)) ∙ alive;
}

-- One more deletion takes a number away.
taken-live : (es : List Entry) (m n : ℕ) → is_some (text_of (without m es) n) ≡ true → is_some (text_of es n) ≡ true
taken-live es m n alive = by (eqb_tells n m) where
  by : (((n == m) ≡ true) × (n ≡ m)) ⊎ (((n == m) ≡ false) × (n ≢ m)) → is_some (text_of es n) ≡ true
  by (inl here) = absurd (let none : is_some (text_of (without m es) n) ≡ false = ap (λ k. is_some (text_of (without m es) k)) here.1 ∙ ap is_some (text-without-own es m) in let wrong : true ≡ false = sym alive ∙ none in cc)
  by (inr there) = sym (ap is_some (text-without-other es m n there.1)) ∙ alive

stays-deletion : (a : Archive) (number epoch : ℕ) (text : List ℕ) (moment : ℕ) → GoneStay a (with_deletion a number epoch text moment)
stays-deletion a number epoch text moment = record {
  next = omega arith;
  live = λ n given alive. taken-live (live a.entries) number n (sym (ap (λ es. is_some (text_of es n)) (live-deletion a.entries number epoch text moment)) ∙ alive);
}

-- Of fewer entries each number is one of all.
fewer-live : (keep : Entry → Bool) (es : List Entry) (n : ℕ) → is_some (text_of (filter keep es) n) ≡ true → is_some (text_of es n) ≡ true
fewer-live keep [] n alive = alive
fewer-live keep (e ∷ es) n alive = by (keep e) (e.number == n) refl (fewer-live keep es n) alive
  where
    by : (t u : Bool) → (e.number == n) ≡ u → (is_some (text_of (filter keep es) n) ≡ true → is_some (text_of es n) ≡ true) → is_some (text_of (if t then e ∷ filter keep es else filter keep es) n) ≡ true → is_some (if u then Some e.text else text_of es n) ≡ true
    by t true test rest found = refl
    by true false test rest found = rest (sym (ap (λ t. is_some (if t then Some e.text else text_of (filter keep es) n)) test) ∙ found)
    by false false test rest found = rest found

stays-without : (a : Archive) (text : List ℕ) → IsArchive a → GoneStay a (without_entries a text)
stays-without a text valid = record { next = omega arith; live = λ n given alive. fewer-live _ (live a.entries) n (sym (ap (λ es. is_some (text_of es n)) (live_without a text valid)) ∙ alive) }

stays-come : (a : Archive) (bytes : List ℕ) (moment : ℕ) (d : Done) → Comes a bytes moment d → GoneStay a d.archive
stays-come a bytes moment d (Refused answer other) = stays_itself a
stays-come a bytes moment d (Accepted form kept is takes alone room) = stays-entry a (new_epoch a) kept moment

stays-end : (a : Archive) (number moment : ℕ) (d : Done) → Ends a number moment d → GoneStay a d.archive
stays-end a number moment d (Still answer other) = stays_itself a
stays-end a number moment d (Ended text is) = stays-deletion a number (new_epoch a) text moment

stays-purge : (a : Archive) (number : ℕ) (d : Done) → IsArchive a → Purges a number d → GoneStay a d.archive
stays-purge a number d valid (Spared answer other) = stays_itself a
stays-purge a number d valid (Dropped text is) = stays-without a text valid

stays-edit : (a : Archive) (number : ℕ) (bytes : List ℕ) (moment : ℕ) (d : Done) → IsArchive a → Edits a number bytes moment d → GoneStay a d.archive
stays-edit a number bytes moment d valid (Unedited answer other) = stays_itself a
stays-edit a number bytes moment d valid (Redelivered text is accepted) =
    let rest : Archive = without_entries a text in
    stays_through a rest d.archive (stays-without a text valid) (stays-come rest bytes moment (delivered rest bytes moment) (comes rest bytes moment))

pub commands_keep : CommandsKeepGone
commands_keep a (Deliver bytes) moment valid = stays-come a bytes.now moment (delivered a bytes.now moment) (comes a bytes.now moment)
commands_keep a (Remove number) moment valid = stays-end a number moment (removed a number moment) (ends a number moment)
commands_keep a (Purge number) moment valid = stays-purge a number (purged a number) valid (purges a number)
commands_keep a (Edit number bytes) moment valid = stays-edit a number bytes.now moment (edited a number bytes.now moment) valid (edits a number bytes.now moment)

pub suits_later : SuitsLater
suits_later a b told stay valid given suits =
    let next = stay.next in (
      record { valid = valid; none_back = λ n low high alive. suits.none_back n low high (stay.live n (given n low high) alive) },
      λ n low high. (let less : n < a.next = given n low high in omega (arith, less, next)),
    )

-- The number after the last of some that are below a bound isn't above it, if there are any.
after-below : (first : ℕ) (ns : List ℕ) (bound n : ℕ) → AllByRecursion (λ k. k < bound) ns → first ≤ n → n < after_last first ns → n < bound
after-below first [] bound n all low high = absurd (omega (arith, low, high))
after-below first (k ∷ ks) bound n all low high = elim (cases_lt n (k + 1)) [ inl below ↦ omega (arith, below, all.0) | inr above ↦ after-below (k + 1) ks bound n all.1 above high ]

-- A number that has a text is below each bound of all numbers.
number_below : (es : List Entry) (high n : ℕ) (text : List ℕ) → AllByRecursion (λ (e : Entry). e.number < high) es → text_of es n ≡ Some text → n < high
number_below [] high n text below is = absurd (cc)
number_below (e ∷ es) high n text below is = by (eqb_tells e.number n) (number_below es high n text below.1) where
  by : (((e.number == n) ≡ true) × (e.number ≡ n)) ⊎ (((e.number == n) ≡ false) × (e.number ≢ n)) → (text_of es n ≡ Some text → n < high) → n < high
  by (inl here) rest = let less : e.number < high = below.0 in omega (arith, less, here.1)
  by (inr there) rest = rest (sym (ap (λ t. if t then Some e.text else text_of es n) there.0) ∙ is)

live-below : (a : Archive) (n : ℕ) → IsArchive a → is_live a n ≡ true → n < a.next
live-below a n valid alive = by (text_of (live a.entries) n) refl alive where
  by : (o : Option (List ℕ)) → text_of (live a.entries) n ≡ o → is_some o ≡ true → n < a.next
  by None is some = absurd (cc)
  by (Some text) is some = number_below (live a.entries) a.next n text (live-all (λ (e : Entry). e.number < a.next) a.entries valid.below) is

passing-all : (test : ℕ → Bool) (bound : ℕ) → ((n : ℕ) → test n ≡ true → n < bound) → (ns : List ℕ) → AllByRecursion (λ k. k < bound) (filter test ns)
passing-all test bound low [] = tt
passing-all test bound low (n ∷ ns) = by (test n) refl (passing-all test bound low ns) where
  by : (t : Bool) → test n ≡ t → AllByRecursion (λ k. k < bound) (filter test ns) → AllByRecursion (λ k. k < bound) (if t then n ∷ filter test ns else filter test ns)
  by true hit rest = (low n hit, rest)
  by false miss rest = rest

pub suits_told : SuitsTold
unfolding passing
suits_told a first last order valid =
    let count = last + 1 - first in
    let ns = filter (is_live a) (range_with_len first count) in
    let end : last + 1 ≡ first + count = omega (arith, order) in
    let rises : RisesBelow first ns (last + 1) = passing-rises (is_live a) first count (last + 1) end in (
      record { valid = valid; none_back = λ n low high alive. has-passing (is_live a) first count n low (let most = after-le first ns (last + 1) rises in omega (arith, high, most, end)) ∙ alive },
      λ n low high. after-below first ns a.next n (passing-all (is_live a) a.next (λ k alive. live-below a k valid alive) (range_with_len first count)) low high,
    )
