-- What is read for requests, counted.
use Rattle.std.proofs.Common.{◌≡◌, ◌<◌, ◌≤◌, ◌+◌, ℕ, zero, suc, Bool, true, false, List, [], ◌++◌, length, drop, refl, sym, ap, subst, ◌∙◌, ◌⊎◌, inl, inr, arith, if◌then◌else◌}
use Rattle.std.proofs.lemmas.Bool.{false≢true}
use Rattle.arch_model.specs.Keeping.{ReadsFor}
use Rattle.arch_model.specs.Shelves.{ReadsOnce, ReadsUpTo}
use Rattle.arch_model.specs.declared.command.Command.{Command}
use Rattle.arch_model.specs.declared.command.Command.TheVariants.{Deliver, Remove, Purge, Edit}
use Rattle.control_door.specs.Counting.{Demand, Reads, Changes, Unbounded, request_asks, closes_session, asks_then, asks_at, asks_from, asks_for, Meets, ControlActReads, IsRest}
use Rattle.control_door.specs.Requests.{Request, Exceeds, Ahead, Asked, Unfinished, ahead, is_asked, is_request}
use Rattle.control_door.specs.Sessions.{request_for, request_with}
use Rattle.control_door.specs.declared.front.Aim.{Aim}
use Rattle.control_door.specs.declared.front.Aim.TheVariants.{New, InPlaceOf}
use Rattle.control_door.specs.declared.session.Act.{Act}
use Rattle.control_door.specs.declared.session.Act.TheVariants.{Opened, Went, Kept, Closed}
use Rattle.control_door.proofs.Aheads.{ahead-shorter}

-- No read, and one.
pub reads-none : (most n : ℕ) → ReadsUpTo most n n
reads-none most n = record { later = omega arith; bound = omega arith }

pub reads-once : (before now : ℕ) → ReadsOnce before now → ReadsUpTo 1 before now
reads-once before now once = record { later = once.later; bound = once.most }

-- One read more, and a greater bound.
pub reads-more : (most before mid now : ℕ) → ReadsUpTo most before mid → ReadsOnce mid now → ReadsUpTo (most + 1) before now
reads-more most before mid now reads once = record { later = omega (arith, reads.later, once.later); bound = omega (arith, reads.bound, once.most) }

pub reads-within : (most wanted before now : ℕ) → most ≤ wanted → ReadsUpTo most before now → ReadsUpTo wanted before now
reads-within most wanted before now few reads = record { later = reads.later; bound = omega (arith, few, reads.bound) }

-- A command.
pub meets-command : (command : Command) (ready : Bool) (before now : ℕ) → ReadsFor command before now → Meets (request_asks (request_for command)) ready before now
meets-command (Deliver bytes) ready before now reads = reads-once before now reads
meets-command (Remove number) ready before now reads = reads-once before now reads
meets-command (Purge number) ready before now reads = tt
meets-command (Edit number bytes) ready before now reads = tt

-- A message for which memory ran out.
pub meets-starved : (aim : Aim) (message : List ℕ) (ready : Bool) (n : ℕ) → Meets (request_asks (request_with aim message)) ready n n
meets-starved New message ready n = reads-none 1 n
meets-starved (InPlaceOf number) message ready n = tt

-- The requests at the front, one by one.

asks-enough : (n m : ℕ) (bytes : List ℕ) → length bytes < n → length bytes < m → asks_from n bytes ≡ asks_from m bytes
asks-enough zero m bytes some more = absurd (omega (arith, some))
asks-enough (suc n) zero bytes some more = absurd (omega (arith, more))
asks-enough (suc n) (suc m) bytes some more = by (ahead bytes) refl (λ rest less. asks-enough n m rest (omega (arith, less, some)) (omega (arith, less, more)))
  where
    same : (request : Request) (rest : List ℕ) → ((b : List ℕ) → length b < length bytes → asks_from n b ≡ asks_from m b) → (request ≡ Exceeds) ⊎ (length rest < length bytes) → asks_at (asks_from n) (Asked request rest) ≡ asks_at (asks_from m) (Asked request rest)
    same request rest deeper (inl last) = subst (λ (r : Request). asks_at (asks_from n) (Asked r rest) ≡ asks_at (asks_from m) (Asked r rest)) (sym last) refl
    same request rest deeper (inr less) = ap (λ (asks : Demand). if closes_session request then request_asks request else asks_then (request_asks request) (is_request rest) asks) (deeper rest less)

    by : (f : Ahead) → ahead bytes ≡ f → ((b : List ℕ) → length b < length bytes → asks_from n b ≡ asks_from m b) → asks_at (asks_from n) f ≡ asks_at (asks_from m) f
    by (Asked request rest) is deeper = same request rest deeper (ahead-shorter bytes request rest is)
    by Unfinished is deeper = refl

pub asks-rest : (bytes : List ℕ) → ahead bytes ≡ Unfinished → asks_for bytes ≡ Reads 0
unfolding asks_for
asks-rest bytes is = ap (asks_at (asks_from (length bytes))) is

asks-first : (bytes : List ℕ) (request : Request) (rest : List ℕ) → ahead bytes ≡ Asked request rest → asks_for bytes ≡ (if closes_session request then request_asks request else asks_then (request_asks request) (is_request rest) (asks_for rest))
unfolding asks_for
asks-first bytes request rest is = ap (asks_at (asks_from (length bytes))) is ∙ by (ahead-shorter bytes request rest is)
  where
    by : (request ≡ Exceeds) ⊎ (length rest < length bytes) → asks_at (asks_from (length bytes)) (Asked request rest) ≡ (if closes_session request then request_asks request else asks_then (request_asks request) (is_request rest) (asks_from (suc (length rest)) rest))
    by (inl last) = subst (λ (r : Request). asks_at (asks_from (length bytes)) (Asked r rest) ≡ (if closes_session r then request_asks r else asks_then (request_asks r) (is_request rest) (asks_from (suc (length rest)) rest))) (sym last) refl
    by (inr less) = ap (λ (asks : Demand). if closes_session request then request_asks request else asks_then (request_asks request) (is_request rest) asks) (asks-enough (length bytes) (suc (length rest)) rest less (omega arith))

-- What meets a request meets it and more.
meets-more : (q : Demand) (another : Bool) (more : Demand) (ready : Bool) (before now : ℕ) → Meets q ready before now → Meets (asks_then q another more) ready before now
meets-more (Reads m) another (Reads n) ready before now meets = (meets.0, record { later = meets.1.later; bound = let bound = meets.1.bound in omega (arith, bound) })
meets-more (Reads m) another (Changes n) ready before now meets = record { later = meets.1.later; bound = let bound = meets.1.bound in omega (arith, bound) }
meets-more (Reads m) another Unbounded ready before now meets = tt
meets-more (Changes m) true more ready before now meets = tt
meets-more (Changes m) false more ready before now meets = meets
meets-more Unbounded another more ready before now meets = tt

meets-first : (request : Request) (another : Bool) (more : Demand) (ready : Bool) (before now : ℕ) → Meets (request_asks request) ready before now → Meets (if closes_session request then request_asks request else asks_then (request_asks request) another more) ready before now
meets-first request another more ready before now meets = by (closes_session request)
  where
    by : (t : Bool) → Meets (if t then request_asks request else asks_then (request_asks request) another more) ready before now
    by true = meets
    by false = meets-more (request_asks request) another more ready before now meets

-- A request that took `n` bytes of the piece was answered.
pub turn-reads : (old piece : List ℕ) (request : Request) (n : ℕ) (new : List ℕ) (goes ready : Bool) (before now : ℕ) → ahead (old ++ piece) ≡ Asked request (drop n piece) → new ≡ [] → (closes_session request ≡ true → goes ≡ false) → Meets (request_asks request) ready before now
    → ControlActReads old piece (if goes then Went n else Closed) new ready before now
turn-reads old piece request n new true ready before now is none ends meets = (request, asks-first (old ++ piece) request (drop n piece) is ∙ by (closes_session request) refl, meets)
  where
    left : asks_then (request_asks request) (is_request (drop n piece)) (asks_for (drop n piece)) ≡ asks_then (request_asks request) (is_request (new ++ drop n piece)) (asks_for (new ++ drop n piece))
    left = ap (λ (x : List ℕ). asks_then (request_asks request) (is_request (x ++ drop n piece)) (asks_for (x ++ drop n piece))) (sym none)

    by : (t : Bool) → closes_session request ≡ t → (if t then request_asks request else asks_then (request_asks request) (is_request (drop n piece)) (asks_for (drop n piece))) ≡ asks_then (request_asks request) (is_request (new ++ drop n piece)) (asks_for (new ++ drop n piece))
    by true closed = absurd (false≢true (sym (ends closed)))
    by false closed = left
turn-reads old piece request n new false ready before now is none ends meets =
    subst (λ (q : Demand). Meets q ready before now) (sym (asks-first (old ++ piece) request (drop n piece) is)) (meets-first request (is_request (drop n piece)) (asks_for (drop n piece)) ready before now meets)

-- A reopening that did nothing.
pub opened-reads : (old piece new : List ℕ) (done ready : Bool) (before now : ℕ) → done ≡ true → ready ≡ true → now ≡ before → ControlActReads old piece (if done then Opened else Closed) new ready before now
opened-reads old piece new done ready before now opened still same = subst (λ (t : Bool). ControlActReads old piece (if t then Opened else Closed) new ready before now) (sym opened) (still, same)

-- The beginning of a request was kept, or not.
pub rest-reads : (old piece : List ℕ) (turn : Act) (new : List ℕ) (ready : Bool) (reads : ℕ) → ahead (old ++ piece) ≡ Unfinished → (turn ≡ Kept) ⊎ (turn ≡ Closed) → ready ≡ true → ControlActReads old piece turn new ready reads reads
rest-reads old piece turn new ready reads is (inl kept) at_hand = subst (λ (t : Act). ControlActReads old piece t new ready reads reads) (sym kept) (at_hand, refl)
rest-reads old piece turn new ready reads is (inr closed) at_hand =
    subst (λ (t : Act). ControlActReads old piece t new ready reads reads) (sym closed) (subst (λ (q : Demand). Meets q ready reads reads) (sym (asks-rest (old ++ piece) is)) (at_hand, reads-none 0 reads))

pub rest-is : (turn : Act) (reads : ℕ) → (turn ≡ Kept) ⊎ (turn ≡ Closed) → IsRest turn reads reads
rest-is turn reads (inl kept) = subst (λ (t : Act). IsRest t reads reads) (sym kept) refl
rest-is turn reads (inr closed) = subst (λ (t : Act). IsRest t reads reads) (sym closed) refl

-- A whole request is no rest.
pub never-rest : (bytes : List ℕ) (request : Request) (rest : List ℕ) (turn : Act) (before now : ℕ) → ahead bytes ≡ Asked request rest → is_request bytes ≡ false → IsRest turn before now
never-rest bytes request rest turn before now is none = absurd (false≢true (sym none ∙ ap is_asked is))

-- An answered request is no reopening.
pub never-opened : (n : ℕ) (goes : Bool) → (if goes then Went n else Closed) ≡ Opened → ⊥
never-opened n true is = cc is
never-opened n false is = cc is

-- What is left of what is asked, after some acts: of a change nothing is left once it was made, since
-- no other request is whole.
abbrev pub Left : Demand → Demand → Bool → Bool → ℕ → ℕ → Type 0
Left (Reads most) left another ready before now = (ready ≡ true) × (n : ℕ) × (left ≡ Reads n) × (before ≤ now) × (now + n ≤ before + most)
Left (Changes most) left another ready before now = ((ready ≡ true) × (n : ℕ) × (left ≡ Changes n) × (before ≤ now) × (now + n ≤ before + most)) ⊎ ((another ≡ false) × ReadsUpTo most before now)
Left Unbounded left another ready before now = Unit {0}

pub left-all : (asks : Demand) (another ready : Bool) (n : ℕ) → ready ≡ true → Left asks asks another ready n n
left-all (Reads most) another ready n at_hand = (at_hand, most, refl, omega arith, omega arith)
left-all (Changes most) another ready n at_hand = inl (at_hand, most, refl, omega arith, omega arith)
left-all Unbounded another ready n at_hand = tt

-- After a reopening. Whether the keeper was ready is asked of what was left.
pub left-opened : (asks left : Demand) (another was ready : Bool) (before mid now : ℕ) → Left asks left another was before mid → (was ≡ true → (ready ≡ true) × (now ≡ mid)) → (another ≡ false → ⊥) → Left asks left another ready before now
left-opened (Reads most) left another was ready before mid now so turn whole =
    let opened = turn so.0 in (opened.0, so.1, so.2, omega (arith, so.3, opened.1), omega (arith, so.4, opened.1))
left-opened (Changes most) left another was ready before mid now (inl so) turn whole =
    let opened = turn so.0 in inl (opened.0, so.1, so.2, omega (arith, so.3, opened.1), omega (arith, so.4, opened.1))
left-opened (Changes most) left another was ready before mid now (inr so) turn whole = absurd (whole so.0)
left-opened Unbounded left another was ready before mid now so turn whole = tt

-- After one more request, of which so many reads were left.
reads-then : (most n : ℕ) (q : Demand) (t : Bool) (more : Demand) (ready : Bool) (before mid now : ℕ) → before ≤ mid → mid + n ≤ before + most → asks_then q t more ≡ Reads n → Meets q ready mid now → Left (Reads most) more t ready before now
reads-then most n (Reads k) t (Reads l) ready before mid now later bound is meets =
    let sum : k + l ≡ n = cc is in
    let more = meets.1 in
    (meets.0, l, refl, omega (arith, later, more.later), omega (arith, bound, sum, more.bound))
reads-then most n (Reads k) t (Changes l) ready before mid now later bound is meets = absurd (cc is)
reads-then most n (Reads k) t Unbounded ready before mid now later bound is meets = absurd (cc is)
reads-then most n (Changes k) true more ready before mid now later bound is meets = absurd (cc is)
reads-then most n (Changes k) false more ready before mid now later bound is meets = absurd (cc is)
reads-then most n Unbounded t more ready before mid now later bound is meets = absurd (cc is)

changes-then : (most n : ℕ) (q : Demand) (t : Bool) (more : Demand) (ready : Bool) (before mid now : ℕ) → before ≤ mid → mid + n ≤ before + most → asks_then q t more ≡ Changes n → Meets q ready mid now → Left (Changes most) more t ready before now
changes-then most n (Reads k) t (Reads l) ready before mid now later bound is meets = absurd (cc is)
changes-then most n (Reads k) t (Changes l) ready before mid now later bound is meets =
    let sum : k + l ≡ n = cc is in
    let more = meets.1 in
    inl (meets.0, l, refl, omega (arith, later, more.later), omega (arith, bound, sum, more.bound))
changes-then most n (Reads k) t Unbounded ready before mid now later bound is meets = absurd (cc is)
changes-then most n (Changes k) true more ready before mid now later bound is meets = absurd (cc is)
changes-then most n (Changes k) false more ready before mid now later bound is meets =
    let same : k ≡ n = cc is in
    inr (refl, record { later = omega (arith, later, meets.later); bound = omega (arith, bound, same, meets.bound) })
changes-then most n Unbounded t more ready before mid now later bound is meets = absurd (cc is)

pub left-went : (asks left : Demand) (another : Bool) (left' : Demand) (another' was ready : Bool) (before mid now : ℕ) → Left asks left another was before mid → (was ≡ true → (request : Request) × (left ≡ asks_then (request_asks request) another' left') × Meets (request_asks request) ready mid now) → (another ≡ false → ⊥) → Left asks left' another' ready before now
left-went (Reads most) left another left' another' was ready before mid now so turn whole =
    let one = turn so.0 in reads-then most so.1 (request_asks one.0) another' left' ready before mid now so.3 so.4 (sym one.1 ∙ so.2) one.2
left-went (Changes most) left another left' another' was ready before mid now (inl so) turn whole =
    let one = turn so.0 in changes-then most so.1 (request_asks one.0) another' left' ready before mid now so.3 so.4 (sym one.1 ∙ so.2) one.2
left-went (Changes most) left another left' another' was ready before mid now (inr so) turn whole = absurd (whole so.0)
left-went Unbounded left another left' another' was ready before mid now so turn whole = tt

-- At the end.
pub left-kept : (asks left : Demand) (another was ready : Bool) (before mid now : ℕ) → Left asks left another was before mid → (was ≡ true → (ready ≡ true) × (now ≡ mid)) → (another ≡ false → now ≡ mid) → Meets asks ready before now
left-kept (Reads most) left another was ready before mid now so turn rest =
    let kept = turn so.0 in (kept.0, record { later = omega (arith, so.3, kept.1); bound = omega (arith, so.4, kept.1) })
left-kept (Changes most) left another was ready before mid now (inl so) turn rest =
    let kept = turn so.0 in record { later = omega (arith, so.3, kept.1); bound = omega (arith, so.4, kept.1) }
left-kept (Changes most) left another was ready before mid now (inr so) turn rest =
    let same = rest so.0 in record { later = omega (arith, so.1.later, same); bound = omega (arith, so.1.bound, same) }
left-kept Unbounded left another was ready before mid now so turn rest = tt

pub left-closed : (asks left : Demand) (another was ready : Bool) (before mid now : ℕ) → Left asks left another was before mid → (was ≡ true → Meets left ready mid now) → (another ≡ false → now ≡ mid) → Meets asks ready before now
left-closed (Reads most) left another was ready before mid now so turn rest =
    let last : Meets (Reads so.1) ready mid now = subst (λ (q : Demand). Meets q ready mid now) so.2 (turn so.0) in
    (last.0, record { later = omega (arith, so.3, last.1.later); bound = omega (arith, so.4, last.1.bound) })
left-closed (Changes most) left another was ready before mid now (inl so) turn rest =
    let last : Meets (Changes so.1) ready mid now = subst (λ (q : Demand). Meets q ready mid now) so.2 (turn so.0) in
    record { later = omega (arith, so.3, last.later); bound = omega (arith, so.4, last.bound) }
left-closed (Changes most) left another was ready before mid now (inr so) turn rest =
    let same = rest so.0 in record { later = omega (arith, so.1.later, same); bound = omega (arith, so.1.bound, same) }
left-closed Unbounded left another was ready before mid now so turn rest = tt
