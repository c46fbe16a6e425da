-- How many texts an act reads, and those after it.
use Rattle.std.proofs.Common.{◌≡◌, ◌≤◌, ◌<◌, ◌+◌, ℕ, zero, suc, max, Bool, true, false, ◌++◌, length, Option, Some, None, refl, sym, ap, ◌∙◌, arith}
use Rattle.std.specs.Prelude.{if◌then◌else◌}
use Rattle.arch_model.specs.Archives.{Archive}
use Rattle.arch_model.specs.Shelves.{ReadsUpTo, ReadsAhead}
use Rattle.line_door.specs.Acts.{ConnectionState, Departure, Plain, Memory, Disk, Newer, Acts}
use Rattle.imap_framer.specs.Framing.{PartFront, LastPart, LiteralPart, ExcessPart, OpenPart, Framing, room_of, front_of}
use Rattle.imap_framer.specs.Doors.{is_answered, only_rest, held_with, state_with, framed_size}
use Rattle.imap_framer.proofs.Goings.{rest_of, front_shorter}
use Rattle.imap_session.specs.Counting.{act_texts, count_of, most_of, texts_from, texts_ahead}
use Rattle.imap_session.specs.Door.{ImapClient, takes_literals, answered, go_on, said, has_request}
use Rattle.imap_session.proofs.Idle.{at_front}
use Rattle.imap_session.proofs.Suiting.{act-left}

-- Each way's count is at most the greatest.
pub most-least : (count : Departure → ℕ) (way : Departure) → count way ≤ most_of count
most-least count Plain = omega arith
most-least count Memory = omega arith
most-least count Disk = omega arith
most-least count Newer = omega arith

-- What is left after a part is the rest.
state-framing : {S : Type 0} (f : Framing) (o : Option S) (k : S × Framing) → state_with f o ≡ Some k → f ≡ k.1
state-framing f None k e = absurd (cc e)
state-framing {S} f (Some s) k e = let same : (s, f) ≡ k = cc e in ap (λ (x : S × Framing). x.1) same

module _ (a : Archive) where
  -- An act that leaves the session open makes it smaller, however it goes.
  shorter-at : (h k : ImapClient) (f : PartFront) (way : Departure) → is_answered f ≡ true → length (rest_of f) < length h.1.part → (at_front a h f way).next ≡ Some k → framed_size k < framed_size h
  shorter-at h k (LastPart part rest) way is less e =
      let same = state-framing (only_rest rest) (answered a h.0 (h.1.held ++ part) way).next k e in omega (arith, less, ap (λ (x : Framing). length x.part) same)
  shorter-at h k (LiteralPart part n rest) way is less e =
      let same = state-framing (held_with h.1 part n rest) (go_on a h.0 way).next k e in omega (arith, less, ap (λ (x : Framing). length x.part) same)
  shorter-at h k (ExcessPart rest) way is less e = absurd (cc e)
  shorter-at h k OpenPart way is less e = absurd (cc is)

  pub act-shorter : (h k : ImapClient) (way : Departure) → has_request h ≡ true → (said a h way).next ≡ Some k → framed_size k < framed_size h
  act-shorter h k way is e =
      shorter-at h k (front_of (takes_literals h.0) h.1) way is (front_shorter (takes_literals h.0) (room_of h.1) h.1.owed h.1.part is) e

  -- Counts of the sessions after an act.
  same-after : (n m : ℕ) (o : Option ImapClient) → ((k : ImapClient) → o ≡ Some k → texts_from n a k ≡ texts_from m a k) → count_of (texts_from n a) o ≡ count_of (texts_from m a) o
  same-after n m None same = refl
  same-after n m (Some k) same = same k refl

  same-most : (f g : Departure → ℕ) → ((way : Departure) → f way ≡ g way) → most_of f ≡ most_of g
  same-most f g same = λ i. max (max (same Plain i) (same Memory i)) (max (same Disk i) (same Newer i))

  -- Those of all parts, and those after one part.
  at-request : (n : ℕ) (h : ImapClient) → has_request h ≡ true → texts_from (suc n) a h ≡ act_texts a h + most_of (λ (way : Departure). count_of (texts_from n a) (said a h way).next)
  at-request n h e = ap (λ (t : Bool). if t then act_texts a h + most_of (λ (way : Departure). count_of (texts_from n a) (said a h way).next) else 0) e

  at-rest : (n : ℕ) (h : ImapClient) → has_request h ≡ false → texts_from n a h ≡ 0
  at-rest zero h e = refl
  at-rest (suc n) h e = ap (λ (t : Bool). if t then act_texts a h + most_of (λ (way : Departure). count_of (texts_from n a) (said a h way).next) else 0) e

  -- Allowing for more parts than the size changes nothing.
  enough-at : (n m : ℕ) (h : ImapClient) (t : Bool) → has_request h ≡ t → ((k : ImapClient) → framed_size k < framed_size h → texts_from n a k ≡ texts_from m a k) → texts_from (suc n) a h ≡ texts_from (suc m) a h
  enough-at n m h true e later =
      at-request n h e
      ∙ ap (λ (x : ℕ). act_texts a h + x)
      (same-most (λ (way : Departure). count_of (texts_from n a) (said a h way).next) (λ (way : Departure). count_of (texts_from m a) (said a h way).next)
      (λ way. same-after n m (said a h way).next (λ k next. later k (act-shorter h k way e next))))
      ∙ sym (at-request m h e)
  enough-at n m h false e later = at-rest (suc n) h e ∙ sym (at-rest (suc m) h e)

  enough : (n m : ℕ) (h : ImapClient) → framed_size h < n → framed_size h < m → texts_from n a h ≡ texts_from m a h
  enough zero m h p q = absurd (omega arith)
  enough (suc n) zero h p q = absurd (omega arith)
  enough (suc n) (suc m) h p q = enough-at n m h (has_request h) refl (λ k less. enough n m k (omega arith) (omega arith))

  -- A part, and the parts after it.
  pub texts-step : (h k : ImapClient) (way : Departure) → has_request h ≡ true → (said a h way).next ≡ Some k → act_texts a h + texts_ahead a k ≤ texts_ahead a h
  unfolding texts_ahead
  texts-step h k way is e =
      let all = at-request (framed_size h) h is in
      let most = most-least (λ (w : Departure). count_of (texts_from (framed_size h) a) (said a h w).next) way in
      let here : count_of (texts_from (framed_size h) a) (said a h way).next ≡ texts_from (framed_size h) a k = ap (count_of (texts_from (framed_size h) a)) e in
      let less = act-shorter h k way is e in
      let same : texts_from (framed_size h) a k ≡ texts_from (suc (framed_size k)) a k = enough (framed_size h) (suc (framed_size k)) k less (omega arith) in
      omega (arith, all, most, here, same)

  pub texts-here : (h : ImapClient) → has_request h ≡ true → act_texts a h ≤ texts_ahead a h
  unfolding texts_ahead
  texts-here h is = let all = at-request (framed_size h) h is in omega (arith, all)

  -- The reads of one part, by whether the session is open after it.
  pub reads-went : (h k : ImapClient) (i j : ConnectionState) (before now : ℕ) → has_request h ≡ true → Acts (said a h) i (Some k) a j → ReadsUpTo (act_texts a h) before now → ReadsAhead (texts_ahead a h) (texts_ahead a k) before now
  reads-went h k i j before now is acts reads =
      let left = act-left (said a h) i k a j acts in
      let step = texts-step h k left.0 is left.1 in
      record { later = reads.later; bound = omega (arith, step, reads.bound) }

  pub reads-closed : (h : ImapClient) (before now : ℕ) → has_request h ≡ true → ReadsUpTo (act_texts a h) before now → ReadsUpTo (texts_ahead a h) before now
  reads-closed h before now is reads = let here = texts-here h is in record { later = reads.later; bound = omega (arith, here, reads.bound) }
