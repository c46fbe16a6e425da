-- The events of a script, given one by one.
use Rattle.std.proofs.Common.{◌≡◌, ◌≤◌, ◌+◌, zero, suc, ℕ, List, [], ◌∷◌, ◌++◌, Some, None, length, take, drop, All, refl, sym, ◌∙◌, ap, subst, arith}
use Rattle.std.proofs.lemmas.List.{drop_all}
use Rattle.std.proofs.lemmas.Option.{none-some, same_Some}
use Rattle.std.proofs.lemmas.List.Elements.{All-head, All-tail}
use Rattle.edge_io.specs.Events.{IsEvent, IsWhat, piece_len}
use Rattle.edge_io.specs.Scripts.{Arrival, IsArrival, event_at, piece_at}
use Rattle.edge_io.specs.Hosts.{GaveOne}
use Rattle.edge_io.specs.declared.events.Event.{Event}
use Rattle.edge_io.specs.declared.events.What.{What}
use Rattle.edge_io.specs.declared.events.What.TheVariants.{Opened, Bytes, Ended, Quiet, Stop}

-- What may happen has a piece of at most 1,048,576 bytes.
what-short : (what : What) → IsWhat what → piece_len what ≤ 1048576
what-short (Opened conn door) is = omega arith
what-short (Bytes conn len) is = is.1.1
what-short (Ended conn) is = omega arith
what-short Quiet is = omega arith
what-short Stop is = omega arith

-- The piece at an index is short, also where no event is.
pub piece-short : (arrivals : List Arrival) (at : ℕ) → All IsArrival arrivals → length (piece_at arrivals at) ≤ 1048576
piece-short [] at all = omega arith
piece-short (x ∷ xs) zero all =
    let here : IsEvent x.0 x.1 = All-head IsArrival x xs all in
    omega (arith, here.whole, what-short x.0.what here.in_range.what)
piece-short (x ∷ xs) (suc at) all = piece-short xs at (All-tail IsArrival x xs all)

-- What is known of the event at an index, and of the events up to it and from it on.
pub record Found (arrivals : List Arrival) (at : ℕ) (event : Event) : Type 0 where
  pub inside : at + 1 ≤ length arrivals
  pub from : drop at arrivals ≡ (event, piece_at arrivals at) ∷ drop (at + 1) arrivals
  pub up_to : take (at + 1) arrivals ≡ take at arrivals ++ (event, piece_at arrivals at) ∷ []
  pub is : All IsArrival arrivals → IsArrival (event, piece_at arrivals at)

found-head : (x : Arrival) (xs : List Arrival) (event : Event) → x.0 ≡ event → Found (x ∷ xs) 0 event
found-head x xs event same =
    let head : x ≡ (event, x.1) = ap (λ (e : Event). let arrival : Arrival = (e, x.1) in arrival) same in
    record {
      inside = omega arith;
      from = ap (λ (a : Arrival). a ∷ xs) head;
      up_to = ap (λ (a : Arrival). a ∷ []) head;
      is = λ all. subst IsArrival head (All-head IsArrival x xs all);
    }

found-tail : (x : Arrival) (xs : List Arrival) (at : ℕ) (event : Event) → Found xs at event → Found (x ∷ xs) (suc at) event
found-tail x xs at event found =
    let next : suc at + 1 ≡ suc (at + 1) = omega arith in
    record {
      inside = omega (arith, found.inside);
      from = found.from ∙ ap (λ n. (event, piece_at xs at) ∷ drop n (x ∷ xs)) (sym next);
      up_to = ap (λ n. take n (x ∷ xs)) next ∙ ap (λ (l : List Arrival). x ∷ l) found.up_to;
      is = λ all. found.is (All-tail IsArrival x xs all);
    }

pub found : (arrivals : List Arrival) (at : ℕ) (event : Event) → event_at arrivals at ≡ Some event → Found arrivals at event
found [] at event e = absurd (none-some event e)
found (x ∷ xs) zero event e = found-head x xs event (same_Some x.0 event e)
found (x ∷ xs) (suc at) event e = found-tail x xs at event (found xs at event e)

-- No event is left from an index on where none is.
pub none-from : (arrivals : List Arrival) (at : ℕ) → event_at arrivals at ≡ None → drop at arrivals ≡ []
none-from [] at e = drop_all at [] (omega arith)
none-from (x ∷ xs) zero e = absurd (none-some x.0 (sym e))
none-from (x ∷ xs) (suc at) e = none-from xs at e

-- The front of a buffer that got a piece is the piece.
front-copied : (piece rest : List ℕ) → take (length piece) (piece ++ rest) ≡ piece
front-copied [] rest = refl
front-copied (b ∷ bs) rest = ap (λ (l : List ℕ). b ∷ l) (front-copied bs rest)

-- A buffer that got a piece is at least as long.
fits : (piece rest : List ℕ) → length piece ≤ length (piece ++ rest)
fits [] rest = omega arith
fits (b ∷ bs) rest = omega (arith, fits bs rest)

-- The event at an index was given, with its piece at the front of the buffer.
pub given-one : (arrivals : List Arrival) (at : ℕ) (event : Event) (piece rest : List ℕ) → All IsArrival arrivals → event_at arrivals at ≡ Some event → piece ≡ piece_at arrivals at
    → GaveOne event (piece ++ rest) (Some (drop at arrivals)) (Some (drop (at + 1) arrivals)) (Some (take at arrivals)) (Some (take (at + 1) arrivals))
given-one arrivals at event piece rest all here same =
    let f = found arrivals at event here in
    let is : IsEvent event (piece_at arrivals at) = f.is all in
    let size : length piece ≡ piece_len event.what = ap length same ∙ is.whole in
    let front : take (piece_len event.what) (piece ++ rest) ≡ piece_at arrivals at = ap (λ n. take n (piece ++ rest)) (sym size) ∙ front-copied piece rest ∙ same in
    record {
      within = omega (arith, size, fits piece rest);
      arrival = subst (λ (l : List ℕ). IsArrival (event, l)) (sym front) is;
      first = ap (λ (l : List Arrival). Some l) f.from ∙ ap (λ (l : List ℕ). Some ((event, l) ∷ drop (at + 1) arrivals)) (sym front);
      last = ap (λ (l : List Arrival). Some l) f.up_to ∙ ap (λ (l : List ℕ). Some (take at arrivals ++ (event, l) ∷ [])) (sym front);
    }
