-- Pieces that follow one another in one list of bytes.
use Rattle.std.proofs.Common.{◌≡◌, ◌≤◌, ◌+◌, ℕ, List, [], ◌∷◌, ◌++◌, length, take, drop, refl, sym, ◌∙◌, ap, arith, Result, Ok, Err, OnOk, is_ok, if◌then◌else◌}
use Rattle.std.proofs.Math.Seq.{drop-append_seam, take-length}
use Rattle.std.proofs.lemmas.Grind.{common_steps}
use Rattle.std.proofs.lemmas.List.Elements.{All-head, All-tail}
use Rattle.std.proofs.lemmas.List.{map-append}
use Rattle.edge_io.specs.Events.{piece_len}
use Rattle.edge_io.specs.Scripts.{Arrival}
use Rattle.edge_io.specs.Spans.{arrival_of, arrivals_of, PieceIsWithin, AllWithin}
use Rattle.edge_io.specs.declared.events.Event.{Event}
use Rattle.edge_io.specs.declared.scripts.Placed.{Placed}

-- Appending to a list leaves a part within it unchanged.
part-kept : (pieces more : List ℕ) (start len : ℕ) → start + len ≤ length pieces → take len (drop start (pieces ++ more)) ≡ take len (drop start pieces)
part-kept pieces more start len within = grind (arith, common_steps)

-- Appending to the bytes leaves the pieces unchanged.
pub arrivals-kept : (pieces more : List ℕ) (all : List Placed) → AllWithin pieces all → arrivals_of (pieces ++ more) all ≡ arrivals_of pieces all
arrivals-kept pieces more [] within = refl
arrivals-kept pieces more (placed ∷ all) within =
    let head : arrival_of (pieces ++ more) placed ≡ arrival_of pieces placed =
    ap (λ (piece : List ℕ). let a : Arrival = (placed.event, piece) in a) (part-kept pieces more placed.start (piece_len placed.event.what) (All-head (PieceIsWithin pieces) placed all within)) in
    let tail : arrivals_of (pieces ++ more) all ≡ arrivals_of pieces all = arrivals-kept pieces more all (All-tail (PieceIsWithin pieces) placed all within) in
    cc

-- Appends one event, whose piece follows the others.
arrivals-more : (pieces piece : List ℕ) (all : List Placed) (event : Event) → AllWithin pieces all → length piece ≡ piece_len event.what
    → arrivals_of (pieces ++ piece) (all ++ record { event = event; start = length pieces } ∷ []) ≡ arrivals_of pieces all ++ (event, piece) ∷ []
arrivals-more pieces piece all event within whole =
    let last : take (piece_len event.what) (drop (length pieces) (pieces ++ piece)) ≡ piece =
    ap (take (piece_len event.what)) (drop-append_seam pieces piece) ∙ ap (λ n. take n piece) (sym whole) ∙ take-length piece in
    let more : Arrival = (event, piece) in
    map-append (arrival_of (pieces ++ piece)) all (record { event = event; start = length pieces } ∷ [])
    ∙ ap (λ (l : List Arrival). l ++ arrival_of (pieces ++ piece) (record { event = event; start = length pieces }) ∷ []) (arrivals-kept pieces piece all within)
    ∙ ap (λ (l : List ℕ). let a : Arrival = (event, l) in arrivals_of pieces all ++ a ∷ []) last

-- The arrivals of a script after a push.
pub arrivals-pushed : {E : Type 0} (r : Result (Unit {0}) E) (pieces piece pieces' : List ℕ) (all all' : List Placed) (event : Event) (start : ℕ) (old : List Arrival) → AllWithin pieces all
    → length piece ≡ piece_len event.what → pieces' ≡ pieces ++ piece → start ≡ length pieces → all' ≡ (if is_ok r then all ++ record { event = event; start = start } ∷ [] else all)
    → arrivals_of pieces all ≡ old → OnOk r (arrivals_of pieces' all' ≡ old ++ (event, piece) ∷ [])
arrivals-pushed (Ok u) pieces piece pieces' all all' event start old within whole p q r is =
    rw (r, p, q) (arrivals-more pieces piece all event within whole ∙ ap (λ (l : List Arrival). l ++ (event, piece) ∷ []) is)
arrivals-pushed (Err e) pieces piece pieces' all all' event start old within whole p q r is = tt
