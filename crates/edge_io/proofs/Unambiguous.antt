-- Bytes are read in one way.
use Rattle.std.proofs.Common.{◌≡◌, ◌≢◌, ◌+◌, ◌==◌, if◌then◌else◌, ℕ, List, [], ◌∷◌, ◌++◌, length, get_or, drop, All, refl, sym, ◌∙◌, ap, arith, append_assoc, append-nil}
use Rattle.std.proofs.lemmas.Fmt.{decimal_injective}
use Rattle.std.proofs.lemmas.List.{flat_map_more}
use Rattle.std.proofs.lemmas.List.Elements.{All-head, All-tail}
use Rattle.std.specs.Fmt.{decimal}
use Rattle.edge_io.specs.Events.{IsWhat, IsScriptLine, IsEvent, piece_len, door_word, words_of, line_of, after_line, spelled}
use Rattle.edge_io.specs.Scripts.{Arrival, IsArrival, HasNoFirst, spelled_all, ReadInOneWay}
use Rattle.edge_io.specs.Parsing.{LacksByte}
use Rattle.edge_io.specs.declared.events.Door.{Door}
use Rattle.edge_io.specs.declared.events.Door.TheVariants.{Control, Http, Nntp, Pop3, Imap, Lmtp}
use Rattle.edge_io.specs.declared.events.Event.{Event}
use Rattle.edge_io.specs.declared.events.What.{What}
use Rattle.edge_io.specs.declared.events.What.TheVariants.{Opened, Bytes, Ended, Quiet, Stop}
use Rattle.edge_io.proofs.Dividing.{LacksByte-divided, divided-once, same_parts}
use Rattle.edge_io.proofs.Numerals.{decimal-lacks}
use Rattle.edge_io.proofs.Lines.{line-lacks, rest-same}
use Rattle.edge_io.proofs.Fronts.{nil_from_length}

-- The first byte of a door's name. No two doors share it.
abbrev first_of_word : Door → ℕ
first_of_word door = get_or (door_word door) 0 0

first-same : (a b : Door) → door_word a ≡ door_word b → first_of_word a ≡ first_of_word b
first-same a b e = ap (λ l. get_or l 0 0) e

-- The door whose name has this first byte.
abbrev door_from : ℕ → Door
door_from n = if n == 99 then Control else (if n == 104 then Http else (if n == 110 then Nntp else (if n == 112 then Pop3 else (if n == 105 then Imap else Lmtp))))

door-from : (door : Door) → door_from (first_of_word door) ≡ door
door-from Control = refl
door-from Http = refl
door-from Nntp = refl
door-from Pop3 = refl
door-from Imap = refl
door-from Lmtp = refl

-- A word is the name of at most one door.
doors-once : (a b : Door) → door_word a ≡ door_word b → a ≡ b
doors-once a b e = sym (door-from a) ∙ (ap door_from (first-same a b e) ∙ door-from b)

-- The words tell what happened.
words-once : (a b : What) → IsWhat a → IsWhat b → words_of a ≡ words_of b → a ≡ b
words-once (Opened conn door) (Opened conn' door') p q e =
    let rest = divided-once 32 (decimal conn) (decimal conn') (door_word door) (door_word door') (decimal-lacks 32 conn (omega arith) (omega (arith, p.0))) (decimal-lacks 32 conn' (omega arith) (omega (arith, q.0)))
    (rest-same 111 32 (decimal conn ++ 32 ∷ door_word door) (decimal conn' ++ 32 ∷ door_word door') e) in
    let same : conn ≡ conn' = decimal_injective conn conn' (omega (arith, p.0)) (omega (arith, q.0)) rest.0 in
    let also : door ≡ door' = doors-once door door' rest.1 in
    cc
words-once (Bytes conn len) (Bytes conn' len') p q e =
    let rest = divided-once 32 (decimal conn) (decimal conn') (decimal len) (decimal len') (decimal-lacks 32 conn (omega arith) (omega (arith, p.0))) (decimal-lacks 32 conn' (omega arith) (omega (arith, q.0)))
    (rest-same 98 32 (decimal conn ++ 32 ∷ decimal len) (decimal conn' ++ 32 ∷ decimal len') e) in
    let same : conn ≡ conn' = decimal_injective conn conn' (omega (arith, p.0)) (omega (arith, q.0)) rest.0 in
    let also : len ≡ len' = decimal_injective len len' (omega (arith, p.1.1)) (omega (arith, q.1.1)) rest.1 in
    cc
words-once (Ended conn) (Ended conn') p q e =
    let same : conn ≡ conn' = decimal_injective conn conn' (omega (arith, p)) (omega (arith, q)) (rest-same 101 32 (decimal conn) (decimal conn') e) in
    cc
words-once Quiet Quiet p q e = refl
words-once Stop Stop p q e = refl
words-once a b p q e = let first : get_or (words_of a) 0 0 ≡ get_or (words_of b) 0 0 = ap (λ l. get_or l 0 0) e in absurd (omega arith)

-- A line tells its event.
pub line-once : (a b : Event) → IsScriptLine a → IsScriptLine b → line_of a ≡ line_of b → a ≡ b
line-once a b p q e =
    let parts = divided-once 32 (decimal a.moment) (decimal b.moment) (words_of a.what) (words_of b.what) (decimal-lacks 32 a.moment (omega arith) (omega (arith, p.moment)))
    (decimal-lacks 32 b.moment (omega arith) (omega (arith, q.moment))) e in
    let moment : a.moment ≡ b.moment = decimal_injective a.moment b.moment (omega (arith, p.moment)) (omega (arith, q.moment)) parts.0 in
    let what : a.what ≡ b.what = words-once a.what b.what p.what q.what parts.1 in
    ap (λ (m : ℕ). let event : Event = record { moment = m; what = a.what } in event) moment ∙ ap (λ (w : What). let event : Event = record { moment = b.moment; what = w } in event) what

-- The form of an event at the front of bytes starts with its line and a line feed.
pub spelled-line : (event : Event) (piece after : List ℕ) → spelled event piece ++ after ≡ line_of event ++ 10 ∷ (after_line event.what piece ++ after)
spelled-line event piece after = append_assoc (line_of event) (10 ∷ after_line event.what piece) after

-- Bytes without a line feed start with no event.
pub no_line : (bytes : List ℕ) → LacksByte 10 bytes → HasNoFirst bytes
no_line bytes none event piece after h e =
    LacksByte-divided 10 bytes (line_of event) (after_line event.what piece ++ after) none (e ∙ spelled-line event piece after)

-- The first line of bytes is the line of their first event, and the rest comes after it.
pub line-and-after : (bytes line rest : List ℕ) (event : Event) (piece after : List ℕ) → LacksByte 10 line → bytes ≡ line ++ 10 ∷ rest → IsScriptLine event → bytes ≡ spelled event piece ++ after
    → (line ≡ line_of event) × (rest ≡ after_line event.what piece ++ after)
line-and-after bytes line rest event piece after no_feed is h e =
    same_parts 10 bytes line rest (line_of event) (after_line event.what piece ++ after) no_feed is (line-lacks event h) (e ∙ spelled-line event piece after)

-- Bytes whose first line is of no event start with no event.
pub no_event : (bytes line rest : List ℕ) → LacksByte 10 line → bytes ≡ line ++ 10 ∷ rest → ((event : Event) → IsScriptLine event → line ≢ line_of event) → HasNoFirst bytes
no_event bytes line rest no_feed is none event piece after h e = none event h.in_range (line-and-after bytes line rest event piece after no_feed is h.in_range e).0

-- Bytes start with no event if their first line announces a piece that is incomplete.
pub no_piece : (bytes line rest : List ℕ) (first : Event) (conn len : ℕ) → LacksByte 10 line → bytes ≡ line ++ 10 ∷ rest → IsScriptLine first → line ≡ line_of first → first.what ≡ Bytes conn len
    → ((piece after : List ℕ) → length piece ≡ len → rest ≢ piece ++ 10 ∷ after) → HasNoFirst bytes
no_piece bytes line rest first conn len no_feed is in_range named what none event piece after h e =
    let parts = line-and-after bytes line rest event piece after no_feed is h.in_range e in
    let same : first ≡ event = line-once first event in_range h.in_range (sym named ∙ parts.0) in
    let here : event.what ≡ Bytes conn len = ap (λ (x : Event). x.what) (sym same) ∙ what in
    let size : length piece ≡ len = h.whole ∙ ap piece_len here in
    none piece after size (parts.1 ∙ ap (λ (w : What). after_line w piece ++ after) here ∙ append_assoc piece (10 ∷ []) after)

-- Two prefixes of one list that have one length are equal.
fronts-once : (a b x y : List ℕ) → length a ≡ length b → a ++ x ≡ b ++ y → (a ≡ b) × (x ≡ y)
fronts-once [] [] x y h e = (refl, e)
fronts-once [] (c ∷ b) x y h e = absurd (omega arith)
fronts-once (d ∷ a) [] x y h e = absurd (omega arith)
fronts-once (d ∷ a) (c ∷ b) x y h e =
    let rest : a ++ x ≡ b ++ y = ap (drop 1) e in
    let head : d ≡ c = ap (λ l. get_or l 0 0) e in
    let tail = fronts-once a b x y (omega arith) rest in
    (let l : a ≡ b = tail.0 in cc, tail.1)

-- The bytes after a line are read in one way.
after-once : (what : What) (a b r s : List ℕ) → length a ≡ piece_len what → length b ≡ piece_len what → after_line what a ++ r ≡ after_line what b ++ s → (a ≡ b) × (r ≡ s)
after-once (Opened conn door) a b r s p q e = (nil_from_length a p ∙ sym (nil_from_length b q), e)
after-once (Bytes conn len) a b r s p q e =
    let parts = fronts-once a b (10 ∷ r) (10 ∷ s) (p ∙ sym q) (sym (append_assoc a (10 ∷ []) r) ∙ e ∙ append_assoc b (10 ∷ []) s) in
    (parts.0, ap (drop 1) parts.1)
after-once (Ended conn) a b r s p q e = (nil_from_length a p ∙ sym (nil_from_length b q), e)
after-once Quiet a b r s p q e = (nil_from_length a p ∙ sym (nil_from_length b q), e)
after-once Stop a b r s p q e = (nil_from_length a p ∙ sym (nil_from_length b q), e)

-- The first event of bytes is read in one way.
first-once : (a b : Event) (x y r s : List ℕ) → IsEvent a x → IsEvent b y → spelled a x ++ r ≡ spelled b y ++ s → (a ≡ b) × (x ≡ y) × (r ≡ s)
first-once a b x y r s p q e =
    let parts = divided-once 10 (line_of a) (line_of b) (after_line a.what x ++ r) (after_line b.what y ++ s) (line-lacks a p.in_range) (line-lacks b q.in_range)
    (sym (spelled-line a x r) ∙ e ∙ spelled-line b y s) in
    let same : a ≡ b = line-once a b p.in_range q.in_range parts.0 in
    let what : b.what ≡ a.what = ap (λ (v : Event). v.what) (sym same) in
    let rest = after-once a.what x y r s p.whole (q.whole ∙ ap piece_len what) (parts.1 ∙ ap (λ (w : What). after_line w y ++ s) what) in
    (same, rest.0, rest.1)

-- A list of events is read in one way.
runs-once : (a b : List Arrival) (r s : List ℕ) → All IsArrival a → All IsArrival b → HasNoFirst r → HasNoFirst s → spelled_all a ++ r ≡ spelled_all b ++ s → (a ≡ b) × (r ≡ s)
runs-once [] [] r s p q m n e = (refl, e)
runs-once [] (y ∷ b) r s p q m n e = absurd (m y.0 y.1 (spelled_all b ++ s) (All-head IsArrival y b q) (e ∙ append_assoc (spelled y.0 y.1) (spelled_all b) s))
runs-once (x ∷ a) [] r s p q m n e = absurd (n x.0 x.1 (spelled_all a ++ r) (All-head IsArrival x a p) (sym e ∙ append_assoc (spelled x.0 x.1) (spelled_all a) r))
runs-once (x ∷ a) (y ∷ b) r s p q m n e =
    let first = first-once x.0 y.0 x.1 y.1 (spelled_all a ++ r) (spelled_all b ++ s) (All-head IsArrival x a p) (All-head IsArrival y b q)
    (sym (append_assoc (spelled x.0 x.1) (spelled_all a) r) ∙ e ∙ append_assoc (spelled y.0 y.1) (spelled_all b) s) in
    let rest = runs-once a b r s (All-tail IsArrival x a p) (All-tail IsArrival y b q) m n first.2 in
    let head : x ≡ y = ap (λ (v : Event). let arrival : Arrival = (v, x.1) in arrival) first.0 ∙ ap (λ (l : List ℕ). let arrival : Arrival = (y.0, l) in arrival) first.1 in
    (let tail : a ≡ b = rest.0 in cc, rest.1)

-- One more event is read from the front of the remaining bytes.
pub one-more : (made : List Arrival) (event : Event) (piece bytes rest after : List ℕ) → bytes ≡ spelled_all made ++ rest → rest ≡ spelled event piece ++ after
    → bytes ≡ spelled_all (made ++ (event, piece) ∷ []) ++ after
one-more made event piece bytes rest after is here =
    let more : spelled_all made ++ spelled event piece ≡ spelled_all (made ++ (event, piece) ∷ []) = flat_map_more (λ (arrival : Arrival). spelled arrival.0 arrival.1) [] made (event, piece) in
    is ∙ ap (λ t. spelled_all made ++ t) here ∙ sym (append_assoc (spelled_all made) (spelled event piece) after) ∙ ap (λ t. t ++ after) more

-- Empty bytes start with no event.
none-first : HasNoFirst []
none-first = no_line [] tt

pub read-in_one_way : ReadInOneWay
read-in_one_way = record {
  script = λ bytes a b p q.
      (runs-once a b [] [] p.each q.each none-first none-first (append-nil (spelled_all a) ∙ sym p.spells ∙ q.spells ∙ sym (append-nil (spelled_all b)))).0;
  bad = λ bytes m n p q.
      let same = runs-once p.arrivals q.arrivals p.rest q.rest p.each q.each p.none q.none (sym p.spells ∙ q.spells) in
      p.counted ∙ ap (λ (l : List Arrival). length l + 1) same.0 ∙ sym q.counted;
  apart = λ bytes a n p q.
      let same = runs-once a q.arrivals [] q.rest p.each q.each none-first q.none (append-nil (spelled_all a) ∙ sym p.spells ∙ q.spells) in
      omega (arith, q.more, ap length same.1);
}
