-- The part at the front of some octets, and how a piece goes on after them.
use Rattle.std.proofs.Common.{◌≡◌, ◌≤◌, ◌<◌, ◌+◌, ◌-◌, ℕ, zero, suc, min, List, [], ◌∷◌, ◌++◌, length, take, drop, get_or, eqb, ltb, leb, Option, Some, None, Bool, true, false, refl, sym, ap, subst, ◌∙◌, arith, length-append, append_assoc, leb-true, leb-false, le-leb, lt-ltb, le-ltb, length-drop}
use Rattle.std.specs.Prelude.{if◌then◌else◌}
use Rattle.std.proofs.lemmas.Bool.{lt-leb}
use Rattle.std.proofs.Math.Seq.{drop-append-add, take-length, drop-length}
use Rattle.std.proofs.lemmas.List.{append_cancel_right, take-append-drop, drop-drop, drop_min, drop-append-le, length-take-le}
use Rattle.line_door.specs.Lines.{first_line}
use Rattle.line_door.proofs.Fronts.{first_line-joined, first_line-append, first_line-append_none}
use Rattle.imap_framer.specs.Framing.{most_octets, announced, PartFront, LastPart, LiteralPart, ExcessPart, OpenPart, by_announced, by_line, part_front, Framing, with_octets, room_of, front_of}
use Rattle.imap_framer.specs.Doors.{is_answered}
use Rattle.imap_framer.specs.Feeding.{EndsLast, EndsLiteral, EndsExcess, IsOpen, IsNextPart, holding}
use Rattle.imap_framer.specs.Scanning.{IsLineEnd, part_kind, framing_of, capped}
use Rattle.imap_framer.specs.declared.parts.NextPart.{NextPart}
use Rattle.imap_framer.specs.declared.parts.NextPart.TheVariants as next

either-answered : (t : Bool) (a b : PartFront) → is_answered a ≡ true → is_answered b ≡ true → is_answered (if t then a else b) ≡ true
either-answered true a b e f = e
either-answered false a b e f = f

announced-answered : (room : ℕ) (part rest : List ℕ) (a : Option ℕ) → is_answered (by_announced room part rest a) ≡ true
announced-answered room part rest None = refl
announced-answered room part rest (Some n) = either-answered (leb (length part + n) room) (LiteralPart part n rest) (ExcessPart rest) refl refl

line-answered : (lits : Bool) (room : ℕ) (literal octets : List ℕ) (p : List ℕ × List ℕ) → is_answered (by_line lits room literal octets (Some p)) ≡ true
line-answered lits room literal octets p =
    either-answered (ltb (length literal + length p.0) room) (by_announced room (literal ++ (p.0 ++ 10 ∷ [])) p.1 (if lits then announced p.0 else None)) (ExcessPart (drop (room + 1) octets))
    (announced-answered room (literal ++ (p.0 ++ 10 ∷ [])) p.1 (if lits then announced p.0 else None)) refl

open-if : (t : Bool) (rest : List ℕ) → (if t then OpenPart else ExcessPart rest) ≡ OpenPart → t ≡ true
open-if true rest e = refl
open-if false rest e = absurd (cc)

-- Where no part has ended, no line ends after the literal, and the octets have room.
pub open_is : (lits : Bool) (room owed : ℕ) (xs : List ℕ) → part_front lits room owed xs ≡ OpenPart → (first_line (drop owed xs) ≡ None) × (length xs ≤ room)
open_is lits room owed xs = by (first_line (drop owed xs))
  where
    by : (o : Option (List ℕ × List ℕ)) → by_line lits room (take owed xs) xs o ≡ OpenPart → (o ≡ None) × (length xs ≤ room)
    by None e = (refl, leb-true (length xs) room (open-if (leb (length xs) room) (drop (room + 1) xs) e))
    by (Some p) e = absurd (let f : true ≡ false = sym (line-answered lits room (take owed xs) xs p) ∙ ap is_answered e in cc)

pub open_from : (lits : Bool) (room owed : ℕ) (xs : List ℕ) → first_line (drop owed xs) ≡ None → length xs ≤ room → part_front lits room owed xs ≡ OpenPart
open_from lits room owed xs e l =
    ap (by_line lits room (take owed xs) xs) e ∙ ap (λ (t : Bool). if t then OpenPart else ExcessPart (drop (room + 1) xs)) (le-leb (length xs) room l)

-- The octets after the first `n` of two lists.
pub drop_join : (n : ℕ) (xs ys : List ℕ) → drop n (xs ++ ys) ≡ drop n xs ++ drop (n - length xs) ys
drop_join zero xs ys = let e : 0 ≡ zero - length xs = omega arith in ap (λ (k : ℕ). xs ++ drop k ys) e
drop_join (suc n) [] ys = let e : suc n ≡ suc n - length {A = ℕ} [] = omega arith in ap (λ (k : ℕ). drop k ys) e
drop_join (suc n) (x ∷ xs) ys =
    let e : n - length xs ≡ suc n - length (x ∷ xs) = omega arith in
    drop_join n xs ys ∙ ap (λ (k : ℕ). drop n xs ++ drop k ys) e

pub drop-least : (n : ℕ) (xs : List ℕ) → drop (min (length xs) n) xs ≡ drop n xs
drop-least n xs = let e : min (length xs) n ≡ min n (length xs) = omega arith in ap (λ (k : ℕ). drop k xs) e ∙ drop_min n xs

-- What is known of the octets that are held.
pub record Fits (f : Framing) : Type 0 where
  pub rooms : length f.held + length f.part ≤ most_octets
  pub owes : length f.held + f.owed ≤ most_octets
  pub none : first_line (drop f.owed f.part) ≡ None

pub framing-fits : (h o : ℕ) (xs : List ℕ) → h ≤ length xs → h + o ≤ most_octets → length xs ≤ most_octets → first_line (drop (h + o) xs) ≡ None → Fits (framing_of h o xs)
framing-fits h o xs within owes rooms none = record {
  rooms = omega (arith, length-take-le h xs within, length-drop h xs, rooms);
  owes = omega (arith, length-take-le h xs within, owes);
  none = ap first_line (drop-drop o h xs) ∙ none;
}

-- The octets of the present part with a piece, by the line in the piece.
abbrev line_after : Framing → Option (List ℕ × List ℕ) → Option (List ℕ × List ℕ)
line_after f None = None
line_after f (Some p) = Some (drop f.owed f.part ++ p.0, p.1)

line-joined : (f : Framing) (piece : List ℕ) (o : Option (List ℕ × List ℕ)) → first_line (drop f.owed f.part) ≡ None → first_line (drop (f.owed - length f.part) piece) ≡ o
    → first_line (drop f.owed (f.part ++ piece)) ≡ line_after f o
line-joined f piece None none e = ap first_line (drop_join f.owed f.part piece) ∙ first_line-append_none (drop f.owed f.part) (drop (f.owed - length f.part) piece) none e
line-joined f piece (Some p) none e = ap first_line (drop_join f.owed f.part piece) ∙ first_line-append (drop f.owed f.part) (drop (f.owed - length f.part) piece) p none e

-- The octets past the room of the command.
past : (f : Framing) (piece : List ℕ) (used : ℕ) → length f.held + length f.part ≤ most_octets → used ≡ most_octets - (length f.held + length f.part) + 1
    → drop (room_of f + 1) (f.part ++ piece) ≡ drop used piece
past f piece used rooms is = ap (λ (n : ℕ). drop n (f.part ++ piece)) (omega (arith, rooms, is)) ∙ drop-append-add f.part piece used

-- No part ends in the piece.
pub more-open : (f : Framing) (piece : List ℕ) → Fits f → first_line (drop (f.owed - length f.part) piece) ≡ None → length piece ≤ most_octets - (length f.held + length f.part) → IsOpen (with_octets f piece)
more-open f piece fits e l lits =
    open_from lits (room_of f) f.owed (f.part ++ piece) (line-joined f piece None fits.none e) (omega (arith, fits.rooms, length-append f.part piece))

-- No line ends in the piece, which has too many octets.
pub more-excess : (lits : Bool) (f : Framing) (piece : List ℕ) (used : ℕ) → Fits f → first_line (drop (f.owed - length f.part) piece) ≡ None
    → used ≡ most_octets - (length f.held + length f.part) + 1 → used ≤ length piece → EndsExcess lits f piece used
more-excess lits f piece used fits e is l = record {
  within = l;
  some = omega arith;
  excess =
      ap (by_line lits (room_of f) (take f.owed (f.part ++ piece)) (f.part ++ piece)) (line-joined f piece None fits.none e)
      ∙ ap (λ (t : Bool). if t then OpenPart else ExcessPart (drop (room_of f + 1) (f.part ++ piece))) (lt-leb (length (f.part ++ piece)) (room_of f) (omega (arith, fits.rooms, length-append f.part piece)))
      ∙ ap ExcessPart (past f piece used fits.rooms is);
}

-- The line that ends in a piece at the offset `end`.
pub record Ends (f : Framing) (piece line : List ℕ) (end : ℕ) : Type 0 where
  pub found : first_line (drop f.owed (f.part ++ piece)) ≡ Some (line, drop (end + 1) piece)
  pub high : end < length piece

pub ends-from : (f : Framing) (piece : List ℕ) (skip end : ℕ) → Fits f → skip ≡ f.owed - length f.part → end < length piece
    → first_line (drop skip piece) ≡ Some (take (end - skip) (drop skip piece), drop (end + 1) piece)
    → Ends f piece (drop f.owed f.part ++ take (end - skip) (drop skip piece)) end
ends-from f piece skip end fits is high e = record {
  found = line-joined f piece (Some (take (end - skip) (drop skip piece), drop (end + 1) piece)) fits.none (ap (λ (n : ℕ). first_line (drop n piece)) (sym is) ∙ e);
  high = high;
}

-- The octets of the part are its literal, the line, its line feed, and those that follow.
spelled : (f : Framing) (piece line : List ℕ) (end : ℕ) → Ends f piece line end
    → take f.owed (f.part ++ piece) ++ (line ++ 10 ∷ drop (end + 1) piece) ≡ f.part ++ piece
spelled f piece line end ends =
    ap (λ (xs : List ℕ). take f.owed (f.part ++ piece) ++ xs) (sym (first_line-joined (drop f.owed (f.part ++ piece)) (line, drop (end + 1) piece) ends.found))
    ∙ take-append-drop f.owed (f.part ++ piece)

ends-length : (f : Framing) (piece line : List ℕ) (end : ℕ) → Ends f piece line end → length (take f.owed (f.part ++ piece)) + length line ≡ length f.part + end
ends-length f piece line end ends =
    let high : end < length piece = ends.high in
    let all = ap length (spelled f piece line end ends) in
    omega (arith, all, high, length-append (take f.owed (f.part ++ piece)) (line ++ 10 ∷ drop (end + 1) piece), length-append line (10 ∷ drop (end + 1) piece), length-append f.part piece, length-drop (end + 1) piece)

part-is : (f : Framing) (piece line : List ℕ) (end : ℕ) → Ends f piece line end → take f.owed (f.part ++ piece) ++ (line ++ 10 ∷ []) ≡ f.part ++ take (end + 1) piece
part-is f piece line end ends =
    let literal : List ℕ = take f.owed (f.part ++ piece) in
    let rest : List ℕ = drop (end + 1) piece in
    append_cancel_right (literal ++ (line ++ 10 ∷ [])) (f.part ++ take (end + 1) piece) rest
    (append_assoc literal (line ++ 10 ∷ []) rest
    ∙ ap (λ (xs : List ℕ). literal ++ xs) (append_assoc line (10 ∷ []) rest)
    ∙ spelled f piece line end ends
    ∙ sym (append_assoc f.part (take (end + 1) piece) rest ∙ ap (λ (xs : List ℕ). f.part ++ xs) (take-append-drop (end + 1) piece)))

-- A line that ends within the room ends a part.
pub ends-front : (lits : Bool) (f : Framing) (piece line : List ℕ) (end : ℕ) → Fits f → Ends f piece line end → end < most_octets - (length f.held + length f.part)
    → front_of lits (with_octets f piece) ≡ by_announced (room_of f) (f.part ++ take (end + 1) piece) (drop (end + 1) piece) (if lits then announced line else None)
ends-front lits f piece line end fits ends l =
    ap (by_line lits (room_of f) (take f.owed (f.part ++ piece)) (f.part ++ piece)) ends.found
    ∙ ap (λ (t : Bool). if t then by_announced (room_of f) (take f.owed (f.part ++ piece) ++ (line ++ 10 ∷ [])) (drop (end + 1) piece) (if lits then announced line else None) else ExcessPart (drop (room_of f + 1) (f.part ++ piece)))
    (lt-ltb (length (take f.owed (f.part ++ piece)) + length line) (room_of f) (omega (arith, ends-length f piece line end ends, fits.rooms)))
    ∙ ap (λ (xs : List ℕ). by_announced (room_of f) xs (drop (end + 1) piece) (if lits then announced line else None)) (part-is f piece line end ends)

-- A line that ends past the room makes the command too long.
pub ends-excess : (lits : Bool) (f : Framing) (piece line : List ℕ) (end used : ℕ) → Fits f → Ends f piece line end → used ≡ most_octets - (length f.held + length f.part) + 1
    → used ≤ end + 1 → EndsExcess lits f piece used
ends-excess lits f piece line end used fits ends is l =
    let high : end < length piece = ends.high in
    record {
      within = omega (arith, high);
      some = omega arith;
      excess =
          ap (by_line lits (room_of f) (take f.owed (f.part ++ piece)) (f.part ++ piece)) ends.found
          ∙ ap (λ (t : Bool). if t then by_announced (room_of f) (take f.owed (f.part ++ piece) ++ (line ++ 10 ∷ [])) (drop (end + 1) piece) (if lits then announced line else None) else ExcessPart (drop (room_of f + 1) (f.part ++ piece)))
          (le-ltb (length (take f.owed (f.part ++ piece)) + length line) (room_of f) (omega (arith, ends-length f piece line end ends, fits.rooms)))
          ∙ ap ExcessPart (past f piece used fits.rooms is);
    }

-- A part whose line ends within the room, by what the line announces.
pub next-at : (lits : Bool) (f : Framing) (piece : List ℕ) (used left : ℕ) (a : Option ℕ) → Fits f → 0 < used → used ≤ length piece → length f.held + length f.part + used + left ≡ most_octets
    → front_of lits (with_octets f piece) ≡ by_announced (room_of f) (f.part ++ take used piece) (drop used piece) a → IsNextPart lits f piece (part_kind left used a)
next-at lits f piece used left None fits some within is e = record { within = within; some = some; last = e }
next-at lits f piece used left (Some n) fits some within is e = by (leb n left) refl
  where
    part : List ℕ
    part = f.part ++ take used piece

    size : length (f.part ++ take used piece) ≡ length f.part + used
    size = omega (arith, length-append f.part (take used piece), length-take-le used piece within)

    by : (t : Bool) → leb n left ≡ t → IsNextPart lits f piece (if t then next.Literal used n else next.TooLong used)
    by true t =
        let l : n ≤ left = leb-true n left t in
        record {
          within = within;
          some = some;
          announces = e ∙ ap (λ (t : Bool). if t then LiteralPart (f.part ++ take used piece) n (drop used piece) else ExcessPart (drop used piece)) (le-leb (length (f.part ++ take used piece) + n) (room_of f) (omega (arith, size, l, is)));
          fits = omega (arith, l, is);
        }
    by false t =
        let l : left < n = leb-false n left t in
        record {
          within = within;
          some = some;
          excess = e ∙ ap (λ (t : Bool). if t then LiteralPart (f.part ++ take used piece) n (drop used piece) else ExcessPart (drop used piece)) (lt-leb (length (f.part ++ take used piece) + n) (room_of f) (omega (arith, size, l, is)));
        }

-- What a number read up to a cap says.
pub kind-last : (left used cap : ℕ) (a : Option ℕ) → None ≡ capped cap a → part_kind left used a ≡ next.Last used
kind-last left used cap None e = refl
kind-last left used cap (Some n) e = absurd (cc)

some_is : (n m : ℕ) → Some n ≡ Some m → n ≡ m
some_is n m e = cc

pub kind-literal : (left used cap n : ℕ) (a : Option ℕ) → left < cap → n ≤ left → Some n ≡ capped cap a → part_kind left used a ≡ next.Literal used n
kind-literal left used cap n None c l e = absurd (cc)
kind-literal left used cap n (Some m) c l e =
    let is : n ≡ min m cap = some_is n (min m cap) e in
    let same : m ≡ n = omega (arith, is, c, l) in
    ap (λ (t : Bool). if t then next.Literal used m else next.TooLong used) (le-leb m left (omega (arith, same, l))) ∙ ap (next.Literal used) same

pub kind-long : (left used cap n : ℕ) (a : Option ℕ) → left < n → Some n ≡ capped cap a → part_kind left used a ≡ next.TooLong used
kind-long left used cap n None l e = absurd (cc)
kind-long left used cap n (Some m) l e =
    let is : n ≡ min m cap = some_is n (min m cap) e in
    ap (λ (t : Bool). if t then next.Literal used m else next.TooLong used) (lt-leb m left (omega (arith, is, l)))

-- How a piece goes on after the octets `xs`, of which the first `h` are ended parts and the last of these announced `o` octets.
module _ (h o : ℕ) (xs piece : List ℕ) (within : h ≤ length xs) (fits : Fits (framing_of h o xs)) where
  held-size : length (take h xs) + length (drop h xs) ≡ length xs
  held-size = omega (arith, length-take-le h xs within, length-drop h xs, within)

  skip-is : (skip : ℕ) → skip ≡ h + o - length xs → skip ≡ o - length (drop h xs)
  skip-is skip e = omega (arith, length-drop h xs, within, e)

  pub piece-open : (skip : ℕ) → skip ≡ h + o - length xs → first_line (drop skip piece) ≡ None → length piece ≤ most_octets - length xs → IsOpen (with_octets (framing_of h o xs) piece)
  piece-open skip is none l =
      more-open (framing_of h o xs) piece fits (ap (λ (n : ℕ). first_line (drop n piece)) (sym (skip-is skip is)) ∙ none)
      (omega (arith, held-size, l))

  pub piece-long : (lits : Bool) (skip used : ℕ) → skip ≡ h + o - length xs → first_line (drop skip piece) ≡ None → used ≡ most_octets - length xs + 1 → used ≤ length piece
      → EndsExcess lits (framing_of h o xs) piece used
  piece-long lits skip used is none u l =
      more-excess lits (framing_of h o xs) piece used fits (ap (λ (n : ℕ). first_line (drop n piece)) (sym (skip-is skip is)) ∙ none)
      (omega (arith, held-size, u)) l

  pub line-long : (lits : Bool) (skip end used : ℕ) → skip ≡ h + o - length xs → IsLineEnd skip piece (Some end) → used ≡ most_octets - length xs + 1 → used ≤ end + 1
      → EndsExcess lits (framing_of h o xs) piece used
  line-long lits skip end used is e u l =
      ends-excess lits (framing_of h o xs) piece (drop o (drop h xs) ++ take (end - skip) (drop skip piece)) end used fits
      (ends-from (framing_of h o xs) piece skip end fits (skip-is skip is) e.1 e.2) (omega (arith, held-size, u)) l

  pub line-next : (lits : Bool) (skip end room : ℕ) (front behind back : List ℕ) (found : NextPart) → skip ≡ h + o - length xs → IsLineEnd skip piece (Some end) → room ≡ most_octets - length xs → end < room
      → front ≡ drop (min (length xs) (h + o)) xs → behind ≡ drop skip piece → back ≡ take (end - skip) behind
      → found ≡ part_kind (room - (end + 1)) (end + 1) (if lits then announced (front ++ back) else None)
      → IsNextPart lits (framing_of h o xs) piece found
  line-next lits skip end room front behind back found is e r l f b k found_is =
      let line : List ℕ = drop o (drop h xs) ++ take (end - skip) (drop skip piece) in
      let high : end < length piece = e.1 in
      let joined : front ++ back ≡ drop o (drop h xs) ++ take (end - skip) (drop skip piece) =
      λ i. (f ∙ drop-least (h + o) xs ∙ sym (drop-drop o h xs)) i ++ (k ∙ ap (take (end - skip)) b) i in
      subst (IsNextPart lits (framing_of h o xs) piece) (sym (found_is ∙ ap (λ (ys : List ℕ). part_kind (room - (end + 1)) (end + 1) (if lits then announced ys else None)) joined))
      (next-at lits (framing_of h o xs) piece (end + 1) (room - (end + 1)) (if lits then announced line else None) fits (omega arith) (omega (arith, high)) (omega (arith, held-size, r, l, fits.rooms))
      (ends-front lits (framing_of h o xs) piece line end fits (ends-from (framing_of h o xs) piece skip end fits (skip-is skip is) e.1 e.2) (omega (arith, held-size, r, l))))

-- The end of a line, found behind octets that are skipped.
pub line-end-some : (skip start end : ℕ) (piece behind : List ℕ) → start ≡ min (length piece) skip → behind ≡ drop start piece → end < length behind
    → first_line behind ≡ Some (take end behind, drop (suc end) behind) → IsLineEnd skip piece (Some (start + end))
line-end-some skip start end piece behind is b l e =
    let size : length behind ≡ length piece - start = ap length b ∙ length-drop start piece in
    let same : start ≡ skip = omega (arith, is, l, size) in
    let whole : behind ≡ drop skip piece = b ∙ ap (λ (n : ℕ). drop n piece) same in
    let count : end ≡ start + end - skip = omega (arith, same) in
    let add : start + suc end ≡ start + end + 1 = omega arith in
    let past : drop (suc end) behind ≡ drop (start + end + 1) piece = ap (drop (suc end)) b ∙ drop-drop (suc end) start piece ∙ ap (λ (n : ℕ). drop n piece) add in
    (omega (arith, same), omega (arith, l, size), ap first_line (sym whole) ∙ e ∙ (λ i. Some (take (count i) (whole i), past i)))

pub line-end-none : (skip start : ℕ) (piece behind : List ℕ) → start ≡ min (length piece) skip → behind ≡ drop start piece → first_line behind ≡ None → IsLineEnd skip piece None
line-end-none skip start piece behind is b e =
    ap first_line (sym (b ∙ ap (λ (n : ℕ). drop n piece) is ∙ drop-least skip piece)) ∙ e

-- What is held after a part that announces octets.
pub held-begun : (h o owed : ℕ) (xs octets ys slice : List ℕ) → ys ≡ xs ++ octets → slice ≡ ys → framing_of (length slice) owed ys ≡ holding (framing_of h o xs) octets owed
held-begun h o owed xs octets ys slice e s =
    let all : take (length slice) ys ≡ take h xs ++ (drop h xs ++ octets) =
    ap (λ (zs : List ℕ). take (length zs) ys) s ∙ take-length ys ∙ e ∙ ap (λ (zs : List ℕ). zs ++ octets) (sym (take-append-drop h xs)) ∙ append_assoc (take h xs) (drop h xs) octets in
    let none : drop (length slice) ys ≡ [] = ap (λ (zs : List ℕ). drop (length zs) ys) s ∙ drop-length ys in
    λ i. record { held = all i; owed = owed; part = none i }

-- What the invariant of the framer says.
abbrev pub IsSound : ℕ → ℕ → List ℕ → Type 0
IsSound h o xs = (h ≤ length xs) × (h + o ≤ most_octets) × (length xs ≤ most_octets) × (first_line (drop (h + o) xs) ≡ None)

-- It stays so with octets that end no part.
pub kept-sound : (t : Bool) (h o : ℕ) (xs octets ys : List ℕ) (f : Framing) → framing_of h o xs ≡ f → IsSound h o xs → IsOpen (with_octets f octets) → ys ≡ (if t then xs ++ octets else xs) → IsSound h o ys
kept-sound true h o xs octets ys f is sound opens e =
    let within : h ≤ length xs = sound.0 in
    let small : length xs ≤ most_octets = sound.2 in
    let held : IsOpen (with_octets (framing_of h o xs) octets) = subst (λ (g : Framing). IsOpen (with_octets g octets)) (sym is) opens in
    let parts = open_is false (room_of (framing_of h o xs)) o (drop h xs ++ octets) (held false) in
    let room = parts.1 in
    subst (IsSound h o) (sym e) (
      omega (arith, within, length-append xs octets),
      sound.1,
      omega (arith, room, within, small, length-append xs octets, length-append (drop h xs) octets, length-drop h xs, length-take-le h xs within),
      ap first_line (sym (drop-drop o h (xs ++ octets)) ∙ ap (drop o) (drop-append-le h xs octets within)) ∙ parts.0,
    )
kept-sound false h o xs octets ys f is sound opens e = subst (IsSound h o) (sym e) sound
