-- More octets leave a part that has ended what it is, and the rest after it is shorter.
use Rattle.std.proofs.Common.{◌≡◌, ◌≤◌, ◌<◌, ◌+◌, ◌-◌, ℕ, zero, suc, min, List, [], ◌∷◌, ◌++◌, length, take, drop, ltb, leb, Option, Some, None, Bool, true, false, refl, sym, ap, subst, ◌∙◌, arith, length-append, append_assoc, leb-true, leb-false, lt-ltb, le-ltb, ltb-true, ltb-false, length-drop}
use Rattle.std.specs.Prelude.{if◌then◌else◌}
use Rattle.std.proofs.lemmas.Bool.{lt-leb}
use Rattle.std.proofs.lemmas.List.{take-append-le, drop-append-le, take-append-drop, length-take}
use Rattle.line_door.specs.Lines.{first_line}
use Rattle.line_door.proofs.Fronts.{first_line-joined, first_line-goes_on, first_line-append, first_line-append_none}
use Rattle.imap_framer.specs.Framing.{announced, PartFront, LastPart, LiteralPart, ExcessPart, OpenPart, by_announced, by_line, part_front}
use Rattle.imap_framer.specs.Doors.{is_answered}
use Rattle.imap_framer.proofs.Fronting.{drop_join}

-- A front with more octets after it.
abbrev pub front_more : List ℕ → PartFront → PartFront
front_more q (LastPart part rest) = LastPart part (rest ++ q)
front_more q (LiteralPart part n rest) = LiteralPart part n (rest ++ q)
front_more q (ExcessPart rest) = ExcessPart (rest ++ q)
front_more q OpenPart = OpenPart

pub more-answered : (q : List ℕ) (f : PartFront) → is_answered (front_more q f) ≡ is_answered f
more-answered q (LastPart part rest) = refl
more-answered q (LiteralPart part n rest) = refl
more-answered q (ExcessPart rest) = refl
more-answered q OpenPart = refl

announced-more : (q : List ℕ) (room : ℕ) (part rest : List ℕ) (a : Option ℕ) → by_announced room part (rest ++ q) a ≡ front_more q (by_announced room part rest a)
announced-more q room part rest None = refl
announced-more q room part rest (Some n) = by (leb (length part + n) room)
  where
    by : (t : Bool) → (if t then LiteralPart part n (rest ++ q) else ExcessPart (rest ++ q)) ≡ front_more q (if t then LiteralPart part n rest else ExcessPart rest)
    by true = refl
    by false = refl

-- A line that has ended lies in the octets.
line-size : (owed : ℕ) (xs : List ℕ) (p : List ℕ × List ℕ) → first_line (drop owed xs) ≡ Some p → length (take owed xs) + length p.0 + suc (length p.1) ≡ length xs
line-size owed xs p e =
    let all = ap length (sym (take-append-drop owed xs)) in
    let line = ap length (first_line-joined (drop owed xs) p e) in
    omega (arith, all, line, length-append (take owed xs) (drop owed xs), length-append p.0 (10 ∷ p.1))

line-within : (owed : ℕ) (xs : List ℕ) (p : List ℕ × List ℕ) → first_line (drop owed xs) ≡ Some p → owed ≤ length xs
line-within owed xs p e =
    let line = ap length (first_line-joined (drop owed xs) p e) in
    omega (arith, line, length-append p.0 (10 ∷ p.1), length-drop owed xs)

-- The front of more octets, where a line ended.
line-goes_on : (lits : Bool) (room owed : ℕ) (xs q : List ℕ) (p : List ℕ × List ℕ) → first_line (drop owed xs) ≡ Some p
    → part_front lits room owed (xs ++ q) ≡ front_more q (by_line lits room (take owed xs) xs (Some p))
line-goes_on lits room owed xs q p e =
    let within = line-within owed xs p e in
    ap (by_line lits room (take owed (xs ++ q)) (xs ++ q)) (ap first_line (drop-append-le owed xs q within) ∙ first_line-goes_on (drop owed xs) q p e)
    ∙ ap (λ (literal : List ℕ). by_line lits room literal (xs ++ q) (Some (p.0, p.1 ++ q))) (take-append-le owed xs q within)
    ∙ by (ltb (length (take owed xs) + length p.0) room) refl
  where
    part : List ℕ
    part = take owed xs ++ (p.0 ++ 10 ∷ [])

    a : Option ℕ
    a = if lits then announced p.0 else None

    by : (t : Bool) → ltb (length (take owed xs) + length p.0) room ≡ t
        → (if t then by_announced room (take owed xs ++ (p.0 ++ 10 ∷ [])) (p.1 ++ q) (if lits then announced p.0 else None) else ExcessPart (drop (room + 1) (xs ++ q)))
        ≡ front_more q (if t then by_announced room (take owed xs ++ (p.0 ++ 10 ∷ [])) p.1 (if lits then announced p.0 else None) else ExcessPart (drop (room + 1) xs))
    by true t = announced-more q room (take owed xs ++ (p.0 ++ 10 ∷ [])) p.1 (if lits then announced p.0 else None)
    by false t =
        let long : room ≤ length (take owed xs) + length p.0 = ltb-false (length (take owed xs) + length p.0) room t in
        ap ExcessPart (drop-append-le (room + 1) xs q (omega (arith, long, line-size owed xs p e)))

-- The same where none ended, and the octets were too many.
long-at : (lits : Bool) (room owed : ℕ) (xs q : List ℕ) (o : Option (List ℕ × List ℕ)) → first_line (drop owed xs) ≡ None → first_line (drop (owed - length xs) q) ≡ o
    → room < length xs → part_front lits room owed (xs ++ q) ≡ ExcessPart (drop (room + 1) (xs ++ q))
long-at lits room owed xs q None e f l =
    ap (by_line lits room (take owed (xs ++ q)) (xs ++ q)) (ap first_line (drop_join owed xs q) ∙ first_line-append_none (drop owed xs) (drop (owed - length xs) q) e f)
    ∙ ap (λ (t : Bool). if t then OpenPart else ExcessPart (drop (room + 1) (xs ++ q))) (lt-leb (length (xs ++ q)) room (omega (arith, l, length-append xs q)))
long-at lits room owed xs q (Some p) e f l =
    ap (by_line lits room (take owed (xs ++ q)) (xs ++ q)) (ap first_line (drop_join owed xs q) ∙ first_line-append (drop owed xs) (drop (owed - length xs) q) p e f)
    ∙ ap (λ (t : Bool). if t then by_announced room (take owed (xs ++ q) ++ ((drop owed xs ++ p.0) ++ 10 ∷ [])) p.1 (if lits then announced (drop owed xs ++ p.0) else None) else ExcessPart (drop (room + 1) (xs ++ q)))
    (le-ltb (length (take owed (xs ++ q)) + length (drop owed xs ++ p.0)) room (omega (arith, l, length-take owed (xs ++ q), length-append xs q, length-append (drop owed xs) p.0, length-drop owed xs)))

open-if : (t : Bool) (rest : List ℕ) → is_answered (if t then OpenPart else ExcessPart rest) ≡ true → t ≡ false
open-if true rest e = absurd (cc)
open-if false rest e = refl

-- More octets leave a part that has ended, or that is too long, what it is.
pub front_goes_on : (lits : Bool) (room owed : ℕ) (xs q : List ℕ) → is_answered (part_front lits room owed xs) ≡ true
    → part_front lits room owed (xs ++ q) ≡ front_more q (part_front lits room owed xs)
front_goes_on lits room owed xs q is = by (first_line (drop owed xs)) refl is
  where
    by : (o : Option (List ℕ × List ℕ)) → first_line (drop owed xs) ≡ o → is_answered (by_line lits room (take owed xs) xs o) ≡ true
        → part_front lits room owed (xs ++ q) ≡ front_more q (by_line lits room (take owed xs) xs o)
    by (Some p) e is = line-goes_on lits room owed xs q p e
    by None e is =
        let long : leb (length xs) room ≡ false = open-if (leb (length xs) room) (drop (room + 1) xs) is in
        let l : room < length xs = leb-false (length xs) room long in
        long-at lits room owed xs q (first_line (drop (owed - length xs) q)) e refl l
        ∙ ap ExcessPart (drop-append-le (room + 1) xs q (omega (arith, l)))
        ∙ sym (ap (λ (t : Bool). front_more q (if t then OpenPart else ExcessPart (drop (room + 1) xs))) long)

-- The octets after a front.
abbrev pub rest_of : PartFront → List ℕ
rest_of (LastPart part rest) = rest
rest_of (LiteralPart part n rest) = rest
rest_of (ExcessPart rest) = rest
rest_of OpenPart = []

announced-rest : (room : ℕ) (part rest : List ℕ) (a : Option ℕ) → rest_of (by_announced room part rest a) ≡ rest
announced-rest room part rest None = refl
announced-rest room part rest (Some n) = by (leb (length part + n) room)
  where
    by : (t : Bool) → rest_of (if t then LiteralPart part n rest else ExcessPart rest) ≡ rest
    by true = refl
    by false = refl

-- The octets after a part that has ended are fewer.
pub front_shorter : (lits : Bool) (room owed : ℕ) (xs : List ℕ) → is_answered (part_front lits room owed xs) ≡ true → length (rest_of (part_front lits room owed xs)) < length xs
front_shorter lits room owed xs is = by (first_line (drop owed xs)) refl is
  where
    line : (p : List ℕ × List ℕ) (t : Bool) → first_line (drop owed xs) ≡ Some p
        → length (rest_of (if t then by_announced room (take owed xs ++ (p.0 ++ 10 ∷ [])) p.1 (if lits then announced p.0 else None) else ExcessPart (drop (room + 1) xs))) < length xs
    line p true e =
        let rest : rest_of (by_announced room (take owed xs ++ (p.0 ++ 10 ∷ [])) p.1 (if lits then announced p.0 else None)) ≡ p.1 = announced-rest room (take owed xs ++ (p.0 ++ 10 ∷ [])) p.1 (if lits then announced p.0 else None) in
        subst (λ (ys : List ℕ). length ys < length xs) (sym rest) (omega (arith, line-size owed xs p e))
    line p false e = omega (arith, line-size owed xs p e, length-drop (room + 1) xs)

    by : (o : Option (List ℕ × List ℕ)) → first_line (drop owed xs) ≡ o → is_answered (by_line lits room (take owed xs) xs o) ≡ true → length (rest_of (by_line lits room (take owed xs) xs o)) < length xs
    by (Some p) e is = line p (ltb (length (take owed xs) + length p.0) room) e
    by None e is =
        let long : leb (length xs) room ≡ false = open-if (leb (length xs) room) (drop (room + 1) xs) is in
        let l : room < length xs = leb-false (length xs) room long in
        subst (λ (t : Bool). length (rest_of (if t then OpenPart else ExcessPart (drop (room + 1) xs))) < length xs) (sym long) (omega (arith, l, length-drop (room + 1) xs))
