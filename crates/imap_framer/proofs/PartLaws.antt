-- The law of the part at the front.
use Rattle.std.proofs.Common.{◌≡◌, ◌≤◌, ◌<◌, ◌+◌, ◌-◌, ℕ, List, [], ◌∷◌, ◌++◌, length, take, drop, ltb, Option, Some, None, Bool, true, false, refl, sym, ap, ◌∙◌, append_assoc, lt-ltb}
use Rattle.std.specs.Prelude.{if◌then◌else◌}
use Rattle.std.proofs.lemmas.List.{append-nil}
use Rattle.std.proofs.Math.Seq.{take-append_seam, drop-append_seam}
use Rattle.line_door.specs.Lines.{first_line}
use Rattle.line_door.specs.LineLaws.{NoFeed}
use Rattle.line_door.proofs.Fronts.{first_line-none, first_line-append}
use Rattle.imap_framer.specs.Framing.{announced, PartFront, LastPart, LiteralPart, ExcessPart, by_announced, by_line, part_front}
use Rattle.imap_framer.specs.Doors.{is_answered}
use Rattle.imap_framer.specs.FrontLaws.{PartLaw}
use Rattle.imap_framer.proofs.Fronting.{open_is, open_from}
use Rattle.imap_framer.proofs.Goings.{front_more, front_goes_on}
use Rattle.imap_framer.proofs.Announcing.{announces-is, announces-from}

line-found : (line rest : List ℕ) → NoFeed line → first_line (line ++ 10 ∷ rest) ≡ Some (line, rest)
line-found line rest none =
    first_line-append line (10 ∷ rest) ([], rest) (first_line-none line none) refl ∙ ap (λ (xs : List ℕ). Some (xs, rest)) (append-nil line)

whole : (lits : Bool) (room : ℕ) (literal line rest : List ℕ) → NoFeed line → length literal + length line < room → part_front lits room (length literal) (literal ++ (line ++ 10 ∷ rest))
    ≡ by_announced room (literal ++ (line ++ 10 ∷ [])) rest (if lits then announced line else None)
whole lits room literal line rest none l =
    ap (by_line lits room (take (length literal) (literal ++ (line ++ 10 ∷ rest))) (literal ++ (line ++ 10 ∷ rest))) (ap first_line (drop-append_seam literal (line ++ 10 ∷ rest)) ∙ line-found line rest none)
    ∙ ap (λ (xs : List ℕ). by_line lits room xs (literal ++ (line ++ 10 ∷ rest)) (Some (line, rest))) (take-append_seam literal (line ++ 10 ∷ rest))
    ∙ ap (λ (t : Bool). if t then by_announced room (literal ++ (line ++ 10 ∷ [])) rest (if lits then announced line else None) else ExcessPart (drop (room + 1) (literal ++ (line ++ 10 ∷ rest))))
    (lt-ltb (length literal + length line) room l)

goes_on : (lits : Bool) (room owed : ℕ) (octets more : List ℕ) (f : PartFront) → is_answered f ≡ true → part_front lits room owed octets ≡ f → part_front lits room owed (octets ++ more) ≡ front_more more f
goes_on lits room owed octets more f is e = front_goes_on lits room owed octets more (ap is_answered e ∙ is) ∙ ap (front_more more) e

pub part_law : PartLaw
part_law = record {
  announces = λ line n. (λ e. announces-is line n e, λ is. announces-from line n is);
  open_part = λ lits room owed octets. (λ e. open_is lits room owed octets e, λ is. open_from lits room owed octets is.0 is.1);
  whole = λ lits room literal line rest none l. whole lits room literal line rest none l;
  last_goes_on = λ lits room owed octets more part rest e. goes_on lits room owed octets more (LastPart part rest) refl e;
  literal_goes_on = λ lits room owed n octets more part rest e. goes_on lits room owed octets more (LiteralPart part n rest) refl e;
  excess_goes_on = λ lits room owed octets more rest e. goes_on lits room owed octets more (ExcessPart rest) refl e;
}
