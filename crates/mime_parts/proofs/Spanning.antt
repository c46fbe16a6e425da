-- The spans of headers, bodies and parts.
use Rattle.std.proofs.Common.{◌≡◌, ℕ, ◌+◌, ◌-◌, ◌≤◌, Bool, true, false, cond, leb, max, List, [], ◌∷◌, length, drop, refl, ap, ◌∙◌, subst, arith, length-append, length-drop, lit≤}
use Rattle.std.specs.List.{concat}
use Rattle.std.proofs.lemmas.List.{length-take-le}
use Rattle.std.proofs.lemmas.Bool.{leb-true}
use Rattle.mail_reader.specs.Lines.{lines_of, after_header, after_empty, is_empty_line}
use Rattle.mail_reader.specs.Fields.{fields_of}
use Rattle.mail_reader.specs.Bodies.{body_of}
use Rattle.mail_reader.specs.Laws.{wholes}
use Rattle.mail_reader.proofs.FormLaws.{fields_front}
use Rattle.mail_reader.proofs.LineEnds.{concat-lines_of}
use Rattle.mime_parts.specs.declared.part.Span.{Span}
use Rattle.mime_parts.specs.declared.part.Shape.{Shape}
use Rattle.mime_parts.specs.declared.part.Shape.TheVariants.{Leaf, Message, Multipart}
use Rattle.mime_parts.specs.declared.delimiters.LineKind.{LineKind}
use Rattle.mime_parts.specs.declared.delimiters.LineKind.TheVariants.{Plain, Delimiter, Closing}
use Rattle.mime_parts.specs.Delimiters.{kind_of, Cuts, cuts_by, cuts_from}
use Rattle.mime_parts.specs.Dividing.{at_most}
use Rattle.mime_parts.specs.Trees.{IsIn, bytes_at, header_span, body_span, direct_parts}

-- Lines without an empty one at their front aren't longer.
after_empty-len : (lines : List (List ℕ)) → length (concat (after_empty lines)) ≤ length (concat lines)
after_empty-len [] = lit≤ tt
after_empty-len (l ∷ ls) = step (is_empty_line l)
  where
    step : (t : Bool) → length (concat (cond t ls (l ∷ ls))) ≤ length (concat (l ∷ ls))
    step true = omega (arith, length-append l (concat ls))
    step false = omega arith

-- The header and the body of an entity aren't longer than the entity.
pub parts_len : (bytes : List ℕ) → length (wholes (fields_of bytes)) + length (body_of bytes) ≤ length bytes
unfolding body_of
parts_len bytes =
    let front = fields_front bytes in
    let whole : length bytes ≡ length (wholes (fields_of bytes)) + length (concat (after_header (lines_of bytes))) =
    ap length front ∙ length-append (wholes (fields_of bytes)) (concat (after_header (lines_of bytes))) in
    let less = after_empty-len (after_header (lines_of bytes)) in
    omega arith

-- A span has as many bytes as it says.
pub length-bytes_at : (text : List ℕ) (s : Span) → IsIn text s → length (bytes_at text s) ≡ s.end - s.start
length-bytes_at text s i =
    length-take-le (s.end - s.start) (drop s.start text) (omega (arith, i.ordered, i.within, length-drop s.start text))

pub header-in : (text : List ℕ) (s : Span) → IsIn text s → IsIn text (header_span text s)
header-in text s i =
    let len = length-bytes_at text s i in
    let less = parts_len (bytes_at text s) in
    record { ordered = omega arith; within = omega (arith, i.ordered, i.within) }

pub body-in : (text : List ℕ) (s : Span) → IsIn text s → IsIn text (body_span text s)
body-in text s i = record { ordered = omega arith; within = i.within }

-- Spans in order, between two offsets.
abbrev pub InOrder : ℕ → ℕ → List Span → Type 0
InOrder low high [] = low ≤ high
InOrder low high (s ∷ ss) = (low ≤ s.start) × ((s.start ≤ s.end) × InOrder s.end high ss)

-- The cuts of lines that end at an offset: they stop before it, and the parts are after the stop.
pub record CutsFit (at total : ℕ) (c : Cuts) : Type 0 where
  pub ordered : at ≤ total
  pub stop : c.stop ≤ total
  pub parts : (low : ℕ) → low ≤ max at c.stop → InOrder low total c.parts

cuts_step : (k : LineKind) (at next total : ℕ) (c : Cuts) → at ≤ next → CutsFit next total c → CutsFit at total (cuts_by k at next c)
cuts_step Plain at next total c h f = record {
  ordered = omega (arith, f.ordered);
  stop = f.stop;
  parts = λ low l. f.parts low (omega arith);
}
cuts_step Delimiter at next total c h f =
    let ordered = f.ordered in
    record {
      ordered = omega arith;
      stop = omega arith;
      parts = λ low l. (omega arith, (omega arith, f.parts (max next c.stop) (omega arith)));
    }
cuts_step Closing at next total c h f =
    let ordered = f.ordered in
    record { ordered = omega arith; stop = omega arith; parts = λ low l. omega arith }

pub cuts_fit : (boundary : List ℕ) (at : ℕ) (lines : List (List ℕ)) → CutsFit at (at + length (concat lines)) (cuts_from boundary at lines)
cuts_fit boundary at [] = record { ordered = omega arith; stop = omega arith; parts = λ low l. omega arith }
cuts_fit boundary at (line ∷ lines) =
    let next = at + length line in
    let total : next + length (concat lines) ≡ at + length (concat (line ∷ lines)) = omega (arith, length-append line (concat lines)) in
    let later : CutsFit next (at + length (concat (line ∷ lines))) (cuts_from boundary next lines) =
    subst (λ (n : ℕ). CutsFit next n (cuts_from boundary next lines)) total (cuts_fit boundary next lines) in
    cuts_step (kind_of boundary line) at next _ (cuts_from boundary next lines) (omega arith) later

-- Each span is in the text.
abbrev pub AllIn : List ℕ → List Span → Type 0
AllIn text [] = Unit {0}
AllIn text (s ∷ ss) = IsIn text s × AllIn text ss

pub order_le : (low high : ℕ) (ss : List Span) → InOrder low high ss → low ≤ high
order_le low high [] o = o
order_le low high (s ∷ ss) o = let rest = order_le s.end high ss o.1.1 in omega (arith, o.0, o.1.0)

order_in : (text : List ℕ) (low high : ℕ) (ss : List Span) → high ≤ length text → InOrder low high ss → AllIn text ss
order_in text low high [] h o = tt
order_in text low high (s ∷ ss) h o =
    let rest = order_le s.end high ss o.1.1 in
    (record { ordered = o.1.0; within = omega arith }, order_in text s.end high ss h o.1.1)

-- The parts of a body are in order in it.
pub cuts_order : (boundary text : List ℕ) (body : Span) → IsIn text body
    → InOrder body.start body.end (cuts_from boundary body.start (lines_of (bytes_at text body))).parts
cuts_order boundary text body i =
    let lines = lines_of (bytes_at text body) in
    let fit = cuts_fit boundary body.start lines in
    let all : length (concat lines) ≡ body.end - body.start = ap length (concat-lines_of (bytes_at text body)) ∙ length-bytes_at text body i in
    let total : body.start + length (concat lines) ≡ body.end = omega (arith, i.ordered) in
    subst (λ (n : ℕ). InOrder body.start n (cuts_from boundary body.start lines).parts) total (fit.parts body.start (omega arith))

cuts_in : (boundary text : List ℕ) (body : Span) → IsIn text body → AllIn text (cuts_from boundary body.start (lines_of (bytes_at text body))).parts
cuts_in boundary text body i = order_in text body.start body.end _ i.within (cuts_order boundary text body i)

if_in : (t : Bool) (text : List ℕ) (ss : List Span) → AllIn text ss → AllIn text (cond t ss [])
if_in true text ss a = a
if_in false text ss a = tt

-- The direct parts of an entity are in the text.
pub direct_in : (shape : Shape) (params : List (List ℕ)) (text : List ℕ) (body : Span) → IsIn text body → AllIn text (direct_parts shape params text body)
direct_in Leaf params text body i = tt
direct_in Message params text body i = (i, tt)
direct_in Multipart params text body i = if_in _ text _ (cuts_in _ text body i)

pub at_most_in : (room : ℕ) (text : List ℕ) (ss : List Span) → AllIn text ss → AllIn text (at_most room ss)
at_most_in room text ss a = if_in (leb (length ss) room) text ss a

pub at_most_len : (room : ℕ) (ss : List Span) → length (at_most room ss) ≤ room
at_most_len room ss = step (leb (length ss) room) refl
  where
    step : (t : Bool) → leb (length ss) room ≡ t → length (cond t ss []) ≤ room
    step true e = leb-true (length ss) room e
    step false e = omega arith
