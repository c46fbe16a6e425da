-- Pieces of texts.
use Rattle.std.proofs.Common.{◌≡◌, ℕ, ◌+◌, Bool, true, false, ◌||◌, eqb, List, [], ◌∷◌, ◌++◌, length, take, drop, Option, Some, None, refl, sym, ap, ◌∙◌, arith, length-append}
use Rattle.std.specs.Prelude.{is_some}
use Rattle.std.proofs.lemmas.Bool.{and_parts, eqb-true, eq-eqb}
use Rattle.std.proofs.lemmas.List.{take-append-drop}
use Rattle.std.proofs.Math.Seq.{take-append_seam, drop-append_seam}
use Rattle.memchr.specs.Find.{OccursAt, FindsNeedle}
use Rattle.memchr.proofs.lemmas.MatchLemmas.{OccursAt-split, OccursAt-from_part}
use Rattle.mail_reader.specs.Laws.{IsPieceOf}
use Rattle.imap_items.specs.Searching.{starts, has_piece}
use Rattle.imap_items.specs.Laws.{PiecesAreFound}

starts-front : (piece text : List ℕ) → starts piece text ≡ true → text ≡ piece ++ drop (length piece) text
starts-front [] text h = refl
starts-front (b ∷ bs) [] h = absurd (let z = h in cc)
starts-front (b ∷ bs) (c ∷ cs) h =
    let parts = and_parts (eqb b c) (starts bs cs) h in
    let same : c ≡ b = sym (eqb-true b c parts.0) in
    rw same (ap (λ t. b ∷ t) (starts-front bs cs parts.1))

starts-self : (piece after : List ℕ) → starts piece (piece ++ after) ≡ true
starts-self [] after = refl
starts-self (b ∷ bs) after = rw (eq-eqb b b refl) (starts-self bs after)

has-start : (piece text : List ℕ) → starts piece text ≡ true → has_piece piece text ≡ true
has-start piece [] h = h
has-start piece (c ∷ cs) h = rw h refl

or_true : (a : Bool) → (a || true) ≡ true
or_true true = refl
or_true false = refl

has-later : (piece : List ℕ) (c : ℕ) (cs : List ℕ) → has_piece piece cs ≡ true → has_piece piece (c ∷ cs) ≡ true
has-later piece c cs h = rw h (or_true (starts piece (c ∷ cs)))

pub has-lies : (piece before after : List ℕ) → has_piece piece (before ++ (piece ++ after)) ≡ true
has-lies piece [] after = has-start piece (piece ++ after) (starts-self piece after)
has-lies piece (c ∷ before) after = has-later piece c (before ++ (piece ++ after)) (has-lies piece before after)

front_lies : (piece text : List ℕ) → starts piece text ≡ true → IsPieceOf piece text
front_lies piece text h = record { before = []; after = drop (length piece) text; is = starts-front piece text h }

later_lies : (piece : List ℕ) (c : ℕ) (cs : List ℕ) → IsPieceOf piece cs → IsPieceOf piece (c ∷ cs)
later_lies piece c cs l = record { before = c ∷ l.before; after = l.after; is = ap (λ t. c ∷ t) l.is }

pub lies-has : (piece text : List ℕ) → has_piece piece text ≡ true → IsPieceOf piece text
lies-has piece [] h = front_lies piece [] h
lies-has piece (c ∷ cs) h = by (starts piece (c ∷ cs)) refl (lies-has piece cs)
  where
    by : (t : Bool) → starts piece (c ∷ cs) ≡ t → (has_piece piece cs ≡ true → IsPieceOf piece cs) → IsPieceOf piece (c ∷ cs)
    by true e f = front_lies piece (c ∷ cs) e
    by false e f =
        let no_start : (starts piece (c ∷ cs) || has_piece piece cs) ≡ has_piece piece cs = rw e refl in
        later_lies piece c cs (f (sym no_start ∙ h))

pub pieces-found : PiecesAreFound
pieces-found piece text = (lies-has piece text, λ l. ap (has_piece piece) l.is ∙ has-lies piece l.before l.after)

-- What a search finds.
occurs-has : (piece text : List ℕ) (k : ℕ) → OccursAt text piece k → has_piece piece text ≡ true
occurs-has piece text k o =
    let split : text ≡ take k text ++ (piece ++ drop (k + length piece) text) = sym (take-append-drop k text) ∙ ap (λ t. take k text ++ t) (OccursAt-split text piece k o) in
    ap (has_piece piece) split ∙ has-lies piece (take k text) (drop (k + length piece) text)

none_has : (piece text : List ℕ) → FindsNeedle text piece 0 None → has_piece piece text ≡ true → ⊥
none_has piece text none has = let l = lies-has piece text has in at l
  where
    at : IsPieceOf piece text → ⊥
    at l =
        let long : length text ≡ length l.before + (length piece + length l.after) =
        ap length l.is ∙ length-append l.before (piece ++ l.after) ∙ ap (λ n. length l.before + n) (length-append piece l.after) in
        let part : take (length piece) (drop (length l.before) text) ≡ piece =
        ap (λ t. take (length piece) (drop (length l.before) t)) l.is ∙ ap (take (length piece)) (drop-append_seam l.before (piece ++ l.after)) ∙ take-append_seam piece l.after in
        none (length l.before) (omega arith) (omega (arith, long)) (OccursAt-from_part text piece (length l.before) (omega (arith, long)) part)

pub found-has : (piece text : List ℕ) (r : Option ℕ) → FindsNeedle text piece 0 r → is_some r ≡ has_piece piece text
found-has piece text None h = by (has_piece piece text) refl
  where
    by : (t : Bool) → has_piece piece text ≡ t → false ≡ t
    by false e = refl
    by true e = absurd (none_has piece text h e)
found-has piece text (Some k) h = sym (occurs-has piece text k h.1)
