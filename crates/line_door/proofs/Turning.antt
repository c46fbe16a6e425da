-- The acts of the code are acts of a session of lines.
use Rattle.std.proofs.Common.{◌≡◌, ◌+◌, ◌<◌, ◌∙◌, inr, ℕ, Bool, true, false, List, [], ◌++◌, length, take, drop, Option, Some, None, refl, sym, ap, length-append, arith, if◌then◌else◌}
use Rattle.std.proofs.lemmas.List.{take_all}
use Rattle.line_door.specs.Acts.{ConnectionState, Departure, Plain, Acts, held_if}
use Rattle.line_door.specs.Clipped.{clipped}
use Rattle.line_door.specs.Course.{talk, Last}
use Rattle.line_door.specs.Lines.{content}
use Rattle.line_door.specs.Plain.{silent}
use Rattle.line_door.specs.Readers.{LineReader, line_reader, LineReply, as_said, said, said_at, has_request}
use Rattle.line_door.specs.Skipping.{SkippedLine, Taken, Skipped, Unended, skipping_front, is_ended, held_of, IsPassage}
use Rattle.line_door.specs.Turns.{IsLineAct}
use Rattle.line_door.specs.declared.skipping.Passage.TheVariants as passage
use Rattle.line_door.specs.declared.turn.LineAct.TheVariants.{Went, Kept, Closed}
use Rattle.line_door.proofs.Acting.{acts-silent, acts-words}
use Rattle.line_door.proofs.Clipping.{clipped-taken, clipped-skipped, clipped-part, clipped-unended, held-unended}
use Rattle.line_door.proofs.Courses.{Last-done}
use Rattle.line_door.proofs.Passages.{skipping_laws, taken-is_line}
use Rattle.line_door.proofs.Reading.{part-silent}

module _ {S A : Type 0} (limit : ℕ) (answered : A → S → List ℕ → Departure → LineReply S A) (too_long : A → S → LineReply S A) where
  module _ (a : A) (s : S) (held piece : List ℕ) where
    -- What is at the front, of what is kept.
    abbrev at_front : LineReader S
    at_front = line_reader s (clipped limit (held ++ piece))

    acts-at : (f : SkippedLine) (i : ConnectionState) (to : Option (LineReader S)) (j : ConnectionState) → skipping_front limit (clipped limit (held ++ piece)) ≡ f → Acts (said_at limit answered too_long a at_front f) i to a j
        → Acts (said limit answered too_long a at_front) i to a j
    acts-at f i to j is acts =
        acts-words (said limit answered too_long a at_front) (said_at limit answered too_long a at_front f) i to a j (λ way. ap (λ (x : SkippedLine). said_at limit answered too_long a at_front x way) is) acts

    -- What the line at the front says, where it takes `n` bytes of the piece.
    went-by : (f : SkippedLine) (new : List ℕ) (t : S) (n : ℕ) (i j : ConnectionState) (goes : Bool) → skipping_front limit (clipped limit (held ++ piece)) ≡ f → is_ended f ≡ true → new ≡ []
        → Acts (said_at limit answered too_long a at_front f) i (held_if goes (line_reader t (clipped limit (drop n piece)))) a j
        → IsLineAct limit answered too_long a (line_reader s held) piece i (if goes then Went n else Closed) (line_reader t new) j
    went-by f new t n i j true front ended none acts = (ap is_ended front ∙ ended, acts-at f i (Some (line_reader t (clipped limit (new ++ drop n piece)))) j front (rw none acts))
    went-by f new t n i j false front ended none acts = acts-at f i None j front acts

    -- A line that takes `n` bytes of the piece was answered.
    pub turn-line : (line new : List ℕ) (t : S) (n : ℕ) (i j : ConnectionState) (goes : Bool) → skipping_front limit (held ++ piece) ≡ Taken line (drop n piece) → new ≡ []
        → Acts (λ way. as_said (clipped limit (drop n piece)) (answered a s (content line) way)) i (held_if goes (line_reader t (clipped limit (drop n piece)))) a j
        → IsLineAct limit answered too_long a (line_reader s held) piece i (if goes then Went n else Closed) (line_reader t new) j
    turn-line line new t n i j goes is none acts =
        went-by (Taken line (clipped limit (drop n piece))) new t n i j goes (clipped-taken limit (held ++ piece) line (drop n piece) is) refl none acts

    -- A line that is too long was answered.
    pub turn-skipped : (new : List ℕ) (t : S) (n : ℕ) (i j : ConnectionState) (goes : Bool) → skipping_front limit (held ++ piece) ≡ Skipped (drop n piece) → new ≡ []
        → Acts (λ way. as_said (clipped limit (drop n piece)) (too_long a s)) i (held_if goes (line_reader t (clipped limit (drop n piece)))) a j
        → IsLineAct limit answered too_long a (line_reader s held) piece i (if goes then Went n else Closed) (line_reader t new) j
    turn-skipped new t n i j goes is none acts =
        went-by (Skipped (clipped limit (drop n piece))) new t n i j goes (clipped-skipped limit (held ++ piece) (drop n piece) is) refl none acts

    -- A piece that ends no line was kept.
    pub turn-kept : (new : List ℕ) (i : ConnectionState) → skipping_front limit (held ++ piece) ≡ Unended → new ≡ held_of limit (held ++ piece) → IsLineAct limit answered too_long a (line_reader s held) piece i Kept (line_reader s new) i
    turn-kept new i is kept =
        let same : new ≡ clipped limit (held ++ piece) = kept ∙ sym (clipped-part limit (held ++ piece) is) in
        (ap (line_reader s) same, ap (λ (b : List ℕ). is_ended (skipping_front limit b)) same ∙ ap is_ended (clipped-unended limit (held ++ piece) is), refl)

  -- A part of a line that is kept ends a course.
  pub last-kept : (a : A) (r : LineReader S) (i : ConnectionState) → has_request limit r ≡ false → Last (said limit answered too_long) (has_request limit) (talk (Some r) a i) (talk (Some r) a i)
  last-kept a r i part =
      Last-done (said limit answered too_long) (has_request limit) r a i (Some r) a i
      (acts-silent (said limit answered too_long a r) (silent a r) i i (Some r) a (part-silent limit answered too_long a r Plain (skipping_front limit r.bytes) part) refl refl refl refl refl refl) (inr (part, refl))

-- What is held of a part of a line has no line that has ended.
pub part-kept : (limit : ℕ) (new bytes : List ℕ) → skipping_front limit bytes ≡ Unended → new ≡ held_of limit bytes → is_ended (skipping_front limit new) ≡ false
part-kept limit new bytes is kept = ap (λ (b : List ℕ). is_ended (skipping_front limit b)) kept ∙ ap is_ended (held-unended limit bytes is)

-- A line that ends in the piece, after the part of it that is held.
pub line-held : (limit : ℕ) (held bytes piece part : List ℕ) (n : ℕ) → held ≡ bytes → IsPassage limit held piece (passage.Line n) → part ≡ take n piece → skipping_front limit (bytes ++ piece) ≡ Taken (bytes ++ part) (drop (n + 1) piece)
line-held limit held bytes piece part n is passage front =
    ap (λ (x : List ℕ). skipping_front limit (x ++ piece)) (sym is)
    ∙ passage.1
    ∙ ap (λ (x : List ℕ). Taken (held ++ x) (drop (n + 1) piece)) (sym front)
    ∙ ap (λ (x : List ℕ). Taken (x ++ part) (drop (n + 1) piece)) is

-- A line has no line feed, and is short.
pub line-part : (limit : ℕ) (bytes line rest : List ℕ) → skipping_front limit bytes ≡ Taken line rest → skipping_front limit line ≡ Unended
line-part limit bytes line rest is = (skipping_laws.unended limit line).1 (taken-is_line limit bytes line rest is).single

-- All of a short line is held.
pub line-whole : (limit : ℕ) (held line : List ℕ) → length held + length line < limit → held_of limit (held ++ line) ≡ held ++ line
line-whole limit held line short = take_all limit (held ++ line) (omega (arith, short, length-append held line))
