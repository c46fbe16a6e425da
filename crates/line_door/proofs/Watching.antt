-- The laws of the small door that watches a count.
use Rattle.std.proofs.Common.{◌≡◌, ◌-◌, ℕ, Bool, true, false, List, [], ◌∷◌, ◌++◌, Some, None, refl, sym, ap, ◌∙◌, append_assoc, append-nil, replicate, arith}
use Rattle.std.specs.Prelude.{if◌then◌else◌}
use Rattle.line_door.specs.Acts.{Plain}
use Rattle.line_door.specs.Clipped.{longest_line}
use Rattle.line_door.specs.Echo.{is_quit, long_word}
use Rattle.line_door.specs.Lines.{content}
use Rattle.line_door.specs.Plain.{said_after}
use Rattle.line_door.specs.Readers.{LineReader, line_reader, as_said, said_at, has_request, with_piece, left}
use Rattle.line_door.specs.Skipping.{SkippedLine, Taken, Skipped, Unended, skipping_front, is_ended}
use Rattle.line_door.specs.Updates.{UpdateDoor}
use Rattle.line_door.specs.Watched.{untold, telling, watch_plain, watch_line, watch_long, watch_said, watch_updated, watch_tells, WatchLaws, WatchUpdates}
use Rattle.line_door.proofs.Reading.{reader-cuts, reader-laws}
use Rattle.line_door.proofs.Updating.{updated-cut}

-- Who has been told all is told nothing.
told-all : (a : ℕ) → untold a a ≡ []
told-all a = let none : a - a ≡ 0 = omega arith in ap (λ (n : ℕ). replicate n 43) none

-- What is told first.
answer-told : (a seen : ℕ) (rest line : List ℕ) (t : Bool)
    → said_after (untold a seen) (as_said rest (if t then telling a a None [] else telling a a (Some a) (line ++ 10 ∷ [])))
    ≡ as_said rest (if t then telling a seen None [] else telling a seen (Some a) (line ++ 10 ∷ []))
answer-told a seen rest line true = rw (told-all a) refl
answer-told a seen rest line false = rw (told-all a) refl

front-told : (a seen : ℕ) (bytes : List ℕ) (f : SkippedLine) → is_ended f ≡ true
    → said_after (untold a seen) (said_at longest_line watch_line watch_long a (line_reader a bytes) f Plain) ≡ said_at longest_line watch_line watch_long a (line_reader seen bytes) f Plain
front-told a seen bytes (Taken line rest) ended = answer-told a seen rest (content line) (is_quit (content line))
front-told a seen bytes (Skipped rest) ended = rw (told-all a) refl
front-told a seen bytes Unended ended = absurd (cc ended)

pub watch_door : UpdateDoor watch_said (has_request longest_line) (with_piece longest_line) left watch_updated watch_tells
watch_door = record {
  asks = λ q a h rest. refl;
  answers = λ q a h rest request. front-told a h.state (with_piece longest_line q h).bytes (skipping_front longest_line (with_piece longest_line q h).bytes) request;
  again = λ q a h rest none. refl;
  told = λ q a h rest none. ap (λ (x : List ℕ). untold a h.state ++ x) (told-all a) ∙ append-nil (untold a h.state);
}

pub watch_laws : WatchLaws
watch_laws = reader-laws longest_line watch_line watch_long

pub watch_updates : WatchUpdates
watch_updates = (
  watch_door,
  updated-cut watch_said (has_request longest_line) (with_piece longest_line) left (reader-cuts longest_line watch_line watch_long) watch_updated watch_tells watch_door,
)
