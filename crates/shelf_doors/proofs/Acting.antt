-- What a door of lines over a shelf says makes an act.
use Rattle.std.proofs.Common.{◌≡◌, ℕ, Bool, true, List, None, Result, is_ok, inl, inr, refl, sym, ap, subst, arith}
use Rattle.edge_io.specs.Phrases.{Says}
use Rattle.edge_io.specs.declared.sink.SinkFault.{SinkFault}
use Rattle.line_door.specs.Acts.{ConnectionState, Departure, Plain, Memory, Disk, Newer, Acts, held_if}
use Rattle.line_door.specs.Readers.{LineReader, LineReply, line_reader, as_said, said_at}
use Rattle.line_door.specs.Lines.{content}
use Rattle.line_door.specs.Skipping.{SkippedLine, Taken, Skipped, Unended}
use Rattle.line_door.proofs.Acting.{acts-by_held, acts-closing}
use Rattle.shelf_doors.specs.Refusals.{memory_line, disk_line, SaysUnread}
use Rattle.shelf_doors.specs.Ways.{ShelfReply, replies, ends, over, in_each_way}

module _ {S A : Type 0} (code : List ℕ) (a : A) (s : S) (wants reads : Bool) (r : ShelfReply S) (rest : List ℕ) (i j : ConnectionState) (sent : Result Unit SinkFault) where
  -- A reply by the rules, after which the session continues in a state.
  pub acts-said : (after : S) (words : List ℕ) → r ≡ replies after words → j.disk ≡ i.disk → Says words i.out i.lost j.out j.lost sent
      → Acts (λ way. as_said rest (in_each_way code a s wants reads r way)) i (held_if (is_ok sent) (line_reader after rest)) a j
  acts-said after words is kept said =
      acts-by_held (λ way. as_said rest (in_each_way code a s wants reads r way)) Plain (as_said rest (over a (replies after words))) i j (line_reader after rest) a sent (ap (λ (x : ShelfReply S). as_said rest (over a x)) is) refl kept (omega (arith, kept)) said refl

  -- A reply by the rules that closes the session.
  pub acts-ended : (words : List ℕ) → r ≡ ends words → j.disk ≡ i.disk → Says words i.out i.lost j.out j.lost sent
      → Acts (λ way. as_said rest (in_each_way code a s wants reads r way)) i None a j
  acts-ended words is kept said =
      acts-closing (λ way. as_said rest (in_each_way code a s wants reads r way)) Plain (as_said rest (over a (ends words))) i j a sent (ap (λ (x : ShelfReply S). as_said rest (over a x)) is) refl kept (omega (arith, kept)) said refl

  -- Memory ran out.
  pub acts-starved : wants ≡ true → j.disk ≡ i.disk → Says (memory_line code) i.out i.lost j.out j.lost sent
      → Acts (λ way. as_said rest (in_each_way code a s wants reads r way)) i (held_if (is_ok sent) (line_reader s rest)) a j
  acts-starved wanted kept said =
      acts-by_held (λ way. as_said rest (in_each_way code a s wants reads r way)) Memory (as_said rest (over a (replies s (memory_line code)))) i j (line_reader s rest) a sent (rw wanted refl) refl kept (omega (arith, kept)) said refl

  -- A text was not read, and it was said why.
  pub acts-unread : wants ≡ true → reads ≡ true → SaysUnread code i sent j
      → Acts (λ way. as_said rest (in_each_way code a s wants reads r way)) i (held_if (is_ok sent) (line_reader s rest)) a j
  acts-unread wanted read (inl disk) =
      acts-by_held (λ way. as_said rest (in_each_way code a s wants reads r way)) Disk (as_said rest (over a (replies s (disk_line code)))) i j (line_reader s rest) a sent (rw read refl) refl disk.0 disk.1 disk.2 refl
  acts-unread wanted read (inr memory) = acts-starved wanted memory.0 memory.1

-- A reply that is the same in every way, by whether the session continues.
pub acts-always : {S A : Type 0} (a : A) (s : S) (rest words : List ℕ) (i j : ConnectionState) (sent : Result Unit SinkFault) (goes : Bool) → goes ≡ is_ok sent → j.disk ≡ i.disk → Says words i.out i.lost j.out j.lost sent
    → Acts (λ (way : Departure). as_said rest (over a (replies s words))) i (held_if goes (line_reader s rest)) a j
acts-always a s rest words i j sent goes is kept said =
    subst (λ (g : Bool). Acts (λ (way : Departure). as_said rest (over a (replies s words))) i (held_if g (line_reader s rest)) a j) (sym is)
    (acts-by_held (λ (way : Departure). as_said rest (over a (replies s words))) Plain (as_said rest (over a (replies s words))) i j (line_reader s rest) a sent refl refl kept (omega (arith, kept)) said refl)

-- No reply changes what requests read.
pub ways-after : {S A : Type 0} (code : List ℕ) (a : A) (s : S) (wants reads : Bool) (r : ShelfReply S) (way : Departure) → (in_each_way code a s wants reads r way).after ≡ a
ways-after code a s wants reads r Plain = refl
ways-after code a s wants reads r Memory = refl
ways-after code a s wants reads r Disk = refl
ways-after code a s wants reads r Newer = refl

-- Nor does anything that a door says whose replies leave it.
pub said-after : {S A : Type 0} (limit : ℕ) (answered : A → S → List ℕ → Departure → LineReply S A) (too_long : A → S → LineReply S A) → ((a : A) (s : S) (line : List ℕ) (way : Departure) → (answered a s line way).after ≡ a) → ((a : A) (s : S) → (too_long a s).after ≡ a)
    → (a : A) (r : LineReader S) (f : SkippedLine) (way : Departure) → (said_at limit answered too_long a r f way).after ≡ a
said-after limit answered too_long by_line by_long a r (Taken line rest) way = by_line a r.state (content line) way
said-after limit answered too_long by_line by_long a r (Skipped rest) way = by_long a r.state
said-after limit answered too_long by_line by_long a r Unended way = refl
