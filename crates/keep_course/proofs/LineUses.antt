-- Whether the line of a piece uses the disk.
use Rattle.std.proofs.Common.{◌≡◌, ◌∙◌, ℕ, List, Bool, false, sym, ap}
use Rattle.line_door.specs.Clipped.{clipped}
use Rattle.line_door.specs.Lines.{content}
use Rattle.line_door.specs.Readers.{line_reader}
use Rattle.line_door.specs.Skipping.{SkippedLine, Taken, skipping_front}
use Rattle.line_door.proofs.Clipping.{clipped-taken}
use Rattle.keep_course.specs.LineUses.{front_uses, reader_uses}

module _ {S A : Type 0} (limit : ℕ) (line_uses : A → S → List ℕ → Bool) where
  -- The line at the front doesn't use the disk, if the session with the piece doesn't.
  pub line-spares : (a : A) (s : S) (bytes line rest : List ℕ) → skipping_front limit bytes ≡ Taken line rest → reader_uses limit line_uses a (line_reader s (clipped limit bytes)) ≡ false → line_uses a s (content line) ≡ false
  line-spares a s bytes line rest is spares = sym (ap (front_uses limit line_uses a s) (clipped-taken limit bytes line rest is)) ∙ spares
