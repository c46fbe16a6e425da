-- What contracts see of a disk over a folder.
use Rattle.std.specs.Prelude.{ℕ}

-- The number of failed calls and the number of reads.
pub record Counted : Type 0 where
  pub faults : ℕ
  pub reads : ℕ
