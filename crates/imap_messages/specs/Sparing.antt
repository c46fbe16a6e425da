-- Commands that read no text meet no fault of the disk.
use Rattle.std.specs.Prelude.{◌≡◌, ℕ}
use Rattle.arch_model.specs.Archives.{Archive}

-- Whichever archive a shelf holds, the count of faults stays where no text is to be read of it.
abbrev pub SparedIn : {S : Type 0} → (S → Archive → Type 0) → (Archive → ℕ) → S → ℕ → ℕ → Type 0
SparedIn holds texts shelf before now = (a : Archive) → holds shelf a → texts a ≡ 0 → now ≡ before
