-- What a crash leaves while a command works on a disk, at any first moment to come.
use Rattle.std.specs.Prelude.{◌≡◌, ℕ, List, Option}
use Rattle.std.proofs.Common.{subst, inl}
use Rattle.arch_base.specs.declared.config.Config.{Config}
use Rattle.disk_model.specs.declared.disk.Disk.{Ghosts as Disk}
use Rattle.disk_model.specs.Disk.{Files, Content, Image}
use Rattle.disk_model.specs.Moments.{started}
use Rattle.edge_io.specs.Coming.{Moments}
use Rattle.arch_model.specs.Archives.{Archive}
use Rattle.arch_model.specs.Delivery.{Done}
use Rattle.epoch_store.specs.Promises.{WriteKind}
use Rattle.archive_cli.specs.DiskCommands.{RunsOrStays, LeavesEither}
use Rattle.archive_cli.specs.Program.{InitLeaves, CommandLeaves, MessageLeaves, IsInput, message_of}
use Rattle.archive_cli.proofs.Printed.{some-moment, some-input}

-- Before an archive is made.
pub init-first : (config : Config) (coming : Option Moments) (old : Option Content) (image : Files) → Image old image → InitLeaves config coming old image
init-first config coming old image left = let some = some-moment coming in (some.0, some.1, inl left)

module _ {D : Type 0} (g : Disk D) where
  -- It is the front of the input.
  pub message-runs : (coming : Option Moments) (left : Option (List ℕ)) (way : WriteKind) (wanted : List ℕ → ℕ → Archive → Done) (old new : D) (bytes : List ℕ) → (input : List ℕ) × IsInput left input × (bytes ≡ message_of input) → CommandLeaves g old new coming way (wanted bytes)
      → MessageLeaves g old new left coming way wanted
  message-runs coming left way wanted old new bytes front run = (front.0, front.1, subst (λ (b : List ℕ). CommandLeaves g old new coming way (wanted b)) front.2 run)

  module _ (only_now : (disk : D) (image : Files) → g.left_since disk (g.moment disk) image → Image (g.content disk) image) where
    -- Nothing was done yet.
    runs-first : (leaves : List ℕ → Archive → Files → Type 0) (disk : D) → RunsOrStays g disk disk leaves
    runs-first leaves disk = inl (started g disk (Image (g.content disk)) (λ image now. only_now disk image now))

    pub command-first : (coming : Option Moments) (way : WriteKind) (wanted : ℕ → Archive → Done) (disk : D) → CommandLeaves g disk disk coming way wanted
    command-first coming way wanted disk = let some = some-moment coming in (some.0, some.1, runs-first (LeavesEither way (wanted some.0)) disk)

    pub message-first : (coming : Option Moments) (left : Option (List ℕ)) (way : WriteKind) (wanted : List ℕ → ℕ → Archive → Done) (disk : D) → MessageLeaves g disk disk left coming way wanted
    message-first coming left way wanted disk = let some = some-input left in (some.0, some.1, command-first coming way (wanted (message_of some.0)) disk)
