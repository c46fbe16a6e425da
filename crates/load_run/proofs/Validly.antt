-- The archive of a load run is valid.
use Rattle.std.proofs.Common.{◌*◌, ◌/◌, ◌≤◌, ℕ, zero, suc, arith}
use Rattle.arch_base.specs.Moments.{last_moment}
use Rattle.arch_model.specs.Archives.{Archive}
use Rattle.arch_model.specs.Laws.{KeepsValid}
use Rattle.arch_model.specs.Validity.{IsArchive}
use Rattle.arch_model.specs.declared.command.Command.TheVariants.{Deliver, Remove, Purge}
use Rattle.load_run.specs.Mails.{mail_of}
use Rattle.load_run.specs.Loads.{greatest_load, moment_of, delivered_to, removed_to, purged_to, loaded}

module _ (law : KeepsValid) where
  delivered_valid : (a : Archive) (seed i : ℕ) → i ≤ greatest_load → IsArchive a → IsArchive (delivered_to a seed i)
  delivered_valid a seed zero few valid = valid
  delivered_valid a seed (suc i) few valid =
      law (delivered_to a seed i) (Deliver (record { ref_ptr = (0, 0); now = mail_of seed (suc i) })) (moment_of (suc i)) (omega (arith, few)) (delivered_valid a seed i (omega (arith, few)) valid)

  removed_valid : (a : Archive) (moment k : ℕ) → moment ≤ last_moment → IsArchive a → IsArchive (removed_to a moment k)
  removed_valid a moment zero in_time valid = valid
  removed_valid a moment (suc k) in_time valid = law (removed_to a moment k) (Remove (10 * suc k)) moment in_time (removed_valid a moment k in_time valid)

  purged_valid : (a : Archive) (k : ℕ) → IsArchive a → IsArchive (purged_to a k)
  purged_valid a zero valid = valid
  purged_valid a (suc k) valid = law (purged_to a k) (Purge (25 * suc k)) 0 (omega arith) (purged_valid a k valid)

  pub loaded_valid : (a : Archive) (count seed : ℕ) → count ≤ greatest_load → IsArchive a → IsArchive (loaded a count seed)
  loaded_valid a count seed few valid =
      purged_valid (removed_to (delivered_to a seed count) (moment_of count) (count / 10)) (count / 25)
      (removed_valid (delivered_to a seed count) (moment_of count) (count / 10) (omega (arith, few)) (delivered_valid a seed count few valid))
