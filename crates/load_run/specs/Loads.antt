-- The archive that a load run makes of another one.
use Rattle.std.specs.Prelude.{ℕ, zero, suc, ◌+◌, ◌*◌, ◌/◌}
use Rattle.arch_model.specs.Archives.{Archive}
use Rattle.arch_model.specs.Delivery.{delivered, removed, purged}
use Rattle.load_run.specs.Mails.{mail_of}

-- The greatest number of messages.
abbrev pub greatest_load : ℕ
greatest_load = 20000

-- The moment of message i: one second after the one before it.
abbrev pub moment_of : ℕ → ℕ
moment_of i = 1700000000 + i

-- The archive after the deliveries of messages 1 to so many.
abbrev pub delivered_to : Archive → ℕ → ℕ → Archive
delivered_to a seed zero = a
delivered_to a seed (suc i) =
    (delivered (delivered_to a seed i) (mail_of seed (suc i)) (moment_of (suc i))).archive

-- The archive after the removals, at one moment, of 10, 20 and so on, so many numbers.
abbrev pub removed_to : Archive → ℕ → ℕ → Archive
removed_to a moment zero = a
removed_to a moment (suc k) = (removed (removed_to a moment k) (10 * suc k) moment).archive

-- The archive after the purges of 25, 50 and so on, so many numbers.
abbrev pub purged_to : Archive → ℕ → Archive
purged_to a zero = a
purged_to a (suc k) = (purged (purged_to a k) (25 * suc k)).archive

-- The archive after a load run of so many messages: all are delivered, then each number up to theirs
-- that is divisible by 10 is removed, and then each that is divisible by 25 is purged.
abbrev pub loaded : Archive → ℕ → ℕ → Archive
loaded a count seed =
    purged_to (removed_to (delivered_to a seed count) (moment_of count) (count / 10)) (count / 25)
