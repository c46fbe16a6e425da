-- The counts and lengths that more than one file of an archive goes by.
use Rattle.std.specs.Prelude.{ℕ}
use Rattle.arch_base.specs.declared.ids.Form.{Form}
use Rattle.arch_base.specs.declared.ids.Form.TheVariants.{Sha1, Sha256}

-- The count of epochs that an archive may have.
abbrev pub epoch_count : ℕ
epoch_count = 64

-- The greatest number of an epoch.
abbrev pub greatest_epoch : ℕ
greatest_epoch = 63

-- The length of a record of the map, by the form of its id: 28 or 40 bytes.
abbrev pub record_size : Form → ℕ
record_size Sha1 = 28
record_size Sha256 = 40
