-- What a load fills an archive with, and the line of it.
use Rattle.std.specs.Prelude.{ℕ, List, [], codes}
use Rattle.arch_base.specs.declared.config.Config.{Config}
use Rattle.arch_model.specs.Archives.{Archive, empty_archive}
use Rattle.load_run.specs.Counted.{counts_of, load_line}
use Rattle.load_run.specs.Loads.{loaded}
use Rattle.archive_cli.specs.Words.{config_of}

-- The settings of the archive of a load: its name is `load`, and all others are the defaults.
abbrev pub load_config : Config
load_config = config_of (codes "load") []

-- The archive of a load of so many messages, made from a seed, into one without messages.
abbrev pub load_archive : ℕ → ℕ → Archive
load_archive count seed = loaded (empty_archive load_config) count seed

-- The line of a load: how many live messages, entries and threads its archive has, and its next
-- number.
abbrev pub loaded_line : ℕ → ℕ → List ℕ
loaded_line count seed = load_line (counts_of (load_archive count seed))
