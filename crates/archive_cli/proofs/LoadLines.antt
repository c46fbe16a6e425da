-- The archive that a load starts with, and what it is due to print.
use Rattle.std.proofs.Common.{◌≡◌, ℕ, List, refl, ◌∙◌, inl, inr, arith, codes}
use Rattle.std.proofs.lemmas.List.Sums.{AllPass-from_list_all}
use Rattle.arch_base.specs.Names.{IsArchiveName, is_name_byte}
use Rattle.arch_base.specs.Configs.{IsConfig}
use Rattle.arch_model.specs.Archives.{empty_archive}
use Rattle.arch_model.specs.Validity.{IsArchive}
use Rattle.answer_lines.specs.Lines.{whole_line}
use Rattle.archive_cli.specs.Loading.{load_config, loaded_line}
use Rattle.archive_cli.specs.Printing.{Exactly, IsLoadDue}
use Rattle.archive_cli.specs.declared.status.Status.{Status}
use Rattle.archive_cli.specs.declared.status.Status.TheVariants as exit

load-named : IsArchiveName (codes "load")
load-named = record { nonempty = omega arith; short = omega arith; bytes = AllPass-from_list_all is_name_byte (codes "load") refl; first = refl; last = refl }

-- Its settings are in their ranges.
pub load-configured : IsConfig load_config
load-configured = record { limit_low = omega arith; limit_high = omega arith; slice_low = omega arith; slice_high = omega arith; max_low = omega arith; max_high = omega arith; born_low = omega arith; born_high = omega arith }

-- It is valid.
pub load-valid : IsArchive (empty_archive load_config)
load-valid = record { name = load-named; config = load-configured; next_least = omega arith; next_most = omega arith; entries = tt; below = tt; order = tt; ends = tt; ids = tt; blobs = tt }

-- Its line is due.
pub line-due : (count seed : ℕ) (line : List ℕ) → line ≡ whole_line (loaded_line count seed) → (s : Status) (words : List ℕ) → Exactly line exit.Done s words → IsLoadDue count seed s words
line-due count seed line is s words e = inl (record { status_is = e.status_is; words_is = e.words_is ∙ is })

-- That memory ran out is due.
pub short-due : (count seed : ℕ) (s : Status) (words : List ℕ) → Exactly (whole_line (codes "12 no memory")) exit.Memory s words → IsLoadDue count seed s words
short-due count seed s words e = inr e
