use Rattle.std.proofs.Common.{drop}
use Rattle.archive_cli.specs.Words.{spelled}
use Rattle.archive_cli.proofs.Grammar.{Reading}
use Rattle.archive_cli.proofs.words.read_settings.Given as goal

abbrev pub invariant-loop-option : goal.invariant-loop-option
invariant-loop-option l = Reading (spelled l.options) (spelled (drop l.option-index l.options)) l.settings
