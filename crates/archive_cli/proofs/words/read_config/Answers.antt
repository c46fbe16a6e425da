use Rattle.archive_cli.specs.Words.{spelled}
use Rattle.archive_cli.proofs.Grammar.{configured}
use Rattle.archive_cli.proofs.words.read_config.Goals as goal

pub returns : goal.returns
returns c =
    configured c.in_ok-name.name c.args.name.now (spelled c.args.options.now) c.in_ok-settings.settings c.config.result (rw c.as_bytes.ensures.value at c.in_ok-name.ensures.found) c.in_ok-settings.ensures c.config.ensures
