use Rattle.archive_cli.proofs.AfterInit.{after-init}
use Rattle.archive_cli.proofs.laws.run_after_init.Goals as goal

pub returns : goal.returns
returns g c = after-init g.D.Disk g.met.D.Disk.counts_now g.met.D.Disk.reads_fit c.numbers_keep_their_texts.ensures.delivered c.numbers_keep_their_texts.ensures.removed c.law_of_numbers.ensures.itself c.law_of_commands.ensures.follows c.law_of_conversions.ensures.follows
