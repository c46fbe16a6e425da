use Rattle.load_run.proofs.FourCounts.{counts_are}
use Rattle.load_run.proofs.Sizes.{few_entries}
use Rattle.load_run.proofs.counting.counts.Goals as goal

pub returns : goal.returns
returns g c = λ a valid held shown.
    counts_are a c.args.live c.next_number.result c.entry_count.result c.in_ok-thread_count.field-0 shown (c.next_number.ensures a held) (c.entry_count.ensures a held (few_entries a valid)) (c.in_ok-thread_count.ensures a valid held)
