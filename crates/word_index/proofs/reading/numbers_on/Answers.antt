use Rattle.word_index.proofs.DayLemmas.{within-list}
use Rattle.word_index.proofs.reading.numbers_on.Goals as goal

pub returns : goal.returns
returns c =
    within-list c.args.tables.now.rows.entries c.args.tables.now.days c.args.first c.args.last c.in_ok-dated.dated.items c.sorted.result.items c.in_ok-dated.ensures.numbers c.in_ok-dated.ensures.ordered
    c.requires.by_day c.sorted.ensures
