use Rattle.std.proofs.Common.{rules, ◌≡◌, None}
use Rattle.word_index.proofs.AskedLemmas.{nowhere-list}
use Rattle.word_index.proofs.reading.numbers_with.Goals as goal

pub returns-in-None : goal.returns-in-None
returns-in-None c =
    let asked = c.args.asked.now in
    let none : asked.word ≡ None = search rules in
    nowhere-list c.args.tables.now asked.field asked.word c.new.result.items none c.new.ensures.items
