use Rattle.std.proofs.Common.{rules, ◌≤◌, length}
use Rattle.word_index.proofs.PostingLemmas.{listed_none}
use Rattle.word_index.proofs.postings.Postings.numbers.Goals as goal

pub returns-in-None : goal.returns-in-None
returns-in-None c =
    let sets = c.args.self.now in
    let beyond : length sets ≤ c.args.word = search rules in
    listed_none sets c.args.word c.new.result.items beyond c.new.ensures.items
