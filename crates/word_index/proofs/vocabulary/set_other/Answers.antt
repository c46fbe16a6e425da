use Rattle.std.proofs.Common.{Some}
use Rattle.word_index.proofs.MarkLemmas.{set-some}
use Rattle.word_index.proofs.vocabulary.set_other.Goals as goal

pub returns-in-Some : goal.returns-in-Some
returns-in-Some c =
    let number = c.args.number in
    set-some c.args.others.now (c.get_mut.follows.lender (Some number)) c.args.text.now number ((c.get_mut.follows.holds (Some number)).3 c.requires)
