use Rattle.word_index.proofs.PostingLemmas.{puts_all-more, may_put, on_err}
use Rattle.word_index.proofs.postings.Postings.put_all.Goals as goal

pub returns-in_err-put-clause-err : goal.returns-in_err-put-clause-err
returns-in_err-put-clause-err c =
    on_err c.from_residual.result (may_put c.args.self.now c.loop-word.self c.put.new.self c.args.words.now c.loop-word.word-index c.args.n c.loop-word.invariant c.in_err-put.ensures.err)

pub loop-word-preserved : goal.loop-word-preserved
loop-word-preserved c =
    puts_all-more c.args.self.now c.loop-word.self c.put.new.self c.args.words.now c.loop-word.word-index c.args.n c.loop-word-test.true c.loop-word.invariant c.in_ok-put.ensures.ok
