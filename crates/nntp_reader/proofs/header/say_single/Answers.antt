use Rattle.arch_model.specs.Archives.{live}
use Rattle.arch_model.specs.Listings.{row_in}
use Rattle.wire_replies.specs.Blocks.{block_end}
use Rattle.wire_replies.specs.Phrases.{words_of}
use Rattle.nntp_reader.specs.Facts.{fact_line}
use Rattle.shelf_doors.proofs.Replying.{first-failed, second-failed, three-said}
use Rattle.nntp_reader.proofs.header.say_single.Goals as goal

pub returns-in_err-push-clause-said : goal.returns-in_err-push-clause-said
returns-in_err-push-clause-said g c = λ a held.
    first-failed (words_of c.args.start.now) (fact_line c.args.fact c.args.chosen.shown (row_in a.config.form (live a.entries) c.args.chosen.number)) block_end c.new-reply.result c.new-reply.ensures _ _ _ _ _
    c.from_residual.result c.from_residual.ensures.0 c.in_err-push.ensures.said

pub returns-in_err-push_fact-clause-said : goal.returns-in_err-push_fact-clause-said
returns-in_err-push_fact-clause-said g c = λ a held.
    second-failed (words_of c.args.start.now) (fact_line c.args.fact c.args.chosen.shown (row_in a.config.form (live a.entries) c.args.chosen.number)) block_end c.new-reply.result c.new-reply.ensures _ _ c.push.new.self _ _ _ c.in_ok-push.ensures.said _ _ _
    c.from_residual-in_err-push_fact.result c.from_residual-in_err-push_fact.ensures.0 (c.in_err-push_fact.ensures.said a held)

pub returns-clause-said : goal.returns-clause-said
returns-clause-said g c = λ a held.
    three-said (words_of c.args.start.now) (fact_line c.args.fact c.args.chosen.shown (row_in a.config.form (live a.entries) c.args.chosen.number)) block_end c.new-reply.result c.new-reply.ensures _ _ c.push.new.self _ _ _ c.in_ok-push.ensures.said
    c.push_fact.new.reply _ _ _ _ _ c.finish.result (c.in_ok-push_fact.ensures.said a held) c.finish.ensures.said
