use Rattle.mail_reader.proofs.PieceEnds.{feed_after, piece_there, piece_not_there}
use Rattle.mail_reader.proofs.checking.after_line.Goals as goal

pub returns-in-Some : goal.returns-in-Some
returns-in-Some c =
    let there = c.in-Some.ensures.cases in
    feed_after c.args.text.now c.args.content.now c.in-Some.rest.now c.after_feed.result (piece_there c.args.text.now c.args.content.now c.in-Some.rest.now there.0 there.1) c.after_feed.ensures

pub returns-in-None : goal.returns-in-None
returns-in-None c = piece_not_there c.args.text.now c.args.content.now c.in-None.ensures.cases
