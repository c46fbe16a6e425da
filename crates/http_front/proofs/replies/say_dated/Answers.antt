use Rattle.http_front.proofs.Replying.{word-parts}
use Rattle.http_front.proofs.replies.say_dated.Goals as goal

pub returns-clause-said : goal.returns-clause-said
returns-clause-said g c = λ moment is.
    rw (word-parts c.args.status c.args.words.now moment c.args.sends c.args.closes _ _ _ _ _ _ c.words.ensures is c.media_type.ensures c.allow_line.ensures c.close_line.ensures c.sent.ensures) c.send.ensures.said
