use Rattle.http_front.proofs.Replying.{file-parts}
use Rattle.http_front.proofs.replies.say_file_line.Goals as goal

pub returns-clause-said : goal.returns-clause-said
returns-clause-said g c = λ moment at is where_is.
    rw (file-parts moment at c.args.len c.args.name.now c.args.number.now _ _ _ _ _ c.args.offset.now c.words.ensures is c.media_type.ensures c.allow_line.ensures c.close_line.ensures where_is c.requires) c.send.ensures.said
