use Rattle.std.proofs.Common.{◌≡◌, ◌∙◌, decimal}
use Rattle.wire_replies.proofs.waiting.Waiting.number.Goals as goal

pub returns-clause-said : goal.returns-clause-said
returns-clause-said g c =
    let digits : c.as_bytes.result.now ≡ decimal c.args.number = c.as_bytes.ensures.value ∙ c.format.ensures.text in
    rw digits at c.say.ensures.said
