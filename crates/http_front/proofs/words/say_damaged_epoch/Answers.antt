use Rattle.std.proofs.Common.{◌≡◌, ◌∙◌, decimal}
use Rattle.http_front.proofs.words.say_damaged_epoch.Goals as goal

pub returns-clause-said : goal.returns-clause-said
returns-clause-said g c =
    let digits : c.as_bytes.result.now ≡ decimal c.args.number = c.as_bytes.ensures.value ∙ c.format.ensures.text in
    rw digits at c.say_damaged_file.ensures.said
