use Rattle.std.proofs.Common.{◌≡◌, ◌∙◌, Some, true, false, sym}
use Rattle.nntp_reader.specs.Lists.{is_listed}
use Rattle.nntp_reader.proofs.lists.say_new_news.Goals as goal

pub returns-then-not-is_listed-clause-said : goal.returns-then-not-is_listed-clause-said
returns-then-not-is_listed-clause-said g c = λ a held.
    let out : is_listed (Some c.args.wildmat.now) a.config.name ≡ false = sym (c.is_listed.ensures a held) ∙ c.if-not-is_listed.true in
    rw out c.say.ensures.said

pub returns-clause-said : goal.returns-clause-said
returns-clause-said g c = λ a held.
    let in_list : is_listed (Some c.args.wildmat.now) a.config.name ≡ true = sym (c.is_listed.ensures a held) ∙ c.if-not-is_listed.false in
    rw in_list (c.say_lines.ensures.said a held)
