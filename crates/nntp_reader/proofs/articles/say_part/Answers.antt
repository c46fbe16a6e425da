use Rattle.std.proofs.Common.{◌≡◌, ◌∙◌, true, false, is_ok, ap, sym, refl}
use Rattle.shelf_doors.specs.Ways.{replies}
use Rattle.shelf_doors.proofs.Acting.{acts-said}
use Rattle.nntp_reader.specs.Articles.{read_words, group_chosen}
use Rattle.nntp_reader.specs.Commands.{Reads}
use Rattle.nntp_reader.specs.Notices.{refused_code}
use Rattle.nntp_reader.specs.Replies.{answered}
use Rattle.nntp_reader.specs.Sessions.{article_of}
use Rattle.nntp_reader.proofs.Acting.{acts-read}
use Rattle.nntp_reader.proofs.articles.say_part.Goals as goal

pub returns-in-Ok-clause-acts : goal.returns-in-Ok-clause-acts
returns-in-Ok-clause-acts g c = λ moment a rest held.
    let choice = c.in-Ok.ensures.value a held in
    acts-read moment a c.args.group.now c.in-Ok.chosen.after c.say_chosen.new.group (Reads c.args.part (article_of c.args.article)) rest _ _ _ c.say_chosen.result (sym (ap is_ok choice))
    (ap (λ r. replies (group_chosen c.args.group.now r) (read_words a c.args.part r)) (sym choice)) (c.say_chosen.ensures.said a held)

pub returns-in-Err-clause-acts : goal.returns-in-Err-clause-acts
returns-in-Err-clause-acts g c = λ moment a rest held.
    let choice = c.in-Err.ensures.value a held in
    acts-said refused_code a c.args.group.now _ _ (answered moment a c.args.group.now (Reads c.args.part (article_of c.args.article))) rest _ _ c.say_notice.result c.args.group.now _
    (ap (λ r. replies (group_chosen c.args.group.now r) (read_words a c.args.part r)) (sym choice)) refl c.say_notice.ensures.said

pub returns-in-Ok-clause-unused : goal.returns-in-Ok-clause-unused
returns-in-Ok-clause-unused g c = λ a held none.
    let never : true ≡ false = ap is_ok (c.in-Ok.ensures.value a held) ∙ none in
    absurd (cc never)
