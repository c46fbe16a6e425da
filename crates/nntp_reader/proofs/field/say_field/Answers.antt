use Rattle.std.proofs.Common.{◌≡◌, ◌∙◌, true, false, is_ok, ap, sym, refl}
use Rattle.nntp_reader.specs.Commands.{Headers, Field, Single}
use Rattle.nntp_reader.specs.Headers.{field_words}
use Rattle.nntp_reader.specs.Notices.{refused_code}
use Rattle.nntp_reader.specs.Replies.{answered}
use Rattle.nntp_reader.specs.Sessions.{article_of, articles_of}
use Rattle.shelf_doors.specs.Ways.{replies}
use Rattle.shelf_doors.proofs.Acting.{acts-said}
use Rattle.nntp_reader.proofs.Acting.{acts-read}
use Rattle.nntp_reader.proofs.field.say_field.Goals as goal

pub returns-in-Ok-clause-acts : goal.returns-in-Ok-clause-acts
returns-in-Ok-clause-acts g c = λ moment a rest held.
    let choice = c.in-Ok.ensures.value a held in
    rw (c.after.ensures, ap articles_of c.in-Single.is) (acts-read moment a c.args.group c.args.group c.args.group (Headers (Field c.args.name.now) (Single (article_of c.in-Single.article))) rest _ _ _ c.say_single.result (sym (ap is_ok choice))
    (ap (λ r. replies c.args.group (field_words a c.args.name.now r)) (sym choice)) (c.say_single.ensures.said a held))

pub returns-in-Err-clause-acts : goal.returns-in-Err-clause-acts
returns-in-Err-clause-acts g c = λ moment a rest held.
    let choice = c.in-Err.ensures.value a held in
    let command = Headers (Field c.args.name.now) (Single (article_of c.in-Single.article)) in
    rw (c.after-in-Err.ensures, ap articles_of c.in-Single.is) (acts-said refused_code a c.args.group _ _ (answered moment a c.args.group command) rest _ _ c.say_notice.result c.args.group _
    (ap (λ r. replies c.args.group (field_words a c.args.name.now r)) (sym choice)) refl c.say_notice.ensures.said)

pub returns-in-Ok-range_start-clause-acts : goal.returns-in-Ok-range_start-clause-acts
returns-in-Ok-range_start-clause-acts g c = λ moment a rest held.
    rw (ap articles_of c.in-Within.is) (c.say_range.ensures.acts moment a rest _ held (sym (c.in-Ok-range_start.ensures a held)))

pub returns-in-Ok-clause-unused : goal.returns-in-Ok-clause-unused
returns-in-Ok-clause-unused g c = λ a held none.
    let never : true ≡ false = ap is_ok (c.in-Ok.ensures.value a held) ∙ (rw c.in-Single.is at none) in
    absurd (cc never)

pub returns-in-Ok-range_start-clause-unused : goal.returns-in-Ok-range_start-clause-unused
returns-in-Ok-range_start-clause-unused g c = λ a held none.
    let never : true ≡ false = ap is_ok (c.in-Ok-range_start.ensures a held) ∙ (rw c.in-Within.is at none) in
    absurd (cc never)
