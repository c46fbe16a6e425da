use Rattle.std.proofs.Common.{◌∙◌, sym, ap}
use Rattle.shelf_doors.specs.Mailboxes.{mailbox_named}
use Rattle.imap_states.specs.Replies.{mistaken, select_reply, select_by, select_at}
use Rattle.imap_states.specs.States.{is_logged_out}
use Rattle.imap_states.proofs.Acting.{acts-as, when_not}
use Rattle.imap_states.proofs.selecting.say_select.Goals as goal

pub returns-in-Some-clause-acts : goal.returns-in-Some-clause-acts
returns-in-Some-clause-acts g c = λ a disk held suits.
    let s = c.args.state.now in
    let tag = c.args.tag.now in
    let name = c.args.name.now in
    let found = c.in-Some.ensures.found a held suits.valid in
    acts-as a s tag (select_reply a s tag name c.args.mailbox.now) _ _ c.select.result (select_at a s tag name c.in-Some.found.range) _
    (when_not (is_logged_out s.place) (mistaken a s tag) (select_by a s tag name (mailbox_named a c.args.mailbox.now)) (sym c.is_logged_out.ensures ∙ c.if-is_logged_out.false)
    ∙ ap (select_by a s tag name) found.named ∙ ap (select_at a s tag name) (sym found.range))
    (c.select.ensures.acts a disk held)
