use Rattle.std.proofs.Common.{◌∙◌, refl, sym, ap}
use Rattle.shelf_doors.specs.Mailboxes.{mailbox_named}
use Rattle.imap_states.specs.Notices.{no_mailbox_line}
use Rattle.imap_states.specs.Replies.{mistaken, status_reply, status_by, status_at}
use Rattle.imap_states.specs.States.{is_logged_out}
use Rattle.imap_states.proofs.Acting.{acts-as, acts-said, when_not}
use Rattle.imap_states.proofs.status.say_status.Goals as goal

pub returns-in-Some-clause-acts : goal.returns-in-Some-clause-acts
returns-in-Some-clause-acts g c = λ a disk held suits.
    let s = c.args.state.now in
    let tag = c.args.tag.now in
    let items = c.args.items.now in
    let found = c.in-Some.ensures.found a held suits.valid in
    acts-as a s tag (status_reply a s tag c.args.mailbox.now items) _ _ c.say_box.result (status_at a s tag items c.in-Some.found.index c.in-Some.found.range) _
    (when_not (is_logged_out s.place) (mistaken a s tag) (status_by a s tag items (mailbox_named a c.args.mailbox.now)) (sym c.is_logged_out.ensures ∙ c.if-is_logged_out.false)
    ∙ ap (status_by a s tag items) found.named ∙ ap (status_at a s tag items c.in-Some.found.index) (sym found.range))
    (c.say_box.ensures.acts a disk held suits)
