use Rattle.std.proofs.Common.{◌++◌}
use Rattle.imap_states.specs.Lists.{listing}
use Rattle.imap_states.specs.Notices.{done_line}
use Rattle.imap_states.specs.States.{change_lines}
use Rattle.imap_states.proofs.Lines.{two-said, two-failed}
use Rattle.imap_states.proofs.lists.say_listing.Goals as goal

pub returns-in_err-push_listing-clause-said : goal.returns-in_err-push_listing-clause-said
returns-in_err-push_listing-clause-said g c = λ a held.
    let l = c.args.listed.now in
    two-failed (listing a l.name.now l.reference.now l.pattern.now) (change_lines c.args.changes.now ++ done_line l.tag.now l.name.now) c.new-reply.result c.new-reply.ensures _ _ _ _ _ c.from_residual.result c.from_residual.ensures.0 (c.in_err-push_listing.ensures.said a held)

pub returns-clause-said : goal.returns-clause-said
returns-clause-said g c = λ a held.
    let l = c.args.listed.now in
    two-said (listing a l.name.now l.reference.now l.pattern.now) (change_lines c.args.changes.now ++ done_line l.tag.now l.name.now) c.new-reply.result c.new-reply.ensures _ _ c.push_listing.new.reply _ _ _ _ _ c.finish_told.result (c.in_ok-push_listing.ensures.said a held) c.finish_told.ensures.said
