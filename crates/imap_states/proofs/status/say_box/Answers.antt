use Rattle.std.proofs.Common.{refl, codes}
use Rattle.imap_states.specs.Boxes.{status_line}
use Rattle.imap_states.specs.Replies.{status_at}
use Rattle.imap_states.specs.States.{change_lines}
use Rattle.imap_states.proofs.Acting.{acts-starved_at, acts-completed}
use Rattle.imap_states.proofs.status.say_box.Goals as goal

pub returns-in-Err-clause-acts : goal.returns-in-Err-clause-acts
returns-in-Err-clause-acts g c = λ a disk held suits.
    let s = c.args.state.now in
    acts-starved_at a s c.args.tag.now (status_at a s c.args.tag.now c.args.items.now c.args.mailbox.index c.args.mailbox.range) _ _ c.say_no_memory.result refl c.find_changes.new.place c.in-Err.ensures.err c.say_no_memory.ensures.said

pub returns-in-Ok-clause-acts : goal.returns-in-Ok-clause-acts
returns-in-Ok-clause-acts g c = λ a disk held suits.
    let s = c.args.state.now in
    acts-completed a s c.args.tag.now (status_at a s c.args.tag.now c.args.items.now c.args.mailbox.index c.args.mailbox.range) _ _ c.say_items.result refl c.find_changes.new.place (status_line a c.args.mailbox.index c.args.mailbox.range c.args.items.now) (codes "STATUS") (change_lines c.in-Ok.changes)
    (c.in-Ok.ensures.told a held suits.place) (c.in-Ok.ensures.now a held suits.place) refl (c.say_items.ensures.said a held suits.valid)
