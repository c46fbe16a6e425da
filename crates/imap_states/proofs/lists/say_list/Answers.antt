use Rattle.std.proofs.Common.{◌∙◌, refl, sym}
use Rattle.imap_states.specs.Lists.{listing}
use Rattle.imap_states.specs.Replies.{mistaken, completed, list_reply}
use Rattle.imap_states.specs.States.{is_logged_out, change_lines}
use Rattle.imap_states.proofs.Acting.{acts-starved_at, acts-completed, when_not}
use Rattle.imap_states.proofs.lists.say_list.Goals as goal

pub returns-in-Err-clause-acts : goal.returns-in-Err-clause-acts
returns-in-Err-clause-acts g c = λ a disk held suits.
    let s = c.args.state.now in
    let l = c.args.listed.now in
    acts-starved_at a s l.tag.now (list_reply a s l.tag.now l.name.now l.reference.now l.pattern.now) _ _ c.say_no_memory.result refl c.find_changes.new.place c.in-Err.ensures.err c.say_no_memory.ensures.said

pub returns-in-Ok-clause-acts : goal.returns-in-Ok-clause-acts
returns-in-Ok-clause-acts g c = λ a disk held suits.
    let s = c.args.state.now in
    let l = c.args.listed.now in
    let own = listing a l.name.now l.reference.now l.pattern.now in
    acts-completed a s l.tag.now (list_reply a s l.tag.now l.name.now l.reference.now l.pattern.now) _ _ c.say_listing.result refl c.find_changes.new.place own l.name.now (change_lines c.in-Ok.changes)
    (c.in-Ok.ensures.told a held suits.place) (c.in-Ok.ensures.now a held suits.place)
    (when_not (is_logged_out s.place) (mistaken a s l.tag.now) (completed a s own l.tag.now l.name.now) (sym c.is_logged_out.ensures ∙ c.if-is_logged_out.false))
    (c.say_listing.ensures.said a held)
