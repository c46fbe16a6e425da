use Rattle.std.proofs.Common.{refl}
use Rattle.imap_states.specs.Replies.{completed}
use Rattle.imap_states.specs.States.{change_lines}
use Rattle.imap_states.proofs.Acting.{acts-starved_at, acts-completed}
use Rattle.imap_states.proofs.answers.complete.Goals as goal

pub returns-in-Err-clause-acts : goal.returns-in-Err-clause-acts
returns-in-Err-clause-acts g c = λ a disk held suits.
    let s = c.args.state.now in
    acts-starved_at a s c.args.tag.now (completed a s c.args.own.now c.args.tag.now c.args.name.now) _ _ c.say_no_memory.result refl c.find_changes.new.place c.in-Err.ensures.err c.say_no_memory.ensures.said

pub returns-in-Ok-clause-acts : goal.returns-in-Ok-clause-acts
returns-in-Ok-clause-acts g c = λ a disk held suits.
    let s = c.args.state.now in
    acts-completed a s c.args.tag.now (completed a s c.args.own.now c.args.tag.now c.args.name.now) _ _ c.say_completed.result refl c.find_changes.new.place c.args.own.now c.args.name.now (change_lines c.in-Ok.changes)
    (c.in-Ok.ensures.told a held suits.place) (c.in-Ok.ensures.now a held suits.place) refl c.say_completed.ensures.said
