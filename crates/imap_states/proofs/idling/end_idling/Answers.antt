use Rattle.std.proofs.Common.{◌++◌, ℕ, List, refl, sym, ap, None}
use Rattle.line_door.specs.Making.{says}
use Rattle.imap_states.specs.Replies.{idle_ended, end_line}
use Rattle.imap_states.specs.States.{state_of, change_lines, place_lines, place_now}
use Rattle.imap_states.proofs.Acting.{acts-bye, acts-told}
use Rattle.imap_states.proofs.idling.end_idling.Goals as goal

pub returns-in-Err-clause-acts : goal.returns-in-Err-clause-acts
returns-in-Err-clause-acts g c = λ a disk held suits.
    acts-bye a (idle_ended a c.args.state.now c.args.tag.now c.args.done) _ _ c.say_bye_memory.result refl c.say_bye_memory.ensures.said

pub returns-in-Ok-clause-acts : goal.returns-in-Ok-clause-acts
returns-in-Ok-clause-acts g c = λ a disk held suits.
    let s = c.args.state.now in
    rw c.after.ensures (acts-told a s (idle_ended a s c.args.tag.now c.args.done) _ _ c.say_ended.result refl c.find_changes.new.place None (change_lines c.in-Ok.changes) (end_line c.as_slice.result.now c.args.done)
    (c.in-Ok.ensures.told a held suits.place) (c.in-Ok.ensures.now a held suits.place)
    (ap (λ (t : List ℕ). says a (state_of (place_now a s.place) None) (place_lines a s.place ++ end_line t c.args.done)) (sym c.as_slice.ensures)) c.say_ended.ensures.said)
