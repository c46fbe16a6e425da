use Rattle.std.proofs.Common.{◌++◌, [], refl, sym, ap, List, ℕ, append-nil}
use Rattle.line_door.specs.Making.{says}
use Rattle.imap_states.specs.Replies.{updated}
use Rattle.imap_states.specs.States.{change_lines, place_lines}
use Rattle.imap_states.proofs.Acting.{acts-bye, acts-told}
use Rattle.imap_states.proofs.idling.tell.Goals as goal

pub returns-in-Err-clause-acts : goal.returns-in-Err-clause-acts
returns-in-Err-clause-acts g c = λ a disk held suits.
    let s = c.args.state.now in
    acts-bye a (says a (updated a s) (place_lines a s.place)) _ _ c.say_bye_memory.result refl c.say_bye_memory.ensures.said

pub returns-in-Ok-clause-acts : goal.returns-in-Ok-clause-acts
returns-in-Ok-clause-acts g c = λ a disk held suits.
    let s = c.args.state.now in
    rw c.after.ensures (acts-told a s (says a (updated a s) (place_lines a s.place)) _ _ c.say_changes.result refl c.find_changes.new.place s.idle (change_lines c.in-Ok.changes) []
    (c.in-Ok.ensures.told a held suits.place) (c.in-Ok.ensures.now a held suits.place) (ap (λ (w : List ℕ). says a (updated a s) w) (sym (append-nil (place_lines a s.place)))) c.say_changes.ensures.said)
