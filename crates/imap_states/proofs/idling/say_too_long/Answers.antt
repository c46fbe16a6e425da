use Rattle.std.proofs.Common.{◌≡◌, ◌∙◌, refl, sym, true, false, rules}
use Rattle.imap_states.specs.States.{change_lines, idles}
use Rattle.imap_states.proofs.Acting.{excess-plain, excess-told, excess-memory}
use Rattle.imap_states.proofs.idling.say_too_long.Goals as goal

pub returns-then-not-is_idle-clause-acts : goal.returns-then-not-is_idle-clause-acts
returns-then-not-is_idle-clause-acts g c = λ a disk held suits.
    let awake : c.is_idle.result ≡ false = search rules in
    excess-plain a c.args.state.now _ _ c.say.result refl (sym c.is_idle.ensures ∙ awake) c.say.ensures.said

pub returns-in-Err-clause-acts : goal.returns-in-Err-clause-acts
returns-in-Err-clause-acts g c = λ a disk held suits.
    let idle : c.is_idle.result ≡ true = search rules in
    excess-memory a c.args.state.now _ _ c.say_bye_memory.result refl (sym c.is_idle.ensures ∙ idle) c.say_bye_memory.ensures.said

pub returns-in-Ok-clause-acts : goal.returns-in-Ok-clause-acts
returns-in-Ok-clause-acts g c = λ a disk held suits.
    let idle : c.is_idle.result ≡ true = search rules in
    excess-told a c.args.state.now _ _ c.say_changes.result refl (change_lines c.in-Ok.changes) (sym c.is_idle.ensures ∙ idle) (c.in-Ok.ensures.told a held suits.place) c.say_changes.ensures.said
