use Rattle.std.proofs.Common.{◌≡◌, ◌∙◌, [], sym, codes, true, rules}
use Rattle.imap_states.specs.Replies.{mistaken, completed, check_reply}
use Rattle.imap_states.specs.States.{is_selected}
use Rattle.imap_states.proofs.Acting.{acts-as, when}
use Rattle.imap_states.proofs.answers.say_check.Goals as goal

pub returns-clause-acts : goal.returns-clause-acts
returns-clause-acts g c = λ a disk held suits.
    let s = c.args.state.now in
    let tag = c.args.tag.now in
    let chosen : c.is_selected.result ≡ true = search rules in
    acts-as a s tag (check_reply a s tag) _ _ c.complete.result (completed a s [] tag (codes "CHECK")) _
    (when (is_selected s.place) (completed a s [] tag (codes "CHECK")) (mistaken a s tag) (sym c.is_selected.ensures ∙ chosen))
    (c.complete.ensures.acts a disk held suits)
