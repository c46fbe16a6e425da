use Rattle.std.proofs.Common.{◌∙◌, ◌++◌, List, ℕ, ap}
use Rattle.arch_model.specs.Archives.{live}
use Rattle.http_front.specs.Views.{shown_row, shown_text}
use Rattle.http_front.proofs.Feeds.{appends-read, unread-undamaged}
use Rattle.http_front.proofs.feed.push_live.Goals as goal

pub returns-in-Ok-push_read-clause-entry : goal.returns-in-Ok-push_read-clause-entry
returns-in-Ok-push_read-clause-entry g c = λ a held.
    let text = c.in-Ok.ensures.text a held in
    appends-read a.config.name (shown_row a c.args.n) (shown_text a.entries c.args.n) c.as_slice.result.now text.0 c.args.into.now c.push_read.new.into text.1 (c.as_slice.ensures ∙ text.2 ∙ ap (λ (t : List ℕ). t ++ text.0) c.new-text.ensures)
    (c.in-Ok-push_read.ensures a (c.in-Ok.ensures.shelf.kept a held))

pub returns-clause-entry : goal.returns-clause-entry
returns-clause-entry g c = λ a held. unread-undamaged (live a.entries) c.args.n c.new-text.result c.text.new.into c.in-Err.refusal (c.in-Err.ensures.text a held)
