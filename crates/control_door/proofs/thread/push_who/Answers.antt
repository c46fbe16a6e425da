use Rattle.std.proofs.Common.{◌++◌, ◌∷◌, ◌∙◌, ℕ, List, decimal, ap}
use Rattle.control_door.specs.Threads.{id_of}
use Rattle.arch_model.specs.Archives.{live}
use Rattle.control_door.proofs.Answering.{on-weaker, own-id}
use Rattle.control_door.proofs.thread.push_who.Goals as goal

pub returns-in-Live : goal.returns-in-Live
returns-in-Live g c = λ a held. rw c.in-Live.is
    (on-weaker c.push_live.result _ _ (λ is. is ∙ ap (λ (id : List ℕ). c.args.into.now ++ (decimal c.in-Live.number ++ 32 ∷ id)) (ap id_of (c.row.ensures a held) ∙ own-id a.config.form (live a.entries) c.in-Live.number)) c.push_live.ensures)
