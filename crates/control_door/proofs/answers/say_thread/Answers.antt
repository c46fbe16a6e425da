use Rattle.std.proofs.Common.{◌∙◌, None, Some, refl}
use Rattle.arch_model.specs.Archives.{live, text_of}
use Rattle.arch_model.specs.Standing.{standing}
use Rattle.control_door.proofs.Answering.{acts-threaded, acts-unthreaded, none-found, some-found}
use Rattle.control_door.proofs.answers.say_thread.Goals as goal

pub returns-then-not-is_live-clause-acts : goal.returns-then-not-is_live-clause-acts
returns-then-not-is_live-clause-acts g c = λ moment a rest held.
    acts-threaded moment (standing a None) c.args.number None rest _ _ _ (none-found (text_of (live a.entries) c.args.number) (c.is_live.ensures a held ∙ c.if-not-is_live.true)) refl c.say_not_live.ensures.said

pub returns-in-Ok-clause-acts : goal.returns-in-Ok-clause-acts
returns-in-Ok-clause-acts g c = λ moment a rest held.
    let found = some-found (text_of (live a.entries) c.args.number) (c.is_live.ensures a held ∙ c.if-not-is_live.false) in
    acts-threaded moment (standing a None) c.args.number (Some found.0) rest _ _ _ found.1 refl (rw (c.as_slice.ensures ∙ c.in-Ok.ensures a held) at c.say.ensures.said)

pub returns-in-Err-clause-acts : goal.returns-in-Err-clause-acts
returns-in-Err-clause-acts g c = λ moment a rest held. acts-unthreaded moment (standing a None) c.args.number rest _ _ _ refl c.say_memory.ensures.said
