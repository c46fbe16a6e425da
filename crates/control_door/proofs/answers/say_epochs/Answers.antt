use Rattle.std.proofs.Common.{◌∙◌, None, refl}
use Rattle.arch_model.specs.Standing.{standing}
use Rattle.control_door.specs.Requests.{Lists}
use Rattle.control_door.proofs.Answering.{acts-listed, acts-unread}
use Rattle.control_door.proofs.answers.say_epochs.Goals as goal

pub returns-in-Ok-clause-acts : goal.returns-in-Ok-clause-acts
returns-in-Ok-clause-acts g c = λ moment a rest held.
    acts-listed moment (standing a None) rest _ _ _ c.in-Ok.ensures.cause (rw (c.as_slice.ensures ∙ c.in-Ok.ensures.words a held) at c.say.ensures.said)

pub returns-in-Err-clause-acts : goal.returns-in-Err-clause-acts
returns-in-Err-clause-acts g c = λ moment a rest held.
    acts-unread moment (standing a None) Lists rest _ _ _ c.in-Err.refusal refl refl (c.in-Err.ensures.words a held) c.in-Err.ensures.cause c.epochs_of.ensures.shelf.later c.say_unread.ensures.said
