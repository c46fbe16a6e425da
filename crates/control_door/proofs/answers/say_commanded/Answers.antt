use Rattle.std.proofs.Common.{None}
use Rattle.arch_model.specs.KeeperRecord.{keeper}
use Rattle.arch_model.specs.Standing.{standing}
use Rattle.arch_model.proofs.Keepers.{fits-held}
use Rattle.control_door.proofs.Answering.{commanded-does, acts-commanded}
use Rattle.control_door.proofs.Counting.{meets-command}
use Rattle.control_door.proofs.answers.say_commanded.Goals as goal

pub returns-clause-acts : goal.returns-clause-acts
returns-clause-acts g c = λ a rest held.
    let done = c.command-answer.ensures.done (standing a None) (fits-held (keeper g.K.Shelf g.K.Keep) g.met.K.Keep.holds_files_are g.met.K.Keep.holds_left c.args.keep.now a held) in
    let said = acts-commanded c.args.moment a c.args.command.now rest done.0 c.command-answer.result _ _ c.say_answer.result (rw c.requires.ready at done.2) c.command-answer.ensures.cause c.command-answer.ensures.later c.say_answer.ensures.said in
    (done.0, done.1, said.0, commanded-does (keeper g.K.Shelf g.K.Keep) c.args.moment a c.args.command.now _ c.args.keep.now _ _ _ _ _ (record { reply = c.command-answer.result; gives = done.2; taken = done.3; ready = c.command-answer.ensures.ready; cause = c.command-answer.ensures.cause; said = said.1 }))

pub returns-clause-reads : goal.returns-clause-reads
returns-clause-reads g c = meets-command c.args.command.now _ _ _ (c.command-answer.ensures.reads c.requires.ready)
