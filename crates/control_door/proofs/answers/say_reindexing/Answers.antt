use Rattle.std.proofs.Common.{None, inl, inr}
use Rattle.arch_model.specs.KeeperRecord.{keeper}
use Rattle.arch_model.specs.Standing.{standing}
use Rattle.arch_model.proofs.Keepers.{fits-held}
use Rattle.control_door.proofs.Answering.{acts-reindexed, acts-unindexed}
use Rattle.control_door.proofs.answers.say_reindexing.Goals as goal

pub returns-in-Ok-clause-acts : goal.returns-in-Ok-clause-acts
returns-in-Ok-clause-acts g c = λ moment a rest held.
    let found = c.in-Ok.ensures.found (standing a None) (fits-held (keeper g.K.Shelf g.K.Keep) g.met.K.Keep.holds_files_are g.met.K.Keep.holds_left c.args.keep.now a held) in
    let said = acts-reindexed moment a rest found.0 c.in-Ok.live _ _ c.say_reindexed.result found.2 found.3 c.in-Ok.ensures.cause c.say_reindexed.ensures.said in
    (found.0, found.1, said.0, inl (found.4, c.in-Ok.ensures.ready, said.1))

pub returns-in-Err-clause-acts : goal.returns-in-Err-clause-acts
returns-in-Err-clause-acts g c = λ moment a rest held.
    let still = c.in-Err.ensures.found (standing a None) (fits-held (keeper g.K.Shelf g.K.Keep) g.met.K.Keep.holds_files_are g.met.K.Keep.holds_left c.args.keep.now a held) in
    let said = acts-unindexed moment a rest still.0 c.in-Err.refusal _ _ c.say_unopened.result still.2 c.in-Err.ensures.cause c.in-Err.ensures.later c.say_unopened.ensures.said in
    (still.0, still.1, said.0, inr (c.in-Err.ensures.ready, said.1))
