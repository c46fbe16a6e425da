-- It is reopened first, if it has to be.
use Rattle.std.proofs.Common.{Ok, Err, refl}
use Rattle.std.proofs.lemmas.Bool.{false≢true}
use Rattle.epoch_store.specs.declared.convert_refusal.ConvertRefusal.TheVariants as refusal
use Rattle.archive_core.proofs.Converted.{answers_after, answers_unopened}
use Rattle.archive_core.proofs.engine.Engine.convert.Goals as goal

pub returns-in-Ok-clause-answers : goal.returns-in-Ok-clause-answers
returns-in-Ok-clause-answers g c = answers_after g.D.Disk c.args.self.now c.fresh.new.self c.convert_ready.new.self (Ok tt) c.convert_ready.result (λ ready. (c.in-Ok.ensures.nothing ready).1) c.in-Ok.ensures.opened refl c.convert_ready.ensures.converts

pub returns-in-Err-clause-answers : goal.returns-in-Err-clause-answers
returns-in-Err-clause-answers g c = answers_unopened g.D.Disk c.args.self.now c.fresh.new.self (Err c.in-Err.why) c.in-Err.why (Err (refusal.Open c.in-Err.why)) (λ ready. absurd (false≢true (c.in-Err.ensures.nothing ready).0)) c.in-Err.ensures.opened refl refl
