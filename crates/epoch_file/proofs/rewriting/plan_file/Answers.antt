-- The plan without the entries, or that of the whole file.
use Rattle.std.proofs.Common.{Ok, Option, subst}
use Rattle.disk_model.specs.Disk.{WhereTold}
use Rattle.root_change.specs.Rewriting.{Plan}
use Rattle.epoch_file.specs.Planning.{PlansWhole}
use Rattle.epoch_file.proofs.Rewritten.{file_changed, file_refused, file_same}
use Rattle.epoch_file.proofs.rewriting.plan_file.Goals as goal

pub returns-in-Err-clause-planned : goal.returns-in-Err-clause-planned
returns-in-Err-clause-planned g c = file_refused c.args.form c.args.from c.args.count c.args.seen.now c.args.gone.now c.in-Err.refusal (g.D.Disk.content c.args.disk.now) c.in-Err.ensures.planned

pub returns-in-Ok-Some-clause-planned : goal.returns-in-Ok-Some-clause-planned
returns-in-Ok-Some-clause-planned g c =
    let k = g.D.Disk.content c.args.disk.now in
    file_changed c.args.form c.args.from c.args.count c.args.seen.now c.args.gone.now c.in-Ok-Some.plan k
    (subst (λ (o : Option Plan). WhereTold (PlansWhole c.args.form c.args.from c.args.seen.now c.args.gone.now (Ok o)) k) c.in-Ok-Some.field-0-is c.in-Ok-Some.ensures.planned)

pub returns-in_ok-whole_copy-in-Ok-None-clause-planned : goal.returns-in_ok-whole_copy-in-Ok-None-clause-planned
returns-in_ok-whole_copy-in-Ok-None-clause-planned g c =
    let k = g.D.Disk.content c.args.disk.now in
    file_same c.args.form c.args.from c.args.count c.args.seen.now c.args.gone.now c.in_ok-whole_copy-in-Ok-None.field-0 k c.in_ok-whole_copy-in-Ok-None.ensures.copy
    (subst (λ (o : Option Plan). WhereTold (PlansWhole c.args.form c.args.from c.args.seen.now c.args.gone.now (Ok o)) k) c.in-Ok-None.field-0-is c.in-Ok-None.ensures.planned)
