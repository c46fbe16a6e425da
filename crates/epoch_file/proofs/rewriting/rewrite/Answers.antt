-- The epoch is read, planned, and written to the other file.
use Rattle.std.proofs.Common.{◌≡◌, ℕ, List, true, Ok, Err, sym, subst}
use Rattle.std.proofs.lemmas.Result.{err_from_is_err_and}
use Rattle.disk_model.specs.BesideLaws.{run_joined}
use Rattle.disk_model.specs.Disk.{BothTold}
use Rattle.root_change.specs.declared.sources.Source.{Source}
use Rattle.root_change.specs.Gathering.{AreSources, HasSources, PutSources}
use Rattle.root_change.proofs.Others.{others_then, others_unchanged, run_looked}
use Rattle.root_change.proofs.Pushes.{sources_to}
use Rattle.epoch_file.specs.Planning.{PlansFile}
use Rattle.epoch_file.proofs.Rewritten.{never_short, plan_refused, told_back, unchanged_then, walk_refused, written_whole}
use Rattle.epoch_file.proofs.rewriting.rewrite.Goals as goal

pub put_sources-requires-clause-sources : goal.put_sources-requires-clause-sources
put_sources-requires-clause-sources g c =
    let plan = c.in_ok-plan.plan in
    subst (AreSources c.args.to) (sym c.sources.ensures) (sources_to c.args.from c.args.to plan c.requires.apart c.in_ok-plan.ensures.anew.from c.in_ok-plan.ensures.anew.valid)

pub returns-in_err-seen-clause-rewritten : goal.returns-in_err-seen-clause-rewritten
returns-in_err-seen-clause-rewritten g c =
    let content = g.D.Disk.content in
    let p = err_from_is_err_and c.from_residual.result c.from_residual.ensures.1 in
    rw (p.1, p.2) (walk_refused c.args.form c.args.from c.args.count c.args.to c.args.gone.now c.in_err-seen.field-0.0 (content c.args.disk.now) (content c.walk.new.disk) c.in_err-seen.ensures.walked c.walk.ensures.same)

pub returns-in_err-plan-clause-rewritten : goal.returns-in_err-plan-clause-rewritten
returns-in_err-plan-clause-rewritten g c =
    let content = g.D.Disk.content in
    let k = content c.args.disk.now in
    let m = content c.walk.new.disk in
    let seen = c.in_ok-seen.seen in
    let gone = c.args.gone.now in
    let refusal = c.in_err-plan.field-0.0 in
    let p = err_from_is_err_and c.from_residual-in_err-plan.result c.from_residual-in_err-plan.ensures.1 in
    rw (p.1, p.2) (plan_refused c.args.form c.args.from c.args.count c.args.to seen gone refusal k (content c.plan_file.new.disk) c.in_ok-seen.ensures.walked
    (told_back (PlansFile c.args.form c.args.from c.args.count seen gone (Err refusal)) k m c.walk.ensures.same c.in_err-plan.ensures.planned) (unchanged_then (content c.args.disk.now) (content c.walk.new.disk) (content c.plan_file.new.disk) c.walk.ensures.same c.plan_file.ensures.same))

pub returns-in_err-plan-clause-others : goal.returns-in_err-plan-clause-others
returns-in_err-plan-clause-others g c =
    let content = g.D.Disk.content in
    others_unchanged c.args.to (content c.args.disk.now) (content c.plan_file.new.disk) (unchanged_then (content c.args.disk.now) (content c.walk.new.disk) (content c.plan_file.new.disk) c.walk.ensures.same c.plan_file.ensures.same)

pub returns-in_err-plan-clause-crash_beside : goal.returns-in_err-plan-clause-crash_beside
returns-in_err-plan-clause-crash_beside g c = λ bounds far.
    let disk = c.args.disk.now in
    let d1 = c.walk.new.disk in
    let d2 = c.plan_file.new.disk in
    let looked = run_joined g.D.Disk bounds disk d1 d2 (run_looked g.D.Disk bounds disk d1 c.walk.ensures.crash c.walk.ensures.same)
    (run_looked g.D.Disk bounds d1 d2 c.plan_file.ensures.crash c.plan_file.ensures.same) in
    looked

pub returns-in_err-whole-clause-others : goal.returns-in_err-whole-clause-others
returns-in_err-whole-clause-others g c =
    let content = g.D.Disk.content in
    others_then c.args.to (content c.args.disk.now) (content c.plan_file.new.disk) (content c.put_sources.new.disk) (others_unchanged c.args.to (content c.args.disk.now) (content c.plan_file.new.disk) (unchanged_then (content c.args.disk.now) (content c.walk.new.disk) (content c.plan_file.new.disk) c.walk.ensures.same c.plan_file.ensures.same)) c.put_sources.ensures.others

pub returns-in_err-whole-clause-crash_beside : goal.returns-in_err-whole-clause-crash_beside
returns-in_err-whole-clause-crash_beside g c = λ bounds far.
    let disk = c.args.disk.now in
    let d1 = c.walk.new.disk in
    let d2 = c.plan_file.new.disk in
    let looked = run_joined g.D.Disk bounds disk d1 d2 (run_looked g.D.Disk bounds disk d1 c.walk.ensures.crash c.walk.ensures.same)
    (run_looked g.D.Disk bounds d1 d2 c.plan_file.ensures.crash c.plan_file.ensures.same) in
    run_joined g.D.Disk bounds disk d2 c.put_sources.new.disk looked (c.put_sources.ensures.crash_beside bounds far)

pub returns-then-not-whole-clause-others : goal.returns-then-not-whole-clause-others
returns-then-not-whole-clause-others g c =
    let content = g.D.Disk.content in
    others_then c.args.to (content c.args.disk.now) (content c.plan_file.new.disk) (content c.put_sources.new.disk) (others_unchanged c.args.to (content c.args.disk.now) (content c.plan_file.new.disk) (unchanged_then (content c.args.disk.now) (content c.walk.new.disk) (content c.plan_file.new.disk) c.walk.ensures.same c.plan_file.ensures.same)) c.put_sources.ensures.others

pub returns-then-not-whole-clause-crash_beside : goal.returns-then-not-whole-clause-crash_beside
returns-then-not-whole-clause-crash_beside g c = λ bounds far.
    let disk = c.args.disk.now in
    let d1 = c.walk.new.disk in
    let d2 = c.plan_file.new.disk in
    let looked = run_joined g.D.Disk bounds disk d1 d2 (run_looked g.D.Disk bounds disk d1 c.walk.ensures.crash c.walk.ensures.same)
    (run_looked g.D.Disk bounds d1 d2 c.plan_file.ensures.crash c.plan_file.ensures.same) in
    run_joined g.D.Disk bounds disk d2 c.put_sources.new.disk looked (c.put_sources.ensures.crash_beside bounds far)

pub returns-clause-others : goal.returns-clause-others
returns-clause-others g c =
    let content = g.D.Disk.content in
    others_then c.args.to (content c.args.disk.now) (content c.plan_file.new.disk) (content c.put_sources.new.disk) (others_unchanged c.args.to (content c.args.disk.now) (content c.plan_file.new.disk) (unchanged_then (content c.args.disk.now) (content c.walk.new.disk) (content c.plan_file.new.disk) c.walk.ensures.same c.plan_file.ensures.same)) c.put_sources.ensures.others

pub returns-clause-crash_beside : goal.returns-clause-crash_beside
returns-clause-crash_beside g c = λ bounds far.
    let disk = c.args.disk.now in
    let d1 = c.walk.new.disk in
    let d2 = c.plan_file.new.disk in
    let looked = run_joined g.D.Disk bounds disk d1 d2 (run_looked g.D.Disk bounds disk d1 c.walk.ensures.crash c.walk.ensures.same)
    (run_looked g.D.Disk bounds d1 d2 c.plan_file.ensures.crash c.plan_file.ensures.same) in
    run_joined g.D.Disk bounds disk d2 c.put_sources.new.disk looked (c.put_sources.ensures.crash_beside bounds far)

pub returns-then-not-whole-clause-rewritten : goal.returns-then-not-whole-clause-rewritten
returns-then-not-whole-clause-rewritten g c =
    let content = g.D.Disk.content in
    let plan = c.in_ok-plan.plan in
    let seen = c.in_ok-seen.seen in
    let gone = c.args.gone.now in
    let k = content c.args.disk.now in
    let m = content c.plan_file.new.disk in
    let all = subst (λ (bytes : List ℕ). HasSources bytes m plan.sources → c.in_ok-whole.whole ≡ true) c.bytes.ensures
    (subst (λ (sources : List Source). HasSources c.bytes.result.now m sources → c.in_ok-whole.whole ≡ true) c.sources.ensures c.in_ok-whole.ensures.whole) in
    never_short c.args.form c.args.from c.args.count c.args.to seen gone _ plan c.in_ok-whole.whole k m (content c.put_sources.new.disk) c.in_ok-seen.ensures.walked
    (told_back (PlansFile c.args.form c.args.from c.args.count seen gone (Ok plan)) k (content c.walk.new.disk) c.walk.ensures.same c.in_ok-plan.ensures.planned) (unchanged_then (content c.args.disk.now) (content c.walk.new.disk) (content c.plan_file.new.disk) c.walk.ensures.same c.plan_file.ensures.same) c.put_sources.ensures.others all c.if-not-whole.true

pub returns-clause-rewritten : goal.returns-clause-rewritten
returns-clause-rewritten g c =
    let content = g.D.Disk.content in
    let plan = c.in_ok-plan.plan in
    let seen = c.in_ok-seen.seen in
    let gone = c.args.gone.now in
    let k = content c.args.disk.now in
    let m = content c.plan_file.new.disk in
    let o = content c.put_sources.new.disk in
    let put = subst (λ (bytes : List ℕ). BothTold (PutSources bytes plan.sources c.args.to 0) m o) c.bytes.ensures
    (subst (λ (sources : List Source). BothTold (PutSources c.bytes.result.now sources c.args.to 0) m o) c.sources.ensures (c.in_ok-whole.ensures.put c.if-not-whole.false)) in
    written_whole c.args.form c.args.from c.args.count c.args.to seen gone plan c.count.result k m o c.in_ok-seen.ensures.walked
    (told_back (PlansFile c.args.form c.args.from c.args.count seen gone (Ok plan)) k (content c.walk.new.disk) c.walk.ensures.same c.in_ok-plan.ensures.planned) c.count.ensures.count (unchanged_then (content c.args.disk.now) (content c.walk.new.disk) (content c.plan_file.new.disk) c.walk.ensures.same c.plan_file.ensures.same) put
