-- The map is read, planned, and written to the other file.
use Rattle.std.proofs.Common.{◌≡◌, ℕ, List, true, sym, subst}
use Rattle.std.proofs.lemmas.Result.{err_from_is_err_and}
use Rattle.disk_model.specs.BesideLaws.{run_joined}
use Rattle.disk_model.specs.Disk.{BothTold}
use Rattle.root_change.specs.declared.sources.Source.{Source}
use Rattle.root_change.specs.Gathering.{AreSources, HasSources, PutSources}
use Rattle.root_change.proofs.Others.{run_looked}
use Rattle.root_change.proofs.Pushes.{sources_to}
use Rattle.number_map.proofs.Rewritten.{never_short, rewritten, walk_refused}
use Rattle.number_map.proofs.rewriting.rewrite.Goals as goal

pub put_sources-requires-clause-sources : goal.put_sources-requires-clause-sources
put_sources-requires-clause-sources g c =
    let plan = c.in_ok-plan.plan in
    subst (AreSources c.args.to) (sym c.sources.ensures) (sources_to c.args.from c.args.to plan c.requires.apart c.in_ok-plan.ensures.from c.in_ok-plan.ensures.valid)

pub returns-then-not-whole-clause-crash_beside : goal.returns-then-not-whole-clause-crash_beside
returns-then-not-whole-clause-crash_beside g c = λ bounds far.
    let disk = c.args.disk.now in
    let looked = run_looked g.D.Disk bounds disk c.walk.new.disk c.walk.ensures.crash c.walk.ensures.same in
    run_joined g.D.Disk bounds disk c.walk.new.disk c.put_sources.new.disk looked (c.put_sources.ensures.crash_beside bounds far)

pub returns-clause-crash_beside : goal.returns-clause-crash_beside
returns-clause-crash_beside g c = λ bounds far.
    let disk = c.args.disk.now in
    let looked = run_looked g.D.Disk bounds disk c.walk.new.disk c.walk.ensures.crash c.walk.ensures.same in
    run_joined g.D.Disk bounds disk c.walk.new.disk c.put_sources.new.disk looked (c.put_sources.ensures.crash_beside bounds far)

pub returns-clause-rewritten : goal.returns-clause-rewritten
returns-clause-rewritten g c =
    let content = g.D.Disk.content in
    let plan = c.in_ok-plan.plan in
    let k = content c.args.disk.now in
    let m = content c.walk.new.disk in
    let o = content c.put_sources.new.disk in
    let put = subst (λ (bytes : List ℕ). BothTold (PutSources bytes plan.sources c.args.to 0) m o) c.bytes.ensures
    (subst (λ (sources : List Source). BothTold (PutSources c.bytes.result.now sources c.args.to 0) m o) c.sources.ensures (c.in_ok-whole.ensures.put c.if-not-whole.false)) in
    rewritten c.args.form c.args.from c.args.count c.args.to c.args.gone.now plan c.in_ok-walk.field-0 k m o c.in_ok-walk.ensures.walked c.in_ok-plan.ensures c.walk.ensures.same put

pub returns-in_err-walk-clause-rewritten : goal.returns-in_err-walk-clause-rewritten
returns-in_err-walk-clause-rewritten g c =
    let content = g.D.Disk.content in
    let p = err_from_is_err_and c.from_residual.result c.from_residual.ensures.1 in
    rw (p.1, p.2) (walk_refused c.args.form c.args.from c.args.count c.args.to c.args.gone.now c.in_err-walk.field-0.0 (content c.args.disk.now) (content c.walk.new.disk) c.in_err-walk.ensures.walked c.walk.ensures.same)

pub returns-then-not-whole-clause-rewritten : goal.returns-then-not-whole-clause-rewritten
returns-then-not-whole-clause-rewritten g c =
    let content = g.D.Disk.content in
    let plan = c.in_ok-plan.plan in
    let m = content c.walk.new.disk in
    let all = subst (λ (bytes : List ℕ). HasSources bytes m plan.sources → c.in_ok-whole.whole ≡ true) c.bytes.ensures
    (subst (λ (sources : List Source). HasSources c.bytes.result.now m sources → c.in_ok-whole.whole ≡ true) c.sources.ensures c.in_ok-whole.ensures.whole) in
    never_short c.args.form c.args.from c.args.count c.args.to c.args.gone.now _ plan c.in_ok-walk.field-0 c.in_ok-whole.whole (content c.args.disk.now) m (content c.put_sources.new.disk) c.in_ok-walk.ensures.walked c.in_ok-plan.ensures c.walk.ensures.same c.put_sources.ensures.others all c.if-not-whole.true
