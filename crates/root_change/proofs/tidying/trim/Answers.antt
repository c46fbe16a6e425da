-- One step for the length, and one for the cut.
use Rattle.std.proofs.Common.{arith}
use Rattle.std.proofs.lemmas.Result.{on_ok_weaker}
use Rattle.disk_model.specs.BesideLaws.{cut_told, run_on, run_unchanged}
use Rattle.root_change.proofs.Tidies.{short_told, trimmed_told, inside_told}
use Rattle.root_change.proofs.tidying.trim.Goals as goal

pub returns-in_err-size-clause-crash_beside : goal.returns-in_err-size-clause-crash_beside
returns-in_err-size-clause-crash_beside g c = λ bounds far.
    let disk = c.args.disk.now in
    run_unchanged g.D.Disk bounds disk c.length.new.self (g.met.D.Disk.only_now disk) c.length.ensures.time c.length.ensures.same

pub returns-then-size-length-clause-crash_beside : goal.returns-then-size-length-clause-crash_beside
returns-then-size-length-clause-crash_beside g c = λ bounds far.
    let disk = c.args.disk.now in
    run_unchanged g.D.Disk bounds disk c.length.new.self (g.met.D.Disk.only_now disk) c.length.ensures.time c.length.ensures.same

pub returns-then-size-length-clause-trimmed : goal.returns-then-size-length-clause-trimmed
returns-then-size-length-clause-trimmed g c =
    short_told c.args.name c.in_ok-size.size c.args.length (g.D.Disk.content c.args.disk.now) (g.D.Disk.content c.length.new.self) (omega arith) c.in_ok-size.ensures.length c.length.ensures.same

pub returns-clause-crash_beside : goal.returns-clause-crash_beside
returns-clause-crash_beside g c = λ bounds far.
    let disk = c.args.disk.now in
    let d1 = c.length.new.self in
    let content = g.D.Disk.content in
    let name = c.args.name in
    let n = c.args.length in
    let looked = run_unchanged g.D.Disk bounds disk d1 (g.met.D.Disk.only_now disk) c.length.ensures.time c.length.ensures.same in
    let inside = inside_told name c.in_ok-size.size n (content disk) (content d1) (omega arith) c.in_ok-size.ensures.length c.length.ensures.same in
    run_on g.D.Disk bounds disk d1 c.cut.new.self looked c.cut.ensures.time
    (cut_told c.cut.result bounds name n (content d1) (content c.cut.new.self) (g.met.D.Disk.reads_fit d1) far inside c.cut.ensures.cut c.cut.ensures.torn)

pub returns-clause-trimmed : goal.returns-clause-trimmed
returns-clause-trimmed g c =
    let content = g.D.Disk.content in
    on_ok_weaker c.cut.result (trimmed_told c.args.name c.args.length (content c.args.disk.now) (content c.length.new.self) (content c.cut.new.self) c.length.ensures.same) c.cut.ensures.cut
