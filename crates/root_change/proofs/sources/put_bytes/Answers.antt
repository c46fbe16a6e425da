-- A write of a part, or no call.
use Rattle.std.proofs.Common.{◌≡◌, ◌∙◌, List, ℕ, take, drop, ap, subst, arith, length-take, length-drop}
use Rattle.disk_model.specs.Disk.{BothTold, OneFile, Wrote}
use Rattle.disk_model.specs.BesideLaws.{write_told, run_started, run_call}
use Rattle.root_change.specs.Copying.{range_of}
use Rattle.root_change.proofs.Gathers.{wrote_put, none_put}
use Rattle.root_change.proofs.Others.{others_first, others_wrote}
use Rattle.root_change.proofs.sources.put_bytes.Goals as goal

pub returns-then-offset-bytes-clause-crash_beside : goal.returns-then-offset-bytes-clause-crash_beside
returns-then-offset-bytes-clause-crash_beside g c = λ bounds far.
    run_started g.D.Disk bounds c.args.disk.now (g.met.D.Disk.only_now c.args.disk.now)

pub returns-then-count-rest-clause-crash_beside : goal.returns-then-count-rest-clause-crash_beside
returns-then-count-rest-clause-crash_beside g c = λ bounds far.
    run_started g.D.Disk bounds c.args.disk.now (g.met.D.Disk.only_now c.args.disk.now)

pub returns-then-count-eq0-clause-crash_beside : goal.returns-then-count-eq0-clause-crash_beside
returns-then-count-eq0-clause-crash_beside g c = λ bounds far.
    run_started g.D.Disk bounds c.args.disk.now (g.met.D.Disk.only_now c.args.disk.now)

pub returns-then-count-eq0-clause-put : goal.returns-then-count-eq0-clause-put
returns-then-count-eq0-clause-put g c = λ is.
    none_put c.args.bytes.now c.args.offset c.args.count c.args.to c.args.end (g.D.Disk.content c.args.disk.now) (omega arith) c.requires.inside

pub returns-in_err-write_at-clause-crash_beside : goal.returns-in_err-write_at-clause-crash_beside
returns-in_err-write_at-clause-crash_beside g c = λ bounds far.
    let disk = c.args.disk.now in
    let content = g.D.Disk.content in
    run_call g.D.Disk bounds disk c.write_at.new.self (g.met.D.Disk.only_now disk) c.write_at.ensures.time
    (write_told c.write_at.result bounds c.args.to c.args.end c.split_at-2.result.0.now (content disk) (content c.write_at.new.self) (g.met.D.Disk.reads_fit disk) far c.requires.inside c.write_at.ensures.written c.write_at.ensures.torn)

pub returns-clause-crash_beside : goal.returns-clause-crash_beside
returns-clause-crash_beside g c = λ bounds far.
    let disk = c.args.disk.now in
    let content = g.D.Disk.content in
    run_call g.D.Disk bounds disk c.write_at.new.self (g.met.D.Disk.only_now disk) c.write_at.ensures.time
    (write_told c.write_at.result bounds c.args.to c.args.end c.split_at-2.result.0.now (content disk) (content c.write_at.new.self) (g.met.D.Disk.reads_fit disk) far c.requires.inside c.write_at.ensures.written c.write_at.ensures.torn)

pub returns-clause-put : goal.returns-clause-put
returns-clause-put g c = λ is.
    let content = g.D.Disk.content in
    let bytes = c.args.bytes.now in
    let count = c.args.count in
    let part : c.split_at-2.result.0.now ≡ range_of bytes c.args.offset count = c.split_at-2.ensures.front ∙ ap (take count) c.split_at.ensures.back in
    let written = subst (λ (b : List ℕ). BothTold (OneFile c.args.to (Wrote c.args.end b)) (content c.args.disk.now) (content c.write_at.new.self)) part c.in_ok-write_at.ensures.written in
    wrote_put (range_of bytes c.args.offset count) count c.args.to c.args.end (content c.args.disk.now) (content c.write_at.new.self) (omega (arith, length-take {A = ℕ} count (drop c.args.offset bytes), length-drop {A = ℕ} c.args.offset bytes)) (omega arith) c.requires.inside written

pub returns-then-offset-bytes-clause-others : goal.returns-then-offset-bytes-clause-others
returns-then-offset-bytes-clause-others g c = others_first c.args.to (g.D.Disk.content c.args.disk.now)

pub returns-then-count-rest-clause-others : goal.returns-then-count-rest-clause-others
returns-then-count-rest-clause-others g c = others_first c.args.to (g.D.Disk.content c.args.disk.now)

pub returns-then-count-eq0-clause-others : goal.returns-then-count-eq0-clause-others
returns-then-count-eq0-clause-others g c = others_first c.args.to (g.D.Disk.content c.args.disk.now)

pub returns-in_err-write_at-clause-others : goal.returns-in_err-write_at-clause-others
returns-in_err-write_at-clause-others g c =
    others_wrote c.write_at.result c.args.to c.args.end c.split_at-2.result.0.now (g.D.Disk.content c.args.disk.now) (g.D.Disk.content c.write_at.new.self) c.write_at.ensures.written c.write_at.ensures.torn

pub returns-clause-others : goal.returns-clause-others
returns-clause-others g c =
    others_wrote c.write_at.result c.args.to c.args.end c.split_at-2.result.0.now (g.D.Disk.content c.args.disk.now) (g.D.Disk.content c.write_at.new.self) c.write_at.ensures.written c.write_at.ensures.torn
