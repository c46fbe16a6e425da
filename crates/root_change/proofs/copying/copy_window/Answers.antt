-- A read that fills the window, and a write of it.
use Rattle.std.proofs.Common.{◌≤◌, arith}
use Rattle.disk_model.specs.BesideLaws.{write_told, run_on, run_unchanged}
use Rattle.root_change.proofs.Copies.{inside_still, window_told, window_full}
use Rattle.root_change.proofs.Others.{others_then, others_unchanged, others_wrote}
use Rattle.root_change.proofs.copying.copy_window.Goals as goal

pub returns-in_err-count-clause-crash_beside : goal.returns-in_err-count-clause-crash_beside
returns-in_err-count-clause-crash_beside g c = λ bounds far.
    let disk = c.args.disk.now in
    run_unchanged g.D.Disk bounds disk c.read.new.self (g.met.D.Disk.only_now disk) c.read.ensures.time c.read.ensures.same

pub returns-then-count-window-clause-crash_beside : goal.returns-then-count-window-clause-crash_beside
returns-then-count-window-clause-crash_beside g c = λ bounds far.
    let disk = c.args.disk.now in
    run_unchanged g.D.Disk bounds disk c.read.new.self (g.met.D.Disk.only_now disk) c.read.ensures.time c.read.ensures.same

pub returns-then-count-window-clause-whole : goal.returns-then-count-window-clause-whole
returns-then-count-window-clause-whole g c = λ has.
    let full : c.args.range.count ≤ c.in_ok-count.count = window_full c.args.range.file c.args.range.offset c.args.range.count c.in_ok-count.count c.args.window.now c.read.new.into (g.D.Disk.content c.args.disk.now) c.requires.window c.in_ok-count.ensures.bytes has in
    absurd (omega (arith, full, c.requires.window))

pub returns-in_err-write_at-clause-crash_beside : goal.returns-in_err-write_at-clause-crash_beside
returns-in_err-write_at-clause-crash_beside g c = λ bounds far.
    let disk = c.args.disk.now in
    let d1 = c.read.new.self in
    let content = g.D.Disk.content in
    let read = run_unchanged g.D.Disk bounds disk d1 (g.met.D.Disk.only_now disk) c.read.ensures.time c.read.ensures.same in
    let inside = inside_still c.args.to c.args.end (content disk) (content d1) c.requires.inside c.read.ensures.same in
    run_on g.D.Disk bounds disk d1 c.write_at.new.self read c.write_at.ensures.time
    (write_told c.write_at.result bounds c.args.to c.args.end c.read.new.into (content d1) (content c.write_at.new.self) (g.met.D.Disk.reads_fit d1) far inside c.write_at.ensures.written c.write_at.ensures.torn)

pub returns-clause-crash_beside : goal.returns-clause-crash_beside
returns-clause-crash_beside g c = λ bounds far.
    let disk = c.args.disk.now in
    let d1 = c.read.new.self in
    let content = g.D.Disk.content in
    let read = run_unchanged g.D.Disk bounds disk d1 (g.met.D.Disk.only_now disk) c.read.ensures.time c.read.ensures.same in
    let inside = inside_still c.args.to c.args.end (content disk) (content d1) c.requires.inside c.read.ensures.same in
    run_on g.D.Disk bounds disk d1 c.write_at.new.self read c.write_at.ensures.time
    (write_told c.write_at.result bounds c.args.to c.args.end c.read.new.into (content d1) (content c.write_at.new.self) (g.met.D.Disk.reads_fit d1) far inside c.write_at.ensures.written c.write_at.ensures.torn)

pub returns-clause-copied : goal.returns-clause-copied
returns-clause-copied g c = λ is.
    let content = g.D.Disk.content in
    let range = c.args.range in
    window_told range.file range.offset range.count c.args.to c.args.end c.in_ok-count.count c.args.window.now c.read.new.into (content c.args.disk.now) (content c.read.new.self) (content c.write_at.new.self) c.requires.some c.requires.window (omega (arith, c.requires.window)) c.in_ok-count.ensures.bytes c.read.ensures.same c.requires.inside c.in_ok-write_at.ensures.written

pub returns-in_err-count-clause-others : goal.returns-in_err-count-clause-others
returns-in_err-count-clause-others g c = others_unchanged c.args.to (g.D.Disk.content c.args.disk.now) (g.D.Disk.content c.read.new.self) c.read.ensures.same

pub returns-then-count-window-clause-others : goal.returns-then-count-window-clause-others
returns-then-count-window-clause-others g c = others_unchanged c.args.to (g.D.Disk.content c.args.disk.now) (g.D.Disk.content c.read.new.self) c.read.ensures.same

pub returns-in_err-write_at-clause-others : goal.returns-in_err-write_at-clause-others
returns-in_err-write_at-clause-others g c =
    let content = g.D.Disk.content in
    others_then c.args.to (content c.args.disk.now) (content c.read.new.self) (content c.write_at.new.self)
    (others_unchanged c.args.to (content c.args.disk.now) (content c.read.new.self) c.read.ensures.same)
    (others_wrote c.write_at.result c.args.to c.args.end c.read.new.into (content c.read.new.self) (content c.write_at.new.self) c.write_at.ensures.written c.write_at.ensures.torn)

pub returns-clause-others : goal.returns-clause-others
returns-clause-others g c =
    let content = g.D.Disk.content in
    others_then c.args.to (content c.args.disk.now) (content c.read.new.self) (content c.write_at.new.self)
    (others_unchanged c.args.to (content c.args.disk.now) (content c.read.new.self) c.read.ensures.same)
    (others_wrote c.write_at.result c.args.to c.args.end c.read.new.into (content c.read.new.self) (content c.write_at.new.self) c.write_at.ensures.written c.write_at.ensures.torn)
