-- One more removal.
use Rattle.std.specs.Prelude.{refl}
use Rattle.std.proofs.Common.{◌≡◌, ◌<◌, ◌+◌, ℕ, length, subst, arith}
use Rattle.std.proofs.lemmas.Option.{slice_get-get_or}
use Rattle.disk_model.specs.Disk.{BothTold}
use Rattle.disk_model.specs.BesideLaws.{remove_told, run_started, run_on}
use Rattle.disk_model.specs.Moments.{goes_on, started}
use Rattle.store_finding.specs.Removing.{Fewer}
use Rattle.store_finding.proofs.Removals.{GoneUpTo, at_place_in, none_gone, fewer_at_start, fewer, fewer_gone, torn_more, gone_more, gone_all}
use Rattle.store_finding.proofs.removing.remove_files.Goals as goal

pub loop-name-init : goal.loop-name-init
loop-name-init g c =
    let disk = c.args.disk.now in
    let names = c.args.names.now in
    let content = g.D.Disk.content in
    record {
      told = none_gone names (content disk);
      crash_beside = λ bounds far. run_started g.D.Disk bounds disk (g.met.D.Disk.only_now disk);
      moments = started g.D.Disk disk (Fewer names (content disk)) (λ image since. fewer_at_start names (content disk) image (g.met.D.Disk.only_now disk image since));
      kept = refl;
      reads = refl;
    }

pub returns-in_err-remove-clause-crash_beside : goal.returns-in_err-remove-clause-crash_beside
returns-in_err-remove-clause-crash_beside g c = λ bounds far.
    let names = c.args.names.now in
    let i = c.loop-name.name-index in
    let content = g.D.Disk.content in
    let mid = c.loop-name.disk in
    run_on g.D.Disk bounds c.args.disk.now mid c.remove.new.self (c.loop-name.invariant.crash_beside bounds far) c.remove.ensures.time
    (remove_told c.remove.result bounds _ (content mid) (content c.remove.new.self) (g.met.D.Disk.reads_fit mid) (far _ (at_place_in names i _ (slice_get-get_or names i _ (omega arith)))) c.remove.ensures.removed c.remove.ensures.torn)

pub returns-in_err-remove-clause-crash : goal.returns-in_err-remove-clause-crash
returns-in_err-remove-clause-crash g c =
    let names = c.args.names.now in
    let i = c.loop-name.name-index in
    let k = g.D.Disk.content c.args.disk.now in
    let m = g.D.Disk.content c.loop-name.disk in
    let o = g.D.Disk.content c.remove.new.self in
    goes_on g.D.Disk c.args.disk.now c.loop-name.disk c.remove.new.self (Fewer names k) o c.loop-name.invariant.moments c.remove.ensures.time
    (λ image. fewer names k o image (torn_more names i _ k m o (slice_get-get_or names i _ (omega arith)) c.loop-name.invariant.told c.in_err-remove.ensures.torn))

pub loop-name-preserved : goal.loop-name-preserved
loop-name-preserved g c =
    let names = c.args.names.now in
    let i = c.loop-name.name-index in
    let k = g.D.Disk.content c.args.disk.now in
    let m = g.D.Disk.content c.loop-name.disk in
    let o = g.D.Disk.content c.remove.new.self in
    let before = c.loop-name.invariant in
    let below : i < length names = omega arith in
    let told = gone_more names i _ k m o (slice_get-get_or names i _ below) before.told c.in_ok-remove.ensures.removed in
    record {
      told = told;
      crash_beside = λ bounds far.
          run_on g.D.Disk bounds c.args.disk.now c.loop-name.disk c.remove.new.self (before.crash_beside bounds far) c.remove.ensures.time
          (remove_told c.remove.result bounds _ m o (g.met.D.Disk.reads_fit c.loop-name.disk) (far _ (at_place_in names i _ (slice_get-get_or names i _ below))) c.remove.ensures.removed c.remove.ensures.torn);
      moments = goes_on g.D.Disk c.args.disk.now c.loop-name.disk c.remove.new.self (Fewer names k) o before.moments c.remove.ensures.time (λ image. fewer_gone names (i + 1) k o image told);
      kept = omega (arith, before.kept, c.in_ok-remove.ensures.cause.kept);
      reads = omega (arith, before.reads, c.remove.ensures.count);
    }

pub returns-clause-done : goal.returns-clause-done
returns-clause-done g c =
    let names = c.args.names.now in
    let i = c.loop-name.name-index in
    let k = g.D.Disk.content c.args.disk.now in
    let m = g.D.Disk.content c.loop-name.disk in
    let all : i ≡ length names = omega arith in
    gone_all names k m (subst (λ (n : ℕ). BothTold (GoneUpTo names n) k m) all c.loop-name.invariant.told)
