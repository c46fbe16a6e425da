-- One more file.
use Rattle.std.specs.Prelude.{refl}
use Rattle.std.proofs.Common.{◌≡◌, ◌<◌, ℕ, length, subst, arith}
use Rattle.std.proofs.lemmas.Option.{slice_get-get_or}
use Rattle.disk_model.specs.Disk.{BothTold}
use Rattle.disk_model.specs.BesideLaws.{run_started, run_joined}
use Rattle.root_change.specs.Names.{bounds_of}
use Rattle.root_change.specs.Tidying.{Tidied}
use Rattle.root_change.proofs.Tidies.{IsAmong, none_tidied, more_tidied, all_tidied}
use Rattle.root_change.proofs.tidying.tidy_files.Goals as goal

pub loop-name-init : goal.loop-name-init
loop-name-init g c =
    let disk = c.args.disk.now in
    record {
      crash_beside = run_started g.D.Disk (bounds_of c.args.root.now) disk (g.met.D.Disk.only_now disk);
      tidied = none_tidied c.args.root.now c.args.names.now (g.D.Disk.content disk);
      kept = refl;
      reads = refl;
    }

pub returns-in_err-tidy_file-clause-crash_beside : goal.returns-in_err-tidy_file-clause-crash_beside
returns-in_err-tidy_file-clause-crash_beside g c =
    run_joined g.D.Disk (bounds_of c.args.root.now) c.args.disk.now c.loop-name.disk c.tidy_file.new.disk c.loop-name.invariant.crash_beside c.tidy_file.ensures.crash_beside

pub loop-name-preserved : goal.loop-name-preserved
loop-name-preserved g c =
    let before = c.loop-name.invariant in
    let root = c.args.root.now in
    let names = c.args.names.now in
    let i = c.loop-name.name-index in
    let content = g.D.Disk.content in
    let below : i < length names = omega arith in
    record {
      crash_beside = run_joined g.D.Disk (bounds_of root) c.args.disk.now c.loop-name.disk c.tidy_file.new.disk before.crash_beside c.tidy_file.ensures.crash_beside;
      tidied = more_tidied root names i _ (content c.args.disk.now) (content c.loop-name.disk) (content c.tidy_file.new.disk) (slice_get-get_or names i _ below) before.tidied c.in_ok-tidy_file.ensures.tidied;
      kept = omega (arith, before.kept, c.in_ok-tidy_file.ensures.cause.kept);
      reads = omega (arith, before.reads, c.tidy_file.ensures.count);
    }

pub returns-clause-tidied : goal.returns-clause-tidied
returns-clause-tidied g c =
    let names = c.args.names.now in
    let i = c.loop-name.name-index in
    let root = c.args.root.now in
    let k = g.D.Disk.content c.args.disk.now in
    let m = g.D.Disk.content c.loop-name.disk in
    let all : i ≡ length names = omega arith in
    all_tidied root names k m (subst (λ (n : ℕ). BothTold (Tidied (IsAmong names n) root) k m) all c.loop-name.invariant.tidied)
