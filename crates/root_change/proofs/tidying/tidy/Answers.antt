-- The files are tidied, and then synced.
use Rattle.std.proofs.lemmas.Result.{on_ok_weaker}
use Rattle.disk_model.specs.Beside.{Beside}
use Rattle.disk_model.specs.BesideLaws.{sync_told, run_on}
use Rattle.disk_model.specs.Moments.{weaker}
use Rattle.root_change.specs.Names.{bounds_of}
use Rattle.root_change.specs.Texts.{StandsFor}
use Rattle.root_change.proofs.Tidies.{tidying_stands, tidy_told}
use Rattle.root_change.proofs.tidying.tidy.Goals as goal

pub returns-in_err-tidy_files-clause-crash : goal.returns-in_err-tidy_files-clause-crash
returns-in_err-tidy_files-clause-crash g c = λ free texts todo.
    let disk = c.args.disk.now in
    let root = c.args.root.now in
    let k = g.D.Disk.content disk in
    weaker g.D.Disk disk c.tidy_files.new.disk (Beside (bounds_of root) k) (StandsFor root texts) c.tidy_files.ensures.crash_beside.moments (λ image. tidying_stands root free texts c.args.names.now k image todo)

pub returns-clause-crash : goal.returns-clause-crash
returns-clause-crash g c = λ free texts todo.
    let disk = c.args.disk.now in
    let d1 = c.tidy_files.new.disk in
    let d2 = c.sync.new.self in
    let root = c.args.root.now in
    let content = g.D.Disk.content in
    let run = run_on g.D.Disk (bounds_of root) disk d1 d2 c.tidy_files.ensures.crash_beside c.sync.ensures.time
    (sync_told c.sync.result (bounds_of root) (content d1) (content d2) (g.met.D.Disk.reads_fit d1) c.sync.ensures.durable c.sync.ensures.torn) in
    weaker g.D.Disk disk d2 (Beside (bounds_of root) (content disk)) (StandsFor root texts) run.moments (λ image. tidying_stands root free texts c.args.names.now (content disk) image todo)

pub returns-clause-done : goal.returns-clause-done
returns-clause-done g c = λ free texts todo.
    let disk = c.args.disk.now in
    let content = g.D.Disk.content in
    on_ok_weaker c.sync.result (tidy_told c.args.root.now free texts c.args.names.now (content disk) (content c.tidy_files.new.disk) (content c.sync.new.self) (g.met.D.Disk.reads_fit disk) todo c.in_ok-tidy_files.ensures.tidied) c.sync.ensures.durable

pub returns-clause-crash_beside : goal.returns-clause-crash_beside
returns-clause-crash_beside g c =
    let disk = c.args.disk.now in
    let d1 = c.tidy_files.new.disk in
    let d2 = c.sync.new.self in
    let root = c.args.root.now in
    let content = g.D.Disk.content in
    run_on g.D.Disk (bounds_of root) disk d1 d2 c.tidy_files.ensures.crash_beside c.sync.ensures.time
    (sync_told c.sync.result (bounds_of root) (content d1) (content d2) (g.met.D.Disk.reads_fit d1) c.sync.ensures.durable c.sync.ensures.torn)
