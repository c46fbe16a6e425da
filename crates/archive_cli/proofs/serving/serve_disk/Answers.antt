use Rattle.std.proofs.Common.{refl, ap, not, ◌∙◌, ℕ, Ok, Err}
use Rattle.archive_core.specs.Engines.{Owning, is_ready, store-left}
use Rattle.node_serve.specs.Nodes.{stage}
use Rattle.node_serve.specs.World.{outer}
use Rattle.archive_cli.specs.Serving.{Shut, Ended}
use Rattle.archive_core.proofs.RootBytes.{opens-between}
use Rattle.archive_cli.proofs.Committing.{opened-none, opened-went}
use Rattle.archive_cli.proofs.OnDisk.{unopened-stands}
use Rattle.archive_cli.proofs.ServedDisk.{served-on, shut-cause}
use Rattle.archive_cli.proofs.serving.serve_disk.Goals as goal

pub returns-in-Ok-clause-serves : goal.returns-in-Ok-clause-serves
returns-in-Ok-clause-serves g c =
    let served = c.serve-end.ensures.served in
    let opened = c.in-Ok.ensures.opened in
    let kept = opened.cause.kept (λ fault. absurd (cc fault)) in
    let content = g.D.Disk.content in
    let at = λ (n : ℕ). outer (g.H.Host.taken c.args.host.now) (g.H.Host.closings c.args.host.now) n (g.H.Host.lost c.args.host.now) (g.H.Host.closed_at c.args.host.now) in
    let out = ap (λ (e : Owning g.row.D.Denot). at (g.D.Disk.faults e.disk)) c.new-node.ensures.keep ∙ ap at kept in
    let first = stage c.new-node.result (at (g.D.Disk.faults c.new-node.result.keep.disk)) in
    let last =
    stage c.serve-end.new.node
    (outer (g.H.Host.taken c.serve-end.new.host) (g.H.Host.closings c.serve-end.new.host) (g.D.Disk.faults c.serve-end.new.node.keep.disk) (g.H.Host.lost c.serve-end.new.host) (g.H.Host.closed_at c.serve-end.new.host)) in (
      Ended c.serve-end.result,
      rw (c.into_disk.ensures, c.into_keep.ensures) (record {
        arrivals = served.arrivals;
        took = record { given_is = served.given_is; left_is = served.left_is; later = c.serve-end.ensures.later };
        none = served.none;
        ends = served.ends;
        opened = c.in-Ok.engine.disk;
        settles = (c.in-Ok.engine.view, opened.answer, opened.kept, opened.done, opened.settled);
        crash = opened.first;
        crash_root = opened-none g.D.Disk c.args.disk c.in-Ok.engine.disk (Ok c.in-Ok.engine.view) opened.crash_root;
        first = first;
        begins = record { unopened = c.new-node.ensures.none; count = c.new-node.ensures.count; noted = c.new-node.ensures.idling; out_is = out };
        first_disk = ap (λ (e : Owning g.row.D.Denot). e.disk) c.new-node.ensures.keep;
        first_ready = ap is_ready c.new-node.ensures.keep ∙ ap not c.in-Ok.ensures.ready;
        first_counts = refl;
        stages = served.stages;
        last = last;
        last_disk = refl;
        last_out = refl;
        anyway = served.anyway;
        reads_few = served.reads_few;
        counts = served.counts;
        records = λ past noted. served.records past noted;
        served = λ a cache reads.
            served-on g.D.Disk g.met.D.Disk.counts_now g.met.D.Disk.only_now g.met.D.Disk.reads_fit (λ e b may held has. store-left g.D.Disk g.met.D.Disk.counts_now g.met.D.Disk.only_now e b may (held.0, held.1) has) c.law_of_recovery.ensures.some_one c.law_of_recovery.ensures.caches c.law_of_numbers.ensures.itself c.law_of_commands.ensures.follows a cache
            c.args.disk c.in-Ok.engine c.new-node.result c.serve-end.new.node served.arrivals served.stages _ _ c.new-node.ensures.keep (opened.done a cache reads) (c.in-Ok.ensures.rows a cache reads) opened.settled opened.first (opens-between g.D.Disk c.args.disk c.in-Ok.engine.disk (Ok c.in-Ok.engine.view) opened.crash_root) (opened-went c.in-Ok.engine.view (content c.args.disk) (content c.in-Ok.engine.disk) (g.met.D.Disk.reads_fit c.args.disk) opened.answer opened.kept opened.settled)
            c.new-node.ensures.none c.new-node.ensures.idling (λ t fits suits. served.runs t fits suits) reads;
      }),
      c.print_end.ensures.printed,
    )

pub returns-in-Err-clause-serves : goal.returns-in-Err-clause-serves
returns-in-Err-clause-serves g c =
    let why = c.in-Err.field-0.why in
    let opened = c.in-Err.ensures.opened in (
      Shut why,
      record {
        kept = record { given_kept = refl; left_kept = refl; faults_kept = refl; taken_kept = refl; closings_kept = refl; lost_kept = refl; closed_at_kept = refl };
        answer = opened.answer;
        unopened = c.in-Err.ensures.refused;
        crash = opened.before;
        crash_root = opened-none g.D.Disk c.args.disk c.in-Err.field-0.disk (Err why) opened.crash_root;
        stands = λ s cache all. unopened-stands g.D.Disk g.met.D.Disk.counts_now g.met.D.Disk.reads_fit s cache c.args.disk c.in-Err.field-0.disk why all opened.before opened.well opened.first;
        cause = shut-cause (g.D.Disk.faults c.args.disk) (g.D.Disk.faults c.in-Err.field-0.disk) why opened.cause;
        records = λ past noted. noted;
      },
      c.print_outcome.ensures.printed,
    )
