-- One more epoch.
use Rattle.std.proofs.Common.{◌∙◌}
use Rattle.store_finding.proofs.FindingTold.{reads_both, where_both}
use Rattle.store_finding.proofs.finding.join_all.Goals as goal

pub returns-in-Err-clause-joined : goal.returns-in-Err-clause-joined
returns-in-Err-clause-joined g c =
    where_both _ _ _ _ _ c.loop-epoch.invariant.reads.same c.loop-epoch.invariant.up c.in-Err.ensures.joined (λ k so_far reads rs fits none. reads rs fits (so_far rs fits none))

pub loop-epoch-preserved : goal.loop-epoch-preserved
loop-epoch-preserved g c =
    let inv = c.loop-epoch.invariant in
    record {
      before = c.in-Ok.ensures.below;
      named = λ are. c.in-Ok.ensures.named (inv.named are);
      ids = λ are. c.in-Ok.ensures.ids (inv.ids are);
      up = where_both _ _ _ _ _ inv.reads.same inv.up c.in-Ok.ensures.joined (λ k so_far reads rs fits none. reads rs fits (so_far rs fits none));
      reads = reads_both g.D.Disk c.args.disk.now c.loop-epoch.disk c.join_epoch.new.disk inv.reads c.in-Ok.ensures.reads;
      kept = c.in-Ok.ensures.steady (λ no. absurd (cc no)) ∙ inv.kept;
    }
