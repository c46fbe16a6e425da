-- One more name.
use Rattle.std.proofs.Common.{◌+◌, List, Some, subst, sym, arith}
use Rattle.disk_model.specs.declared.name.FileName.{FileName}
use Rattle.disk_model.specs.Disk.{Image, IsNameAt, WhereTold}
use Rattle.disk_model.specs.Moments.{goes_on}
use Rattle.store_finding.proofs.NameLists.{AreFirstNames, first_more, unchanged_more, unchanged_image}
use Rattle.store_finding.proofs.listing.file_names.Goals as goal

pub loop-index-preserved : goal.loop-index-preserved
loop-index-preserved g c =
    let before = c.loop-index.invariant in
    let i = c.loop-index.index in
    let k = g.D.Disk.content c.args.disk.now in
    let m = g.D.Disk.content c.loop-index.disk in
    let o = g.D.Disk.content c.name_at.new.self in
    let same = unchanged_more k m o before.same c.name_at.ensures.same in
    let told : WhereTold (IsNameAt i (Some c.in-Some.name)) m = rw c.in-Some.is at c.in_ok-name.ensures.name in
    let P : List FileName → Type 0 = λ names. WhereTold (AreFirstNames names (i + 1)) k in
    record {
      first = subst P (sym c.in_ok-push-in-Some.ensures) (first_more c.loop-index.names i c.in-Some.name k m before.same before.first told);
      same = same;
      moments = goes_on g.D.Disk c.args.disk.now c.loop-index.disk c.name_at.new.self (Image k) o before.moments c.name_at.ensures.time (λ image. unchanged_image k o image same);
      kept = omega (arith, before.kept, c.in_ok-name.ensures.cause.kept);
      reads = omega (arith, before.reads, c.name_at.ensures.count);
    }
