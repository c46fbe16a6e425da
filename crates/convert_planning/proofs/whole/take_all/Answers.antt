-- One more entry was taken.
use Rattle.std.proofs.Common.{◌∙◌, length, refl, arith}
use Rattle.std.proofs.lemmas.Option.{slice_get_read}
use Rattle.store_finding.proofs.FindingTold.{reads_both}
use Rattle.convert_planning.proofs.Kept.{converts_end, converts_more, damage_told, stops, to_more}
use Rattle.convert_planning.proofs.whole.take_all.Goals as goal

pub returns-in-Err-clause-undamaged : goal.returns-in-Err-clause-undamaged
returns-in-Err-clause-undamaged g c =
    let entries = c.args.entries.now in
    let i = c.loop-entry.entry-index in
    let e = c.entry-item.result in
    let here = slice_get_read entries (length entries) i e refl c.loop-entry-test.true c.entry-item.is in
    stops c.args.root.now entries i e here c.epoch_file-file.result c.epoch_file-file.ensures (Unit {0}) (g.D.Disk.content c.args.disk.now) (g.D.Disk.content c.loop-entry.disk) c.in-Err.refusal c.loop-entry.invariant.reads.same c.in-Err.ensures.damage

pub returns-in-Err-clause-damage : goal.returns-in-Err-clause-damage
returns-in-Err-clause-damage g c =
    let entries = c.args.entries.now in
    let i = c.loop-entry.entry-index in
    let e = c.entry-item.result in
    let here = slice_get_read entries (length entries) i e refl c.loop-entry-test.true c.entry-item.is in
    damage_told c.args.root.now entries i e c.epoch_file-file.result (g.D.Disk.content c.args.disk.now) (g.D.Disk.content c.loop-entry.disk) c.in-Err.refusal here c.epoch_file-file.ensures c.loop-entry.invariant.reads.same c.in-Err.ensures.damage

pub loop-entry-preserved : goal.loop-entry-preserved
loop-entry-preserved g c =
    let root = c.args.root.now in
    let entries = c.args.entries.now in
    let form = c.args.planned.now.form in
    let i = c.loop-entry.entry-index in
    let e = c.entry-item.result in
    let old = c.loop-entry.planned in
    let new = c.take.new.self in
    let inv = c.loop-entry.invariant in
    let file = c.epoch_file-file.result in
    let here = slice_get_read entries (length entries) i e refl c.loop-entry-test.true c.entry-item.is in
    let takes = c.in-Ok.ensures.taken in
    let fewest = inv.fewest in
    record {
      taken = to_more root form entries i e here c.requires.named file c.epoch_file-file.ensures old new inv.taken (g.D.Disk.content c.loop-entry.disk) takes;
      first = converts_more root entries i e here file c.epoch_file-file.ensures form old new (g.D.Disk.content c.args.disk.now) (g.D.Disk.content c.loop-entry.disk) inv.reads.same inv.form takes (inv.taken.taken.each e.epoch takes.takes.plan takes.takes.there).valid inv.first;
      form = takes.takes.form_is ∙ inv.form;
      reads = reads_both g.D.Disk c.args.disk.now c.loop-entry.disk c.take.new.disk inv.reads c.in-Ok.ensures.reads;
      steady = c.in-Ok.ensures.cause.kept (λ no. absurd (cc no)) ∙ inv.steady;
      fewest = (let more = c.in-Ok.ensures.fewest in omega (arith, fewest, more));
    }

pub returns-clause-all : goal.returns-clause-all
returns-clause-all g c = converts_end c.args.root.now c.args.planned.now.form c.args.entries.now c.loop-entry.entry-index c.loop-entry.planned (g.D.Disk.content c.args.disk.now) (omega (arith, c.loop-entry-test.false)) c.loop-entry.invariant.first
