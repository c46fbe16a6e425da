-- One step for each write that is synced.
use Rattle.std.proofs.Common.{◌≡◌, length, arith}
use Rattle.std.proofs.lemmas.Result.{on_ok_weaker}
use Rattle.disk_model.specs.Moments.{joined, weaker}
use Rattle.disk_tests.specs.Texts.{StandsForEitherText}
use Rattle.disk_tests.proofs.Gate.{during_text, text_filled, size_stays, during_gate, gate_opened}
use Rattle.disk_tests.proofs.client.change_text.Goals as goal

pub returns-in_err-write_and_sync-clause-crash : goal.returns-in_err-write_and_sync-clause-crash
returns-in_err-write_and_sync-clause-crash g c = λ old each.
    let disk = c.args.disk.now in
    let k0 = g.D.Disk.content disk in
    weaker g.D.Disk disk c.write_and_sync.new.disk _ (StandsForEitherText c.args.name old c.args.text.now) c.write_and_sync.ensures.crash
    (λ image. during_text c.args.name old c.args.text.now k0 image (omega arith) (g.met.D.Disk.reads_fit disk) c.requires.size each)

pub returns-clause-crash : goal.returns-clause-crash
returns-clause-crash g c = λ old each.
    let disk = c.args.disk.now in
    let mid = c.write_and_sync.new.disk in
    let name = c.args.name in
    let text = c.args.text.now in
    let k0 = g.D.Disk.content disk in
    let k1 = g.D.Disk.content mid in
    let eight : length text ≡ 8 = omega arith in
    let fit = g.met.D.Disk.reads_fit disk in
    let written = c.in_ok-write_and_sync.ensures.written in
    let filled = text_filled name old text k0 k1 eight fit each written in
    let size = size_stays name text k0 k1 eight c.requires.size written in
    joined g.D.Disk disk mid c.write_and_sync-2.new.disk _ _ (StandsForEitherText name old text) c.write_and_sync.ensures.crash c.write_and_sync-2.ensures.crash
    (λ image. during_text name old text k0 image eight fit c.requires.size each)
    (λ image. during_gate name old text k1 image (g.met.D.Disk.reads_fit mid) size filled)

pub returns-clause-done : goal.returns-clause-done
returns-clause-done g c = λ old each.
    let disk = c.args.disk.now in
    let mid = c.write_and_sync.new.disk in
    let name = c.args.name in
    let text = c.args.text.now in
    let k0 = g.D.Disk.content disk in
    let k1 = g.D.Disk.content mid in
    let k2 = g.D.Disk.content c.write_and_sync-2.new.disk in
    let eight : length text ≡ 8 = omega arith in
    let filled = text_filled name old text k0 k1 eight (g.met.D.Disk.reads_fit disk) each c.in_ok-write_and_sync.ensures.written in
    on_ok_weaker c.write_and_sync-2.result (gate_opened name old text k1 k2 (g.met.D.Disk.reads_fit mid) filled) c.write_and_sync-2.ensures.written
