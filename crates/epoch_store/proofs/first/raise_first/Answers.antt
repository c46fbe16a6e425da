-- One step for the body, and one for the gate.
use Rattle.std.proofs.Common.{◌<◌, arith}
use Rattle.std.proofs.lemmas.Result.{on_ok_weaker}
use Rattle.disk_model.specs.Moments.{joined, weaker}
use Rattle.root_slots.specs.Slots.{sequence_of}
use Rattle.root_slots.specs.Sizes.{sequence-spelling}
use Rattle.root_slots.specs.Spelling.{spelling}
use Rattle.epoch_store.specs.First.{ShutOrFirst}
use Rattle.epoch_store.proofs.FirstRoots.{during_body, body_filled, during_gate, gate_opened, size_filled, first_committed, first_written}
use Rattle.epoch_store.proofs.first.raise_first.Goals as goal

pub returns-in_err-fill-clause-crash : goal.returns-in_err-fill-clause-crash
returns-in_err-fill-clause-crash g c = λ zeros.
    let disk = c.args.disk.now in
    let k0 = g.D.Disk.content disk in
    let body = spelling c.args.root.now in
    weaker g.D.Disk disk c.fill.new.disk _ (ShutOrFirst body k0) c.fill.ensures.crash
    (λ image. during_body body c.fill.ensures.whole k0 image (g.met.D.Disk.reads_fit disk) c.requires.size zeros)

pub returns-clause-crash : goal.returns-clause-crash
returns-clause-crash g c = λ zeros.
    let disk = c.args.disk.now in
    let mid = c.fill.new.disk in
    let k0 = g.D.Disk.content disk in
    let k1 = g.D.Disk.content mid in
    let body = spelling c.args.root.now in
    let whole = c.fill.ensures.whole in
    let fit0 = g.met.D.Disk.reads_fit disk in
    let filled = body_filled body whole k0 k1 fit0 zeros c.in_ok-fill.ensures.written in
    let size = size_filled body whole k0 k1 c.requires.size c.in_ok-fill.ensures.written in
    joined g.D.Disk disk mid c.raise.new.disk _ _ (ShutOrFirst body k0) c.fill.ensures.crash c.raise.ensures.crash
    (λ image. during_body body whole k0 image fit0 c.requires.size zeros)
    (λ image. during_gate body whole k0 k1 image fit0 (g.met.D.Disk.reads_fit mid) size c.in_ok-fill.ensures.written filled)

pub returns-clause-done : goal.returns-clause-done
returns-clause-done g c = λ zeros some.
    let k0 = g.D.Disk.content c.args.disk.now in
    let k1 = g.D.Disk.content c.fill.new.disk in
    let k2 = g.D.Disk.content c.raise.new.disk in
    let body = spelling c.args.root.now in
    let whole = c.fill.ensures.whole in
    let filled = body_filled body whole k0 k1 (g.met.D.Disk.reads_fit c.args.disk.now) zeros c.in_ok-fill.ensures.written in
    let newer : 0 < sequence_of body = omega (arith, some, sequence-spelling c.args.root.now (omega arith)) in
    on_ok_weaker c.raise.result (gate_opened body whole k1 k2 (g.met.D.Disk.reads_fit c.fill.new.disk) newer filled) c.raise.ensures.written

pub returns-clause-committed : goal.returns-clause-committed
returns-clause-committed g c =
    on_ok_weaker c.raise.result (first_committed (spelling c.args.root.now) (g.D.Disk.content c.args.disk.now) (g.D.Disk.content c.fill.new.disk) (g.D.Disk.content c.raise.new.disk) c.in_ok-fill.ensures.written) c.raise.ensures.written

pub raise-requires : goal.raise-requires
raise-requires g c = record { size = size_filled (spelling c.args.root.now) c.fill.ensures.whole (g.D.Disk.content c.args.disk.now) (g.D.Disk.content c.fill.new.disk) c.requires.size c.in_ok-fill.ensures.written }

pub returns-clause-written : goal.returns-clause-written
returns-clause-written g c =
    on_ok_weaker c.raise.result (first_written (spelling c.args.root.now) (g.D.Disk.content c.args.disk.now) (g.D.Disk.content c.fill.new.disk) (g.D.Disk.content c.raise.new.disk) c.in_ok-fill.ensures.written) c.raise.ensures.written
