-- What a crash leaves at each moment: one step for the write, and one for the sync.
use Rattle.std.proofs.Common.{length}
use Rattle.disk_model.specs.Disk.{Files, Image}
use Rattle.disk_model.specs.Laws.{sync_image}
use Rattle.disk_model.specs.Moments.{started, goes_on}
use Rattle.disk_model.specs.Synced.{WritingLeaves, writing_at_start, writing_wrote, writing_tore}
use Rattle.disk_model.proofs.settle.write_and_sync.Goals as goal

pub returns-in_err-write_at-clause-crash : goal.returns-in_err-write_at-clause-crash
returns-in_err-write_at-clause-crash g c =
    let disk = c.args.disk.now in
    let n = length c.args.bytes.now in
    let old = g.D.Disk.content disk in
    let new = g.D.Disk.content c.write_at.new.self in
    let P = WritingLeaves c.args.name c.args.offset n old in
    let start = started g.D.Disk disk P (λ image left. writing_at_start c.args.name c.args.offset n old image (g.met.D.Disk.only_now disk image left)) in
    goes_on g.D.Disk disk disk c.write_at.new.self P new start c.write_at.ensures.time
    (λ image left. writing_tore c.args.name c.args.offset n old new image c.in_err-write_at.ensures.torn left)

pub returns-clause-crash : goal.returns-clause-crash
returns-clause-crash g c =
    let disk = c.args.disk.now in
    let n = length c.args.bytes.now in
    let old = g.D.Disk.content disk in
    let mid = g.D.Disk.content c.write_at.new.self in
    let new = g.D.Disk.content c.sync.new.self in
    let P = WritingLeaves c.args.name c.args.offset n old in
    let start = started g.D.Disk disk P (λ image left. writing_at_start c.args.name c.args.offset n old image (g.met.D.Disk.only_now disk image left)) in
    let written = λ (image : Files) (left : Image mid image). writing_wrote c.args.name c.args.offset c.args.bytes.now old mid image c.in_ok-write_at.ensures.written left in
    let first = goes_on g.D.Disk disk disk c.write_at.new.self P mid start c.write_at.ensures.time written in
    goes_on g.D.Disk disk c.write_at.new.self c.sync.new.self P new first c.sync.ensures.time
    (λ image left. written image (sync_image c.sync.result mid new image (g.met.D.Disk.reads_fit c.write_at.new.self) c.sync.ensures.durable c.sync.ensures.torn left))
