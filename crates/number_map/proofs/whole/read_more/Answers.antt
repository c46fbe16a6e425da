-- What was read is the next piece of the map.
use Rattle.std.proofs.Common.{ap, ◌*◌, ◌∙◌, List, length}
use Rattle.disk_model.specs.Sizes.{record_size}
use Rattle.number_map.specs.declared.line.Record.{Record}
use Rattle.number_map.proofs.Walking.{piece_read}
use Rattle.number_map.proofs.whole.read_more.Goals as goal

pub returns-in-Ok-clause-read : goal.returns-in-Ok-clause-read
returns-in-Ok-clause-read g c =
    piece_read c.args.form c.read_piece.result (g.D.Disk.content c.args.disk.now) c.args.file c.records_size-offset.result c.in-Ok.n c.args.wanted c.args.room.now c.read.new.into c.args.lines.now c.read_piece.new.lines c.requires.room (c.records_size-offset.ensures.size ∙ ap (λ (l : List Record). record_size c.args.form * length l) c.as_slice.ensures) c.in-Ok.ensures.bytes c.read_piece.ensures.read
