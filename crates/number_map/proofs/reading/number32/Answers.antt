-- Four bytes are those of their number.
use Rattle.std.proofs.Common.{rules, ◌≡◌}
use Rattle.std.proofs.lemmas.Nat.{be_bytes_4}
use Rattle.std.specs.Int.{from_be_bytes, w32}
use Rattle.disk_model.specs.BigEndian.{be32}
use Rattle.number_map.proofs.reading.number32.Goals as goal

pub returns : goal.returns
unfolding be32
returns c =
    let bytes = c.args.bytes.now in
    let value : c.from_be_bytes.result ≡ from_be_bytes w32 bytes = search rules in
    be_bytes_4 bytes c.from_be_bytes.result c.requires (λ i. (c.type_inv.bytes i).fits) value
