-- Three parts, one after the other.
use Rattle.std.proofs.Common.{rules, ◌≡◌, take, drop}
use Rattle.arch_base.specs.Ids.{id_bytes}
use Rattle.disk_model.specs.BigEndian.{be32}
use Rattle.number_map.proofs.Spelled.{parts_are}
use Rattle.number_map.proofs.reading.any_record.Goals as goal

pub returns-clause-bytes : goal.returns-clause-bytes
returns-clause-bytes c =
    let bytes = c.args.bytes.now in
    let number : be32 c.number32.result ≡ take 4 bytes = search rules in
    let epoch : be32 c.number32-2.result ≡ take 4 (drop 4 bytes) = search rules in
    let blob : id_bytes c.from_slice.result ≡ drop 4 (drop 4 bytes) = search rules in
    parts_are c.number32.result c.number32-2.result c.from_slice.result bytes number epoch blob
