-- The first bytes are the number's, and the rest follows.
use Rattle.std.proofs.Common.{rules, ◌≡◌, ◌∙◌, take, drop}
use Rattle.std.specs.Int.{from_be_bytes, w32}
use Rattle.disk_model.specs.BigEndian.{be32, be32_length, read32, rest_is}
use Rattle.root_slots.proofs.parts.number32.Goals as goal

pub returns-clause-read : goal.returns-clause-read
returns-clause-read c = λ n rest fits is.
    let bytes = c.args.bytes.now in
    let value : c.from_be_bytes.result ≡ from_be_bytes w32 (take 4 bytes) = search rules in
    let back : c.split_at.result.1.now ≡ drop 4 bytes = search rules in
    (value ∙ read32 bytes rest n fits is, back ∙ rest_is 4 bytes (be32 n) rest (be32_length n) is)
