-- The first bytes are the number's, and the rest follows.
use Rattle.std.proofs.Common.{rules, ◌≡◌, ◌∙◌, take, drop}
use Rattle.std.specs.Int.{from_be_bytes, w64}
use Rattle.disk_model.specs.BigEndian.{be64, be64_length, read64, rest_is}
use Rattle.root_slots.proofs.parts.number64.Goals as goal

pub returns-clause-read : goal.returns-clause-read
returns-clause-read c = λ n rest fits is.
    let bytes = c.args.bytes.now in
    let value : c.from_be_bytes.result ≡ from_be_bytes w64 (take 8 bytes) = search rules in
    let back : c.split_at.result.1.now ≡ drop 8 bytes = search rules in
    (value ∙ read64 bytes rest n fits is, back ∙ rest_is 8 bytes (be64 n) rest (be64_length n) is)
