-- Three parts, written over zeros.
use Rattle.std.proofs.Common.{rules, ◌≡◌, refl}
use Rattle.std.specs.Int.{to_be_bytes, w32}
use Rattle.arch_base.specs.Ids.{form_of}
use Rattle.disk_model.specs.BigEndian.{be32}
use Rattle.number_map.specs.Sizes.{record_length}
use Rattle.number_map.proofs.Spelled.{spelled_is}
use Rattle.number_map.proofs.writing.spell.Goals as goal

pub returns-clause-bytes : goal.returns-clause-bytes
unfolding be32
returns-clause-bytes c =
    let line = c.args.line.now in
    let number : c.copy_from_slice.new.self ≡ to_be_bytes w32 line.number = search rules in
    let epoch : c.copy_from_slice-2.new.self ≡ to_be_bytes w32 line.epoch = search rules in
    let blob : c.copy_from_slice-3.new.self ≡ c.as_slice-id.result.now = search rules in
    spelled_is line c.copy_from_slice.new.self c.copy_from_slice-2.new.self c.as_slice-id.result.now c.copy_from_slice-3.new.self _ number epoch c.as_slice-id.ensures.bytes blob refl

pub returns-clause-size : goal.returns-clause-size
returns-clause-size c =
    let line = c.args.line.now in
    record_length (form_of line.blob) line c.as_slice-id.ensures.valid.len
