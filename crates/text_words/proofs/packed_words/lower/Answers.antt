use Rattle.std.proofs.Common.{ap, ◌∙◌, get_or, slice_set, arith}
use Rattle.std.specs.Char.{to_ascii_lowercase}
use Rattle.std.proofs.lemmas.List.{get_or_default}
use Rattle.std.proofs.lemmas.List.Edits.{map_over_more}
use Rattle.text_words.proofs.packed_words.lower.Goals as goal

pub loop-byte-preserved : goal.loop-byte-preserved
loop-byte-preserved c =
    let i = c.loop-byte.byte-index in
    let byte = get_or c.loop-byte.bytes i 0 in
    ap (slice_set c.loop-byte.bytes i) c.make_ascii_lowercase.ensures.after
    ∙ map_over_more to_ascii_lowercase c.args.bytes.now c.loop-byte.bytes i byte c.loop-byte-test.true c.loop-byte.invariant
    (get_or_default c.loop-byte.bytes i 0 byte (omega (arith, c.loop-byte-test.true, c.loop-byte.auto.bytes)))
