use Rattle.std.proofs.Common.{◌≡◌, length, ap, ◌∙◌, arith}
use Rattle.mail_reader.specs.Bodies.{body_of}
use Rattle.mime_parts.specs.Trees.{bytes_at}
use Rattle.mime_parts.proofs.Spanning.{parts_len, length-bytes_at}
use Rattle.mime_parts.proofs.visiting.body_span.Goals as goal

pub overflow_sub-result : goal.overflow_sub-result
overflow_sub-result c =
    let bytes = bytes_at c.args.text.now c.args.span in
    let less = parts_len bytes in
    let len = length-bytes_at c.args.text.now c.args.span c.requires in
    let inside : length c.body-inside.result.now ≡ length (body_of bytes) = ap length c.body-inside.ensures ∙ ap (λ b. length (body_of b)) c.bytes_at.ensures in
    omega arith
