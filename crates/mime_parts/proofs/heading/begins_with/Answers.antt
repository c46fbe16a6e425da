use Rattle.std.proofs.Common.{length, ◌∙◌}
use Rattle.std.proofs.lemmas.List.{take_min}
use Rattle.mime_parts.proofs.heading.begins_with.Goals as goal

pub returns : goal.returns
returns c =
    c.is_same_name.ensures ∙ rw (c.split_at.ensures.front, c.min-len.ensures, take_min (length c.args.word.now) c.args.bytes.now)
