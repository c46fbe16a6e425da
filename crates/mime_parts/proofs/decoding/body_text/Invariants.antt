use Rattle.std.proofs.Common.{◌≡◌, take}
use Rattle.std.specs.List.{flat_map}
use Rattle.mime_parts.specs.Texts.{part_text}
use Rattle.mime_parts.proofs.decoding.body_text.Given as goal

abbrev pub invariant-loop-part : goal.invariant-loop-part
invariant-loop-part l = l.shown ≡ flat_map (part_text l.text) (take l.part-index l.part-items)
