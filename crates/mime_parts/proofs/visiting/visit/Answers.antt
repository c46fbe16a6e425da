use Rattle.std.proofs.Common.{◌-◌, eqb, length, ap, ◌∙◌}
use Rattle.std.proofs.lemmas.Result.{on_ok_weaker}
use Rattle.mime_parts.specs.Headings.{heading_of}
use Rattle.mime_parts.specs.Visiting.{known}
use Rattle.mime_parts.proofs.Turns.{visited}
use Rattle.mime_parts.proofs.visiting.visit.Goals as goal

pub returns : goal.returns
returns c =
    on_ok_weaker c.put_before.result
    (visited c.args.text.now c.args.entity c.args.parts.now c.push.new.self c.args.pending.now.items c.put_before.new.pending.items c.in_ok-heading.heading
    c.in_ok-found.found c.in_ok-part_of.field-0 c.is_empty-is_empty.result c.is_digest-digest.result c.saturating_sub.result _
    (c.in_ok-heading.ensures ∙ ap (heading_of c.args.entity.digest) c.bytes_at.ensures)
    (c.room_left-room.ensures ∙ ap (λ es. 1000 - known c.args.parts.now es) c.as_slice.ensures.value) c.in_ok-found.ensures
    (c.is_empty-is_empty.ensures ∙ ap (λ ss. eqb (length ss) 0) c.as_slice-2.ensures) c.is_digest-digest.ensures c.saturating_sub.ensures
    c.in_ok-part_of.ensures c.in_ok-push.ensures)
    c.put_before.ensures
