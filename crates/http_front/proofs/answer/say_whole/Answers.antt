use Rattle.std.proofs.Common.{◌≡◌, ◌++◌, ◌∙◌, ◌&&◌, Bool, length, not, refl, sym, ap, inl, inr, is_ok}
use Rattle.http_heads.specs.declared.reply.Status.TheVariants.{Done}
use Rattle.wire_replies.proofs.Wording.{split-joined}
use Rattle.http_front.specs.Replies.{reply}
use Rattle.http_front.proofs.Acting.{closed-always}
use Rattle.http_front.proofs.Parts.{reply-parts}
use Rattle.http_front.proofs.answer.say_whole.Goals as goal

pub returns-in-Ok-clause-said : goal.returns-in-Ok-clause-said
returns-in-Ok-clause-said g c =
    let words : c.as_slice.result.now ++ c.split_at.result.1.now ≡ reply Done c.args.moment c.args.body c.args.bytes.now c.args.sends c.args.closes =
    reply-parts c.args.moment (length c.args.bytes.now) c.args.body c.args.bytes.now c.sent-words.result.now c.split_at.result.0.now c.split_at.result.1.now c.new-front.result c.as_slice.result.now c.args.sends c.args.closes refl c.sent-words.ensures
    (sym (split-joined _ c.sent-words.result.now c.split_at.result.0.now c.split_at.result.1.now c.split_at.ensures.front c.split_at.ensures.back))
    c.new-front.ensures (c.as_slice.ensures ∙ c.in-Ok.ensures) in
    inl (record {
      sent = c.say_parts-said.result;
      says = rw words at c.say_parts-said.ensures.said;
      next = c.next_after.ensures ∙ ap (λ (b : Bool). b && not c.args.closes) c.is_ok.ensures.value;
    })

pub returns-clause-said : goal.returns-clause-said
returns-clause-said g c = inr (record { sent = c.say_status.result; says = c.say_status.ensures.said; next = closed-always (is_ok c.say_status.result) })
