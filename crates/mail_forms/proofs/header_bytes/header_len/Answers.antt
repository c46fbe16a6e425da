use Rattle.std.proofs.Common.{◌≡◌, ◌+◌, length, ap, ◌∙◌, arith, length-append}
use Rattle.mail_reader.specs.Laws.{wholes}
use Rattle.mail_forms.proofs.Headers.{header-short}
use Rattle.mail_forms.proofs.header_bytes.header_len.Goals as goal

pub loop-field-init : goal.loop-field-init
loop-field-init c = record {
  len = omega (arith, ap (λ fs. length (wholes fs)) (c.into_iter-field-iterator.ensures.into_iter_gives ∙ c.fields-field-items.ensures.value));
  within = header-short c.args.text.now c.fields_are_front.ensures;
}

pub overflow_add-len : goal.overflow_add-len
overflow_add-len c =
    let next : length (wholes c.loop-field.field-iterator) ≡ length c.in-Some.field.whole.now + length (wholes c.next.new.self) =
    ap (λ fs. length (wholes fs)) c.in-Some.ensures.steps ∙ length-append c.in-Some.field.whole.now (wholes c.next.new.self) in
    omega arith

pub loop-field-preserved : goal.loop-field-preserved
loop-field-preserved c =
    let next : length (wholes c.loop-field.field-iterator) ≡ length c.in-Some.field.whole.now + length (wholes c.next.new.self) =
    ap (λ fs. length (wholes fs)) c.in-Some.ensures.steps ∙ length-append c.in-Some.field.whole.now (wholes c.next.new.self) in
    record { len = omega arith; within = c.loop-field.invariant.within }
