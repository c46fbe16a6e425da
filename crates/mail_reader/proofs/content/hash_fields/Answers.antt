use Rattle.std.proofs.Common.{◌≡◌, ◌++◌, sym, ap, ◌∙◌, refl, append_assoc}
use Rattle.mail_reader.specs.Content.{counted, counted_field}
use Rattle.mail_reader.proofs.Hashes.{HasHashed-then}
use Rattle.mail_reader.proofs.content.hash_fields.Goals as goal

pub loop-field-preserved-then-is_same_name : goal.loop-field-preserved-then-is_same_name
loop-field-preserved-then-is_same_name c =
    let name = c.args.name.now in
    let done = c.loop-field.invariant.0 in
    let given = counted_field name c.in-Some.field.value.now in
    let next : counted name c.loop-field.field-iterator ≡ given ++ counted name c.next.new.self =
    ap (counted name) c.in-Some.ensures.steps ∙ rw (sym c.is_same_name.ensures, c.if-is_same_name.true) refl in (
      done ++ given,
      (
        HasHashed-then c.args.hasher.now c.loop-field.hasher c.hash_field.new.hasher done given c.loop-field.invariant.1.0 c.hash_field.ensures,
        append_assoc done given (counted name c.next.new.self) ∙ ap (λ t. done ++ t) (sym next) ∙ c.loop-field.invariant.1.1,
      ),
    )
