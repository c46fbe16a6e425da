use Rattle.std.proofs.Common.{◌≡◌, Some, None, codes, refl, sym, ap, ◌∙◌}
use Rattle.mail_reader.specs.Fields.{fields_of, first_named}
use Rattle.mail_reader.specs.Ids.{own_id}
use Rattle.mail_reader.specs.Reading.{shown}
use Rattle.mail_reader.proofs.IdPieces.{first_is}
use Rattle.mail_reader.proofs.reading.own_id.Goals as goal

pub returns-then-is_same_name : goal.returns-then-is_same_name
unfolding own_id
returns-then-is_same_name c =
    let found : first_named (codes "Message-ID") (fields_of c.args.text.now) ≡ Some (shown c.in-Some.field) =
    sym c.loop-field.invariant ∙ ap (first_named (codes "Message-ID")) c.in-Some.ensures.steps ∙ rw (sym c.is_same_name.ensures, c.if-is_same_name.true) refl in
    rw found (first_is _ _ _ (rw c.of.ensures.value at c.next-then-is_same_name.ensures.steps))

pub returns : goal.returns
unfolding own_id
returns c =
    let none : first_named (codes "Message-ID") (fields_of c.args.text.now) ≡ None =
    sym c.loop-field.invariant ∙ ap (first_named (codes "Message-ID")) c.in-None.ensures.steps.0 in
    rw none refl
