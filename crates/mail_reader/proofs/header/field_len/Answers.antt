use Rattle.std.proofs.Common.{◌≡◌, take, true, false, sym, ◌∙◌, rules}
use Rattle.std.proofs.lemmas.List.{take_rest, nil_from_length}
use Rattle.mail_reader.specs.Lines.{is_field_line}
use Rattle.mail_reader.proofs.FirstFields.{no_field, no_field-none, first_field}
use Rattle.mail_reader.proofs.header.field_len.Goals as goal

pub returns-then-is_empty : goal.returns-then-is_empty
returns-then-is_empty c = no_field-none c.args.text.now (nil_from_length c.args.text.now (search rules))

pub returns-then-not-is_field_line : goal.returns-then-not-is_field_line
returns-then-not-is_field_line c =
    let is_not : is_field_line (take c.line_len-first.result c.args.text.now) ≡ false = sym c.is_field_line.ensures.value ∙ c.if-not-is_field_line.true in
    no_field c.args.text.now _ _ c.line_len-first.ensures.lines is_not

pub returns : goal.returns
returns c =
    let is : is_field_line (take c.line_len-first.result c.args.text.now) ≡ true = sym c.is_field_line.ensures.value ∙ c.if-not-is_field_line.false in
    let more = rw (take_rest c.args.text.now c.line_len-first.result) at c.continuation_len.ensures in
    first_field c.args.text.now c.line_len-first.result c.continuation_len.result c.line_len-first.ensures.some c.line_len-first.ensures.within c.line_len-first.ensures.lines is more
