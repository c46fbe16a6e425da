use Rattle.std.proofs.Common.{◌≡◌, false, length, sym, ◌∙◌, arith}
use Rattle.std.proofs.lemmas.Bool.{le-ltb}
use Rattle.std.proofs.lemmas.Bool.Decides.{nat_tests}
use Rattle.mail_reader.proofs.FieldNames.{is_field_line-ended, field_line-at, no_field_line-at}
use Rattle.mail_reader.specs.Lines.{is_field_line}
use Rattle.mail_reader.proofs.lines.is_field_line.Goals as goal
use Rattle.mail_reader.proofs.lines.is_field_line.Goals.{then-len-gt0, else-len-gt0}

pub returns-then-len-content-clause-value : goal.returns-then-len-content-clause-value
returns-then-len-content-clause-value c =
    field_line-at c.args.content.now c.name_len-len.result c.name_len-len.ensures (grind (arith, nat_tests))

pub returns-then-len-content-clause-ended : goal.returns-then-len-content-clause-ended
returns-then-len-content-clause-ended c =
    field_line-at c.args.content.now c.name_len-len.result c.name_len-len.ensures (grind (arith, nat_tests)) ∙ sym (is_field_line-ended c.args.content.now)

pub returns-else-len-content-clause-value : goal.returns-else-len-content-clause-value
returns-else-len-content-clause-value c =
    let past : false ≡ is_field_line c.args.content.now = no_field_line-at c.args.content.now c.name_len-len.result c.name_len-len.ensures (λ some within. omega (arith, c.if-len-content.either)) in
    elim c.if-len-gt0.branch [ then-len-gt0 w ↦ w.t-4-is ∙ le-ltb c.name_len-len.result (length c.args.content.now) (omega (arith, c.if-len-content.either)) ∙ past | else-len-gt0 w ↦ w.t-4-is ∙ le-ltb 0 c.name_len-len.result (omega arith) ∙ past ]

pub returns-else-len-content-clause-ended : goal.returns-else-len-content-clause-ended
returns-else-len-content-clause-ended c =
    let past : false ≡ is_field_line c.args.content.now = no_field_line-at c.args.content.now c.name_len-len.result c.name_len-len.ensures (λ some within. omega (arith, c.if-len-content.either)) in
    elim c.if-len-gt0.branch [ then-len-gt0 w ↦ w.t-4-is ∙ le-ltb c.name_len-len.result (length c.args.content.now) (omega (arith, c.if-len-content.either)) ∙ past ∙ sym (is_field_line-ended c.args.content.now) | else-len-gt0 w ↦ w.t-4-is ∙ le-ltb 0 c.name_len-len.result (omega arith) ∙ past ∙ sym (is_field_line-ended c.args.content.now) ]
