use Rattle.std.proofs.Common.{◌-◌, ◌<◌, length, get_or, take, sym, ap, ◌∙◌, arith}
use Rattle.mail_reader.specs.Stored.{without_end}
use Rattle.mail_reader.specs.Values.{unfolded}
use Rattle.mail_reader.proofs.Trims.{front_and_last}
use Rattle.mail_reader.proofs.Blanks.{end_blank, end_other}
use Rattle.mail_reader.proofs.values.trim_end.Goals as goal

pub returns-then-not-is_blank : goal.returns-then-not-is_blank
returns-then-not-is_blank c =
    let rest = c.loop-rest.rest.now in
    let some : 0 < length rest = omega arith in
    let split = front_and_last rest some in
    ap unfolded split ∙ sym (end_other (take (length rest - 1) rest) (get_or rest (length rest - 1) 0) (sym c.is_blank.ensures ∙ c.if-not-is_blank.true)) ∙ ap (λ t. without_end 32 (unfolded t)) (sym split)
    ∙ c.loop-rest.invariant

pub loop-rest-preserved : goal.loop-rest-preserved
loop-rest-preserved c =
    let rest = c.loop-rest.rest.now in
    let some : 0 < length rest = omega arith in
    let split = front_and_last rest some in
    sym (ap (λ t. without_end 32 (unfolded t)) split ∙ end_blank (take (length rest - 1) rest) (get_or rest (length rest - 1) 0) (sym c.is_blank.ensures ∙ c.if-not-is_blank.false))
    ∙ c.loop-rest.invariant
