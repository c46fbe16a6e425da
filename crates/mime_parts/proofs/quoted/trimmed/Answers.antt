use Rattle.std.proofs.Common.{◌≡◌, ◌-◌, ◌<◌, true, false, length, get_or, sym, ◌∙◌, arith}
use Rattle.std.proofs.lemmas.Bool.Decides.{nat_tests}
use Rattle.std.proofs.lemmas.List.{get_or_past}
use Rattle.mime_parts.specs.Delimiters.{is_blank}
use Rattle.mime_parts.proofs.Trimming.{trimmed_blank, trimmed_other}
use Rattle.mime_parts.proofs.quoted.trimmed.Goals as goal

pub loop-rest-preserved : goal.loop-rest-preserved
loop-rest-preserved c =
    let rest = c.loop-rest.rest.now in
    let some : 0 < length rest = omega arith in
    let last : is_blank (get_or rest (length rest - 1) 0) ≡ true = grind (arith, nat_tests) in
    sym (trimmed_blank rest some last) ∙ c.loop-rest.invariant

pub returns-in_default-2 : goal.returns-in_default-2
returns-in_default-2 c =
    let rest = c.loop-rest.rest.now in
    let other : is_blank (get_or rest (length rest - 1) 0) ≡ false = grind (arith, nat_tests, get_or_past) in
    sym (trimmed_other rest other) ∙ c.loop-rest.invariant
