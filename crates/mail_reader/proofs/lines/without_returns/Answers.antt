use Rattle.std.proofs.Common.{◌≡◌, ◌-◌, ◌<◌, ◌∷◌, [], ◌++◌, false, eqb, length, get_or, take, sym, ap, ◌∙◌, rules, arith}
use Rattle.std.proofs.lemmas.Bool.Decides.{nat_tests}
use Rattle.std.proofs.lemmas.List.{get_or_past}
use Rattle.mail_reader.specs.Stored.{content_of}
use Rattle.mail_reader.proofs.Trims.{front_and_last, without_end-push, without_end-last}
use Rattle.mail_reader.proofs.lines.without_returns.Goals as goal

pub loop-content-preserved : goal.loop-content-preserved
loop-content-preserved c =
    let content = c.loop-content.content.now in
    let last : get_or content (length content - 1) 0 ≡ 13 = search rules in
    let some : 0 < length content = omega arith in
    sym (ap content_of (front_and_last content some ∙ ap (λ b. take (length content - 1) content ++ b ∷ []) last) ∙ without_end-push 13 (take (length content - 1) content))
    ∙ c.loop-content.invariant

pub returns-in_default-2 : goal.returns-in_default-2
returns-in_default-2 c =
    let content = c.loop-content.content.now in
    let other : eqb (get_or content (length content - 1) 0) 13 ≡ false = grind (arith, nat_tests, get_or_past) in
    sym (without_end-last 13 content other) ∙ c.loop-content.invariant
