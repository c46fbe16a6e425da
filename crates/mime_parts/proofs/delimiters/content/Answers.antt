use Rattle.std.proofs.Common.{◌≡◌, ◌-◌, ◌<◌, ◌∷◌, [], ◌++◌, false, eqb, length, get_or, take, sym, ap, ◌∙◌, rules, arith}
use Rattle.std.proofs.lemmas.Bool.Decides.{nat_tests}
use Rattle.std.proofs.lemmas.List.{get_or_past}
use Rattle.mail_reader.specs.Fields.{without_feed}
use Rattle.mail_reader.proofs.Trims.{front_and_last, without_feed-push, without_feed-last}
use Rattle.mime_parts.proofs.delimiters.content.Goals as goal

pub returns-in-10 : goal.returns-in-10
returns-in-10 c =
    let bytes = c.args.line.now in
    let last : get_or bytes (length bytes - 1) 0 ≡ 10 = search rules in
    let some : 0 < length bytes = omega arith in
    sym (ap without_feed (front_and_last bytes some ∙ ap (λ b. take (length bytes - 1) bytes ++ b ∷ []) last) ∙ without_feed-push (take (length bytes - 1) bytes))

pub returns-in_default-2 : goal.returns-in_default-2
returns-in_default-2 c =
    let bytes = c.args.line.now in
    let other : eqb (get_or bytes (length bytes - 1) 0) 10 ≡ false = grind (arith, nat_tests, get_or_past) in
    sym (without_feed-last bytes other)
