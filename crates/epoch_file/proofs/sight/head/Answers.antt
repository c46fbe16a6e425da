use Rattle.std.proofs.Common.{◌+◌, ◌++◌, ◌∷◌, length, Some, ◌∙◌, sym}
use Rattle.std.specs.Fmt.{decimal}
use Rattle.std.proofs.lemmas.List.{append_cancel_left}
use Rattle.std.proofs.lemmas.Option.{none-some, some_pair_parts}
use Rattle.epoch_file.proofs.sight.head.Goals as goal

pub returns-in_err-len-clause-again : goal.returns-in_err-len-clause-again
returns-in_err-len-clause-again c = λ size rest small is.
    absurd (none-some (length (decimal size), size) (c.in_err-len.ensures.again size rest small (append_cancel_left c.args.word.now c.in_ok-digits.digits.now (decimal size ++ 0 ∷ rest) (sym c.in_ok-digits.ensures ∙ is))))

pub returns-clause-again : goal.returns-clause-again
returns-clause-again c = λ size rest small is.
    let parts = some_pair_parts c.in_ok-len.len (length (decimal size)) c.in_ok-len.size size
    (c.in_ok-len.ensures.again size rest small (append_cancel_left c.args.word.now c.in_ok-digits.digits.now (decimal size ++ 0 ∷ rest) (sym c.in_ok-digits.ensures ∙ is))) in
    λ i. Some (length c.args.word.now + parts.0 i + 1, parts.1 i)
