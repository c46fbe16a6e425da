use Rattle.std.proofs.Common.{◌≡◌, ◌+◌, ◌∷◌, ◌∙◌, min, get_or, drop, ◌*◌, ap, ℕ, List, sym}
use Rattle.std.specs.Str.{all_ascii_digits}
use Rattle.arch_base.specs.Decimals.{read_on}
use Rattle.peer_replies.proofs.Lengths.{digit-more, next-digit}
use Rattle.peer_replies.proofs.fields.read_length.Goals as goal

pub loop-byte-preserved : goal.loop-byte-preserved
loop-byte-preserved c =
    let value : List ℕ = c.args.value.now in
    let i : ℕ = c.loop-byte.byte-index in
    let split : drop i value ≡ get_or value i 0 ∷ drop (i + 1) value = next-digit i value c.loop-byte-test.true in
    let h = c.loop-byte.invariant in
    let next = digit-more c.loop-byte.len c.min-len.result (get_or value i 0) (drop (i + 1) value) value
    (sym c.is_ascii_digit.ensures.value ∙ c.if-not-is_ascii_digit.false)
    (c.min-len.ensures ∙ ap (λ n. min (10 * c.loop-byte.len + n) 268435457) c.from.ensures)
    (ap all_ascii_digits (sym split) ∙ h.digits)
    (ap (λ ds. min (read_on c.loop-byte.len ds) 268435457) (sym split) ∙ h.value) in
    record { small = next.0; digits = next.1; value = next.2 }
