use Rattle.std.proofs.Common.{◌≡◌, ◌≤◌, ◌+◌, ◌++◌, ◌∷◌, ◌∙◌, [], ℕ, List, Bool, length, take, sym, ap, arith, append_assoc, length-append}
use Rattle.imap_states.specs.Patterns.{pattern_then, none_left, matches_name}
use Rattle.imap_states.proofs.Rests.{first-rests, pattern-joined}
use Rattle.imap_states.proofs.patterns.is_match.Goals as goal

pub returns : goal.returns
returns c =
    let archive = c.args.archive.now in
    let digits = c.args.digits.now in
    let name = c.split_at.result.0.now in
    let zero_is : length archive ≡ 0 + length archive = omega arith in
    let first : take (length archive) c.put.new.bytes ≡ archive = ap (λ (k : ℕ). take k c.put.new.bytes) zero_is ∙ c.put.ensures in
    let named : name ≡ archive ++ 46 ∷ digits =
    c.split_at.ensures.front ∙ ap (take (length archive + 1 + length digits)) c.as_slice.ensures ∙ c.put-3.ensures ∙ ap (λ (x : List ℕ). x ++ digits) (c.put-2.ensures ∙ ap (λ (x : List ℕ). x ++ 46 ∷ []) first) ∙ append_assoc archive (46 ∷ []) digits in
    let fit : length name ≤ 85 = omega (arith, ap length named, length-append archive (46 ∷ digits), c.requires.archive, c.requires.digits) in
    let start = first-rests name fit in
    c.with_pattern.ensures (pattern_then c.args.pattern.now none_left) (c.with_pattern-behind.ensures none_left start) 0 (omega arith)
    ∙ ap (λ (f : List ℕ → Bool). f name) (sym (pattern-joined c.args.reference.now c.args.pattern.now none_left))
    ∙ ap (matches_name (c.args.reference.now ++ c.args.pattern.now)) named
