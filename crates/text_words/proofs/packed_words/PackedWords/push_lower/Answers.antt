use Rattle.std.proofs.Common.{◌≡◌, ◌+◌, [], ◌∷◌, ◌++◌, length, ℕ, List, ap, ◌∙◌, arith}
use Rattle.std.specs.Str.{str_to_ascii_lowercase}
use Rattle.std.proofs.lemmas.List.{length-append}
use Rattle.text_words.proofs.PackedLemmas.{rises-more, cut-more}
use Rattle.text_words.proofs.packed_words.PackedWords.push_lower.Goals as goal

pub invariant_of-self-2 : goal.invariant_of-self-2
invariant_of-self-2 c =
    let bytes = c.self.inside.bytes.items in
    let is : c.len.result ≡ length bytes + length (str_to_ascii_lowercase c.args.word.now) = omega (arith, c.len.ensures, c.push_lower.new.into.ok, ap length c.in_ok-push_lower.ensures, length-append bytes (str_to_ascii_lowercase c.args.word.now)) in
    let all : length c.push_lower.new.into.items ≡ c.len.result = omega (arith, c.len.ensures, c.push_lower.new.into.ok) in
    rw (c.in_ok-push.ensures.items, all, c.in_ok-reserve.ensures.items) (rises-more 0 c.self.inside.ends.items (length bytes) c.len.result c.self.invariant (omega (arith, is)))

pub returns : goal.returns
returns c =
    let bytes = c.self.inside.bytes.items in
    let is : c.len.result ≡ length bytes + length (str_to_ascii_lowercase c.args.word.now) = omega (arith, c.len.ensures, c.push_lower.new.into.ok, ap length c.in_ok-push_lower.ensures, length-append bytes (str_to_ascii_lowercase c.args.word.now)) in
    rw (c.in_ok-push.ensures.items, c.in_ok-reserve.ensures.items, c.in_ok-push_lower.ensures)
    (cut-more bytes (str_to_ascii_lowercase c.args.word.now) 0 c.self.inside.ends.items c.len.result c.self.invariant is ∙ ap (λ (ws : List (List ℕ)). ws ++ (str_to_ascii_lowercase c.args.word.now) ∷ []) c.self.view_is)
