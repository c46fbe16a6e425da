use Rattle.std.proofs.Common.{◌≡◌, ◌≤◌, ◌∙◌, ℕ, length, ap, subst}
use Rattle.std.specs.List.{prefix_len}
use Rattle.imap_words.specs.Kinds.{is_tag_byte}
use Rattle.imap_session.proofs.TagReading.{divides-first, divides-second}
use Rattle.imap_session.proofs.starved.tag_parts.Goals as goal

pub returns-then-len-held : goal.returns-then-len-held
returns-then-len-held c =
    let is : c.run_len-len.result ≡ prefix_len is_tag_byte c.args.held.now = c.run_len-len.ensures.value ∙ ap (prefix_len is_tag_byte) c.new.ensures in
    divides-first c.args.held.now c.args.last.now c.split_at.result.0.now c.split_at.result.1.now c.run_len-len.result is c.if-len-held.true c.split_at.ensures.front c.split_at.ensures.back

pub returns : goal.returns
returns c =
    let first : c.run_len-len.result ≡ prefix_len is_tag_byte c.args.held.now = c.run_len-len.ensures.value ∙ ap (prefix_len is_tag_byte) c.new.ensures in
    let second : c.run_len-more_len.result ≡ prefix_len is_tag_byte c.args.last.now = c.run_len-more_len.ensures.value ∙ ap (prefix_len is_tag_byte) c.new-2.ensures in
    divides-second c.args.held.now c.args.last.now c.split_at-2.result.0.now c.split_at-2.result.1.now c.run_len-more_len.result (subst (λ (n : ℕ). length c.args.held.now ≤ n) first c.if-len-held.false) second c.split_at-2.ensures.front c.split_at-2.ensures.back
