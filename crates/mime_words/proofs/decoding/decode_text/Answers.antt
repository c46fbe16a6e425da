use Rattle.std.proofs.Common.{◌≡◌, ◌∙◌, ap, is_some}
use Rattle.std.proofs.lemmas.Result.{IfOk-weaker}
use Rattle.mime_words.specs.Words.{pieces}
use Rattle.mime_words.specs.Decoding.{without_gaps}
use Rattle.mime_words.specs.Writing.{Written, finished, with_piece, with_text_before, piece_of}
use Rattle.mime_words.proofs.Joining.{all_text}
use Rattle.mime_words.proofs.Gaps.{text_first, word_more, text_last}
use Rattle.mime_words.proofs.decoding.decode_text.Goals as goal

pub loop-found-init : goal.loop-found-init
loop-found-init c =
    ap (λ (w : Written). all_text w (without_gaps (is_some w.charset) (pieces c.args.value.now))) c.new-decoding.ensures ∙ text_first c.args.value.now

pub loop-found-preserved : goal.loop-found-preserved
loop-found-preserved c =
    let w = c.loop-found.decoding in
    let found = c.in-Some.found in
    let made : c.push_word.new.self ≡ with_piece (with_text_before w found.before.now) (piece_of found.word) =
    c.in_ok-push_word.ensures ∙ ap (λ (v : Written). with_piece v (piece_of found.word)) c.in_ok-push_text_before.ensures in
    ap (λ (v : Written). all_text v (without_gaps (is_some v.charset) (pieces found.rest.now))) made
    ∙ word_more w found.before.now found.word.charset (piece_of found.word).bytes found.rest.now _ _ c.loop-found.invariant c.in-Some.ensures.0

pub returns : goal.returns
returns c =
    let w = c.loop-found.decoding in
    let rest = c.loop-found.rest.now in
    IfOk-weaker c.finish.result _ _
    (λ text e. e ∙ ap finished c.in_ok-push_text.ensures ∙ text_last w rest _ _ c.loop-found.invariant c.in_default.ensures) c.finish.ensures
