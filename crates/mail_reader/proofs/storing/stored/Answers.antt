use Rattle.std.proofs.Common.{◌≡◌, ◌<◌, ◌++◌, ◌∷◌, [], Ok, length, refl, sym, ap, ◌∙◌, append_assoc, rules, arith}
use Rattle.std.specs.List.{concat}
use Rattle.std.proofs.lemmas.Bool.{lt-ltb, le-ltb}
use Rattle.std.proofs.lemmas.Bool.Decides.{nat_tests}
use Rattle.mail_reader.specs.Lines.{after_header, after_empty}
use Rattle.mail_reader.specs.Stored.{clean_lines, kept_fields, after_mailbox_line, body_lines}
use Rattle.mail_reader.proofs.Bodied.{storage_form-none, storage_form-some}
use Rattle.mail_reader.proofs.storing.stored.Goals as goal

pub returns-then-is_empty : goal.returns-then-is_empty
returns-then-is_empty c =
    let kept : c.keep_fields.new.text ≡ concat (kept_fields (after_mailbox_line (clean_lines c.args.bytes.now))) =
    rw (c.new-text.ensures, c.after_mailbox_line.ensures) at c.in_ok-rest.ensures.fields in
    let none : length c.as_slice.result.now ≡ 0 = search rules in
    rw (storage_form-none c.args.bytes.now (ap length (sym (c.as_slice.ensures ∙ kept)) ∙ none)) refl

pub returns-then-bytes-gt-MAX_LEN : goal.returns-then-bytes-gt-MAX_LEN
returns-then-bytes-gt-MAX_LEN c =
    let kept : c.keep_fields.new.text ≡ concat (kept_fields (after_mailbox_line (clean_lines c.args.bytes.now))) =
    rw (c.new-text.ensures, c.after_mailbox_line.ensures) at c.in_ok-rest.ensures.fields in
    let some : 0 < length c.as_slice.result.now = grind (arith, nat_tests) in
    let long : 0 < length (concat (kept_fields (after_mailbox_line (clean_lines c.args.bytes.now)))) =
    omega (arith, ap length (c.as_slice.ensures ∙ kept)) in
    rw (storage_form-some c.args.bytes.now long, lt-ltb 8388608 (length c.args.bytes.now) c.if-bytes-gt-MAX_LEN.true) refl

pub returns : goal.returns
returns c =
    let kept : c.keep_fields.new.text ≡ concat (kept_fields (after_mailbox_line (clean_lines c.args.bytes.now))) =
    rw (c.new-text.ensures, c.after_mailbox_line.ensures) at c.in_ok-rest.ensures.fields in
    let some : 0 < length c.as_slice.result.now = grind (arith, nat_tests) in
    let long : 0 < length (concat (kept_fields (after_mailbox_line (clean_lines c.args.bytes.now)))) =
    omega (arith, ap length (c.as_slice.ensures ∙ kept)) in
    let fields = concat (kept_fields (after_mailbox_line (clean_lines c.args.bytes.now))) in
    let body : concat (clean_lines c.after_empty_line.result.now) ≡ concat (body_lines (after_mailbox_line (clean_lines c.args.bytes.now))) =
    ap concat (c.after_empty_line.ensures ∙ ap after_empty (c.in_ok-rest.ensures.rest ∙ ap after_header c.after_mailbox_line.ensures)) in
    let whole : c.push_lines.new.text ≡ fields ++ (10 ∷ concat (body_lines (after_mailbox_line (clean_lines c.args.bytes.now)))) =
    c.in_ok-push_lines.ensures ∙ ap (λ t. t ++ concat (clean_lines c.after_empty_line.result.now)) (c.in_ok-push.ensures ∙ ap (λ t. t ++ 10 ∷ []) kept)
    ∙ append_assoc fields (10 ∷ []) (concat (clean_lines c.after_empty_line.result.now)) ∙ ap (λ t. fields ++ (10 ∷ t)) body in
    rw (storage_form-some c.args.bytes.now long, le-ltb 8388608 (length c.args.bytes.now) c.if-bytes-gt-MAX_LEN.false) (ap Ok (sym whole))
