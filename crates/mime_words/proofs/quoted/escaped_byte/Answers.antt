use Rattle.std.proofs.Common.{rules, ◌≡◌, ◌≤◌, length, get_or, sym, ap, ◌∙◌}
use Rattle.std.specs.Result.{result_ok}
use Rattle.mime_words.proofs.Escapes.{read-none, read-some}
use Rattle.mime_words.proofs.quoted.escaped_byte.Goals as goal

pub returns-in_err-byte : goal.returns-in_err-byte
returns-in_err-byte c =
    let long : 3 ≤ length c.args.text.now = search rules in
    let starts : get_or c.args.text.now 0 0 ≡ 61 = search rules in
    c.from_residual.ensures
    ∙ read-none c.args.text.now long starts (ap result_ok (sym c.from_hex.ensures) ∙ sym c.ok.ensures.value ∙ c.in_err-byte.was)

pub returns : goal.returns
returns c =
    let long : 3 ≤ length c.args.text.now = search rules in
    let starts : get_or c.args.text.now 0 0 ≡ 61 = search rules in
    read-some c.args.text.now c.in_ok-byte.field-0 long starts (ap result_ok (sym c.from_hex.ensures) ∙ sym c.in_ok-byte.ensures.value)
