use Rattle.std.proofs.Common.{◌≡◌, ◌++◌, length, ap, ◌∙◌}
use Rattle.std.specs.List.{concat}
use Rattle.std.proofs.lemmas.Bool.{le-ltb}
use Rattle.mail_reader.specs.Lines.{after_header, after_empty}
use Rattle.mail_reader.specs.Stored.{clean_lines}
use Rattle.mail_reader.specs.Checking.{NotBegun}
use Rattle.mail_reader.proofs.PieceEnds.{form_fields, form_body, is_form-some, is_form-none, is_form-not}
use Rattle.mail_reader.proofs.checking.is_form_of.Goals as goal

pub returns-then-left-text : goal.returns-then-left-text
returns-then-left-text c =
    let begins : c.args.text.now ≡ form_fields c.args.bytes.now ++ c.in-Some.left.now = rw c.after_mailbox_line.ensures at c.in-Some.ensures.0 in
    let body : concat (clean_lines c.after_empty_line.result.now) ≡ form_body c.args.bytes.now =
    ap concat (c.after_empty_line.ensures ∙ ap after_empty (c.in-Some.ensures.1 ∙ ap after_header c.after_mailbox_line.ensures)) in
    is_form-some c.args.bytes.now c.args.text.now c.in-Some.left.now c.is_body_of.result begins c.if-left-text.true (rw body at c.is_body_of.ensures)

pub returns-else-left-text : goal.returns-else-left-text
returns-else-left-text c =
    let begins : c.args.text.now ≡ form_fields c.args.bytes.now ++ c.in-Some.left.now = rw c.after_mailbox_line.ensures at c.in-Some.ensures.0 in
    rw (le-ltb (length c.in-Some.left.now) (length c.args.text.now) c.if-left-text.false) (is_form-none c.args.bytes.now c.args.text.now c.in-Some.left.now begins c.if-left-text.false)

pub returns-in-None : goal.returns-in-None
returns-in-None c =
    let none : NotBegun c.args.text.now (form_fields c.args.bytes.now) = rw c.after_mailbox_line.ensures at c.in-None.ensures in
    is_form-not c.args.bytes.now c.args.text.now none
