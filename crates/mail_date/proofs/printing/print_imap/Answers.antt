use Rattle.std.proofs.Common.{◌≡◌, FitsSigned, w16, to_z, of_z, to_z-of_z, ◌∙◌, ap, unsigned_abs, arith}
use Rattle.jiff_core.proofs.SignedLemmas.{signed_arith}
use Rattle.mail_date.specs.Printed.{sign_of}
use Rattle.mail_date.proofs.PrintLemmas.{imap_written}
use Rattle.mail_date.proofs.printing.print_imap.Goals as goal

pub returns : goal.returns
returns c =
    let date = c.shown_date-date.result in
    let valid = c.shown_date-date.ensures.valid in
    let fits : FitsSigned w16 c.shown_date-date.result.zone = omega (arith, signed_arith) in
    let zone : to_z w16 (of_z w16 c.shown_date-date.result.zone) ≡ c.shown_date-date.result.zone = to_z-of_z fits in
    (date, c.shown_date-date.ensures.shown, imap_written date c.tens_or_space.result c.sign_of.result c.unsigned_abs-offset.result valid.day.month c.tens_or_space.ensures (c.sign_of.ensures ∙ ap sign_of zone) (c.unsigned_abs-offset.ensures.value ∙ ap unsigned_abs zone))
