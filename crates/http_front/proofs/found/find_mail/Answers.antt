use Rattle.std.proofs.Common.{◌∙◌, sym, ap}
use Rattle.http_front.specs.Views.{number_named}
use Rattle.http_front.specs.Sessions.{form_found, form_reads, form_said}
use Rattle.http_front.proofs.Counting.{leaves-as}
use Rattle.http_front.proofs.Finding.{finds-mail, finds-no_mail}
use Rattle.http_front.proofs.found.find_mail.Goals as goal

pub returns-in-Ok-Some-clause-found : goal.returns-in-Ok-Some-clause-found
returns-in-Ok-Some-clause-found g c = λ a held.
    finds-mail a (number_named a.entries c.args.id.now) _ (form_found a c.args.form) (form_reads c.args.form) _ (sym (c.in-Ok-Some.ensures a held) ∙ c.in-Ok-Some.field-0-is) (c.find_number.ensures.found a held)

pub returns-in-Ok-None-clause-found : goal.returns-in-Ok-None-clause-found
returns-in-Ok-None-clause-found g c = λ a held.
    finds-no_mail a (number_named a.entries c.args.id.now) (form_found a c.args.form) (form_reads c.args.form) (sym (c.in-Ok-None.ensures a held) ∙ c.in-Ok-None.field-0-is)

pub returns-in-Ok-Some-clause-left : goal.returns-in-Ok-Some-clause-left
returns-in-Ok-Some-clause-left g c = λ a held.
    leaves-as a _ (form_said a c.args.form (number_named a.entries c.args.id.now)) c.find_number.result (ap (form_said a c.args.form) (sym (sym (c.in-Ok-Some.ensures a held) ∙ c.in-Ok-Some.field-0-is))) (c.find_number.ensures.left a held)
