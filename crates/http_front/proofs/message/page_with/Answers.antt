use Rattle.std.proofs.Common.{Option, Some, subst, sym, ap}
use Rattle.mail_forms.specs.declared.row.Row.{Row}
use Rattle.http_front.specs.Asking.{message_found}
use Rattle.http_front.specs.Sessions.{MakesPage}
use Rattle.http_front.proofs.message.page_with.Goals as goal

pub returns-in-Some : goal.returns-in-Some
returns-in-Some g c = λ a held.
    subst (λ (o : Option Row). MakesPage (message_found a o (Some c.args.text.now)) c.page_of.result) (c.in-Some.ensures a held) (c.page_of.ensures a held)

pub returns-in-None : goal.returns-in-None
returns-in-None g c = λ a held. ap (λ (o : Option Row). message_found a o (Some c.args.text.now)) (sym (c.in-None.ensures a held))
