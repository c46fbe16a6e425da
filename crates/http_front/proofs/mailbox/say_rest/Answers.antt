use Rattle.std.proofs.Common.{◌∙◌, ◌&&◌, Bool, not, ap}
use Rattle.http_front.proofs.mailbox.say_rest.Goals as goal

pub returns-clause-said : goal.returns-clause-said
returns-clause-said g c = record {
  sent = c.say-said.result;
  says = rw c.as_slice.ensures at c.say-said.ensures.said;
  next = c.next_after.ensures ∙ ap (λ (b : Bool). b && not c.args.closes) c.is_ok.ensures.value;
}
