use Rattle.std.proofs.Common.{sym, ap}
use Rattle.arch_base.specs.declared.config.Config.{Config}
use Rattle.http_heads.specs.declared.reply.Body.TheVariants.{Page}
use Rattle.http_front.specs.Asking.{Gives}
use Rattle.http_front.proofs.message.page_of.Goals as goal

pub returns : goal.returns
returns g c = λ a held.
    ap (Gives Page) (sym (rw (ap (λ (k : Config). k.name) (c.config.ensures a held), c.as_slice.ensures, c.in_ok-body.ensures) at c.in_ok-page.ensures))
