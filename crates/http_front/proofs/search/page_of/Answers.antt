use Rattle.std.proofs.Common.{◌∙◌, List, ap, map}
use Rattle.std.specs.Borrow.{Bor}
use Rattle.arch_base.specs.declared.config.Config.{Config}
use Rattle.mail_forms.specs.declared.row.Row.{Row}
use Rattle.http_front.proofs.Finding.{search-made}
use Rattle.http_front.proofs.search.page_of.Goals as goal

pub returns : goal.returns
returns g c = λ a held.
    search-made a c.args.query.now c.args.skip c.config.result.now.name c.args.text.now c.as_slice.result.now _ c.in_ok-page.page (ap (λ (k : Config). k.name) (c.config.ensures a held)) (c.as_slice.ensures ∙ c.in_ok-found.ensures a held)
    (ap (λ (rows : List (Bor Row)). map (λ (row : Bor Row). row.now) rows) c.as_slice-2.ensures.value ∙ c.in_ok-rows.ensures a held) c.in_ok-page.ensures
