use Rattle.std.proofs.Common.{◌∙◌, List, ap, map, refl}
use Rattle.std.specs.Borrow.{Bor}
use Rattle.arch_base.specs.declared.config.Config.{Config}
use Rattle.mail_forms.specs.declared.row.Row.{Row}
use Rattle.http_front.proofs.Finding.{listing-made}
use Rattle.http_front.proofs.listing.listing_from.Goals as goal

pub returns : goal.returns
returns g c = λ a held.
    listing-made a c.args.skip c.args.skip c.config.result.now.name c.in_ok-numbers.numbers c.as_slice.result.now _ c.listing_page.result refl (ap (λ (k : Config). k.name) (c.config.ensures a held)) (c.in_ok-numbers.ensures a held) c.as_slice.ensures
    (ap (λ (rows : List (Bor Row)). map (λ (row : Bor Row). row.now) rows) c.as_slice-2.ensures.value ∙ c.in_ok-rows.ensures a held) c.listing_page.ensures
