use Rattle.std.specs.Prelude.{codes}
use Rattle.http_heads.specs.Parameters.{parameter, skipped}
use Rattle.http_front.proofs.Finding.{page-asked}
use Rattle.http_front.proofs.listing.listing_at.Goals as goal

pub returns : goal.returns
returns g c = λ a held.
    page-asked a c.in_ok-asked.asked (parameter (codes "q") c.args.query.now) c.in_ok-skip.skip (skipped (parameter (codes "o") c.args.query.now)) c.page_by.result c.in_ok-asked.ensures c.in_ok-skip.ensures (c.page_by.ensures a held)
