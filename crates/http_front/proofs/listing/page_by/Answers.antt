use Rattle.http_front.proofs.Finding.{page-searched, page-listed}
use Rattle.http_front.proofs.listing.page_by.Goals as goal

pub returns-in-Some : goal.returns-in-Some
returns-in-Some g c = λ a held.
    page-searched a c.args.asked c.in-Some.text c.as_slice.result.now c.args.skip c.search_at.result c.in-Some.is c.as_slice.ensures (c.search_at.ensures a held)

pub returns-in_ok-page-in-None : goal.returns-in_ok-page-in-None
returns-in_ok-page-in-None g c = λ a held. page-listed a c.args.asked c.args.skip c.in_ok-page-in-None.page c.in-None.is (c.in_ok-page-in-None.ensures a held)
