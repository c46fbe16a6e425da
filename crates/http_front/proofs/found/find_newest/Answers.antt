use Rattle.std.proofs.Common.{◌∙◌, true, refl}
use Rattle.arch_model.specs.Archives.{live}
use Rattle.arch_model.specs.Listings.{listing}
use Rattle.http_front.specs.Asking.{feed_found}
use Rattle.http_front.proofs.Counting.{leaves-whole}
use Rattle.http_front.proofs.Finding.{finds-feed, reads-feed}
use Rattle.http_front.proofs.found.find_newest.Goals as goal

pub returns-in-Ok-clause-found : goal.returns-in-Ok-clause-found
returns-in-Ok-clause-found g c = λ a held.
    finds-feed a c.as_slice.result.now _ c.feed_at.result (c.as_slice.ensures ∙ c.in-Ok.ensures a held) (c.feed_at.ensures.found a held)

pub returns-in-Ok-clause-reads : goal.returns-in-Ok-clause-reads
returns-in-Ok-clause-reads g c = λ a held. reads-feed c.as_slice.result.now (listing (live a.entries)) _ _ (c.as_slice.ensures ∙ c.in-Ok.ensures a held) c.feed_at.ensures.reads

pub returns-in-Ok-clause-left : goal.returns-in-Ok-clause-left
returns-in-Ok-clause-left g c = λ a held. leaves-whole a (feed_found a c.as_slice.result.now) true c.feed_at.result refl (c.feed_at.ensures.found a held)
