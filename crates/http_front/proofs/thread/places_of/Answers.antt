use Rattle.std.proofs.Common.{[], ap}
use Rattle.std.specs.Borrow.{Bor}
use Rattle.mail_forms.specs.declared.row.Row.{Row}
use Rattle.http_front.proofs.ThreadRows.{places-more}
use Rattle.http_front.proofs.thread.places_of.Goals as goal

pub loop-row-preserved : goal.loop-row-preserved
loop-row-preserved g c =
    places-more c.as_slice-row-items.result.now c.loop-row.row-index c.row-item.result c.row-item.result.now [] c.loop-row.places.keys c.put_place.new.places.keys c.loop-row-test.true (ap (λ (r : Bor Row). r.now) c.row-item.is) c.loop-row.invariant c.in_ok-put_place.ensures
