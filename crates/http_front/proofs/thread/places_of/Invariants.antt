use Rattle.std.proofs.Common.{◌≡◌, [], take}
use Rattle.http_front.specs.Threads.{put_places}
use Rattle.http_front.proofs.ThreadRows.{rows_lent}
use Rattle.http_front.proofs.thread.places_of.Given as goal

abbrev pub invariant-loop-row : goal.invariant-loop-row
invariant-loop-row g l = l.places.keys ≡ put_places [] (rows_lent (take l.row-index l.row-items))
