use Rattle.std.proofs.Common.{◌≡◌, ◌≤◌, ◌+◌, ◌*◌, ◌++◌, length, Some, true, if◌then◌else◌}
use Rattle.line_door.specs.Acts.{outside}
use Rattle.line_door.specs.Course.{talk}
use Rattle.keep_course.specs.Courses.{KeeperRunning}
use Rattle.arch_model.specs.KeeperRecord.{keeper}
use Rattle.arch_model.specs.Keeping.{MatchesKnown}
use Rattle.arch_model.specs.Standing.{LastKnown}
use Rattle.control_door.specs.Counting.{asks_for}
use Rattle.control_door.specs.Door.{waiting, control_at}
use Rattle.control_door.specs.Requests.{is_request}
use Rattle.control_door.proofs.Counting.{Left}
use Rattle.control_door.proofs.session.Session.feed.Given as goal

abbrev pub invariant-loop-opened : goal.invariant-loop-opened
invariant-loop-opened g l = record {
  going :
      (s : LastKnown) → MatchesKnown (keeper g.K.Shelf g.K.Keep) l.fn.keep s →
      (t : LastKnown) × MatchesKnown (keeper g.K.Shelf g.K.Keep) l.keep t
      × KeeperRunning (keeper g.K.Shelf g.K.Keep) (control_at l.moment) l.fn.keep l.keep
      (talk (Some (waiting (l.fn.self ++ l.fn.piece) true)) s (outside (g.O.Sink.taken l.fn.out) (g.K.Shelf.faults l.fn.keep) (g.O.Sink.faults l.fn.out)))
      (talk (Some (waiting (l.self ++ l.rest) l.opened)) t (outside (g.O.Sink.taken l.out) (g.K.Shelf.faults l.keep) (g.O.Sink.faults l.out)));
  reads : Left (asks_for (l.fn.self ++ l.fn.piece)) (asks_for (l.self ++ l.rest)) (is_request (l.self ++ l.rest)) (g.K.Shelf.ready l.keep) (g.K.Shelf.reads l.fn.keep) (g.K.Shelf.reads l.keep);
  ready : l.opened ≡ true → g.K.Shelf.ready l.keep ≡ true;
  later : g.K.Shelf.faults l.fn.keep ≤ g.K.Shelf.faults l.keep;
  sink : g.O.Sink.alike l.fn.out l.out;
}

abbrev pub decreases-loop-opened : goal.decreases-loop-opened
decreases-loop-opened g l = 2 * length l.rest + (if l.opened then 0 else 1)
