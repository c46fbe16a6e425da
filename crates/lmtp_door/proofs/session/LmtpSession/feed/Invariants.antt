use Rattle.std.proofs.Common.{◌≡◌, ◌≤◌, ◌+◌, ◌*◌, length, Some, true, if◌then◌else◌}
use Rattle.line_door.specs.Acts.{outside}
use Rattle.line_door.specs.Course.{talk}
use Rattle.arch_model.specs.KeeperRecord.{keeper}
use Rattle.arch_model.specs.Keeping.{MatchesKnown}
use Rattle.arch_model.specs.Standing.{LastKnown}
use Rattle.keep_course.specs.Courses.{KeeperRunning}
use Rattle.lmtp_door.specs.Courses.{at_work}
use Rattle.lmtp_door.specs.Door.{recipients, lmtp_at}
use Rattle.lmtp_door.specs.Sessions.{HasName}
use Rattle.lmtp_door.proofs.session.LmtpSession.feed.Given as goal

abbrev pub invariant-loop-opened : goal.invariant-loop-opened
invariant-loop-opened g l = record {
  going :
      (s : LastKnown) → MatchesKnown (keeper g.K.Shelf g.K.Keep) l.fn.keep s →
      (t : LastKnown) × MatchesKnown (keeper g.K.Shelf g.K.Keep) l.keep t × HasName l.name t
      × KeeperRunning (keeper g.K.Shelf g.K.Keep) (lmtp_at l.moment) l.fn.keep l.keep
      (talk (Some (at_work l.fn.self l.fn.piece true)) s (outside (g.O.Sink.taken l.fn.out) (g.K.Shelf.faults l.fn.keep) (g.O.Sink.faults l.fn.out)))
      (talk (Some (at_work l.self l.rest l.opened)) t (outside (g.O.Sink.taken l.out) (g.K.Shelf.faults l.keep) (g.O.Sink.faults l.out)));
  ready : l.opened ≡ true → g.K.Shelf.ready l.keep ≡ true;
  later : g.K.Shelf.faults l.fn.keep ≤ g.K.Shelf.faults l.keep;
  sink : g.O.Sink.alike l.fn.out l.out;
}

abbrev pub decreases-loop-opened : goal.decreases-loop-opened
decreases-loop-opened g l = 4 * length l.rest + 2 * recipients l.self.phase + (if l.opened then 0 else 1)
