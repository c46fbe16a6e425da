use Rattle.std.proofs.Common.{◌≡◌, take}
use Rattle.std.specs.Prelude.{IfSome}
use Rattle.arch_base.specs.Moments.{IsMoment}
use Rattle.arch_model.specs.Archives.{Archive}
use Rattle.http_front.specs.Views.{shown_all}
use Rattle.http_front.specs.Feeding.{latest_of}
use Rattle.http_front.proofs.feed.latest.Given as goal

abbrev pub invariant-loop-n : goal.invariant-loop-n
invariant-loop-n g l = record {
  value : (a : Archive) → g.S.Shelf.holds l.shelf a → l.last ≡ latest_of (shown_all a (take l.n-index l.numbers));
  moment : IfSome l.last IsMoment;
}
