use Rattle.std.proofs.Common.{◌≡◌, fold, take}
use Rattle.arch_base.specs.Moments.{IsMoment}
use Rattle.atom_mbox.specs.Feeds.{later}
use Rattle.atom_mbox.proofs.feeds.last_arrival.Given as goal

abbrev pub invariant-loop-mail : goal.invariant-loop-mail
invariant-loop-mail l = record {
  last : l.last ≡ fold later 0 (take l.mail-index l.mails);
  moment : IsMoment l.last;
}
