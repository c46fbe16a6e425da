use Rattle.std.proofs.Common.{◌∙◌}
use Rattle.arch_model.proofs.Shelving.{stays-joined, why-earlier}
use Rattle.http_front.proofs.Feeds.{entries-more, reads-more, reads-stop}
use Rattle.http_front.proofs.feed.push_mails.Goals as goal

pub loop-n-preserved : goal.loop-n-preserved
loop-n-preserved g c = record {
  entries = λ a held.
      entries-more a c.args.numbers.now c.loop-n.n-index _ c.args.into.now c.loop-n.into c.push_mail.new.into c.loop-n-test.true (c.loop-n.invariant.entries a held) (c.in-Ok.ensures.entry a (c.loop-n.invariant.shelf.kept a held));
  shelf = stays-joined g.S.Shelf.holds g.S.Shelf.ready g.S.Shelf.alike g.S.Shelf.faults g.met.S.Shelf.alike_joined _ _ _ c.loop-n.invariant.shelf c.push_mail.ensures.shelf;
  kept = c.in-Ok.ensures.cause ∙ c.loop-n.invariant.kept;
  reads = reads-more c.loop-n.n-index _ _ _ c.loop-n.invariant.reads c.push_mail.ensures.reads;
}

pub returns-in-Err-clause-entries : goal.returns-in-Err-clause-entries
returns-in-Err-clause-entries g c = λ a held. c.in-Err.ensures.entry a (c.loop-n.invariant.shelf.kept a held)

pub returns-in-Err-clause-cause : goal.returns-in-Err-clause-cause
returns-in-Err-clause-cause g c = why-earlier _ _ _ c.in-Err.refusal c.loop-n.invariant.kept c.in-Err.ensures.cause

pub returns-in-Err-clause-reads : goal.returns-in-Err-clause-reads
returns-in-Err-clause-reads g c = reads-stop c.loop-n.n-index _ _ _ _ c.loop-n-test.true c.loop-n.invariant.reads c.push_mail.ensures.reads
