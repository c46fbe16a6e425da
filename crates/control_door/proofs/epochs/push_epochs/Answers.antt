use Rattle.std.proofs.Common.{◌++◌, ℕ, List, refl, ◌∙◌, ap, add-one, arith}
use Rattle.arch_model.specs.Archives.{in_epoch}
use Rattle.arch_model.proofs.Shelving.{stays-same, stays-joined, why-earlier}
use Rattle.control_door.specs.Door.{listed}
use Rattle.control_door.proofs.Counting.{reads-none, reads-more, reads-within}
use Rattle.control_door.proofs.epochs.push_epochs.Goals as goal

pub loop-epoch-init : goal.loop-epoch-init
loop-epoch-init g c = record {
  words = λ a held. c.requires.empty;
  shelf = stays-same g.K.Shelf.holds g.K.Shelf.ready g.K.Shelf.alike g.K.Shelf.faults g.met.K.Shelf.alike_same c.args.keep.now c.requires.ready;
  reads = reads-none 0 _;
  kept = refl;
}

pub loop-epoch-preserved : goal.loop-epoch-preserved
loop-epoch-preserved g c = record {
  words = λ a held.
      let more = c.in-Ok.ensures.words a (c.loop-epoch.invariant.shelf.kept a held) in
      rw add-one (more ∙ ap (λ (xs : List ℕ). xs ++ listed a.config.form c.loop-epoch.epoch (in_epoch a.entries c.loop-epoch.epoch)) (c.loop-epoch.invariant.words a held));
  shelf = stays-joined g.K.Shelf.holds g.K.Shelf.ready g.K.Shelf.alike g.K.Shelf.faults g.met.K.Shelf.alike_joined _ _ _ c.loop-epoch.invariant.shelf c.push_listed.ensures.shelf;
  reads = reads-more _ _ _ _ c.loop-epoch.invariant.reads c.push_listed.ensures.reads;
  kept = c.in-Ok.ensures.cause ∙ c.loop-epoch.invariant.kept;
}

pub returns-in-Err-clause-words : goal.returns-in-Err-clause-words
returns-in-Err-clause-words g c = λ a held. c.in-Err.ensures.words a (c.loop-epoch.invariant.shelf.kept a held)

pub returns-in-Err-clause-shelf : goal.returns-in-Err-clause-shelf
returns-in-Err-clause-shelf g c = stays-joined g.K.Shelf.holds g.K.Shelf.ready g.K.Shelf.alike g.K.Shelf.faults g.met.K.Shelf.alike_joined _ _ _ c.loop-epoch.invariant.shelf c.push_listed.ensures.shelf

pub returns-in-Err-clause-cause : goal.returns-in-Err-clause-cause
returns-in-Err-clause-cause g c = why-earlier _ _ _ c.in-Err.refusal c.loop-epoch.invariant.kept c.in-Err.ensures.cause

pub returns-in-Err-clause-reads : goal.returns-in-Err-clause-reads
returns-in-Err-clause-reads g c = reads-within _ _ _ _ (omega arith) (reads-more _ _ _ _ c.loop-epoch.invariant.reads c.push_listed.ensures.reads)
