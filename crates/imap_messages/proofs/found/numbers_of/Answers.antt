use Rattle.std.proofs.Common.{◌∙◌, ℕ, List, get_or, refl, ap, subst, rules, arith}
use Rattle.arch_model.specs.Shelves.{ReadsAhead}
use Rattle.arch_model.proofs.Shelving.{stays-joined}
use Rattle.imap_messages.specs.Picking.{messages_from, greatest_uid}
use Rattle.imap_messages.specs.Seeking.{asked_search, looks_of}
use Rattle.imap_messages.proofs.Named.{ahead-on, ahead-stop, texts-fit}
use Rattle.imap_messages.proofs.Seekings.{numbers-start, numbers-at, looks-at, why-more}
use Rattle.imap_messages.proofs.found.numbers_of.Goals as goal

pub loop-index-init : goal.loop-index-init
loop-index-init g c = record {
  so_far = λ a held. numbers-start a (asked_search c.args.command.now) c.args.told.now.uids c.new-numbers.result c.new-numbers.ensures;
  reads = λ a held. record { later = omega arith; bound = omega arith };
  within = omega arith;
  faults = refl;
  shelf = search rules;
}

pub loop-index-preserved : goal.loop-index-preserved
loop-index-preserved g c = record {
  so_far = λ a held.
      numbers-at a (asked_search c.args.command.now) c.args.told.now.uids c.loop-index.index _ _ c.loop-index.numbers c.push_found.new.numbers (omega (arith, c.loop-index-test.true, c.count-count.ensures.all)) (ap (λ (x : List ℕ). get_or x c.loop-index.index 0) c.uids-uids.ensures) (c.loop-index.invariant.so_far a held)
      (c.in-Ok.ensures.found a c.args.told.now.uids (c.loop-index.invariant.shelf.kept a held) (record { count = c.count-count.ensures.all; greatest = c.greatest_uid-greatest.ensures ∙ ap greatest_uid c.uids-uids.ensures }));
  reads = λ a held.
      ahead-on _ _ _ _ _ _ _ (looks-at a c.args.told.now.uids (asked_search c.args.command.now) c.loop-index.index _ (omega (arith, c.loop-index-test.true, c.count-count.ensures.all)) (ap (λ (x : List ℕ). get_or x c.loop-index.index 0) c.uids-uids.ensures))
      (c.loop-index.invariant.reads a held)
      (c.in-Ok.ensures.reads a c.args.told.now.uids (c.loop-index.invariant.shelf.kept a held) (record { count = c.count-count.ensures.all; greatest = c.greatest_uid-greatest.ensures ∙ ap greatest_uid c.uids-uids.ensures }));
  within = omega (arith, c.loop-index-test.true, c.count-count.ensures.all);
  faults = c.in-Ok.ensures.cause ∙ c.loop-index.invariant.faults;
  shelf = stays-joined g.S.Shelf.holds g.S.Shelf.ready g.S.Shelf.alike g.S.Shelf.faults g.met.S.Shelf.alike_joined _ _ _ c.loop-index.invariant.shelf c.push_found.ensures.shelf;
}

pub returns-in-Err-clause-found : goal.returns-in-Err-clause-found
returns-in-Err-clause-found g c = λ a held.
    let parts = looks-at a c.args.told.now.uids (asked_search c.args.command.now) c.loop-index.index (get_or c.uids-uids.result.now c.loop-index.index 0) (omega (arith, c.loop-index-test.true, c.count-count.ensures.all)) (ap (λ (x : List ℕ). get_or x c.loop-index.index 0) c.uids-uids.ensures) in
    why-more _ _ c.in-Err.refusal
    (texts-fit _ _ _ _ _ (subst (λ (n : ℕ). ReadsAhead (looks_of a c.args.told.now.uids (asked_search c.args.command.now) (messages_from 1 c.args.told.now.uids)) n (g.S.Shelf.reads c.args.shelf.now) (g.S.Shelf.reads c.loop-index.shelf)) parts (c.loop-index.invariant.reads a held)))
    (c.in-Err.ensures.found a c.args.told.now.uids (c.loop-index.invariant.shelf.kept a held) (record { count = c.count-count.ensures.all; greatest = c.greatest_uid-greatest.ensures ∙ ap greatest_uid c.uids-uids.ensures }))

pub returns-in-Err-clause-reads : goal.returns-in-Err-clause-reads
returns-in-Err-clause-reads g c = λ a held.
    ahead-stop _ _ _ _ _ _ _ (looks-at a c.args.told.now.uids (asked_search c.args.command.now) c.loop-index.index _ (omega (arith, c.loop-index-test.true, c.count-count.ensures.all)) (ap (λ (x : List ℕ). get_or x c.loop-index.index 0) c.uids-uids.ensures))
    (c.loop-index.invariant.reads a held)
    (c.in-Err.ensures.reads a c.args.told.now.uids (c.loop-index.invariant.shelf.kept a held) (record { count = c.count-count.ensures.all; greatest = c.greatest_uid-greatest.ensures ∙ ap greatest_uid c.uids-uids.ensures }))
