use Rattle.std.proofs.Common.{◌∙◌, refl, arith}
use Rattle.arch_model.specs.KeeperRecord.{keeper}
use Rattle.node_serve.specs.declared.serving.ServeEnd.TheVariants as end
use Rattle.node_serve.proofs.Running.{sofar-none, sofar-more, ends-stopped, ends-none, ends-early, took-nothing}
use Rattle.node_serve.proofs.serving.serve_with.Goals as goal

pub loop-turn-init : goal.loop-turn-init
loop-turn-init g c = record {
  far = sofar-none (keeper g.K.Shelf g.K.Keep) c.args.node.now _ _ _ _;
  later = omega arith;
  kept = refl;
  disk_later = omega arith;
}

pub loop-turn-preserved : goal.loop-turn-preserved
loop-turn-preserved g c = record {
  far = sofar-more (keeper g.K.Shelf g.K.Keep) c.loop-turn._turn _ _ _ _ _ _ _ _ _ _ _ _ _ _ _ c.loop-turn.invariant.far c.in-Went.ensures.taken;
  later = omega (arith, c.loop-turn.invariant.later, c.take_one.ensures.later);
  kept = c.in-Went.ensures.kept (λ fault. absurd (cc fault)) ∙ c.loop-turn.invariant.kept;
  disk_later = omega (arith, c.loop-turn.invariant.disk_later, c.take_one.ensures.disk_later);
}

pub returns-in-Stops-clause-served : goal.returns-in-Stops-clause-served
returns-in-Stops-clause-served g c = ends-stopped (keeper g.K.Shelf g.K.Keep) c.loop-turn._turn c.args.turns (omega arith) _ _ _ _ _ _ _ _ _ _ _ _ _ _ _ _ _ c.loop-turn.invariant.far c.in-Stops.ensures.taken (c.in-Stops.ensures.kept (λ fault. absurd (cc fault)) ∙ c.loop-turn.invariant.kept)

pub returns-in-Nothing-clause-served : goal.returns-in-Nothing-clause-served
returns-in-Nothing-clause-served g c =
    let taken = c.in-Nothing.ensures.taken in
    ends-none (keeper g.K.Shelf g.K.Keep) c.loop-turn._turn c.args.turns (omega arith) _ _ _ _ _ _ _ _ _ _ _ _ _ _ _ _ _ c.loop-turn.invariant.far taken.0 taken.1 taken.2 (c.in-Nothing.ensures.kept (λ fault. absurd (cc fault)) ∙ c.loop-turn.invariant.kept)

pub returns-in-Fault-clause-served : goal.returns-in-Fault-clause-served
returns-in-Fault-clause-served g c =
    let taken = c.in-Fault.ensures.taken in
    let far = c.loop-turn.invariant.far in
    ends-early (keeper g.K.Shelf g.K.Keep) end.HostFault c.loop-turn._turn c.args.turns _ _ _ _ _ _ _ _ _ _ _ _ _ _ _ _ _ far taken.0 taken.2 (far.none, (let rose = taken.1 in omega (arith, rose, c.loop-turn.invariant.later)), (let count = far.count in omega (arith, count)))

pub returns-clause-served : goal.returns-clause-served
returns-clause-served g c =
    let far = c.loop-turn.invariant.far in
    let count = far.count in
    ends-early (keeper g.K.Shelf g.K.Keep) (end.Spent c.args.turns) c.loop-turn._turn c.args.turns _ _ _ _ _ _ _ _ _ _ _ _ _ _ _ _ _ far (took-nothing _ _ _ _) (λ past noted. noted) (refl, omega (arith, count), far.none, c.loop-turn.invariant.kept)
