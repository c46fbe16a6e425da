use Rattle.std.proofs.Common.{arith, ◌-◌, drop}
use Rattle.imap_states.specs.Patterns.{pattern_then}
use Rattle.imap_states.proofs.Rests.{start-rests, byte-before}
use Rattle.imap_states.proofs.patterns.with_pattern.Goals as goal

pub loop-index-init : goal.loop-index-init
loop-index-init c = record {
  within = omega arith;
  tells = λ test told. start-rests c.args.pattern.now test c.args.name.now _ told;
}

pub loop-index-preserved : goal.loop-index-preserved
loop-index-preserved c =
    let pattern = c.args.pattern.now in record {
      within = omega (arith, c.loop-index.invariant.within);
      tells = λ test told. byte-before pattern test c.args.name.now (c.loop-index.index - 1) c.loop-index.index c.with_byte-made.result (omega arith) (omega arith)
          (c.with_byte-made.ensures (pattern_then (drop c.loop-index.index pattern) test) (c.loop-index.invariant.tells test told));
    }
