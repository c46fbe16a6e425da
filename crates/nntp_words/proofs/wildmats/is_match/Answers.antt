use Rattle.std.proofs.Common.{arith}
use Rattle.nntp_words.proofs.Ends.{start-ends, byte-before}
use Rattle.nntp_words.specs.Wildmats.{pattern_matches}
use Rattle.std.proofs.Common.{◌-◌, drop}
use Rattle.nntp_words.proofs.wildmats.is_match.Goals as goal

pub loop-index-init : goal.loop-index-init
loop-index-init c = record {
  within = omega arith;
  tells = start-ends c.args.pattern.now c.args.name.now c.requires;
}

pub loop-index-preserved : goal.loop-index-preserved
loop-index-preserved c =
    let pattern = c.args.pattern.now in
    let told = c.with_byte-ends.ensures (pattern_matches (drop c.loop-index.index pattern)) c.loop-index.invariant.tells in record {
      within = omega (arith, c.loop-index.invariant.within);
      tells = byte-before pattern c.args.name.now (c.loop-index.index - 1) c.loop-index.index c.with_byte-ends.result (omega arith) (omega arith) told;
    }
