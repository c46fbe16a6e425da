use Rattle.std.proofs.Common.{arith}
use Rattle.http_front.proofs.Pieces.{len-next, len-past}
use Rattle.http_front.proofs.mailbox.len_of.Goals as goal

pub loop-n-preserved : goal.loop-n-preserved
loop-n-preserved g c = record {
  value = λ a held.
      len-next a.entries c.args.numbers.now c.loop-n.n-index _ c.loop-n.len c.piece_len-len.result _ c.loop-n-test.true (c.loop-n.invariant.value a held) (c.piece_len-len.ensures.value a held);
  room = omega (arith, c.piece_len-len.ensures.small, c.loop-n.invariant.room);
}

pub returns : goal.returns
returns g c = λ a held. len-past a.entries c.args.numbers.now c.loop-n.n-index c.loop-n.len _ (omega arith) (c.loop-n.invariant.value a held)
