use Rattle.std.proofs.Common.{length, ap, arith, rules}
use Rattle.http_front.proofs.Pieces.{len-more, len-none, pieces-all}
use Rattle.http_front.proofs.mailbox.every_len.Goals as goal

pub loop-n-init : goal.loop-n-init
loop-n-init g c = record {
  value = λ a held. omega (arith, ap length (pieces-all a.entries));
  room = search rules;
  within = search rules;
}

pub loop-n-preserved : goal.loop-n-preserved
loop-n-preserved g c = record {
  value = λ a held.
      rw c.from-low.ensures (len-more a.entries c.loop-n.low c.in-Some.n c.loop-n.len c.piece_len-len.result _ c.in-Some.ensures.later.1 (c.in-Some.ensures.next a held) (c.loop-n.invariant.value a held) (c.piece_len-len.ensures.value a held));
  room = omega (arith, c.in-Some.ensures.later, c.piece_len-len.ensures.small, c.loop-n.invariant.room);
  within = search rules;
}

pub returns : goal.returns
returns g c = λ a held. len-none a.entries c.loop-n.low c.loop-n.len _ (c.in_default.ensures.next a held) (c.loop-n.invariant.value a held)
