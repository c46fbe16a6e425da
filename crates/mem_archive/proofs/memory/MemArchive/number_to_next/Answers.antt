use Rattle.std.proofs.Common.{arith}
use Rattle.std.specs.Vec.{vec_len}
use Rattle.mem_archive.proofs.Keeping.{numbers-to, numbers-past}
use Rattle.mem_archive.proofs.memory.MemArchive.number_to_next.Goals as goal

pub overflow_sub-next : goal.overflow_sub-next
overflow_sub-next c = omega (arith, c.if-next-now.false)

pub returns-then-next-now : goal.returns-then-next-now
returns-then-next-now c = record { ok = numbers-past c.args.self.now c.next-now.result c.args.next c.next-now.ensures c.if-next-now.true; err = tt }

pub invariant_of-self-2 : goal.invariant_of-self-2
invariant_of-self-2 c = (
  (numbers-to c.self.inside.config c.self.inside.kept.items c.self.inside.places.items c.resize.new.self.items c.self.inside.index c.self.inside.end c.args.self.now c.next-now.result c.args.next (vec_len c.self.inside.places) c.self.view_is c.self.invariant.0 c.requires c.next-now.ensures c.if-next-now.false (omega (arith, c.self.inside.places.ok)) c.in_ok-resize.ensures.items).0,
  c.self.invariant.1,
)

pub returns-clause-ok : goal.returns-clause-ok
returns-clause-ok c =
    (numbers-to c.self.inside.config c.self.inside.kept.items c.self.inside.places.items c.resize.new.self.items c.self.inside.index c.self.inside.end c.args.self.now c.next-now.result c.args.next (vec_len c.self.inside.places) c.self.view_is c.self.invariant.0 c.requires c.next-now.ensures c.if-next-now.false (omega (arith, c.self.inside.places.ok)) c.in_ok-resize.ensures.items).1
