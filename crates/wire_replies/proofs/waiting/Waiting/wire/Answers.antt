use Rattle.std.proofs.Common.{Ok, ◌≡◌, ◌++◌, ◌∙◌, [], drop, ap, arith}
use Rattle.std.proofs.lemmas.List.{nil_from_length}
use Rattle.std.proofs.lemmas.Bool.Decides.{nat_tests}
use Rattle.mail_forms.specs.WireForms.{wire_of}
use Rattle.wire_replies.specs.Changed.{first_sent}
use Rattle.wire_replies.proofs.Blocks.{wire-front, wire-nil}
use Rattle.wire_replies.proofs.Wording.{sofar-none, sofar-more, sofar-end, sofar-lost, Waits-none}
use Rattle.wire_replies.proofs.waiting.Waiting.wire.Goals as goal

pub loop-rest-init : goal.loop-rest-init
loop-rest-init g c = record { so_far = sofar-none (wire_of c.args.bytes.now) c.args.self.now _ _; sink = g.met.O.Sink.alike_same _ }

pub loop-rest-preserved : goal.loop-rest-preserved
loop-rest-preserved g c =
    let front = c.split_at.result.0.now in
    let back = c.split_at.result.1.now in
    let parts : wire_of c.loop-rest.rest.now ≡ (front ++ first_sent back) ++ wire_of (drop 1 back) = rw (c.split_at.ensures.front, c.split_at.ensures.back, c.unchanged_len.ensures.value) (wire-front c.loop-rest.rest.now) in
    record {
      so_far = rw c.without_first-rest.ensures (sofar-more (wire_of c.args.bytes.now) c.args.self.now _ _ (wire_of c.loop-rest.rest.now) c.loop-rest.self _ _ c.loop-rest.invariant.so_far (front ++ first_sent back) (wire_of (drop 1 back)) c.wire_part.new.self _ _ tt parts c.in-Ok.ensures.said);
      sink = g.met.O.Sink.alike_joined _ _ _ c.loop-rest.invariant.sink c.wire_part.ensures.sink;
    }

pub returns-in-Err-clause-said : goal.returns-in-Err-clause-said
returns-in-Err-clause-said g c =
    let front = c.split_at.result.0.now in
    let back = c.split_at.result.1.now in
    let parts : wire_of c.loop-rest.rest.now ≡ (front ++ first_sent back) ++ wire_of (drop 1 back) = rw (c.split_at.ensures.front, c.split_at.ensures.back, c.unchanged_len.ensures.value) (wire-front c.loop-rest.rest.now) in
    sofar-lost (wire_of c.args.bytes.now) c.args.self.now _ _ (wire_of c.loop-rest.rest.now) c.loop-rest.self _ _ c.loop-rest.invariant.so_far (front ++ first_sent back) (wire_of (drop 1 back)) _ _ c.in-Err.fault parts c.in-Err.ensures.said

pub returns-clause-said : goal.returns-clause-said
returns-clause-said g c =
    let none : c.loop-rest.rest.now ≡ [] = nil_from_length c.loop-rest.rest.now (grind (arith, nat_tests)) in
    sofar-end (wire_of c.args.bytes.now) c.args.self.now _ _ (wire_of c.loop-rest.rest.now) c.loop-rest.self _ _ c.loop-rest.invariant.so_far c.loop-rest.self _ _ (Ok tt) (rw (ap wire_of none ∙ wire-nil) (Waits-none c.loop-rest.self (g.O.Sink.taken c.loop-rest.out) (g.O.Sink.faults c.loop-rest.out)))
