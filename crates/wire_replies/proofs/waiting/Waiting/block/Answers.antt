use Rattle.std.proofs.Common.{Ok, ◌≡◌, ◌∷◌, ◌∙◌, [], ap, arith}
use Rattle.std.proofs.lemmas.List.{nil_from_length}
use Rattle.std.proofs.lemmas.Bool.Decides.{nat_tests}
use Rattle.mail_reader.specs.Lines.{lines_of}
use Rattle.wire_replies.specs.Blocks.{block_line, block_lines}
use Rattle.wire_replies.proofs.Blocks.{block-front, block-nil}
use Rattle.wire_replies.proofs.Wording.{sofar-none, sofar-more, sofar-end, sofar-lost, Waits-none}
use Rattle.wire_replies.proofs.waiting.Waiting.block.Goals as goal

pub loop-rest-init : goal.loop-rest-init
loop-rest-init g c = record { so_far = sofar-none (block_lines c.args.text.now) c.args.self.now _ _; sink = g.met.O.Sink.alike_same _ }

pub loop-rest-preserved : goal.loop-rest-preserved
loop-rest-preserved g c =
    let parts : lines_of c.loop-rest.rest.now ≡ c.split_at.result.0.now ∷ lines_of c.split_at.result.1.now = rw (c.split_at.ensures.front, c.split_at.ensures.back) c.line_len.ensures.lines in
    record {
      so_far = sofar-more (block_lines c.args.text.now) c.args.self.now _ _ (block_lines c.loop-rest.rest.now) c.loop-rest.self _ _ c.loop-rest.invariant.so_far (block_line c.split_at.result.0.now) (block_lines c.split_at.result.1.now) c.line.new.self _ _ tt
          (block-front c.loop-rest.rest.now c.split_at.result.0.now c.split_at.result.1.now parts) c.in-Ok.ensures.said;
      sink = g.met.O.Sink.alike_joined _ _ _ c.loop-rest.invariant.sink c.line.ensures.sink;
    }

pub returns-in-Err-clause-said : goal.returns-in-Err-clause-said
returns-in-Err-clause-said g c =
    let parts : lines_of c.loop-rest.rest.now ≡ c.split_at.result.0.now ∷ lines_of c.split_at.result.1.now = rw (c.split_at.ensures.front, c.split_at.ensures.back) c.line_len.ensures.lines in
    sofar-lost (block_lines c.args.text.now) c.args.self.now _ _ (block_lines c.loop-rest.rest.now) c.loop-rest.self _ _ c.loop-rest.invariant.so_far (block_line c.split_at.result.0.now) (block_lines c.split_at.result.1.now) _ _ c.in-Err.fault
    (block-front c.loop-rest.rest.now c.split_at.result.0.now c.split_at.result.1.now parts) c.in-Err.ensures.said

pub returns-clause-said : goal.returns-clause-said
returns-clause-said g c =
    let none : c.loop-rest.rest.now ≡ [] = nil_from_length c.loop-rest.rest.now (grind (arith, nat_tests)) in
    sofar-end (block_lines c.args.text.now) c.args.self.now _ _ (block_lines c.loop-rest.rest.now) c.loop-rest.self _ _ c.loop-rest.invariant.so_far c.loop-rest.self _ _ (Ok tt) (rw (ap block_lines none ∙ block-nil) (Waits-none c.loop-rest.self (g.O.Sink.taken c.loop-rest.out) (g.O.Sink.faults c.loop-rest.out)))
