-- One more record, or the first that isn't there.
use Rattle.std.proofs.Common.{rules, arith, refl, ◌≡◌, ◌++◌, ◌+◌, drop}
use Rattle.disk_model.specs.Sizes.{record_size}
use Rattle.number_map.specs.Sizes.{sizes_one, sizes_sum}
use Rattle.number_map.proofs.Standing.{next_valid, one_more, piece_refused, begins_of}
use Rattle.number_map.proofs.pieces.read_piece.Goals as goal

pub returns-in-Err-clause-read : goal.returns-in-Err-clause-read
returns-in-Err-clause-read c = λ map after stands enough.
    let inv = c.loop.invariant in
    piece_refused c.args.form c.in-Err.refusal c.args.wanted c.loop.counter c.args.lines.now c.loop.lines c.read_next.new.lines c.args.bytes.now c.loop.rest.now map after c.loop-test.true inv.count inv.left (inv.stands map after stands) enough c.in-Err.ensures.next

pub loop-preserved : goal.loop-preserved
loop-preserved c =
    let inv = c.loop.invariant in
    let rest : c.split_at.result.1.now ≡ drop (record_size c.args.form) c.loop.rest.now = search rules in
    record {
      count = omega (arith, inv.count, c.in-Ok.ensures.size);
      left = omega (arith, inv.left, c.in-Ok.ensures.whole, c.split_at.ensures.back_len, c.record_size.ensures.size, sizes_one c.args.form, sizes_sum c.args.form c.loop.counter 1 (c.loop.counter + 1) refl);
      valid = λ valid. next_valid c.args.form c.loop.lines c.read_next.new.lines c.loop.rest.now c.in-Ok.ensures.next (inv.valid valid);
      stands = λ map after stands. rw rest (one_more c.args.form c.loop.lines c.read_next.new.lines c.loop.rest.now after map (inv.stands map after stands) c.in-Ok.ensures.next);
    }

pub returns-clause-read : goal.returns-clause-read
returns-clause-read c = λ map after stands enough.
    let inv = c.loop.invariant in
    (omega (arith, inv.count, c.loop-test.false, c.loop.auto.counter-end), begins_of c.args.form c.loop.lines (c.loop.rest.now ++ after) map (inv.stands map after stands))
