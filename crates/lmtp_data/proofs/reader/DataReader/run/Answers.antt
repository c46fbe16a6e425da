-- Steps over a piece.
use Rattle.std.proofs.Common.{◌≡◌, ◌∙◌, ◌+◌, drop, ap, refl, arith, length, length-drop}
use Rattle.lmtp_data.proofs.Stepping.{went-on, run-over, run-paused, drop-again}
use Rattle.lmtp_data.proofs.reader.DataReader.run.Goals as goal

pub loop-taken-preserved : goal.loop-taken-preserved
loop-taken-preserved c =
    let i = c.loop-taken.invariant in
    let t = c.in-Went.ensures in
    let few = ap length i.at ∙ length-drop c.loop-taken.used c.args.piece.now in
    let less = t.0 in
    record {
      same = went-on _ _ _ c.args.piece.now _ _ c.in-Went.taken i.same t c.split_at.ensures.back;
      at = c.split_at.ensures.back ∙ (ap (drop c.in-Went.taken) i.at ∙ drop-again c.loop-taken.used c.in-Went.taken c.args.piece.now);
      within = omega (arith, few, less, i.within);
    }

pub loop-taken-smaller : goal.loop-taken-smaller
loop-taken-smaller c = rw c.split_at.ensures.back c.in-Went.ensures.1

pub returns-in-Ended : goal.returns-in-Ended
returns-in-Ended c =
    let i = c.loop-taken.invariant in
    run-over _ _ c.step.new.self c.args.piece.now _ c.loop-taken.used c.in-Ended.last i.same c.in-Ended.ensures i.at i.within

pub returns-in-Paused : goal.returns-in-Paused
returns-in-Paused c = run-paused _ _ _ c.args.piece.now _ c.loop-taken.invariant.same c.in-Paused.ensures
