use Rattle.std.proofs.Common.{◌∷◌, [], length, ℕ, ◌<◌, List, ◌++◌}
use Rattle.thread_index.specs.Lists.{list_at_key}
use Rattle.std.proofs.Common.{ap, ◌∙◌}
use Rattle.thread_index.proofs.Moved.{seen-none}
use Rattle.thread_index.proofs.Parts.{part-begins, part-more}
use Rattle.std.proofs.Common.{arith}
use Rattle.thread_index.proofs.dividing.walk.Goals as goal

-- src/dividing.rt:134:5
pub loop-i-init : goal.loop-i-init
loop-i-init c =
    record {
      part = part-begins c.args.rows.now.entries (list_at_key c.args.holders.now) c.args.pending.now.keys c.push.new.self.items c.args.seed c.requires.held c.requires.once c.requires.seed
          (c.in_ok-push.ensures.items ∙ ap (λ (ns : List ℕ). ns ++ c.args.seed ∷ []) c.new-part.ensures.items);
      seen = seen-none c.new-seen.result (list_at_key c.args.holders.now) c.args.pending.now.keys c.new-seen.ensures.empty;
    }

-- src/dividing.rt:134:5
pub loop-i-preserved : goal.loop-i-preserved
loop-i-preserved c =
    let counted = c.loop-i.part.ok.0 in
    let len = c.len.ensures in
    let test = c.loop-i-test.true in
    let inside : c.loop-i.i < length c.loop-i.part.items = omega arith in
    record {
      part = part-more c.args.rows.now.entries (list_at_key c.args.holders.now) c.args.pending.now.keys c.loop-i.pending.keys c.visit.new.pending.keys c.args.seed c.loop-i.part.items c.visit.new.part.items c.loop-i.i c.index-n.result.now c.index-n.result.now c.requires.held inside c.index-n.ensures c.loop-i.invariant.part c.in_ok-visit.ensures.moves;
      seen = c.in_ok-visit.ensures.seen;
    }
