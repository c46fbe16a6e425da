use Rattle.std.proofs.Common.{◌≡◌, ◌+◌, ◌∷◌, length, ℕ, List}
use Rattle.thread_index.specs.Lists.{list_at, list_at_key}
use Rattle.thread_index.specs.Taking.{IsPartial}
use Rattle.thread_index.proofs.Labelled.{partial-more}
use Rattle.std.proofs.Common.{ap, ◌∙◌, subst, arith, suc}
use Rattle.std.proofs.lemmas.Bool.{false≢true}
use Rattle.thread_index.specs.Adding.{GiveLabel}
use Rattle.thread_index.proofs.MapLists.{none-by}
use Rattle.thread_index.proofs.dividing.divide.Goals as goal

-- src/dividing.rt:160:5
pub loop-seed-preserved : goal.loop-seed-preserved
loop-seed-preserved g c =
    let rows = c.args.rows.now.entries in
    let holders = list_at_key c.args.holders.now in
    let pending = c.pop_first.new.self.keys in
    let part = c.in_ok-part.part.items in
    let popped : c.loop-seed.pending.keys ≡ c.in-Some.seed ∷ pending = c.in-Some.ensures.removal in
    let walked = c.in_ok-part.ensures in
    record {
      index = partial-more rows holders pending c.walk.new.pending.keys c.loop-seed.labels c.relabel.new.labels (list_at c.loop-seed.members) (list_at c.put_list.new.lists) c.in-Some.seed part
          (subst (λ (ns : List ℕ). IsPartial rows ns c.loop-seed.labels (list_at c.loop-seed.members) holders) popped c.loop-seed.invariant.index)
          walked
          (subst (λ (ns : List ℕ). GiveLabel c.loop-seed.labels c.relabel.new.labels ns c.in-Some.seed) c.as_slice.ensures.value c.in_ok-relabel.ensures.labels)
          c.in_ok-put_list.ensures;
      steps =
          let before : c.loop-seed.steps + length c.loop-seed.pending.keys ≡ c.args.steps.now + length c.args.pending.keys = c.loop-seed.invariant.steps in
          let counted : c.relabel.new.steps ≡ c.loop-seed.steps + length part = c.in_ok-relabel.ensures.steps ∙ ap (λ (ns : List ℕ). c.loop-seed.steps + length ns) c.as_slice.ensures.value in
          let one : length c.loop-seed.pending.keys ≡ suc (length pending) = ap length popped in
          let size : length part + length c.walk.new.pending.keys ≡ 1 + length pending = walked.size in
          omega arith;
    }

-- src/dividing.rt:145:1
pub returns-clause-index : goal.returns-clause-index
returns-clause-index g c =
    subst (λ (ns : List ℕ). IsPartial c.args.rows.now.entries ns c.loop-seed.labels (list_at c.loop-seed.members) (list_at_key c.args.holders.now))
    (none-by c.loop-seed.pending.keys (λ h. false≢true (c.in_default.ensures.variant.1 h))) c.loop-seed.invariant.index
