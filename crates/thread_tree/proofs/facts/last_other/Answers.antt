use Rattle.std.proofs.Common.{◌≡◌, ◌-◌, ◌≤◌, length, Bool, true, false}
use Rattle.thread_tree.specs.Trees.{last_other}
use Rattle.std.proofs.Common.{bytes_eq, ap, sym, ◌∙◌, if◌then◌else◌, get_or, take, arith, Some, None}
use Rattle.std.proofs.lemmas.Bool.{not-true, not-false}
use Rattle.thread_tree.specs.Trees.{or_else}
use Rattle.thread_tree.proofs.Stepped.{last-step}
use Rattle.thread_tree.proofs.facts.last_other.Goals as goal

-- src/facts.rt:54:13
pub returns-then-ne : goal.returns-then-ne
returns-then-ne c =
    let refs = c.args.refs.now in
    let id = c.args.id.now in
    let found = c.as_slice-found.result.now in
    let rest = last_other (take (c.loop-i.i - 1) refs) id in
    let at : found ≡ get_or refs (c.loop-i.i - 1) c.index-refs-i.result = c.as_slice-found.ensures ∙ c.index-refs-i.is in
    let off : bytes_eq found id ≡ false = not-true (bytes_eq found id) (sym c.if-ne.ensures) in
    sym (last-step refs id c.loop-i.i c.index-refs-i.result found c.loop-i-test.true c.loop-i.invariant.within at c.loop-i.invariant.left
    ∙ ap (λ (b : Bool). or_else (if b then None else Some found) rest) off)

-- src/facts.rt:50:5
pub loop-i-preserved : goal.loop-i-preserved
loop-i-preserved c =
    let refs = c.args.refs.now in
    let id = c.args.id.now in
    let found = c.as_slice-found.result.now in
    let rest = last_other (take (c.loop-i.i - 1) refs) id in
    let at : found ≡ get_or refs (c.loop-i.i - 1) c.index-refs-i.result = c.as_slice-found.ensures ∙ c.index-refs-i.is in
    let on : bytes_eq found id ≡ true = not-false (bytes_eq found id) (sym c.if-ne.ensures) in
    let within : c.loop-i.i ≤ length refs = c.loop-i.invariant.within in
    record {
      within = omega arith;
      left = last-step refs id c.loop-i.i c.index-refs-i.result found c.loop-i-test.true within at c.loop-i.invariant.left
          ∙ ap (λ (b : Bool). or_else (if b then None else Some found) rest) on;
    }
