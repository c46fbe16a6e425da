use Rattle.std.proofs.Common.{◌≡◌, ◌<◌, ◌≤◌, length}
use Rattle.thread_tree.specs.Nodes.{nodes_in}
use Rattle.std.proofs.Common.{sym, subst, arith}
use Rattle.std.proofs.lemmas.List.{length-map}
use Rattle.thread_tree.specs.Nodes.{node_in}
use Rattle.thread_tree.proofs.Aboves.{index-all, index-more, index-put}
use Rattle.thread_tree.proofs.above.index_of.Goals as goal

-- src/above.rt:32:5
pub loop-i-preserved : goal.loop-i-preserved
loop-i-preserved c =
    let nodes = c.args.nodes.now in
    let ns = nodes_in nodes in
    let i = c.loop-i.i in
    let d = c.index-nodes-i.result in
    let low : i < length ns = subst (λ n. i < n) (sym (length-map nodes node_in)) c.loop-i-test.true in
    index-more ns c.loop-i.index c.put_index.new.index i c.requires low c.loop-i.invariant
    (index-put nodes c.loop-i.index c.put_index.new.index i d c.as_slice.result.now c.loop-i-test.true
    c.as_slice.ensures.value c.in_ok-put_index.ensures.ok)

-- src/above.rt:27:1
pub returns : goal.returns
returns c =
    let nodes = c.args.nodes.now in
    let past : length nodes ≤ c.loop-i.i = c.loop-i-test.false in
    let within : c.loop-i.i ≤ length nodes = c.loop-i.auto.i-end in
    let count : length (nodes_in nodes) ≡ length nodes = length-map nodes node_in in
    let all : c.loop-i.i ≡ length (nodes_in nodes) = omega arith in
    index-all (nodes_in nodes) c.loop-i.index c.loop-i.i all c.loop-i.invariant
