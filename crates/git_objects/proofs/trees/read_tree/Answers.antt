use Rattle.std.proofs.Common.{ℕ, List, ◌∙◌, arith}
use Rattle.std.proofs.lemmas.List.{take_rest}
use Rattle.git_objects.proofs.Spellings.{tree-read, tree-unknown}
use Rattle.git_objects.proofs.trees.read_tree.Goals as goal

pub returns-in_err-kind : goal.returns-in_err-kind
returns-in_err-kind c = rw c.from_residual-in_err-kind.ensures (tree-unknown c.args.form c.args.content.now c.in_ok-file.file.now c.in_ok-file.ensures c.in_err-kind.ensures)

pub returns : goal.returns
returns c =
    let file : List ℕ = c.in_ok-file.file.now in
    (c.from_slice.ensures.valid, tree-read c.args.content.now file _ _ c.in_ok-file.ensures (omega arith) c.in_ok-kind.ensures c.if-file-ne0.false (c.from_slice.ensures.bytes ∙ take_rest file 2))
