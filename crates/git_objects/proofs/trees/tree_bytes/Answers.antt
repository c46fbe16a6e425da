use Rattle.std.proofs.Common.{sym, ap, ◌∙◌}
use Rattle.arch_base.specs.Ids.{id_size}
use Rattle.git_objects.proofs.Spellings.{tree-written}
use Rattle.git_objects.proofs.trees.tree_bytes.Goals as goal

pub returns : goal.returns
returns c =
    tree-written c.form.result c.args.kind c.args.id.now c.name.result c.copy_from_slice.new.self c.as_slice-digest.result.now c.copy_from_slice-2.new.self
    c.name.ensures (c.as_slice-digest.ensures.valid.len ∙ ap id_size (sym c.form.ensures)) (c.copy_from_slice.ensures.after ∙ c.front.ensures)
    c.as_slice-digest.ensures.bytes c.copy_from_slice-2.ensures.after
