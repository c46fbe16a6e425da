use Rattle.std.proofs.Common.{ap, ◌∙◌}
use Rattle.git_objects.specs.Objects.{id_of, tree_spelling}
use Rattle.mail_commits.proofs.Entries.{commit_id-made}
use Rattle.mail_commits.proofs.commits.entry_objects.Goals as goal

pub returns-clause-commit : goal.returns-clause-commit
returns-clause-commit c =
    let entry = c.args.entry.now in
    commit_id-made entry.form entry.kind entry.text.now entry.moment c.args.parent c.object_id.result (c.object_id.ensures.value ∙ ap (id_of entry.form) (c.as_slice-2.ensures ∙ c.in_ok-commit.ensures))

pub returns-clause-tree : goal.returns-clause-tree
returns-clause-tree c = c.tree_bytes-tree.ensures ∙ ap (tree_spelling c.args.entry.now.kind) c.requires.blob
