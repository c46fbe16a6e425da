use Rattle.std.proofs.Common.{ap, ◌∙◌}
use Rattle.git_objects.specs.Objects.{id_of}
use Rattle.mail_commits.proofs.Entries.{commit_text-made}
use Rattle.mail_commits.proofs.commits.commit_text.Goals as goal

pub returns : goal.returns
returns c =
    let entry = c.args.entry.now in
    commit_text-made c.commit_bytes.result entry.form entry.kind entry.text.now entry.moment c.args.parent c.object_id-tree.result c.in_ok-commit.commit (c.object_id-tree.ensures.value ∙ ap (id_of entry.form) c.requires)
    c.in_ok-commit.ensures.value c.commit_bytes.ensures
