use Rattle.std.proofs.Common.{◌≡◌, ◌++◌, ap, ◌∙◌}
use Rattle.mail_commits.proofs.Entries.{entry_bytes-pieces}
use Rattle.mail_commits.proofs.commits.push_entry.Goals as goal

pub returns-clause-ok : goal.returns-clause-ok
returns-clause-ok c =
    let entry = c.args.entry.now in
    let tree = c.as_slice-2.result.now in
    let pushed : c.push_all.new.into ≡ c.args.into.now ++ (c.as_slice.result.now ++ (entry.text.now ++ (tree ++ c.as_slice-3.result.now))) = c.in_ok-push_all.ensures in
    pushed ∙ ap (λ bytes. c.args.into.now ++ bytes)
    (entry_bytes-pieces entry.form entry.kind entry.text.now entry.moment c.args.parent c.as_slice.result.now tree c.as_slice-3.result.now
    (c.as_slice.ensures ∙ c.in_ok-head.ensures) (c.as_slice-2.ensures ∙ c.in_ok-objects.ensures.tree) (c.as_slice-3.ensures ∙ c.in_ok-objects.ensures.spelled))
