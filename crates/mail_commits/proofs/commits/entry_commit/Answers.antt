use Rattle.std.proofs.Common.{◌≡◌, w16, to_z, of_z, to_z-of_z}
use Rattle.mail_commits.proofs.Entries.{commit_of-made, zone_fits}
use Rattle.mail_commits.proofs.commits.entry_commit.Goals as goal

pub returns-clause-value : goal.returns-clause-value
returns-clause-value c =
    let written = c.written_at-written.result in
    let zone : to_z w16 (of_z w16 written.zone) ≡ written.zone = to_z-of_z (zone_fits written.zone c.written_at-written.ensures.zone) in
    commit_of-made c.args.text.now c.args.tree.now c.args.parent c.args.moment c.in_ok-author.author.name c.in_ok-author.author.email c.in_ok-subject.subject written
    (to_z w16 (of_z w16 written.zone)) c.in_ok-author.ensures.name c.in_ok-author.ensures.email c.in_ok-subject.ensures.value c.written_at-written.ensures.value zone
