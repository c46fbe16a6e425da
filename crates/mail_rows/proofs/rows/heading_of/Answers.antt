use Rattle.std.proofs.Common.{◌≡◌, None, w16, to_z, of_z, to_z-of_z, ap, ◌∙◌}
use Rattle.mail_rows.proofs.RowFacts.{commit-author, commit-date, zone_fits}
use Rattle.mail_rows.proofs.rows.heading_of.Goals as goal

pub returns-clause-from : goal.returns-clause-from
returns-clause-from c = ap (λ made. made.author) c.in_ok-commit.ensures.value ∙ commit-author c.args.text.now c.args.blob.now None c.args.arrived

pub returns-clause-date : goal.returns-clause-date
returns-clause-date c =
    let commit = c.in_ok-commit.commit in
    let zone : to_z w16 (of_z w16 commit.zone) ≡ commit.zone = to_z-of_z (zone_fits commit.zone c.in_ok-commit.ensures.zone) in
    commit-date c.args.text.now c.args.blob.now None c.args.arrived commit.secs (to_z w16 (of_z w16 commit.zone)) (ap (λ made. made.secs) c.in_ok-commit.ensures.value)
    (zone ∙ ap (λ made. made.zone) c.in_ok-commit.ensures.value)
