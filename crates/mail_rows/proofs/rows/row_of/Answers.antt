use Rattle.std.proofs.Common.{ap}
use Rattle.mail_commits.specs.declared.ids.TextIds.{TextIds}
use Rattle.mail_rows.proofs.RowFacts.{row-made}
use Rattle.mail_rows.proofs.rows.row_of.Goals as goal

pub returns : goal.returns
returns c form is =
    let heading = c.in_ok-heading in
    let links = c.in_ok-links in
    let lengths = c.lengths_of-lengths in
    row-made form c.args.number c.args.text.now c.args.arrived c.args.ids.now.blob links.links.id links.links.refs heading.heading.subject heading.heading.from heading.heading.date
    lengths.result.size lengths.result.wire lengths.result.mbox lengths.result.lines c.in_ok-over.over c.args.ids.now.content (ap (λ (i : TextIds). i.blob) is) links.ensures.id links.ensures.refs
    heading.ensures.subject heading.ensures.from heading.ensures.date lengths.ensures.size lengths.ensures.wire lengths.ensures.mbox lengths.ensures.lines c.in_ok-over.ensures (ap (λ (i : TextIds). i.content) is)
