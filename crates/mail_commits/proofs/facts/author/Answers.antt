use Rattle.std.proofs.Common.{◌≡◌, ◌∙◌, Some, None}
use Rattle.mail_commits.specs.Facts.{from_of, email_of, from_fact, email_fact}
use Rattle.mail_commits.proofs.Texts.{from_fact-by, email_fact-by}
use Rattle.mail_commits.proofs.facts.author.Goals as goal

pub returns-in-Some-clause-name : goal.returns-in-Some-clause-name
returns-in-Some-clause-name c =
    let same : from_of (Some c.in-Some.mailbox.now) ≡ from_fact c.args.text.now =
    from_fact-by c.args.text.now c.in_ok-addresses.addresses (Some c.in-Some.mailbox.now) c.in_ok-addresses.ensures c.in-Some.ensures in
    rw same at c.author_of.ensures.name

pub returns-in-Some-clause-email : goal.returns-in-Some-clause-email
returns-in-Some-clause-email c =
    let same : email_of (Some c.in-Some.mailbox.now) ≡ email_fact c.args.text.now =
    email_fact-by c.args.text.now c.in_ok-addresses.addresses (Some c.in-Some.mailbox.now) c.in_ok-addresses.ensures c.in-Some.ensures in
    rw same at c.author_of.ensures.email

pub returns-clause-name : goal.returns-clause-name
returns-clause-name c =
    c.in_ok-copied-in-None.ensures ∙ from_fact-by c.args.text.now c.in_ok-addresses.addresses None c.in_ok-addresses.ensures c.in-None.ensures

pub returns-clause-email : goal.returns-clause-email
returns-clause-email c = c.new.ensures ∙ email_fact-by c.args.text.now c.in_ok-addresses.addresses None c.in_ok-addresses.ensures c.in-None.ensures
