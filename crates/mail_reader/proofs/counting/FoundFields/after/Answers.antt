use Rattle.mail_reader.proofs.counting.FoundFields.after.Goals as goal

pub returns : goal.returns
returns c = λ fields rest h. record {
  subject = c.after.ensures fields rest h.subject;
  authors = c.after-2.ensures fields rest h.authors;
  date = c.after-3.ensures fields rest h.date;
  references = c.after-4.ensures fields rest h.references;
  replied = c.after-5.ensures fields rest h.replied;
  recipients = c.after-6.ensures fields rest h.recipients;
  copied = c.after-7.ensures fields rest h.copied;
}
