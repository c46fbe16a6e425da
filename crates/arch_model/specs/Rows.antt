-- The row of a mail: what a list of mails says of it.
use Rattle.std.specs.Prelude.{ℕ, List, length}
use Rattle.arch_base.specs.declared.ids.Form.{Form}
use Rattle.git_objects.specs.Objects.{blob_id_of}
use Rattle.mail_commits.specs.Commits.{written_at}
use Rattle.mail_commits.specs.Facts.{from_fact, subject_fact, date_fact}
use Rattle.mail_forms.specs.Mailboxes.{mbox_of}
use Rattle.mail_forms.specs.WireForms.{wire_of, feeds_of}
use Rattle.mail_reader.specs.Bodies.{body_of}
use Rattle.mail_reader.specs.Content.{content_id_of}
use Rattle.mail_reader.specs.References.{refs_of}
use Rattle.arch_model.specs.Overviews.{id_fact, over_of}
use Rattle.mail_forms.specs.declared.row.Row.{Row}

-- The row of a text with this number, which arrived at this moment, with the blob id of a form.
unfoldable pub row_of : Form → ℕ → List ℕ → ℕ → Row
row_of form number text arrived = record {
  number = number;
  blob = blob_id_of form text;
  id = id_fact text;
  refs = refs_of text;
  subject = subject_fact text;
  from = from_fact text;
  date = written_at (date_fact text) arrived;
  arrived = arrived;
  size = length text;
  wire = length (wire_of text);
  mbox = length (mbox_of text);
  lines = feeds_of (body_of text);
  over = over_of text;
  content = content_id_of text;
}
