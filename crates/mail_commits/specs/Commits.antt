-- The commit that keeps a text (git, "Git Objects").
use Rattle.std.specs.Prelude.{ℕ, pos, List, Option, Some, None}
use Rattle.arch_base.specs.declared.ids.ObjectId.{ObjectId}
use Rattle.git_objects.specs.declared.commits.Commit.{Commit}
use Rattle.git_objects.specs.CleanText.{clean}
use Rattle.mail_date.specs.declared.moment.Moment.{Moment}
use Rattle.mail_commits.specs.Facts.{from_fact, email_fact, subject_fact, date_fact}

-- When the author wrote: the moment of the text's Date field, or the moment at which the text was
-- taken, in UTC.
abbrev pub written_at : Option Moment → ℕ → Moment
written_at None moment = record { secs = moment; zone = pos 0 }
written_at (Some written) moment = written

-- The commit that keeps a text. Its author is the author of the text, its subject the clean subject
-- of the text, and it was committed at the moment at which the text was taken.
unfoldable pub commit_of : List ℕ → ObjectId → Option ObjectId → ℕ → Commit
commit_of text tree parent moment = record {
  tree = tree;
  parent = parent;
  author = from_fact text;
  email = email_fact text;
  secs = (written_at (date_fact text) moment).secs;
  zone = (written_at (date_fact text) moment).zone;
  committed = moment;
  subject = clean (subject_fact text);
}
