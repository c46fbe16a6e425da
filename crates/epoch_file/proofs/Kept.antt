-- The commit that keeps a text is one that is spelled and read.
use Rattle.std.proofs.Common.{◌≡◌, ℕ, ◌≤◌, List, [], ◌∷◌, ◌++◌, Option, Some, None, IfSome, refl, arith}
use Rattle.std.proofs.lemmas.Int.{ints}
use Rattle.arch_base.specs.declared.ids.Form.{Form}
use Rattle.arch_base.specs.declared.ids.ObjectId.{ObjectId}
use Rattle.arch_base.specs.Ids.{IsObjectId}
use Rattle.git_objects.specs.CleanText.{clean, IsCleanText}
use Rattle.git_objects.specs.Commits.{IsCommit, IsParent}
use Rattle.git_objects.proofs.Cleaning.{IsCleanText-clean}
use Rattle.git_objects.proofs.ObjectIds.{IsObjectId-id_of}
use Rattle.mail_address.specs.declared.address.Address.{Address}
use Rattle.mail_date.specs.declared.moment.Moment.{Moment}
use Rattle.mime_words.specs.Decoding.{decoded}
use Rattle.mail_commits.specs.Facts.{name_or, clean_address, from_of, from_fact, email_of, email_fact, first_mailbox, subject_fact, date_fact}
use Rattle.mail_commits.specs.Commits.{commit_of, written_at}
use Rattle.mail_commits.specs.Entries.{commit_text, commit_id}
use Rattle.epoch_file.specs.Entries.{EpochEntry, commit_after, last_of}
use Rattle.arch_base.specs.Moments.{last_moment}
use Rattle.epoch_file.proofs.Zones.{IsNear, date-near}

name_clean : (name address : List ℕ) → IsCleanText name → IsCleanText address → IsCleanText (name_or name address)
name_clean [] address h k = k
name_clean (b ∷ name) address h k = h

from_clean : (mailbox : Option Address) → IsCleanText (from_of mailbox)
from_clean None = record { same = refl }
from_clean (Some address) = name_clean (clean (decoded address.name)) (clean_address address) (IsCleanText-clean (decoded address.name)) (IsCleanText-clean (address.mailbox ++ 64 ∷ address.host))

email_clean : (mailbox : Option Address) → IsCleanText (email_of mailbox)
email_clean None = record { same = refl }
email_clean (Some address) = IsCleanText-clean (address.mailbox ++ 64 ∷ address.host)

author_clean : (text : List ℕ) → IsCleanText (from_fact text)
unfolding from_fact
author_clean text = from_clean (first_mailbox text)

address_clean : (text : List ℕ) → IsCleanText (email_fact text)
unfolding email_fact
address_clean text = email_clean (first_mailbox text)

written_near : (written : Option Moment) (moment : ℕ) → moment ≤ last_moment → IfSome written IsNear → IsNear (written_at written moment)
written_near None moment small h = record { secs = small; zone = record { low = omega (arith, ints); high = omega (arith, ints) } }
written_near (Some written) moment small h = h

-- The commit of a text is valid.
pub commit_valid : (form : Form) (text : List ℕ) (tree : ObjectId) (parent : Option ObjectId) (moment : ℕ) → IsObjectId form tree → IsParent form parent → moment ≤ last_moment → IsCommit form (commit_of text tree parent moment)
unfolding commit_of
commit_valid form text tree parent moment t p small =
    let near = written_near (date_fact text) moment small (date-near text) in
    record {
      tree = t;
      parent = p;
      author = author_clean text;
      email = address_clean text;
      secs = omega (arith, near.secs);
      zone = near.zone;
      committed = omega (arith, small);
      subject = IsCleanText-clean (subject_fact text);
    }

-- The moment of the commit of a text.
pub committed-is : (text : List ℕ) (tree : ObjectId) (parent : Option ObjectId) (moment : ℕ) → (commit_of text tree parent moment).committed ≡ moment
unfolding commit_of
committed-is text tree parent moment = refl

-- The id of an entry's commit is valid.
pub IsObjectId-commit : (form : Form) (parent : Option ObjectId) (e : EpochEntry) → IsObjectId form (commit_after form parent e)
unfolding commit_id
IsObjectId-commit form parent e = IsObjectId-id_of form (commit_text form e.kind e.text e.moment parent)

-- The last commit of entries may be a parent.
pub IsParent-last : (form : Form) (parent : Option ObjectId) (es : List EpochEntry) → IsParent form parent → IsParent form (last_of form parent es)
IsParent-last form parent [] h = h
IsParent-last form parent (e ∷ es) h = IsParent-last form (Some (commit_after form parent e)) es (IsObjectId-commit form parent e)
