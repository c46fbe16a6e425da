-- What is said of a command makes an act.
use Rattle.std.proofs.Common.{◌≡◌, ℕ, Bool, true, false, ◌||◌, List, Option, Some, None, Result, is_ok, is_some, inl, inr, refl, sym, ap, ◌∙◌}
use Rattle.std.proofs.lemmas.Bool.{false≢true}
use Rattle.arch_model.specs.Archives.{Archive, live, text_of}
use Rattle.edge_io.specs.Phrases.{Says}
use Rattle.edge_io.specs.declared.sink.SinkFault.{SinkFault}
use Rattle.line_door.specs.Acts.{ConnectionState, Acts, held_if}
use Rattle.line_door.specs.Readers.{as_said, line_reader}
use Rattle.shelf_doors.specs.Refusals.{SaysUnread}
use Rattle.shelf_doors.specs.Ways.{replies}
use Rattle.shelf_doors.proofs.Acting as ways
use Rattle.pop3_reader.specs.Commands.{PopCommand, Asks}
use Rattle.pop3_reader.specs.Maildrops.{mail_at}
use Rattle.pop3_reader.specs.Notices.{refused_code, notice_line}
use Rattle.pop3_reader.specs.Replies.{user_reply, answered, in_way, takes_maildrop, reads_text, is_there, read_words, mail_words}
use Rattle.pop3_reader.specs.Sessions.{SaysMail}
use Rattle.pop3_reader.specs.declared.maildrop.MailSize.{MailSize}
use Rattle.pop3_reader.specs.declared.maildrop.Maildrop.{Maildrop}
use Rattle.pop3_reader.specs.declared.maildrop.PopState.{PopState}
use Rattle.pop3_reader.specs.declared.maildrop.PopState.TheVariants as state
use Rattle.pop3_reader.specs.declared.order.MailOrder.TheVariants as order
use Rattle.pop3_reader.specs.declared.order.MailPart.{MailPart}

module _ (a : Archive) (s : PopState) (command : PopCommand) (rest : List ℕ) (i j : ConnectionState) (sent : Result Unit SinkFault) where
  -- A reply by the rules, after which the session continues in a state.
  pub acts-said : (after : PopState) (words : List ℕ) → answered a s command ≡ replies after words → j.disk ≡ i.disk → Says words i.out i.lost j.out j.lost sent
      → Acts (λ way. as_said rest (in_way a s command way)) i (held_if (is_ok sent) (line_reader after rest)) a j
  acts-said after words is kept said = ways.acts-said refused_code a s (takes_maildrop a s command || reads_text a s command) (reads_text a s command) (answered a s command) rest i j sent after words is kept said

  or-second : (takes reads : Bool) → reads ≡ true → (takes || reads) ≡ true
  or-second true reads is = refl
  or-second false reads is = is

  -- A text was not read, and it was said why.
  pub acts-unread : reads_text a s command ≡ true → SaysUnread refused_code i sent j
      → Acts (λ way. as_said rest (in_way a s command way)) i (held_if (is_ok sent) (line_reader s rest)) a j
  acts-unread reads unread =
      ways.acts-unread refused_code a s (takes_maildrop a s command || reads_text a s command) (reads_text a s command) (answered a s command) rest i j sent (or-second (takes_maildrop a s command) (reads_text a s command) reads) reads unread

module _ (a : Archive) (d : Maildrop) (what : MailPart) (k : ℕ) (rest : List ℕ) (i j : ConnectionState) (sent : Result Unit SinkFault) where
  -- RETR or TOP of a number that the maildrop doesn't have.
  pub acts-no_mail : mail_at d.mails k ≡ None → j.disk ≡ i.disk → Says (mail_words a what None) i.out i.lost j.out j.lost sent
      → Acts (λ way. as_said rest (in_way a (state.Entered d) (Asks (order.Read what k)) way)) i (held_if (is_ok sent) (line_reader (state.Entered d) rest)) a j
  acts-no_mail none kept said =
      acts-said a (state.Entered d) (Asks (order.Read what k)) rest i j sent (state.Entered d) (mail_words a what None)
      (ap (λ (m : Option MailSize). replies (state.Entered d) (mail_words a what m)) none) kept said

  module _ (mail : MailSize) (found : mail_at d.mails k ≡ Some mail) where
    words-are : (text : Option (List ℕ)) → text_of (live a.entries) mail.number ≡ text → answered a (state.Entered d) (Asks (order.Read what k)) ≡ replies (state.Entered d) (read_words what mail text)
    words-are text is =
        ap (λ (m : Option MailSize). replies (state.Entered d) (mail_words a what m)) found
        ∙ ap (λ (t : Option (List ℕ)). replies (state.Entered d) (read_words what mail t)) is

    reads-is : (text : List ℕ) → text_of (live a.entries) mail.number ≡ Some text → reads_text a (state.Entered d) (Asks (order.Read what k)) ≡ true
    reads-is text is = ap (is_there a) found ∙ ap is_some is

    -- A message that isn't live is answered without the disk.
    pub mail-spares : (text : Option (List ℕ)) → text_of (live a.entries) mail.number ≡ text → SaysMail what mail text i sent j → reads_text a (state.Entered d) (Asks (order.Read what k)) ≡ false → j.disk ≡ i.disk
    mail-spares None is said spares = said.0
    mail-spares (Some text) is said spares = absurd (false≢true (sym spares ∙ reads-is text is))

    -- RETR or TOP of a message of the maildrop.
    by-text : (text : Option (List ℕ)) → text_of (live a.entries) mail.number ≡ text → SaysMail what mail text i sent j
        → Acts (λ way. as_said rest (in_way a (state.Entered d) (Asks (order.Read what k)) way)) i (held_if (is_ok sent) (line_reader (state.Entered d) rest)) a j
    by-text None is said =
        acts-said a (state.Entered d) (Asks (order.Read what k)) rest i j sent (state.Entered d) (read_words what mail None) (words-are None is) said.0 said.1
    by-text (Some text) is (inl said) =
        acts-said a (state.Entered d) (Asks (order.Read what k)) rest i j sent (state.Entered d) (read_words what mail (Some text)) (words-are (Some text) is) said.0 said.1
    by-text (Some text) is (inr unread) = acts-unread a (state.Entered d) (Asks (order.Read what k)) rest i j sent (reads-is text is) unread

    pub acts-mail : SaysMail what mail (text_of (live a.entries) mail.number) i sent j
        → Acts (λ way. as_said rest (in_way a (state.Entered d) (Asks (order.Read what k)) way)) i (held_if (is_ok sent) (line_reader (state.Entered d) rest)) a j
    acts-mail said = by-text (text_of (live a.entries) mail.number) refl said

-- What was said of a message that isn't live, and of one that is.
pub says-gone : (what : MailPart) (mail : MailSize) (text : Option (List ℕ)) (i j : ConnectionState) (sent : Result Unit SinkFault) → is_some text ≡ false → j.disk ≡ i.disk → Says (read_words what mail None) i.out i.lost j.out j.lost sent → SaysMail what mail text i sent j
says-gone what mail None i j sent none kept said = (kept, said)
says-gone what mail (Some text) i j sent none kept said = absurd (cc none)

-- USER leaves just the mailbox that it accepts.
user-kept : (index : Option ℕ) → user_reply index ≡ replies (state.Before index) (user_reply index).words
user-kept None = refl
user-kept (Some index) = refl

pub user-is : (index named : Option ℕ) → index ≡ named → user_reply named ≡ replies (state.Before index) (user_reply index).words
user-is index named is = ap user_reply (sym is) ∙ user-kept index
