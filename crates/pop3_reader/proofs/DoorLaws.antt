-- The laws of the door.
use Rattle.std.proofs.Common.{get_or, is_some, ◌≡◌, ℕ, Bool, true, false, ◌||◌, List, [], ◌∷◌, Option, Some, None, refl, sym, ap, ◌∙◌, arith, if◌then◌else◌}
use Rattle.arch_model.specs.Archives.{Archive}
use Rattle.line_door.specs.Acts.{Departure, Plain, Memory, Disk, Newer}
use Rattle.line_door.specs.Readers.{LineReply}
use Rattle.line_door.proofs.Reading.{reader-laws}
use Rattle.shelf_doors.specs.Ways.{replies, over}
use Rattle.pop3_reader.specs.Commands.{PopCommand, User, Pass, Quit, Asks, Mistaken}
use Rattle.pop3_reader.specs.Door.{line_limit}
use Rattle.pop3_reader.specs.Laws.{PopLaws, IsNotQuit, MaildropStays, ReadsNone, SpeaksOfMaildrop, GoneIfNotLive}
use Rattle.pop3_reader.specs.Maildrops.{mail_at}
use Rattle.pop3_reader.specs.Notices.{notice_line, memory_line, disk_line}
use Rattle.pop3_reader.specs.Replies.{PopReply, answered, in_way, line_answered, too_long, takes_maildrop, reads_text, text_at, is_there, read_words, mail_words}
use Rattle.pop3_reader.specs.declared.maildrop.MailSize.{MailSize}
use Rattle.pop3_reader.specs.declared.maildrop.Maildrop.{Maildrop}
use Rattle.pop3_reader.specs.declared.maildrop.PopState.{PopState}
use Rattle.pop3_reader.specs.declared.maildrop.PopState.TheVariants as state
use Rattle.pop3_reader.specs.declared.notice.PopNotice.TheVariants as notice
use Rattle.pop3_reader.specs.declared.order.MailOrder.TheVariants as order
use Rattle.pop3_reader.specs.declared.order.MailPart.{MailPart}
use Rattle.pop3_reader.specs.declared.order.MailPart.TheVariants as part

plain-stays : (a : Archive) (d : Maildrop) (asked : PopCommand) → IsNotQuit asked → (answered a (state.Entered d) asked).state ≡ Some (state.Entered d)
plain-stays a d (User name) other = refl
plain-stays a d Pass other = refl
plain-stays a d Quit other = absurd (other refl)
plain-stays a d (Asks asked) other = refl
plain-stays a d Mistaken other = refl

either-stays : (a : Archive) (d : Maildrop) (asked : PopCommand) (line : List ℕ) (t : Bool) → IsNotQuit asked → (if t then replies (state.Entered d) line else answered a (state.Entered d) asked).state ≡ Some (state.Entered d)
either-stays a d asked line true other = refl
either-stays a d asked line false other = plain-stays a d asked other

way-stays : (a : Archive) (d : Maildrop) (asked : PopCommand) (way : Departure) → IsNotQuit asked → (in_way a (state.Entered d) asked way).state ≡ Some (state.Entered d)
way-stays a d asked Plain other = plain-stays a d asked other
way-stays a d asked Memory other = either-stays a d asked memory_line (takes_maildrop a (state.Entered d) asked || reads_text a (state.Entered d) asked) other
way-stays a d asked Disk other = either-stays a d asked disk_line (reads_text a (state.Entered d) asked) other
way-stays a d asked Newer other = plain-stays a d asked other

maildrop_stays : MaildropStays
maildrop_stays = record { command = way-stays; long = λ a d. refl }

plain-alone : (a b : Archive) (d : Maildrop) (command : PopCommand) → ReadsNone command → (answered a (state.Entered d) command).words ≡ (answered b (state.Entered d) command).words
plain-alone a b d (User name) other = refl
plain-alone a b d Pass other = refl
plain-alone a b d Quit other = refl
plain-alone a b d (Asks order.Stat) other = refl
plain-alone a b d (Asks (order.List what k)) other = refl
plain-alone a b d (Asks (order.Read what k)) other = absurd (other what k refl)
plain-alone a b d (Asks (order.Dele k)) other = refl
plain-alone a b d (Asks order.Noop) other = refl
plain-alone a b d (Asks order.Rset) other = refl
plain-alone a b d Mistaken other = refl

-- A command that reads no text is answered by the rules in every way.
no-text : (a : Archive) (d : Maildrop) (command : PopCommand) → ReadsNone command → reads_text a (state.Entered d) command ≡ false
no-text a d (User name) other = refl
no-text a d Pass other = refl
no-text a d Quit other = refl
no-text a d (Asks order.Stat) other = refl
no-text a d (Asks (order.List what k)) other = refl
no-text a d (Asks (order.Read what k)) other = absurd (other what k refl)
no-text a d (Asks (order.Dele k)) other = refl
no-text a d (Asks order.Noop) other = refl
no-text a d (Asks order.Rset) other = refl
no-text a d Mistaken other = refl

no-maildrop : (a : Archive) (d : Maildrop) (command : PopCommand) → takes_maildrop a (state.Entered d) command ≡ false
no-maildrop a d command = refl

-- Where nothing is read, each way is the plain one.
by-rules : (a : Archive) (d : Maildrop) (command : PopCommand) (way : Departure) → reads_text a (state.Entered d) command ≡ false → in_way a (state.Entered d) command way ≡ over a (answered a (state.Entered d) command)
by-rules a d command Plain none = refl
by-rules a d command Memory none = rw (no-maildrop a d command, none) refl
by-rules a d command Disk none = rw none refl
by-rules a d command Newer none = refl

speaks_alone : SpeaksOfMaildrop
speaks_alone a b d command way other =
    ap (λ (r : LineReply PopState Archive). r.words) (by-rules a d command way (no-text a d command other))
    ∙ plain-alone a b d command other
    ∙ ap (λ (r : LineReply PopState Archive). r.words) (sym (by-rules b d command way (no-text b d command other)))

-- The first byte of some words.
abbrev first_byte : List ℕ → ℕ
first_byte [] = 0
first_byte (b ∷ bs) = b

is-plus : (what : MailPart) (mail : MailSize) (text : List ℕ) → first_byte (read_words what mail (Some text)) ≡ 43
is-plus part.Whole mail text = refl
is-plus (part.Top count) mail text = refl

gone-text : (what : MailPart) (mail : MailSize) (text : Option (List ℕ)) → read_words what mail text ≡ notice_line notice.Gone → text ≡ None
gone-text what mail None is = refl
gone-text what mail (Some text) is = let bytes : 43 ≡ 45 = sym (is-plus what mail text) ∙ ap first_byte is in absurd (omega (arith, bytes))

plain-gone : (a : Archive) (d : Maildrop) (what : MailPart) (k : ℕ) (mail : MailSize) → mail_at d.mails k ≡ Some mail → mail_words a what (mail_at d.mails k) ≡ notice_line notice.Gone → text_at a mail ≡ None
plain-gone a d what k mail found is = gone-text what mail (text_at a mail) (sym (ap (mail_words a what) found) ∙ is)

-- A reply with a refusal isn't the line for a message that is gone.
refused-other : (a : Archive) (s : PopState) (t : Bool) (r : PopReply) (line : List ℕ) (p : Type 0) → (line ≡ notice_line notice.Gone → ⊥) → (r.words ≡ notice_line notice.Gone → p) → (if t then replies s line else r).words ≡ notice_line notice.Gone → p
refused-other a s true r line p never plain is = absurd (never is)
refused-other a s false r line p never plain is = plain is

-- The byte behind `-ERR `.
abbrev fifth : List ℕ → ℕ
fifth words = get_or words 5 0

memory-other : memory_line ≡ notice_line notice.Gone → ⊥
memory-other e = let bytes : 111 ≡ 103 = ap fifth e in absurd (omega (arith, bytes))

disk-other : disk_line ≡ notice_line notice.Gone → ⊥
disk-other e = let bytes : 100 ≡ 103 = ap fifth e in absurd (omega (arith, bytes))

gone-way : (a : Archive) (d : Maildrop) (what : MailPart) (k : ℕ) (mail : MailSize) (way : Departure) → mail_at d.mails k ≡ Some mail → (in_way a (state.Entered d) (Asks (order.Read what k)) way).words ≡ notice_line notice.Gone → text_at a mail ≡ None
gone-way a d what k mail Plain found is = plain-gone a d what k mail found is
gone-way a d what k mail Memory found is =
    refused-other a (state.Entered d) (reads_text a (state.Entered d) (Asks (order.Read what k))) (answered a (state.Entered d) (Asks (order.Read what k))) memory_line (text_at a mail ≡ None) memory-other (plain-gone a d what k mail found) is
gone-way a d what k mail Disk found is =
    refused-other a (state.Entered d) (reads_text a (state.Entered d) (Asks (order.Read what k))) (answered a (state.Entered d) (Asks (order.Read what k))) disk_line (text_at a mail ≡ None) disk-other (plain-gone a d what k mail found) is
gone-way a d what k mail Newer found is = plain-gone a d what k mail found is

gone_if : GoneIfNotLive
gone_if a d what k mail way found = (
  gone-way a d what k mail way found,
  λ none.
      let there : reads_text a (state.Entered d) (Asks (order.Read what k)) ≡ false = ap (is_there a) found ∙ ap is_some none in
      ap (λ (r : LineReply PopState Archive). r.words) (by-rules a d (Asks (order.Read what k)) way there) ∙ ap (mail_words a what) found ∙ ap (read_words what mail) none,
)

pub pop_laws : PopLaws
pop_laws = record {
  cuts = reader-laws line_limit line_answered too_long;
  stays = maildrop_stays;
  alone = speaks_alone;
  gone = gone_if;
}
