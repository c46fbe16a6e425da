use Rattle.std.proofs.Common.{◌∙◌, ◌&&◌, not, List, ℕ, Bool, length, ap, sym, refl, arith}
use Rattle.std.proofs.lemmas.Bool.{false≢true}
use Rattle.http_front.specs.Asking.{Gives, Streams, target_found, target_reads, target_texts}
use Rattle.http_front.specs.Counting.{target_said}
use Rattle.http_front.specs.Mailboxes.{mailbox_at}
use Rattle.http_heads.specs.declared.reply.Body.TheVariants.{Mailbox}
use Rattle.http_front.proofs.Counting.{reads-within, reads-then}
use Rattle.http_front.proofs.Serving.{refused-spares, acts-mailbox, acts-whole, acts-missing, acts-bad_range, acts-unread}
use Rattle.http_front.proofs.answer.serve.Goals as goal

pub returns-in-Ok-Whole-clause-acts : goal.returns-in-Ok-Whole-clause-acts
returns-in-Ok-Whole-clause-acts g c = λ a rest held.
    let found = rw c.in-Ok-Whole.field-0-is at (c.in-Ok-Whole.ensures.found a held) in
    acts-whole c.args.moment a c.args.sends c.args.request.now.closes rest (target_found a c.args.request.now.target.now) (target_reads a c.args.request.now.target.now) c.in-Ok-Whole.body c.as_slice.result.now _ _ _ (found ∙ ap (Gives c.in-Ok-Whole.body) (sym c.as_slice.ensures)) c.in-Ok-Whole.ensures.cause c.say_whole.ensures.said

pub returns-in-Ok-EveryMail-clause-acts : goal.returns-in-Ok-EveryMail-clause-acts
returns-in-Ok-EveryMail-clause-acts g c = λ a rest held.
    let found = rw c.in-Ok-EveryMail.field-0-is at (c.in-Ok-EveryMail.ensures.found a held) in
    acts-mailbox c.args.moment a c.args.sends c.args.request.now.closes rest (target_found a c.args.request.now.target.now) (target_reads a c.args.request.now.target.now) _ _ _ _ _ found.0 found.1 refl refl c.in-Ok-EveryMail.ensures.cause (c.say_every_mail.ensures.acts a rest (c.find_target.ensures.shelf.kept a held))

pub returns-in-Ok-Mails-clause-acts : goal.returns-in-Ok-Mails-clause-acts
returns-in-Ok-Mails-clause-acts g c = λ a rest held.
    let found = rw c.in-Ok-Mails.field-0-is at (c.in-Ok-Mails.ensures.found a held) in
    acts-mailbox c.args.moment a c.args.sends c.args.request.now.closes rest (target_found a c.args.request.now.target.now) (target_reads a c.args.request.now.target.now) _ _ _ _ _
    (found.0 ∙ ap (λ (ns : List ℕ). Streams Mailbox (mailbox_at a.entries ns)) (sym c.as_slice-in-Ok-Mails.ensures)) found.1 refl refl c.in-Ok-Mails.ensures.cause
    (c.say_mails.ensures.acts a rest (c.find_target.ensures.shelf.kept a held))

pub returns-in-Ok-Nothing-clause-acts : goal.returns-in-Ok-Nothing-clause-acts
returns-in-Ok-Nothing-clause-acts g c = λ a rest held.
    let found = rw c.in-Ok-Nothing.field-0-is at (c.in-Ok-Nothing.ensures.found a held) in
    acts-missing c.args.moment a c.args.sends c.args.request.now.closes rest (target_found a c.args.request.now.target.now) (target_reads a c.args.request.now.target.now) _ _ _ found c.in-Ok-Nothing.ensures.cause
    (record { sent = c.say_status-said.result; says = c.say_status-said.ensures.said; next = c.next_after.ensures ∙ ap (λ (b : Bool). b && not c.args.request.now.closes) c.is_ok.ensures.value })

pub returns-in-Ok-BadRange-clause-acts : goal.returns-in-Ok-BadRange-clause-acts
returns-in-Ok-BadRange-clause-acts g c = λ a rest held.
    let found = rw c.in-Ok-BadRange.field-0-is at (c.in-Ok-BadRange.ensures.found a held) in
    acts-bad_range c.args.moment a c.args.sends c.args.request.now.closes rest (target_found a c.args.request.now.target.now) (target_reads a c.args.request.now.target.now) _ _ _ found c.in-Ok-BadRange.ensures.cause
    (record { sent = c.say_words-said.result; says = c.say_words-said.ensures.said; next = c.next_after-in-Ok-BadRange.ensures ∙ ap (λ (b : Bool). b && not c.args.request.now.closes) c.is_ok-in-Ok-BadRange.ensures.value })

pub returns-in-Err-clause-acts : goal.returns-in-Err-clause-acts
returns-in-Err-clause-acts g c = λ a rest held.
    acts-unread c.args.moment a c.args.sends c.args.request.now.closes rest (target_found a c.args.request.now.target.now) (target_reads a c.args.request.now.target.now) c.in-Err.refusal _ _ _ (c.in-Err.ensures.found a held) c.in-Err.ensures.cause c.find_target.ensures.shelf.later c.say_unread.ensures.said

pub returns-in-Ok-Whole-clause-reads : goal.returns-in-Ok-Whole-clause-reads
returns-in-Ok-Whole-clause-reads g c = λ a held. reads-within (target_texts a c.args.request.now.target.now) _ _ _ (c.in-Ok-Whole.ensures.reads a held)

pub returns-in-Ok-Nothing-clause-reads : goal.returns-in-Ok-Nothing-clause-reads
returns-in-Ok-Nothing-clause-reads g c = λ a held. reads-within (target_texts a c.args.request.now.target.now) _ _ _ (c.in-Ok-Nothing.ensures.reads a held)

pub returns-in-Ok-BadRange-clause-reads : goal.returns-in-Ok-BadRange-clause-reads
returns-in-Ok-BadRange-clause-reads g c = λ a held. reads-within (target_texts a c.args.request.now.target.now) _ _ _ (c.in-Ok-BadRange.ensures.reads a held)

pub returns-in-Err-clause-reads : goal.returns-in-Err-clause-reads
returns-in-Err-clause-reads g c = λ a held. reads-within (target_texts a c.args.request.now.target.now) _ _ _ (c.in-Err.ensures.reads a held)

pub returns-in-Ok-EveryMail-clause-reads : goal.returns-in-Ok-EveryMail-clause-reads
returns-in-Ok-EveryMail-clause-reads g c = λ a held.
    reads-then (target_texts a c.args.request.now.target.now) (target_said a c.args.request.now.target.now) _ _ _ _ c.args.sends (c.in-Ok-EveryMail.ensures.reads a held) (rw c.in-Ok-EveryMail.field-0-is at (c.in-Ok-EveryMail.ensures.left a held)) (c.say_every_mail.ensures.reads a (c.find_target.ensures.shelf.kept a held))

pub returns-in-Ok-Mails-clause-reads : goal.returns-in-Ok-Mails-clause-reads
returns-in-Ok-Mails-clause-reads g c = λ a held.
    let left = rw c.in-Ok-Mails.field-0-is at (c.in-Ok-Mails.ensures.left a held) in
    reads-then (target_texts a c.args.request.now.target.now) (target_said a c.args.request.now.target.now) (length c.as_slice-in-Ok-Mails.result.now) _ _ _ c.args.sends (c.in-Ok-Mails.ensures.reads a held) (omega (arith, ap length c.as_slice-in-Ok-Mails.ensures, left)) c.say_mails.ensures.reads

pub returns-in-Ok-EveryMail-clause-unused : goal.returns-in-Ok-EveryMail-clause-unused
returns-in-Ok-EveryMail-clause-unused g c = λ a held spares.
    let found = rw c.in-Ok-EveryMail.field-0-is at (c.in-Ok-EveryMail.ensures.found a held) in
    absurd (false≢true (sym spares ∙ found.1))

pub returns-in-Ok-Mails-clause-unused : goal.returns-in-Ok-Mails-clause-unused
returns-in-Ok-Mails-clause-unused g c = λ a held spares.
    let found = rw c.in-Ok-Mails.field-0-is at (c.in-Ok-Mails.ensures.found a held) in
    absurd (false≢true (sym spares ∙ found.1))

pub returns-in-Err-clause-unused : goal.returns-in-Err-clause-unused
returns-in-Err-clause-unused g c = λ a held spares.
    refused-spares a (target_found a c.args.request.now.target.now) (target_reads a c.args.request.now.target.now) c.in-Err.refusal _ _ (c.in-Err.ensures.found a held) c.in-Err.ensures.cause spares
