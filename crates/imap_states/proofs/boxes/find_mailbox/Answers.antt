use Rattle.std.proofs.Common.{◌≡◌, ◌∙◌, refl, ap, sym, Some}
use Rattle.shelf_doors.specs.Mailboxes.{mailbox_named, mailbox_range, range_if}
use Rattle.imap_states.specs.Boxes.{mailbox_of}
use Rattle.imap_states.proofs.Ranges.{named-there, range-there}
use Rattle.imap_states.proofs.boxes.find_mailbox.Goals as goal

pub returns-clause-found : goal.returns-clause-found
returns-clause-found g c = λ a held valid.
    let index = c.in_ok-index.index in
    let named : mailbox_named a c.args.name.now ≡ Some index = sym (c.mailbox_named.ensures a held) ∙ c.in_ok-index.was in
    let there = named-there a c.args.name.now index named in
    let made : c.checked.result ≡ Some (mailbox_of index (mailbox_range a index)) = c.checked.ensures.found (mailbox_range a index) (c.mailbox_range.ensures a held ∙ ap (range_if a) there) (range-there a index valid there) in
    rw made (record { named = named; range = refl })
