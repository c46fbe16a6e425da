use Rattle.std.proofs.Common.{◌∙◌, sym, ap, option_copied}
use Rattle.arch_model.specs.Archives.{live, text_of}
use Rattle.arch_model.specs.Listings.{row_in}
use Rattle.imap_messages.specs.Fetching.{asked_fetch}
use Rattle.imap_messages.proofs.Named.{items-made}
use Rattle.imap_messages.proofs.lines.row_items.Goals as goal

pub returns-in-Ok-clause-items : goal.returns-in-Ok-clause-items
returns-in-Ok-clause-items g c = λ a held given.
    items-made (asked_fetch c.args.command.now) (text_of (live a.entries) c.args.uid) (row_in a.config.form (live a.entries) c.args.uid) c.args.text.now c.in-Some.row.now c.in-Ok.made given
    (sym (c.row.ensures a held) ∙ ap option_copied c.in-Some.is) c.in-Ok.ensures
