use Rattle.std.proofs.Common.{◌≡◌, ◌++◌, Option, Some, OnOk, subst, ap}
use Rattle.arch_base.specs.declared.config.Config.{Config}
use Rattle.atom_mbox.specs.Feeds.{entries_of}
use Rattle.mail_forms.specs.declared.row.Row.{Row}
use Rattle.http_front.specs.Views.{shown_row, shown_by}
use Rattle.http_front.proofs.Feeds.{appends-no_row}
use Rattle.http_front.proofs.feed.push_read.Goals as goal

pub returns-in-Some : goal.returns-in-Some
returns-in-Some g c = λ a held.
    subst (λ (o : Option Row). OnOk c.push_entry.result (c.push_entry.new.into ≡ c.args.into.now ++ entries_of a.config.name (shown_by o (Some c.args.text.now)))) (c.in-Some.ensures a held) (rw (ap (λ (k : Config). k.name) (c.config.ensures a held)) at c.push_entry.ensures)

pub returns-in-None : goal.returns-in-None
returns-in-None g c = λ a held. appends-no_row a.config.name (shown_row a c.args.n) (Some c.args.text.now) c.args.into.now (c.in-None.ensures a held)
