use Rattle.thread_index.specs.Lists.{list_at, list_at_key}
use Rattle.thread_index.proofs.Shown.{notes-label}
use Rattle.thread_index.proofs.tables.Tables.note_label.Goals as goal

-- src/tables.rt:106:5
pub returns : goal.returns
returns c =
    let r = c.in-Some.ensures in
    notes-label c.args.self.now.rows.entries c.args.self.now.labels (list_at c.args.self.now.members) (list_at_key c.args.self.now.holders) c.requires c.args.key.now c.in-Some.label r.0 r.1 r.2 r.3 c.args.found.now.items c.push.new.self.items c.in_ok-push.ensures.items
