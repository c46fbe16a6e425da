-- The deletion of a live number enters.
use Rattle.std.proofs.Common.{arith}
use Rattle.std.proofs.lemmas.Result.{on_ok_weaker}
use Rattle.git_objects.specs.declared.entry_kind.EntryKind.TheVariants.{Deletion}
use Rattle.epoch_store.specs.Entering.{EntersEntry}
use Rattle.epoch_store.specs.Commands.{EndsEntry}
use Rattle.epoch_store.proofs.Delivering.{changes_so, deletion_enters}
use Rattle.epoch_store.proofs.store.Store.remove_entry.Goals as goal

pub returns-clause-changes : goal.returns-clause-changes
returns-clause-changes g c = changes_so (λ a b keeps ends. deletion_enters c.args.self.now a b c.args.number c.args.text.now c.args.moment keeps c.requires.moment ends) c.enter.ensures.changes

pub returns-clause-ended : goal.returns-clause-ended
returns-clause-ended g c =
    let ends : EntersEntry Deletion c.args.number c.args.text.now c.args.self.now c.enter.new.self → EndsEntry c.args.self.now c.enter.new.self c.args.number c.args.text.now = λ kept. record {
      entry = kept.entry;
      entries = kept.entries;
      kind = kept.kind;
      number_is = kept.number;
      id = kept.id;
      blob = kept.blob;
      content = kept.content;
      next = (let same = kept.next in omega (arith, same));
      config = kept.config;
    } in
    on_ok_weaker c.enter.result ends c.enter.ensures.entered
