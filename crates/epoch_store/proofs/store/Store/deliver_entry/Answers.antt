-- A message enters with the next number.
use Rattle.std.proofs.Common.{◌∙◌, ap, sym, subst}
use Rattle.std.proofs.lemmas.Result.{on_ok_weaker}
use Rattle.git_objects.specs.declared.entry_kind.EntryKind.TheVariants.{Message}
use Rattle.epoch_store.specs.Entering.{Enters, EntersEntry}
use Rattle.epoch_store.specs.Commands.{AddsEntry}
use Rattle.store_finding.specs.Kept.{StoreState}
use Rattle.epoch_store.proofs.Delivering.{changes_so, message_enters}
use Rattle.epoch_store.proofs.store.Store.deliver_entry.Goals as goal

pub returns-clause-changes : goal.returns-clause-changes
returns-clause-changes g c =
    let text = c.args.text.now in
    changes_so (λ a b keeps adds. subst (λ (v : StoreState). Enters Message v.root.next text c.args.moment a b) (sym c.self.view_is) (message_enters c.args.self.now a b text c.args.moment keeps c.requires.accepts c.requires.moment adds)) c.enter.ensures.changes

pub returns-clause-added : goal.returns-clause-added
returns-clause-added g c =
    let adds : EntersEntry Message c.self.inside.root.next c.args.text.now c.args.self.now c.enter.new.self → AddsEntry c.args.self.now c.enter.new.self c.args.text.now = λ kept. record {
      entry = kept.entry;
      entries = kept.entries;
      kind = kept.kind;
      number = kept.number ∙ ap (λ (v : StoreState). v.root.next) c.self.view_is;
      id = kept.id;
      blob = kept.blob;
      content = kept.content;
      next = kept.next;
      config = kept.config;
    } in
    on_ok_weaker c.enter.result adds c.enter.ensures.entered
