use Rattle.std.proofs.Common.{ℕ}
use Rattle.std.specs.Global.{Vec}
use Rattle.thread_model.proofs.Texts.{lost_after}
use Rattle.overview_index.proofs.views.Views.remove.Goals as goal

pub returns-clause-loses : goal.returns-clause-loses
returns-clause-loses c = record {
  dates = c.remove.ensures.keys;
  numbers = rw c.from.ensures at c.remove-2.ensures.keys;
  ids = λ q. lost_after (λ (k : Vec ℕ). k.items) q c.args.id.now c.args.self.now.ids.entries c.remove-3.new.self.entries c.remove-3.ensures.entries c.remove-3.ensures.updates.1;
}
