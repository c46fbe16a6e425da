use Rattle.std.proofs.Common.{ℕ, refl}
use Rattle.std.specs.Global.{Vec}
use Rattle.thread_model.proofs.Texts.{lost_after}
use Rattle.arch_judge.proofs.index.Index.remove.Goals as goal

pub returns : goal.returns
returns c = record {
  lost = record {
    owners = λ q. lost_after (λ (k : Vec ℕ). k.items) q c.args.id.now c.args.self.now.owners.entries c.remove.new.self.entries c.remove.ensures.entries c.remove.ensures.updates.1;
    blobs = λ q. refl;
  };
}
