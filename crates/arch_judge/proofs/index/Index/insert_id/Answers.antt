use Rattle.std.proofs.Common.{◌≡◌, subst, None, ℕ}
use Rattle.std.specs.Global.{Vec}
use Rattle.arch_base.specs.Ids.{id_eq}
use Rattle.arch_base.specs.declared.ids.ObjectId.{ObjectId}
use Rattle.arch_base.proofs.IdOrder.{id_eq-Decides}
use Rattle.arch_judge.specs.Indexes.{number_in}
use Rattle.thread_model.proofs.Texts.{found_after}
use Rattle.arch_judge.proofs.Maps.{kept_put}
use Rattle.arch_judge.proofs.index.Index.insert_id.Goals as goal

pub returns-clause-ok : goal.returns-clause-ok
returns-clause-ok c = record {
  owners = λ q. found_after (λ (k : Vec ℕ). k.items) q c.args.id c.args.owner c.args.self.now.owners.entries c.insert.new.self.entries c.in_ok-insert.ensures.entries;
  blobs = λ q. kept_put (id_eq q c.args.blob) c.args.owner.number (number_in c.args.self.now.blobs q) (λ yes none. c.requires.seen (subst (λ (b : ObjectId). number_in c.args.self.now.blobs b ≡ None) ((id_eq-Decides q c.args.blob).0 yes) none));
}
