use Rattle.std.proofs.Common.{◌≡◌, ◌∙◌, sym, subst, Some, None, ℕ, ap}
use Rattle.std.specs.Global.{Vec}
use Rattle.std.specs.Map.{lookup}
use Rattle.std.specs.BTreeMap.{is_at}
use Rattle.std.specs.Cmp.Lexicographic.{slice_cmp}
use Rattle.std.specs.Ordering.{nat_cmp}
use Rattle.arch_base.specs.Ids.{id_eq}
use Rattle.arch_base.specs.declared.ids.ObjectId.{ObjectId}
use Rattle.arch_base.proofs.IdOrder.{id_eq-Decides}
use Rattle.arch_judge.specs.Indexes.{number_in}
use Rattle.thread_model.proofs.Texts.{found_after}
use Rattle.arch_judge.proofs.Maps.{taken_back, changed, fresh_put}
use Rattle.arch_judge.proofs.index.Index.insert_both.Goals as goal

pub returns-in-Err-clause-err : goal.returns-in-Err-clause-err
returns-in-Err-clause-err c = record {
  owners = λ q. ap (lookup (is_at (λ (k : Vec ℕ). slice_cmp nat_cmp q k.items))) c.in-Err.ensures.err;
  blobs = taken_back c.args.blob c.args.owner.number c.args.self.now.blobs c.insert.new.self c.remove.new.self c.requires.unseen c.in_ok-insert.ensures.updates c.remove.ensures.updates;
}

pub returns-clause-ok : goal.returns-clause-ok
returns-clause-ok c = record {
  owners = λ q. found_after (λ (k : Vec ℕ). k.items) q c.args.id c.args.owner c.args.self.now.owners.entries c.insert-2.new.self.entries c.in_default.ensures.entries;
  blobs = λ q.
      changed c.args.self.now.blobs c.insert.new.self c.args.blob (Some c.args.owner.number) c.in_ok-insert.ensures.updates q
      ∙ fresh_put (id_eq q c.args.blob) c.args.owner.number (number_in c.args.self.now.blobs q) (λ yes. subst (λ (b : ObjectId). number_in c.args.self.now.blobs b ≡ None) (sym ((id_eq-Decides q c.args.blob).0 yes)) c.requires.unseen);
}
