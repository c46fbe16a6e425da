use Rattle.std.proofs.Common.{◌∙◌, ap, ℕ, Some, None, if◌then◌else◌}
use Rattle.std.specs.Str.{bytes_eq}
use Rattle.std.proofs.lemmas.Slice.Eq.{bytes_eq-Decides}
use Rattle.std.specs.BTreeMap.{BTreeMap}
use Rattle.std.specs.Global.{Vec}
use Rattle.arch_base.specs.Ids.{id_eq}
use Rattle.arch_judge.specs.Indexes.{first_found, owner_in, number_in}
use Rattle.arch_judge.specs.declared.index.Owner.{Owner}
use Rattle.arch_judge.proofs.Maps.{back_again, blobs_back}
use Rattle.arch_judge.proofs.index.Index.take_back.Goals as goal

pub returns : goal.returns
returns c = record {
  back = λ old message puts same free unseen. record {
    owners = λ q.
        ap (λ (m : BTreeMap (Vec ℕ) Owner). owner_in m q) c.remove_blob.ensures.owners
        ∙ back_again (bytes_eq q c.args.id.now) q c.args.id.now message (owner_in old.owners) (owner_in c.args.self.now.owners q) (owner_in c.remove.new.self.owners q) (bytes_eq-Decides q c.args.id.now).0 free (puts.owners q) (c.remove.ensures.lost.owners q);
    blobs = blobs_back old.blobs c.args.self.now.blobs c.remove.new.self.blobs c.remove_blob.new.self.blobs c.args.blob.now c.args.number
        (λ q. puts.blobs q ∙ ap (λ (n : ℕ). first_found (number_in old.blobs q) (if id_eq q c.args.blob.now then Some n else None)) same) c.remove.ensures.lost.blobs unseen c.remove_blob.ensures.blobs.its c.remove_blob.ensures.blobs.other;
  };
}
