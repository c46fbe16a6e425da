use Rattle.std.proofs.Common.{◌≡◌, ◌∙◌, sym, ap, Some, None}
use Rattle.arch_judge.specs.Indexes.{number_in}
use Rattle.arch_judge.proofs.Maps.{changed}
use Rattle.arch_judge.proofs.index.Index.remove_blob.Goals as goal

pub returns-then-found-number-clause-blobs : goal.returns-then-found-number-clause-blobs
returns-then-found-number-clause-blobs c =
    let here : number_in c.args.self.now.blobs c.args.blob.now ≡ Some c.args.number = sym c.in-Some.ensures ∙ ap Some c.if-found-number.true in
    record {
      its = λ is. changed c.args.self.now.blobs c.remove.new.self c.args.blob.now None c.remove.ensures.updates;
      other = λ no_more. absurd (no_more here);
    }
