-- The clone of a map has the same files.
use Rattle.std.proofs.lemmas.List.Elements.{same_from_all_zip}
use Rattle.std.proofs.lemmas.Result.{IfOk-weaker}
use Rattle.disk_model.specs.Record.{SameFiles}
use Rattle.disk_model.proofs.FileMaps.{same_from_clone, of_ok}
use Rattle.disk_model.proofs.files.copy.Goals as goal

pub returns : goal.returns
returns c =
    let old = c.args.files.now in
    IfOk-weaker c.clone.result _ (SameFiles old) (λ new cloned. same_from_clone _ _ (λ x y same. same) (λ v w same. same_from_all_zip _ v.items w.items same.0 (λ x y is. is)) old new cloned) (of_ok c.clone.result _ _ c.clone.ensures.cases)
