use Rattle.std.proofs.Common.{◌≡◌, true, false}
use Rattle.store_tests.proofs.joining_tests.a_blob_id_has_one_text.Goals as goal

pub returns : goal.returns
returns c = λ old new epoch seen joins of rs after all holds. (let wrong : false ≡ true = (joins.2 of rs after all holds).0 in cc)
