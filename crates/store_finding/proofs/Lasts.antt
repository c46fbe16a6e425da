-- Epochs without an entry, and the commit of the last entry.
use Rattle.std.specs.Prelude.{◌≡◌, ◌<◌, ◌==◌, ℕ, false, List, [], ◌∷◌, ◌++◌, Option, Some, refl}
use Rattle.std.specs.List.{AllByRecursion}
use Rattle.std.proofs.Common.{arith}
use Rattle.std.proofs.lemmas.Bool.Decides.{nat_tests}
use Rattle.arch_base.specs.declared.ids.ObjectId.{ObjectId}
use Rattle.arch_base.specs.declared.ids.Form.{Form}
use Rattle.arch_model.specs.Archives.{Entry, in_epoch}
use Rattle.arch_model.specs.Epochs.{last_commit}
use Rattle.mail_commits.specs.Entries.{commit_id}

-- An epoch has no entry if all are of lesser epochs.
pub none_in : (es : List Entry) (epoch : ℕ) → AllByRecursion (λ (e : Entry). e.epoch < epoch) es → in_epoch es epoch ≡ []
none_in [] epoch below = refl
none_in (e ∷ es) epoch below =
    let low : e.epoch < epoch = below.0 in
    let test : (e.epoch == epoch) ≡ false = grind (arith, nat_tests) in
    rw test (none_in es epoch below.1)

-- The last commit of entries in a form with one appended.
pub last_commit_is : (form : Form) (parent : Option ObjectId) (es : List Entry) (e : Entry) → last_commit form parent (es ++ e ∷ []) ≡ Some (commit_id form e.kind e.text e.moment (last_commit form parent es))
last_commit_is form parent [] e = refl
last_commit_is form parent (f ∷ es) e = last_commit_is form (Some (commit_id form f.kind f.text f.moment parent)) es e
