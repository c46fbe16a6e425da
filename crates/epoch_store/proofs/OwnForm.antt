-- A text with a blob id has it in the form of the id.
use Rattle.std.specs.Prelude.{◌≡◌, ℕ, List}
use Rattle.std.proofs.Common.{ap, subst}
use Rattle.arch_base.specs.Ids.{form_of}
use Rattle.arch_base.specs.declared.ids.Form.{Form}
use Rattle.arch_base.specs.declared.ids.ObjectId.{ObjectId}
use Rattle.arch_base.proofs.SameIds.{form_with}
use Rattle.git_objects.specs.Objects.{blob_id_of, blob_spelling, digest_of}

pub in_own_form : (form : Form) (text : List ℕ) (id : ObjectId) → blob_id_of form text ≡ id → blob_id_of (form_of id) text ≡ id
in_own_form form text id is =
    subst (λ (i : ObjectId). blob_id_of (form_of i) text ≡ i) is
    (ap (λ (g : Form). blob_id_of g text) (form_with form (digest_of form (blob_spelling text))))
