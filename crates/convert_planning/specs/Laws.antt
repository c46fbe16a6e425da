-- The laws of archives in another form.
use Rattle.std.specs.Prelude.{◌≡◌, None}
use Rattle.arch_base.specs.declared.ids.Form.{Form}
use Rattle.arch_model.specs.Archives.{Archive}
use Rattle.arch_model.specs.Following.{Follows}
use Rattle.arch_model.specs.Validity.{IsArchive}
use Rattle.convert_planning.specs.Collisions.{collision_of}
use Rattle.convert_planning.specs.Converting.{converted}

-- An archive with objects of another form follows the one before: no number names a second message.
abbrev pub ConversionFollows : Type 0
ConversionFollows = (form : Form) (a : Archive) → Follows a (converted form a)

-- It is valid if no messages collide in that form.
abbrev pub ConversionValid : Type 0
ConversionValid = (form : Form) (a : Archive) → IsArchive a → collision_of form a ≡ None
    → IsArchive (converted form a)
