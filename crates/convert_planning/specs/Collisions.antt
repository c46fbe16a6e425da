-- Messages of an archive whose texts differ and have one blob id in another form.
use Rattle.std.specs.Prelude.{◌≡◌, ◌↔◌, ℕ, Bool, not, ◌&&◌, List, [], ◌∷◌, ◌++◌, Option, Some, None, if◌then◌else◌}
use Rattle.std.specs.List.{list_any}
use Rattle.std.specs.Str.{bytes_eq}
use Rattle.arch_base.specs.Ids.{id_eq}
use Rattle.arch_base.specs.declared.ids.Form.{Form}
use Rattle.git_objects.specs.Objects.{blob_id_of}
use Rattle.arch_model.specs.Archives.{Archive, Entry, messages}
use Rattle.arch_model.specs.Validity.{IsArchive, BlobsAgree}

-- Two entries have one blob id in a form, and different texts.
abbrev pub collides : Form → Entry → Entry → Bool
collides form e f =
    id_eq (blob_id_of form e.text) (blob_id_of form f.text) && not (bytes_eq e.text f.text)

-- The number of the first of some entries whose blob id in a form one before it with another text has.
-- These entries are before all.
abbrev pub clash_number : Form → List Entry → List Entry → Option ℕ
clash_number form before [] = None
clash_number form before (e ∷ es) =
    if list_any (collides form e) before then Some e.number
    else clash_number form (before ++ e ∷ []) es

-- The least number of a message of an archive whose blob id in a form an earlier message with another
-- text has. (Numbers of messages rise.)
abbrev pub collision_of : Form → Archive → Option ℕ
collision_of form a = clash_number form [] (messages a.entries)

-- No message of an archive collides in a form exactly where each blob id of that form has one text.
abbrev pub NoneCollides : Type 0
NoneCollides = (form : Form) (a : Archive) → IsArchive a
    → (collision_of form a ≡ None) ↔ BlobsAgree form a.entries
