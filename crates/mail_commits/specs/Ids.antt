-- What a text is known by.
use Rattle.std.specs.Prelude.{ℕ, List}
use Rattle.arch_base.specs.declared.ids.Form.{Form}
use Rattle.git_objects.specs.Objects.{blob_id_of}
use Rattle.mail_reader.specs.Content.{content_id_of}
use Rattle.mail_commits.specs.declared.ids.TextIds.{TextIds}

-- The blob id in a form, and the content id of a text.
abbrev pub text_ids_of : Form → List ℕ → TextIds
text_ids_of form text = record { blob = blob_id_of form text; content = content_id_of text }
