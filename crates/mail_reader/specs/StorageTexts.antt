-- The texts that an archive keeps.
use Rattle.std.specs.Prelude.{◌≡◌, ◌≤◌, ℕ, List, length, Some, IsSome}
use Rattle.mail_reader.specs.Stored.{storage_form}
use Rattle.mail_reader.specs.Ids.{own_id}

-- The greatest length of a storage text: the greatest length of a message that is accepted, two
-- line feeds, and room for a field with a made id.
abbrev pub max_text_len : ℕ
max_text_len = 8388800

-- A storage text isn't too long, is its own storage form, and has an own id.
pub record IsStorageText (text : List ℕ) : Type 0 where
  pub short : length text ≤ max_text_len
  pub form : storage_form text ≡ Some text
  pub id : IsSome (own_id text)
