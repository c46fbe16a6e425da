-- Private: what is gathered of a header for an envelope.
use Rattle.std.specs.Prelude.{ℕ, List, [], ◌∷◌}
use Rattle.mail_address.specs.declared.address.Address.{Address}
use Rattle.imap_structure.specs.Envelopes.{addresses_text}

-- These addresses, or the text of the authors if there are none.
abbrev pub text_or : List ℕ → List Address → List ℕ
text_or authors [] = authors
text_or authors (a ∷ addresses) = addresses_text (a ∷ addresses)
