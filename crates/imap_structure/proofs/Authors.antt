-- The authors stand in for addresses that are missing, as a text that is made once.
use Rattle.std.proofs.Common.{◌≡◌, ℕ, List, [], ◌∷◌, refl}
use Rattle.mail_address.specs.declared.address.Address.{Address}
use Rattle.imap_structure.specs.Envelopes.{addresses_text, or_else}
use Rattle.imap_structure.specs.Gathered.{text_or}

-- The text of addresses or of others is these addresses or the text of the others.
pub text_or_is : (addresses others : List Address) → text_or (addresses_text others) addresses ≡ addresses_text (or_else addresses others)
text_or_is [] others = refl
text_or_is (a ∷ addresses) others = refl
