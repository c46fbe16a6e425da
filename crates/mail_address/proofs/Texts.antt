-- The texts of names and addresses are what their parts say.
use Rattle.std.proofs.Common.{◌≡◌, ℕ, List, [], ◌∷◌, ◌++◌, refl, ◌∙◌, ap}
use Rattle.std.specs.List.{flat_map, filter}
use Rattle.mail_address.specs.declared.place.Place.{Place}
use Rattle.mail_address.specs.declared.place.Place.TheVariants.{Outside}
use Rattle.mail_address.specs.Places.{next_name_place, marked_by, bytes_of}
use Rattle.mail_address.specs.Words.{joined_words}
use Rattle.mail_address.specs.Mailboxes.{said_in_name}
use Rattle.mail_address.specs.Texts.{NamePart, Whole, Taken, is_name_byte, AreNameParts, part_bytes, part_said, NameTextIsSaid, AddressTextIsSaid}
use Rattle.mail_address.proofs.Marks.{moves_in_name, marks_piece}
use Rattle.mail_address.proofs.Mailboxes.{keep_name, name_stays, name_piece, address_is}

parts_say : (parts : List NamePart) → AreNameParts parts
    → bytes_of (filter keep_name (marked_by next_name_place Outside (flat_map part_bytes parts))) ≡ flat_map part_said parts
parts_say [] q = refl
parts_say (Whole piece ∷ parts) q =
    let rest = flat_map part_bytes parts in
    ap (λ (ms : List (ℕ × Place)). bytes_of (filter keep_name ms)) (marks_piece next_name_place moves_in_name is_name_byte name_stays piece q.0 rest)
    ∙ name_piece piece q.0 (marked_by next_name_place Outside rest)
    ∙ ap (λ (xs : List ℕ). said_in_name piece ++ xs) (parts_say parts q.1)
parts_say (Taken b ∷ parts) q = ap (λ (xs : List ℕ). b ∷ xs) (parts_say parts q)

pub name_text_is_said : NameTextIsSaid
name_text_is_said parts q = ap joined_words (parts_say parts q)

pub address_text_is_said : AddressTextIsSaid
address_text_is_said pieces q = address_is pieces q
