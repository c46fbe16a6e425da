-- Flags of commands (RFC 3501, section 9, flag, flag-list and store-att-flags).
use Rattle.std.specs.Prelude.{ℕ, Bool, true, false, not, ◌&&◌, ◌==◌, List, [], ◌∷◌, length, slice_index, codes, Option, Some, None, if◌then◌else◌}
use Rattle.std.specs.List.{list_all}
use Rattle.imap_words.specs.Kinds.{is_atom_byte, is_flag_byte}
use Rattle.imap_words.specs.Reading.{◌>>=◌, byte_at, run_at, many_at, word_of, behind_word}
use Rattle.imap_words.specs.Words.{is_keyword}
use Rattle.imap_syntax.specs.declared.flags.FlagChange.{FlagChange}
use Rattle.imap_syntax.specs.declared.flags.FlagChange.TheVariants as change
use Rattle.imap_syntax.specs.declared.flags.StoreItem.{StoreItem}

-- The word is an atom.
abbrev pub is_atom : List ℕ → Bool
is_atom word = not (length word == 0) && list_all is_atom_byte word

-- The word is a flag: an atom, before which a backslash may stand. `\Recent` is none.
abbrev pub is_flag : List ℕ → Bool
is_flag [] = false
is_flag (b ∷ bs) = if b == 92 then is_atom bs && not (is_keyword (codes "RECENT") bs) else is_atom (b ∷ bs)

-- The word, if it is a flag.
abbrev pub flag_of : List ℕ → Option (List ℕ)
flag_of word = if is_flag word then Some word else None

-- The flag at the front (flag).
unfoldable pub flag_at : List ℕ → Option (List ℕ × List ℕ)
flag_at octets = do
  word ← run_at is_flag_byte octets
  flag ← flag_of word.0
  Some (flag, word.1)

-- One or more flags with spaces between them.
abbrev pub flags_at : List ℕ → Option (List (List ℕ) × List ℕ)
flags_at octets = many_at flag_at (length octets) octets

-- Flags after an opening parenthesis, up to the closing one.
abbrev pub flags_inside : List ℕ → Option (List (List ℕ) × List ℕ)
flags_inside octets = do
  flags ← flags_at octets
  rest ← byte_at 41 flags.1
  Some (flags.0, rest)

-- No flags if the closing parenthesis comes first.
abbrev pub flag_list_by : List ℕ → Option (List ℕ) → Option (List (List ℕ) × List ℕ)
flag_list_by octets None = flags_inside octets
flag_list_by octets (Some rest) = Some ([], rest)

-- Flags in parentheses, or none (flag-list).
unfoldable pub flag_list_at : List ℕ → Option (List (List ℕ) × List ℕ)
flag_list_at octets = do
  inside ← byte_at 40 octets
  flag_list_by inside (byte_at 41 inside)

-- Flags in parentheses, or bare.
unfoldable pub stored_flags_at : List ℕ → Option (List (List ℕ) × List ℕ)
stored_flags_at octets = if slice_index octets 0 == 40 then flag_list_at octets else flags_at octets

-- The keyword of a change of flags: whether its reply is silent.
abbrev pub silence_of : List ℕ → Option Bool
silence_of word =
    if is_keyword (codes "FLAGS") word then Some false
    else if is_keyword (codes "FLAGS.SILENT") word then Some true
    else None

-- A change of flags by its sign: the keyword after it.
abbrev pub store_item_by : FlagChange → List ℕ → Option (StoreItem × List ℕ)
store_item_by change octets = do
  silent ← silence_of (word_of octets)
  Some (record { change = change; is_silent = silent }, behind_word octets)

-- A change of flags after `-`, if that comes first.
abbrev pub removal_by : List ℕ → Option (List ℕ) → Option (StoreItem × List ℕ)
removal_by octets None = store_item_by change.Replace octets
removal_by octets (Some rest) = store_item_by change.Remove rest

-- A change of flags after `+`, if that comes first.
abbrev pub addition_by : List ℕ → Option (List ℕ) → Option (StoreItem × List ℕ)
addition_by octets None = removal_by octets (byte_at 45 octets)
addition_by octets (Some rest) = store_item_by change.Add rest

-- What a change of flags does (store-att-flags).
unfoldable pub store_item_at : List ℕ → Option (StoreItem × List ℕ)
store_item_at octets = addition_by octets (byte_at 43 octets)
