-- Clean text: the names, addresses and subjects of commits. It contains neither a line end nor the
-- brackets of an address. Git's own rule for names (`crud` in ident.c) is another one: at the ends
-- it also removes dots, commas, colons, quotes and the like, and elsewhere only line feeds, `<` and
-- `>`.
use Rattle.std.specs.Prelude.{◌≡◌, ◌-◌, ℕ, Bool, not, ◌&&◌, ◌==◌, nat_le, List, length, take, drop}
use Rattle.std.specs.List.{filter, prefix_len, suffix_len}

-- A byte that clean text may hold: 32 or more, but not 127, `<` or `>`.
abbrev pub is_clean_byte : ℕ → Bool
is_clean_byte c = nat_le 32 c && not (c == 127) && not (c == 60) && not (c == 62)

-- A space.
abbrev pub is_space : ℕ → Bool
is_space c = c == 32

-- A text without the spaces at its two ends.
abbrev pub trimmed : List ℕ → List ℕ
trimmed text = drop (prefix_len is_space text) (take (length text - suffix_len is_space text) text)

-- A text made clean: without bytes below 32, 127, `<` and `>`, and then without the spaces at its
-- two ends.
abbrev pub clean : List ℕ → List ℕ
clean text = trimmed (filter is_clean_byte text)

-- A clean text is one that cleaning doesn't change.
pub record IsCleanText (text : List ℕ) : Type 0 where
  pub same : clean text ≡ text
