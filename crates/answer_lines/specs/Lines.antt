-- The lines of answers.
use Rattle.std.specs.Prelude.{ℕ, List, [], ◌∷◌, ◌++◌, codes, decimal}
use Rattle.hex.specs.Hex.{encode_lower}
use Rattle.arch_base.specs.Ids.{id_bytes}
use Rattle.arch_model.specs.Delivery.{file_words}
use Rattle.arch_model.specs.declared.opening.OpenRefusal.{OpenRefusal}
use Rattle.arch_model.specs.declared.opening.OpenRefusal.TheVariants as opening
use Rattle.arch_model.specs.declared.text_refusal.TextRefusal.{TextRefusal}
use Rattle.arch_model.specs.declared.text_refusal.TextRefusal.TheVariants as reading

-- Words as a whole line, which ends with a line feed.
abbrev pub whole_line : List ℕ → List ℕ
whole_line words = words ++ 10 ∷ []

-- The word for out of memory.
abbrev pub memory_word : List ℕ
memory_word = whole_line (codes "12 no memory")

-- The word for a fault of the disk.
abbrev pub disk_word : List ℕ
disk_word = whole_line (codes "10 disk fault")

-- A text or an epoch was not read. If it is damaged, its id is said, and the id of what was found.
abbrev pub unread_words : TextRefusal → List ℕ
unread_words reading.DiskFault = disk_word
unread_words (reading.Damaged named found) =
    whole_line (codes "11 damaged " ++ (encode_lower (id_bytes named) ++ 32 ∷ encode_lower (id_bytes found)))
unread_words reading.NoMemory = memory_word

-- An archive was not opened. If there is none, its root is damaged.
abbrev pub unopened_words : OpenRefusal → List ℕ
unopened_words opening.NoArchive = whole_line (codes "11 damaged root 0")
unopened_words (opening.Damaged file at) =
    whole_line (codes "11 damaged " ++ (file_words file ++ 32 ∷ decimal at))
unopened_words opening.DiskFault = disk_word
unopened_words opening.NoMemory = memory_word
