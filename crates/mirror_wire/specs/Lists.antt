-- The text of a mirror's list: the name of an archive, its next number, and its entries without their
-- texts, on lines that each end with a line feed (docs/FORMATS.md, "The list of a mirror").
use Rattle.std.specs.Prelude.{ℕ, List, [], ◌∷◌, ◌++◌, map, codes}
use Rattle.std.specs.List.{concat}
use Rattle.arch_base.specs.declared.ids.Form.{Form}
use Rattle.arch_base.specs.declared.ids.Form.TheVariants.{Sha1, Sha256}
use Rattle.git_objects.specs.Objects.{entry_name}
use Rattle.git_objects.specs.Commits.{number_part, hex_part, text_part}
use Rattle.arch_model.specs.declared.line.EntryLine.{EntryLine}
use Rattle.arch_model.specs.Archives.{Archive}
use Rattle.arch_model.specs.Shelves.{lines_after}
use Rattle.mirror_wire.specs.declared.list.MirrorList.{MirrorList}

-- The words of the first line, which name the form of the ids.
abbrev pub first_words : Form → List ℕ
first_words Sha1 = codes "piv2 list 1"
first_words Sha256 = codes "piv2 list 2"

-- The line of an entry before the bytes that follow it: `m` of a message or `d` of a deletion, its
-- number, its epoch, its moment in seconds since 1970, the id of its blob, the size of its text and
-- the id of its commit, with single spaces between them.
abbrev pub entry_part : EntryLine → List ℕ → List ℕ
entry_part l rest =
    entry_name l.kind ∷ 32 ∷ number_part 32 l.number (number_part 32 l.epoch (number_part 32 l.secs
    (hex_part 32 l.blob (number_part 32 l.size (hex_part 10 l.commit rest)))))

-- The line of an entry.
abbrev pub entry_line : EntryLine → List ℕ
entry_line l = entry_part l []

-- The lines of a list, in order: its form, the name, the next number, the entries, and `end`.
abbrev pub list_lines : Form → MirrorList → List (List ℕ)
list_lines form list =
    text_part 10 (first_words form) [] ∷ text_part 10 list.name [] ∷ number_part 10 list.next []
    ∷ (map entry_line list.lines ++ text_part 10 (codes "end") [] ∷ [])

-- The text of a list.
abbrev pub list_text : Form → MirrorList → List ℕ
list_text form list = concat (list_lines form list)

-- The list of an archive.
abbrev pub list_of : Archive → MirrorList
list_of a = record {
  name = a.config.name;
  next = a.next;
  lines = lines_after a.config.form [] a.entries;
}
