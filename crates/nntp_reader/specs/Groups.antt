-- The group of an archive, and what GROUP and LISTGROUP say of it (RFC 3977, section 6.1).
use Rattle.std.specs.Prelude.{ℕ, ◌-◌, Bool, true, false, List, [], ◌∷◌, ◌++◌, codes, decimal, Option, Some, None, if◌then◌else◌}
use Rattle.std.specs.Option.{unwrap_or}
use Rattle.std.specs.Str.{bytes_eq}
use Rattle.nntp_words.specs.Numbers.{greatest}
use Rattle.nntp_words.specs.declared.numbers.Range.{Range}
use Rattle.arch_model.specs.Archives.{Archive, live}
use Rattle.arch_model.specs.Shelves.{live_between}
use Rattle.wire_replies.specs.Blocks.{crlf_line, block_end}
use Rattle.nntp_reader.specs.Notices.{notice_line}
use Rattle.shelf_doors.specs.Numbers.{least_live}
use Rattle.nntp_reader.specs.Facts.{fact_lines}
use Rattle.nntp_reader.specs.declared.fact.Fact.TheVariants as fact
use Rattle.nntp_reader.specs.declared.group.Group.{Group}
use Rattle.nntp_reader.specs.declared.group.Group.TheVariants as group
use Rattle.nntp_reader.specs.declared.notice.Notice.TheVariants as notice

-- How many messages are live.
abbrev pub live_count : Archive → ℕ
live_count a = live_between (live a.entries) 1 greatest

-- The least live number, or the next number if none is live.
abbrev pub low : Archive → ℕ
low a = unwrap_or (least_live (live a.entries) 1) a.next

-- The greatest number so far.
abbrev pub high : Archive → ℕ
high a = a.next - 1

-- `211 COUNT LOW HIGH NAME`.
abbrev pub group_head : Archive → List ℕ
group_head a = codes "211 " ++ (decimal (live_count a) ++ (32 ∷ (decimal (low a)
    ++ (32 ∷ (decimal (high a) ++ (32 ∷ a.config.name))))))

-- The same, and what follows in its line.
abbrev pub group_line : Archive → List ℕ → List ℕ
group_line a more = group_head a ++ crlf_line more

-- The group with its least live number as the current one, or with none.
abbrev pub selected : Archive → Group
selected a = group.Selected (least_live (live a.entries) 1)

-- A name is compared by its bytes.
abbrev pub is_group : Archive → List ℕ → Bool
is_group a name = bytes_eq name a.config.name

-- A group is there for LISTGROUP: the named one, or else the selected one.
abbrev pub has_group : Archive → Group → Option (List ℕ) → Bool
has_group a g (Some name) = is_group a name
has_group a group.Unselected None = false
has_group a (group.Selected current) None = true

-- Why there is no group for LISTGROUP.
abbrev pub no_group_line : Option (List ℕ) → List ℕ
no_group_line None = notice_line notice.NoGroup
no_group_line (Some name) = notice_line notice.NoSuchGroup

-- What LISTGROUP says of its group: the live numbers in a range.
abbrev pub group_list : Archive → Range → List ℕ
group_list a range = group_line a (codes " list follows")
    ++ (fact_lines fact.Number a range.first range.last ++ block_end)

-- What GROUP says.
abbrev pub group_words : Archive → List ℕ → List ℕ
group_words a name = if is_group a name then group_line a [] else notice_line notice.NoSuchGroup

-- The group after GROUP: the archive's if it was named, and otherwise the one before.
abbrev pub group_after : Archive → Group → List ℕ → Group
group_after a g name = if is_group a name then selected a else g

-- What LISTGROUP says.
abbrev pub list_group_words : Archive → Group → Option (List ℕ) → Range → List ℕ
list_group_words a g name range =
    if has_group a g name then group_list a range else no_group_line name

-- The group after LISTGROUP: the archive's if it is there, and otherwise the one before.
abbrev pub list_group_after : Archive → Group → Option (List ℕ) → Group
list_group_after a g name = if has_group a g name then selected a else g
