-- The grammar of a line at the control door. Its words are read in any case.
use Rattle.std.specs.Prelude.{◌+◌, ℕ, Bool, ◌&&◌, ◌==◌, nat_le, List, length, take, drop, codes, Option, Some, None, if◌then◌else◌}
use Rattle.std.specs.List.{position}
use Rattle.std.specs.Str.{str_eq_ignore_ascii_case}
use Rattle.arch_base.specs.Decimals.{decimal_of}
use Rattle.control_door.specs.declared.order.Order.{Order}
use Rattle.control_door.specs.declared.order.Order.TheVariants.{Deliver, TooMuch, Show, Remove, Purge, Edit, Thread, Epochs, Reindex, Quit, Bad}

-- The line starts with this word, in any case.
abbrev pub begins_with : List ℕ → List ℕ → Bool
begins_with word line = str_eq_ignore_ascii_case (take (length word) line) word

-- `deliver SIZE`: at most 9,000,000 bytes follow. A greater decimal is too much.
abbrev pub deliver_order : Option ℕ → Order
deliver_order None = Bad
deliver_order (Some size) = if nat_le size 9000000 then Deliver size else TooMuch

-- The number of a message, in 1 to 2,147,483,647.
abbrev pub number_in : Option ℕ → Option ℕ
number_in None = None
number_in (Some n) = if nat_le 1 n && nat_le n 2147483647 then Some n else None

-- `show N`.
abbrev pub show_order : Option ℕ → Order
show_order None = Bad
show_order (Some number) = Show number

-- `remove N`.
abbrev pub remove_order : Option ℕ → Order
remove_order None = Bad
remove_order (Some number) = Remove number

-- `purge N`.
abbrev pub purge_order : Option ℕ → Order
purge_order None = Bad
purge_order (Some number) = Purge number

-- `edit N SIZE`: at most 9,000,000 bytes follow. A greater decimal is too much.
abbrev pub edit_order : Option ℕ → Option ℕ → Order
edit_order None size = Bad
edit_order (Some number) None = Bad
edit_order (Some number) (Some size) = if nat_le size 9000000 then Edit number size else TooMuch

-- The same, where the first space of the words after `edit` is at this offset, if there is one.
abbrev pub edit_parts : List ℕ → Option ℕ → Order
edit_parts words None = Bad
edit_parts words (Some at) =
    edit_order (number_in (decimal_of (take at words))) (decimal_of (drop (at + 1) words))

-- The words after `edit`, parted at their first space.
abbrev pub edit_words : List ℕ → Order
edit_words words = edit_parts words (position (λ byte. byte == 32) words)

-- `thread N`.
abbrev pub thread_order : Option ℕ → Order
thread_order None = Bad
thread_order (Some number) = Thread number

-- The order of a line without its line end: `deliver SIZE`, `show N`, `remove N`, `purge N`,
-- `edit N SIZE`, `thread N`, `epochs`, `reindex`, `quit`, or unknown.
abbrev pub order_of : List ℕ → Order
order_of line =
    if begins_with (codes "deliver ") line then deliver_order (decimal_of (drop 8 line))
    else if begins_with (codes "show ") line then show_order (number_in (decimal_of (drop 5 line)))
    else if begins_with (codes "remove ") line
    then remove_order (number_in (decimal_of (drop 7 line)))
    else if begins_with (codes "purge ") line then purge_order (number_in (decimal_of (drop 6 line)))
    else if begins_with (codes "edit ") line then edit_words (drop 5 line)
    else if begins_with (codes "thread ") line
    then thread_order (number_in (decimal_of (drop 7 line)))
    else if str_eq_ignore_ascii_case line (codes "epochs") then Epochs
    else if str_eq_ignore_ascii_case line (codes "reindex") then Reindex
    else if str_eq_ignore_ascii_case line (codes "quit") then Quit
    else Bad
