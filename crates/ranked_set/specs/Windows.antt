-- Private: parts of lists.
use Rattle.std.specs.Prelude.{ℕ, ◌-◌, List, take, drop}
use Rattle.ranked_set.specs.declared.window.Window.{Window}

-- The items of a list that a window shows.
abbrev pub seen_by : {T : Type 0} → Window → List T → List T
seen_by window items = take window.count (drop window.skip items)

-- The window on what follows a list of this length.
abbrev pub after : Window → ℕ → Window
after window len = record {
  skip = window.skip - len;
  count = window.count - (len - window.skip);
}
