-- The results of reading a list.
use Rattle.std.specs.Prelude.{◌≡◌, ◌≢◌, ◌-◌, ◌≤◌, ℕ, List, ◌++◌, length, take, Result, Ok, Err}
use Rattle.std.specs.List.{concat}
use Rattle.arch_base.specs.declared.ids.Form.{Form}
use Rattle.mirror_wire.specs.declared.list.MirrorList.{MirrorList}
use Rattle.mirror_wire.specs.declared.list.ListRefusal.{ListRefusal}
use Rattle.mirror_wire.specs.declared.list.ListRefusal.TheVariants.{BadList, NoMemory}
use Rattle.mirror_wire.specs.Lists.{list_lines, list_text}
use Rattle.mirror_wire.specs.Rules.{IsMirrorList}

-- A text starts with the first `n` lines of a valid list of the form.
pub record StartsList (form : Form) (n : ℕ) (text : List ℕ) : Type 0 where
  pub list : MirrorList
  pub valid : IsMirrorList form list
  pub enough : n ≤ length (list_lines form list)
  pub rest : List ℕ
  pub is : text ≡ concat (take n (list_lines form list)) ++ rest

-- A line, counted from 1, is the first bad one of a text that is no valid list of the form: the lines
-- before it start a valid list, and with it they start none. A line without its line feed, a line
-- that is missing, and bytes after the line `end` are bad, too.
pub record IsFirstBad (form : Form) (text : List ℕ) (line : ℕ) : Type 0 where
  pub least : 1 ≤ line
  pub before : StartsList form (line - 1) text
  pub bad : StartsList form line text → ⊥
  pub no_list : (list : MirrorList) → IsMirrorList form list → text ≢ list_text form list

-- The list of the form that the text is, or the first bad line of a text that is none.
abbrev pub ReadsList : Form → List ℕ → Result MirrorList ListRefusal → Type 0
ReadsList form text (Ok list) = IsMirrorList form list × (text ≡ list_text form list)
ReadsList form text (Err (BadList line)) = IsFirstBad form text line
ReadsList form text (Err NoMemory) = Unit {0}
