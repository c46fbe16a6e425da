-- Private: results of the code that makes a feed.
use Rattle.std.specs.Prelude.{◌≡◌, ℕ, max, nat_le, List, [], ◌∷◌, ◌++◌, Option, Some, None, Result, Ok, Err, if◌then◌else◌}
use Rattle.arch_base.specs.Moments.{last_moment}
use Rattle.arch_model.specs.Shelves.{IsUndamaged}
use Rattle.arch_model.specs.declared.text_refusal.TextRefusal.{TextRefusal}
use Rattle.atom_mbox.specs.declared.feeds.Shown.{Shown}
use Rattle.mail_forms.specs.declared.row.Row.{Row}

-- These words were appended, or memory ran out, or the disk failed.
abbrev pub AppendsOrRefuses : List ℕ → List ℕ → List ℕ → Result Unit TextRefusal → Type 0
AppendsOrRefuses words old new (Ok done) = new ≡ old ++ words
AppendsOrRefuses words old new (Err refusal) = IsUndamaged refusal

-- When the mail of a row arrived, if that is a moment.
abbrev pub arrival_of : Row → Option ℕ
arrival_of row = if nat_le row.arrived last_moment then Some row.arrived else None

-- The later of two moments that may be there.
abbrev pub later_of : Option ℕ → Option ℕ → Option ℕ
later_of None second = second
later_of (Some a) None = Some a
later_of (Some a) (Some b) = Some (max a b)

-- The last arrival of mails, if there are any.
abbrev pub latest_of : List Shown → Option ℕ
latest_of [] = None
latest_of (mail ∷ mails) = later_of (Some mail.row.arrived) (latest_of mails)
