-- Private: results of the code that makes a list of epochs.
use Rattle.std.specs.Prelude.{◌≡◌, ℕ, List, ◌++◌, Result, Ok, Err}
use Rattle.arch_model.specs.declared.text_refusal.TextRefusal.{TextRefusal}
use Rattle.arch_model.specs.Shelves.{IsUndamaged}

-- These words were appended, or memory ran out, or the disk failed.
abbrev pub AppendsWords : List ℕ → List ℕ → List ℕ → Result Unit TextRefusal → Type 0
AppendsWords words old new (Ok _) = new ≡ old ++ words
AppendsWords words old new (Err refusal) = IsUndamaged refusal

-- These words were made, or memory ran out, or the disk failed.
abbrev pub MakesWords : List ℕ → Result (List ℕ) TextRefusal → Type 0
MakesWords words (Ok made) = made ≡ words
MakesWords words (Err refusal) = IsUndamaged refusal
