-- Numbers that are gone stay gone, from one archive to a later one.
use Rattle.std.specs.Prelude.{◌≡◌, ◌+◌, ◌<◌, ◌≤◌, ℕ, true}
use Rattle.arch_model.specs.Archives.{Archive}
use Rattle.arch_model.specs.Validity.{IsArchive}
use Rattle.arch_model.specs.Delivery.{applied}
use Rattle.arch_model.specs.declared.command.Command.{Command}
use Rattle.known_uids.specs.Told.{Known, known, is_live, live_in, after_last, Suits}

-- From `a` to `b` no number is given back, and each live number of `b` that `a` gave before is live in
-- `a`: none that was gone comes back.
pub record GoneStay (a b : Archive) : Type 0 where
  pub next : a.next ≤ b.next
  pub live : (n : ℕ) → n < a.next → is_live b n ≡ true → is_live a n ≡ true

-- The archive gave all numbers up to the greatest one that a client was told.
abbrev pub AreGiven : Archive → Known → Type 0
AreGiven a told = (n : ℕ) → told.first ≤ n → n < after_last told.first told.uids → n < a.next

-- After a command on a valid archive the numbers that were gone before it still are.
abbrev pub CommandsKeepGone : Type 0
CommandsKeepGone =
    (a : Archive) (command : Command) (moment : ℕ) → IsArchive a
    → GoneStay a (applied a command moment).archive

-- So it is from an archive to itself, and in two steps.
abbrev pub GoneStayItself : Type 0
GoneStayItself = (a : Archive) → GoneStay a a

abbrev pub GoneStayThrough : Type 0
GoneStayThrough = (a b c : Archive) → GoneStay a b → GoneStay b c → GoneStay a c

-- What suited a client's UIDs is followed by what suits them.
abbrev pub SuitsLater : Type 0
SuitsLater = (a b : Archive) (told : Known) → GoneStay a b → IsArchive b → AreGiven a told → Suits a told
    → Suits b told × AreGiven b told

-- The archive of which a client was told suits what it was told.
abbrev pub SuitsTold : Type 0
SuitsTold = (a : Archive) (first last : ℕ) → first ≤ last + 1 → IsArchive a
    → Suits a (known first last (live_in a first last))
    × AreGiven a (known first last (live_in a first last))
