-- Commits (git, "Git Objects" and `git help commit-tree`): the lines of a commit's content, each
-- given before the bytes that follow it.
use Rattle.std.specs.Prelude.{◌≡◌, ◌≢◌, ◌+◌, ◌/◌, ◌%◌, ◌<◌, ◌^◌, ◌≤ℤ◌, ℕ, ℤ, pos, negsuc, List, [], ◌∷◌, ◌++◌, codes, Option, Some, None}
use Rattle.std.specs.Fmt.{decimal}
use Rattle.std.specs.Int.RustNames.{unsigned_abs}
use Rattle.hex.specs.Hex.{encode_lower}
use Rattle.arch_base.specs.declared.ids.Form.{Form}
use Rattle.arch_base.specs.declared.ids.ObjectId.{ObjectId}
use Rattle.arch_base.specs.Ids.{IsObjectId, id_bytes}
use Rattle.git_objects.specs.declared.commits.Commit.{Commit}
use Rattle.git_objects.specs.CleanText.{IsCleanText}
use Rattle.git_objects.specs.Fronts.{followed}
use Rattle.git_objects.specs.Objects.{spelling, CommitOf}

-- A number below 100 as two digits.
abbrev pub two_digits : ℕ → List ℕ → List ℕ
two_digits n rest = (48 + n / 10) ∷ (48 + n % 10) ∷ rest

-- A number that two digits spell.
abbrev pub IsBelow100 : ℕ → Type 0
IsBelow100 n = n < 100

-- Minutes as hours and minutes, two digits each.
abbrev pub clock : ℕ → List ℕ → List ℕ
clock minutes rest = two_digits (minutes / 60) (two_digits (minutes % 60) rest)

-- `+` for a time zone at or east of UTC, `-` for one west of it.
abbrev pub zone_sign : ℤ → ℕ
zone_sign (pos minutes) = 43
zone_sign (negsuc less_one) = 45

-- A time zone's minutes east of UTC as `+hhmm`, or as `-hhmm` for a zone west of UTC.
abbrev pub zone_text : ℤ → List ℕ → List ℕ
zone_text zone rest = zone_sign zone ∷ clock (unsigned_abs zone) rest

-- The digits of an id, 40 or 64, and the byte that ends them.
abbrev pub hex_part : ℕ → ObjectId → List ℕ → List ℕ
hex_part end id rest = encode_lower (id_bytes id) ++ end ∷ rest

-- The digits of an id and a line feed.
abbrev pub hex_line : ObjectId → List ℕ → List ℕ
hex_line = hex_part 10

-- The line that names the tree.
abbrev pub tree_line : ObjectId → List ℕ → List ℕ
tree_line id rest = codes "tree " ++ hex_line id rest

-- The line that names the parent, if there is one.
abbrev pub parent_line : Option ObjectId → List ℕ → List ℕ
parent_line None rest = rest
parent_line (Some id) rest = codes "parent " ++ hex_line id rest

-- The bytes from the parent's line up to the author's name.
abbrev pub parent_part : Option ObjectId → List ℕ → List ℕ
parent_part = followed parent_line (codes "author ")

-- Clean text, and the byte that ends it.
abbrev pub text_part : ℕ → List ℕ → List ℕ → List ℕ
text_part end text rest = text ++ end ∷ rest

-- A name, and the space and bracket after it.
abbrev pub name_part : List ℕ → List ℕ → List ℕ
name_part name rest = name ++ 32 ∷ 60 ∷ rest

-- An address, and the bracket and space after it.
abbrev pub email_part : List ℕ → List ℕ → List ℕ
email_part = followed (text_part 62) (codes " ")

-- A number in digits, and the byte that ends it.
abbrev pub number_part : ℕ → ℕ → List ℕ → List ℕ
number_part end n rest = decimal n ++ end ∷ rest

-- The bytes between the author's time zone and the subject: the archive as the committer, and the
-- time at which it took the message.
abbrev pub committed_part : ℕ → List ℕ → List ℕ
committed_part moment rest =
    codes "\ncommitter piv2 <piv2@localhost> " ++ number_part 32 moment (codes "+0000\n\n" ++ rest)

-- The line that names the author: name, address, seconds since 1970 and time zone.
abbrev pub author_line : List ℕ → List ℕ → ℕ → ℤ → List ℕ → List ℕ
author_line name email secs zone rest =
    codes "author " ++ name_part name (email_part email (number_part 32 secs (zone_text zone rest)))

-- The content of a commit: the lines of tree, parent, author and committer, an empty line, and the
-- subject on a line.
abbrev pub commit_content : Commit → List ℕ
commit_content c =
    tree_line c.tree (parent_line c.parent (author_line c.author c.email c.secs c.zone
    (committed_part c.committed (text_part 10 c.subject []))))

-- The spelling of a commit.
abbrev pub commit_spelling : Commit → List ℕ
commit_spelling c = spelling (CommitOf (commit_content c))

-- A time zone less than a day away from UTC.
pub record IsCommitZone (zone : ℤ) : Type 0 where
  pub low : negsuc 1438 ≤ℤ zone
  pub high : zone ≤ℤ pos 1439

-- An id of a form, if there is one.
abbrev pub IsParent : Form → Option ObjectId → Type 0
IsParent form None = Unit {0}
IsParent form (Some id) = IsObjectId form id

-- A number of 64 bits.
abbrev pub IsNumber : ℕ → Type 0
IsNumber n = n < 2 ^ 64

-- The commits that are spelled in a form: the ids are of the form, author, address and subject are
-- clean, the numbers have 64 bits, and the zone is valid.
pub record IsCommit (form : Form) (c : Commit) : Type 0 where
  pub tree : IsObjectId form c.tree
  pub parent : IsParent form c.parent
  pub author : IsCleanText c.author
  pub email : IsCleanText c.email
  pub secs : IsNumber c.secs
  pub zone : IsCommitZone c.zone
  pub committed : IsNumber c.committed
  pub subject : IsCleanText c.subject

-- The bytes are the content of this commit and of no other of the form.
pub record IsContentOf (form : Form) (bytes : List ℕ) (c : Commit) : Type 0 where
  pub valid : IsCommit form c
  pub spelled : bytes ≡ commit_content c
  pub only : (other : Commit) → IsCommit form other → bytes ≡ commit_content other → other ≡ c

-- The bytes are the content of no commit of the form.
abbrev pub HoldsNoCommit : Form → List ℕ → Type 0
HoldsNoCommit form bytes = (c : Commit) → IsCommit form c → bytes ≢ commit_content c
