-- The results of reading objects and commits.
use Rattle.std.specs.Prelude.{◌≡◌, ◌≢◌, ◌-◌, ◌≤◌, ℕ, List, ◌++◌, length, slice_range, Option, Some, None, Result, Ok, Err, MatchOption}
use Rattle.arch_base.specs.declared.ids.Form.{Form}
use Rattle.arch_base.specs.declared.sequence.NoMemory.{NoMemory}
use Rattle.git_objects.specs.declared.objects.Object.{Object}
use Rattle.git_objects.specs.declared.objects.Object.TheVariants.{Blob, Tree, Commit}
use Rattle.git_objects.specs.declared.commits.Commit.{Commit as CommitRecord}
use Rattle.git_objects.specs.Objects.{GitObject, BlobOf, TreeOf, CommitOf, IsObject, spelling}
use Rattle.git_objects.specs.Commits.{IsContentOf, HoldsNoCommit}
use Rattle.git_objects.specs.declared.commit_reading.Parts.{Parts}

-- The object that a reader returned.
abbrev pub shown : Object → GitObject
shown (Blob content) = BlobOf content.now
shown (Tree kind id) = TreeOf kind id
shown (Commit content) = CommitOf content.now

-- The bytes start with the spelling of this object of the form, which has this length.
pub record IsObjectFront (form : Form) (bytes : List ℕ) (object : GitObject) (len : ℕ) : Type 0 where
  pub valid : IsObject form object
  pub inside : len ≤ length bytes
  pub spelled : slice_range bytes 0 len ≡ spelling object

-- The borrowed content is the piece of the bytes that ends where the object ends.
abbrev pub LendsPiece : List ℕ → Object → ℕ → Type 0
LendsPiece bytes (Blob content) len = (length content.now ≤ len)
    × (content.now ≡ slice_range bytes (len - length content.now) len)
LendsPiece bytes (Tree kind id) len = Unit {0}
LendsPiece bytes (Commit content) len = (length content.now ≤ len)
    × (content.now ≡ slice_range bytes (len - length content.now) len)

-- The bytes start with the spelling of no object of the form.
abbrev pub HasNoObject : Form → List ℕ → Type 0
HasNoObject form bytes = (object : GitObject) (rest : List ℕ) → IsObject form object
    → bytes ≢ spelling object ++ rest

-- The result is this object and the length of its spelling.
abbrev pub FindsObject : Option (Object × ℕ) → GitObject → Type 0
FindsObject found object =
    MatchOption found ⊥ (λ f. (shown f.0 ≡ object) × (f.1 ≡ length (spelling object)))

-- The commit of the parts that a reader borrows.
abbrev pub commit_of : Parts → CommitRecord
commit_of parts = record {
  tree = parts.tree;
  parent = parts.parent;
  author = parts.author.now;
  email = parts.email.now;
  secs = parts.secs;
  zone = parts.zone;
  committed = parts.committed;
  subject = parts.subject.now;
}

-- The commit of the form that the bytes hold, or none if they hold none.
abbrev pub ReadsCommit : Form → List ℕ → Result (Option CommitRecord) NoMemory → Type 0
ReadsCommit form bytes (Err e) = Unit {0}
ReadsCommit form bytes (Ok None) = HoldsNoCommit form bytes
ReadsCommit form bytes (Ok (Some c)) = IsContentOf form bytes c
