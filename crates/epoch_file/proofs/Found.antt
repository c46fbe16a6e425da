-- The object found at the front of bytes is the one spelled there.
use Rattle.std.proofs.Common.{◌≡◌, ℕ, ◌-◌, List, take, sym, ap, ◌∙◌, Bor, arith}
use Rattle.arch_base.specs.declared.ids.Form.{Form}
use Rattle.arch_base.specs.declared.ids.ObjectId.{ObjectId}
use Rattle.git_objects.specs.declared.entry_kind.EntryKind.{EntryKind}
use Rattle.git_objects.specs.declared.objects.Object.{Object}
use Rattle.git_objects.specs.declared.objects.Object.TheVariants.{Blob, Tree, Commit}
use Rattle.git_objects.specs.Objects.{BlobOf, TreeOf, CommitOf, blob_spelling, spelling}
use Rattle.git_objects.specs.Reading.{IsObjectFront, shown}

-- A blob.
pub blob_is : (found : Object) (held : Bor (List ℕ)) (content : List ℕ) → found ≡ Blob held → shown found ≡ BlobOf content → held.now ≡ content
blob_is found held content is e = let same : BlobOf held.now ≡ BlobOf content = ap shown (sym is) ∙ e in cc

-- The bytes start with the blob.
pub blob_ahead_is : (form : Form) (bytes : List ℕ) (found : Object) (held : Bor (List ℕ)) (len : ℕ) → found ≡ Blob held → IsObjectFront form bytes (shown found) len → take len bytes ≡ blob_spelling held.now
blob_ahead_is form bytes found held len is front =
    let whole : len ≡ len - 0 = omega arith in
    ap (λ (n : ℕ). take n bytes) whole ∙ (front.spelled ∙ ap (λ (object : Object). spelling (shown object)) is)

-- A tree.
pub tree_is : (found : Object) (m : EntryKind) (i : ObjectId) (kind : EntryKind) (id : ObjectId) → found ≡ Tree m i → shown found ≡ TreeOf kind id → m ≡ kind
tree_is found m i kind id is e = let same : TreeOf m i ≡ TreeOf kind id = ap shown (sym is) ∙ e in cc

-- A commit.
pub commit_is : (found : Object) (held : Bor (List ℕ)) (content : List ℕ) → found ≡ Commit held → shown found ≡ CommitOf content → held.now ≡ content
commit_is found held content is e = let same : CommitOf held.now ≡ CommitOf content = ap shown (sym is) ∙ e in cc
