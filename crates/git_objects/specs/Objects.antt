-- Git objects, their spellings and ids (git, "Git Objects": type, space, size in digits, NUL and
-- content; the id is the SHA-1 of the whole, or its SHA-256: git, "hash-function-transition").
use Rattle.std.specs.Prelude.{◌≡◌, ◌≢◌, ◌<◌, ◌^◌, ℕ, List, ◌∷◌, ◌++◌, length, codes, Option, MatchOption}
use Rattle.std.specs.Fmt.{decimal}
use Rattle.sha1.specs.Sha1.{sha1}
use Rattle.sha2.specs.Sha256.{sha256}
use Rattle.arch_base.specs.declared.ids.Form.{Form}
use Rattle.arch_base.specs.declared.ids.Form.TheVariants as form
use Rattle.arch_base.specs.declared.ids.ObjectId.{ObjectId}
use Rattle.arch_base.specs.Ids.{IsObjectId, id_bytes, id_with}
use Rattle.git_objects.specs.declared.entry_kind.EntryKind.{EntryKind}
use Rattle.git_objects.specs.declared.entry_kind.EntryKind.TheVariants.{Message, Deletion}
use Rattle.git_objects.specs.declared.kinds.Kind.{Kind}
use Rattle.git_objects.specs.declared.kinds.Kind.TheVariants.{Blob, Tree, Commit}

-- An object: a blob with its content, a tree that holds the one file of an entry, or a commit with its
-- content.
pub data GitObject : Type 0 where
  BlobOf : (content : List ℕ) → GitObject
  TreeOf : (kind : EntryKind) (id : ObjectId) → GitObject
  CommitOf : (content : List ℕ) → GitObject

-- The name of the file in an entry's tree: `m` of a message, `d` of a deletion
-- (public-inbox-v2-format, "GIT TREE LAYOUT").
abbrev pub entry_name : EntryKind → ℕ
entry_name Message = 109
entry_name Deletion = 100

-- A content whose size is an unsigned number of 64 bits.
abbrev pub HasSize : List ℕ → Type 0
HasSize content = length content < 2 ^ 64

-- The objects that are spelled in a form: the size of each is below 2^64, and a tree has an id of
-- the form.
abbrev pub IsObject : Form → GitObject → Type 0
IsObject form (BlobOf content) = HasSize content
IsObject form (TreeOf kind id) = IsObjectId form id
IsObject form (CommitOf content) = HasSize content

-- The type of an object, and the space after it.
abbrev pub kind_word : Kind → List ℕ
kind_word Blob = codes "blob "
kind_word Tree = codes "tree "
kind_word Commit = codes "commit "

-- Any type.
abbrev pub AnyKind : Kind → Type 0
AnyKind kind = Unit {0}

-- The type of an object and its space, before what follows.
abbrev pub kind_part : Kind → List ℕ → List ℕ
kind_part kind rest = kind_word kind ++ rest

-- A size in digits, NUL, and the content of that size.
abbrev pub sized : List ℕ → List ℕ
sized content = decimal (length content) ++ 0 ∷ content

-- The same before what follows.
abbrev pub sized_before : List ℕ → List ℕ → List ℕ
sized_before content rest = decimal (length content) ++ 0 ∷ (content ++ rest)

-- The content of an entry's tree: the mode of its file, the name, NUL and the id of the blob.
abbrev pub tree_content : EntryKind → ObjectId → List ℕ
tree_content kind id = codes "100644 " ++ entry_name kind ∷ 0 ∷ id_bytes id

-- The type of an object.
abbrev pub kind_of : GitObject → Kind
kind_of (BlobOf content) = Blob
kind_of (TreeOf kind id) = Tree
kind_of (CommitOf content) = Commit

-- The content of an object.
abbrev pub content_of : GitObject → List ℕ
content_of (BlobOf content) = content
content_of (TreeOf kind id) = tree_content kind id
content_of (CommitOf content) = content

-- The spelling of an object.
abbrev pub spelling : GitObject → List ℕ
spelling object = kind_word (kind_of object) ++ sized (content_of object)

-- The spelling of a blob.
abbrev pub blob_spelling : List ℕ → List ℕ
blob_spelling content = spelling (BlobOf content)

-- The spelling of an entry's tree.
abbrev pub tree_spelling : EntryKind → ObjectId → List ℕ
tree_spelling kind id = spelling (TreeOf kind id)

-- The hash of a text by which a form names objects: SHA-1, or SHA-256 (FIPS 180-4).
abbrev pub digest_of : Form → List ℕ → List ℕ
digest_of form.Sha1 text = sha1 text
digest_of form.Sha256 text = sha256 text

-- The id of a spelling in a form.
abbrev pub id_of : Form → List ℕ → ObjectId
id_of form text = id_with form (digest_of form text)

-- The id of a blob in a form.
abbrev pub blob_id_of : Form → List ℕ → ObjectId
blob_id_of form content = id_of form (blob_spelling content)

-- A content is that of the tree of an entry of this kind with this id, or that of no such tree of
-- the form.
abbrev pub IsTreeContent : Form → List ℕ → Option (EntryKind × ObjectId) → Type 0
IsTreeContent form content found =
    MatchOption found
    ((kind : EntryKind) (id : ObjectId) → IsObjectId form id → content ≢ tree_content kind id)
    (λ f. IsObjectId form f.1 × (content ≡ tree_content f.0 f.1))
