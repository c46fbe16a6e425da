-- The bytes of an entry: the objects that keep one text (git, "Git Objects").
use Rattle.std.specs.Prelude.{ℕ, List, ◌++◌, codes, Option}
use Rattle.arch_base.specs.declared.ids.Form.{Form}
use Rattle.arch_base.specs.declared.ids.Form.TheVariants.{Sha1, Sha256}
use Rattle.arch_base.specs.declared.ids.ObjectId.{ObjectId}
use Rattle.git_objects.specs.declared.entry_kind.EntryKind.{EntryKind}
use Rattle.git_objects.specs.Objects.{blob_spelling, tree_spelling, blob_id_of, id_of}
use Rattle.git_objects.specs.Commits.{commit_spelling}
use Rattle.mail_commits.specs.Commits.{commit_of}

-- The tree in a form of an entry of this kind, whose one file has the text.
abbrev pub tree_of : Form → EntryKind → List ℕ → List ℕ
tree_of form kind text = tree_spelling kind (blob_id_of form text)

-- The commit as it is spelled in a form, which keeps a text in an entry of a kind, taken at a moment,
-- after a parent or none.
unfoldable pub commit_text : Form → EntryKind → List ℕ → ℕ → Option ObjectId → List ℕ
commit_text form kind text moment parent =
    commit_spelling (commit_of text (id_of form (tree_of form kind text)) parent moment)

-- The id of that commit.
unfoldable pub commit_id : Form → EntryKind → List ℕ → ℕ → Option ObjectId → ObjectId
commit_id form kind text moment parent = id_of form (commit_text form kind text moment parent)

-- The bytes in a form of an entry of a kind: its blob, its tree and its commit.
unfoldable pub entry_bytes : Form → EntryKind → List ℕ → ℕ → Option ObjectId → List ℕ
entry_bytes form kind text moment parent =
    blob_spelling text ++ (tree_of form kind text ++ commit_text form kind text moment parent)

-- The first bytes of an epoch, by the form of its objects.
abbrev pub magic : Form → List ℕ
magic Sha1 = codes "PIV2EP1\n"
magic Sha256 = codes "PIV2EP2\n"
