-- The bytes of an epoch in a form: the objects of its entries, one after another (git, "Git Objects").
use Rattle.std.specs.Prelude.{◌≡◌, ℕ, List, [], ◌∷◌, ◌++◌, Option, Some, None}
use Rattle.arch_base.specs.declared.ids.ObjectId.{ObjectId}
use Rattle.arch_base.specs.declared.ids.Form.{Form}
use Rattle.arch_model.specs.Archives.{Entry}
use Rattle.mail_commits.specs.Entries.{commit_id, entry_bytes, magic}

-- The bytes of entries in order. The parent of each commit is the commit before it.
abbrev pub entries_bytes : Form → Option ObjectId → List Entry → List ℕ
entries_bytes form parent [] = []
entries_bytes form parent (entry ∷ entries) =
    entry_bytes form entry.kind entry.text entry.moment parent
    ++ entries_bytes form (Some (commit_id form entry.kind entry.text entry.moment parent)) entries

-- The id of the last commit of entries, or the parent if there are none.
abbrev pub last_commit : Form → Option ObjectId → List Entry → Option ObjectId
last_commit form parent [] = parent
last_commit form parent (entry ∷ entries) =
    last_commit form (Some (commit_id form entry.kind entry.text entry.moment parent)) entries

-- The bytes of an epoch: none without an entry, otherwise the magic and the bytes of its entries,
-- the first of which has no parent.
abbrev pub epoch_bytes : Form → List Entry → List ℕ
epoch_bytes form [] = []
epoch_bytes form (entry ∷ entries) = magic form ++ entries_bytes form None (entry ∷ entries)

-- One more entry in an epoch appends its bytes, and leaves those before it unchanged. The parent of
-- its commit is the last commit.
abbrev pub EpochGrows : Type 0
EpochGrows =
    (form : Form) (first : Entry) (entries : List Entry) (entry : Entry)
    → epoch_bytes form ((first ∷ entries) ++ entry ∷ []) ≡ epoch_bytes form (first ∷ entries)
    ++ entry_bytes form entry.kind entry.text entry.moment (last_commit form None (first ∷ entries))
