-- The ids in the entries of a store.
use Rattle.std.specs.Prelude.{List}
use Rattle.std.specs.List.{AllByRecursion}
use Rattle.arch_base.specs.declared.ids.Form.{Form}
use Rattle.epoch_file.specs.Forms.{HasIdsOf}
use Rattle.store_finding.specs.declared.entries.StoredEntry.{StoredEntry}

-- Both ids of each entry are ids of a form.
abbrev pub AreOfForm : Form → List StoredEntry → Type 0
AreOfForm form entries = AllByRecursion (λ (e : StoredEntry). HasIdsOf form e.seen) entries
