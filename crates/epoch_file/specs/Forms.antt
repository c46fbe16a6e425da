-- The ids in the entries of an epoch's file.
use Rattle.std.specs.Prelude.{List}
use Rattle.std.specs.List.{AllByRecursion}
use Rattle.arch_base.specs.declared.ids.Form.{Form}
use Rattle.arch_base.specs.Ids.{IsObjectId}
use Rattle.epoch_file.specs.declared.entry.Seen.{Seen}

-- Both ids of an entry are ids of a form.
pub record HasIdsOf (form : Form) (seen : Seen) : Type 0 where
  pub blob : IsObjectId form seen.blob
  pub commit : IsObjectId form seen.commit

-- So are those of each entry.
abbrev pub HaveIdsOf : Form → List Seen → Type 0
HaveIdsOf form seen = AllByRecursion (HasIdsOf form) seen
