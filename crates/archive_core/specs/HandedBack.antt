-- The disk of an archive that was created or opened, or the one that was handed back.
use Rattle.std.specs.Prelude.{Result, Ok, Err}
use Rattle.arch_model.specs.declared.opening.OpenRefusal.{OpenRefusal}
use Rattle.epoch_store.specs.declared.refusal.InitRefusal.{InitRefusal}
use Rattle.store_finding.specs.Kept.{StoreState}
use Rattle.archive_core.specs.Engines.{Owning}
use Rattle.archive_core.specs.declared.not_made.NotMade.{NotMade}
use Rattle.archive_core.specs.declared.not_made.NotOpened.{NotOpened}
use Rattle.archive_core.specs.declared.opened.Opened.{Opened}

-- The disk after an archive was to be created.
abbrev pub disk_made : {D : Type 0} → Result (Owning D) (NotMade D) → D
disk_made (Ok made) = made.disk
disk_made (Err refused) = refused.disk

-- What is kept of the archive that was created, or why none was.
abbrev pub made_or_why : {D : Type 0} → Result (Owning D) (NotMade D) → Result StoreState InitRefusal
made_or_why (Ok made) = Ok made.view
made_or_why (Err refused) = Err refused.why

-- The disk after an archive was to be opened.
abbrev pub disk_opened : {D : Type 0} → Result (Owning D) (NotOpened D) → D
disk_opened (Ok opened) = opened.disk
disk_opened (Err refused) = refused.disk

-- What is kept of the archive that was opened, or why it wasn't.
abbrev pub opened_or_why : {D : Type 0} → Result (Owning D) (NotOpened D) → Result StoreState OpenRefusal
opened_or_why (Ok opened) = Ok opened.view
opened_or_why (Err refused) = Err refused.why

-- What is kept of an archive that was opened with its rows, or why none was.
abbrev pub view_opened : Result Opened OpenRefusal → Result StoreState OpenRefusal
view_opened (Ok opened) = Ok opened.archive
view_opened (Err why) = Err why
