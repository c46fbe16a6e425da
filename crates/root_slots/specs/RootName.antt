-- The name of the root file.
use Rattle.disk_model.specs.declared.name.FileName.{FileName}
use Rattle.disk_model.specs.declared.name.FileKind.TheVariants.{Root}

-- The root file.
abbrev pub root_name : FileName
root_name = record { kind = Root; number = 0; generation = 0 }
