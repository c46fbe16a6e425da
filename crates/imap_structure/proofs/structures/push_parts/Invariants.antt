use Rattle.std.proofs.Common.{◌≡◌, ◌++◌, drop}
use Rattle.std.specs.Borrow.{Bor}
use Rattle.std.specs.List.{All}
use Rattle.mime_parts.specs.declared.part.Part.{Part}
use Rattle.mime_parts.specs.Trees.{IsPartOf}
use Rattle.imap_structure.specs.Forests.{forest_of}
use Rattle.imap_structure.specs.Structures.{structure}
use Rattle.imap_structure.specs.Opened.{open_parts}
use Rattle.imap_structure.proofs.Going.{going}
use Rattle.imap_structure.proofs.structures.push_parts.Given as goal

abbrev pub invariant-loop-part : goal.invariant-loop-part
invariant-loop-part l = record {
  told : l.into ++ going l.text (open_parts l.opened.items) (forest_of (drop l.part-index l.parts)) ≡ l.fn.into ++ structure l.text (forest_of l.parts);
  within : All (λ (p : Bor Part). IsPartOf l.text p.now) l.opened.items;
}
