use Rattle.std.proofs.Common.{◌≡◌, ◌++◌, vec_len}
use Rattle.std.specs.Borrow.{Bor}
use Rattle.std.specs.List.{All, flat_map}
use Rattle.mime_parts.specs.declared.part.Part.{Part}
use Rattle.mime_parts.specs.Trees.{IsPartOf}
use Rattle.imap_structure.specs.Structures.{closing_of}
use Rattle.imap_structure.specs.Opened.{open_parts, ended_at, open_at}
use Rattle.imap_structure.proofs.structures.close_parts.Given as goal

abbrev pub invariant-loop-part : goal.invariant-loop-part
invariant-loop-part l = record {
  told : l.into ++ flat_map (closing_of l.text) (ended_at l.depth (open_parts l.opened.items))
      ≡ l.fn.into ++ flat_map (closing_of l.text) (ended_at l.depth (open_parts l.fn.opened.items));
  open_is : open_at l.depth (open_parts l.opened.items) ≡ open_at l.depth (open_parts l.fn.opened.items);
  within : All (λ (p : Bor Part). IsPartOf l.text p.now) l.opened.items;
}

abbrev pub decreases-loop-part : goal.decreases-loop-part
decreases-loop-part l = vec_len l.opened
