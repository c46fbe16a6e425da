use Rattle.std.proofs.Common.{◌≡◌, ◌≤◌, ◌+◌, ◌-◌, ◌++◌, length, map, drop}
use Rattle.std.specs.List.{filter}
use Rattle.arch_model.specs.Archives.{Archive}
use Rattle.arch_model.specs.Shelves.{ShelfStays, ReadsAhead}
use Rattle.imap_messages.specs.Picking.{messages_from, number_by}
use Rattle.imap_messages.specs.Seeking.{asked_search, is_sought, sought, looks_of}
use Rattle.imap_messages.proofs.found.numbers_of.Given as goal

abbrev pub invariant-loop-index : goal.invariant-loop-index
invariant-loop-index g l = record {
  so_far :
      (a : Archive) → g.S.Shelf.holds l.fn.shelf a →
      l.numbers ++ map (number_by l.command.numbering) (filter (is_sought a l.told.uids (asked_search l.command).keys) (messages_from (l.index + 1) (drop l.index l.told.uids)))
      ≡ map (number_by l.command.numbering) (sought a l.told.uids (asked_search l.command).keys);
  reads :
      (a : Archive) → g.S.Shelf.holds l.fn.shelf a →
      ReadsAhead (looks_of a l.told.uids (asked_search l.command) (messages_from 1 l.told.uids)) (looks_of a l.told.uids (asked_search l.command) (messages_from (l.index + 1) (drop l.index l.told.uids))) (g.S.Shelf.reads l.fn.shelf) (g.S.Shelf.reads l.shelf);
  within : l.index ≤ length l.told.uids;
  faults : g.S.Shelf.faults l.shelf ≡ g.S.Shelf.faults l.fn.shelf;
  shelf : ShelfStays g.S.Shelf.holds g.S.Shelf.ready g.S.Shelf.alike g.S.Shelf.faults l.fn.shelf l.shelf;
}

abbrev pub decreases-loop-index : goal.decreases-loop-index
decreases-loop-index g l = l.count - l.index
