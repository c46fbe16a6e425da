use Rattle.std.proofs.Common.{◌≡◌, ◌++◌, take}
use Rattle.arch_model.specs.Archives.{Archive}
use Rattle.arch_model.specs.Shelves.{ShelfStays, ReadsUpTo}
use Rattle.atom_mbox.specs.Feeds.{entries_of}
use Rattle.http_front.specs.Views.{shown_all}
use Rattle.http_front.proofs.feed.push_mails.Given as goal

abbrev pub invariant-loop-n : goal.invariant-loop-n
invariant-loop-n g l = record {
  entries : (a : Archive) → g.S.Shelf.holds l.fn.shelf a → l.into ≡ l.fn.into ++ entries_of a.config.name (shown_all a (take l.n-index l.numbers));
  shelf : ShelfStays g.S.Shelf.holds g.S.Shelf.ready g.S.Shelf.alike g.S.Shelf.faults l.fn.shelf l.shelf;
  kept : g.S.Shelf.faults l.shelf ≡ g.S.Shelf.faults l.fn.shelf;
  reads : ReadsUpTo l.n-index (g.S.Shelf.reads l.fn.shelf) (g.S.Shelf.reads l.shelf);
}
