-- The messages in a thread, as those of a tree.
use Rattle.std.specs.Prelude.{◌==◌, ℕ, List, [], ◌∷◌, ◌++◌, Option, Some, None, if◌then◌else◌}
use Rattle.arch_model.specs.Archives.{Entry}
use Rattle.arch_model.specs.Listings.{date_at}
use Rattle.arch_model.specs.Overviews.{id_fact}
use Rattle.arch_model.specs.Threading.{thread_in}
use Rattle.mail_forms.specs.declared.row.Row.{Row}
use Rattle.mail_reader.specs.References.{refs_of}
use Rattle.thread_tree.specs.Trees.{names_id}
use Rattle.thread_tree.specs.declared.twigs.Twig.{Twig}

-- The message of a row in a tree.
abbrev pub twig_of : Row → Twig
twig_of row = record { number = row.number; id = row.id; refs = row.refs; secs = row.date.secs }

-- The message of an entry in a tree.
abbrev pub twig_at : Entry → Twig
twig_at e = record {
  number = e.number;
  id = id_fact e.text;
  refs = refs_of e.text;
  secs = (date_at e).secs;
}

-- The first of some messages with a number, in a tree, if there is one.
abbrev pub twig_in : List Entry → ℕ → Option Twig
twig_in [] n = None
twig_in (e ∷ es) n = if e.number == n then Some (twig_at e) else twig_in es n

-- One more message of a tree. No two live messages of an archive have the same id; of two that had,
-- the first would stay.
abbrev pub with_twig : List Twig → Twig → List Twig
with_twig twigs twig = if names_id twigs twig.id then twigs else twigs ++ twig ∷ []

-- The message of a row more, if there is one.
abbrev pub with_row : List Twig → Option Row → List Twig
with_row twigs None = twigs
with_row twigs (Some row) = with_twig twigs (twig_of row)

-- One more message of a tree, if there is one.
abbrev pub with_found : List Twig → Option Twig → List Twig
with_found twigs None = twigs
with_found twigs (Some twig) = with_twig twigs twig

-- The messages of these numbers after others, in their order.
abbrev pub twigs_after : List Entry → List Twig → List ℕ → List Twig
twigs_after es twigs [] = twigs
twigs_after es twigs (n ∷ ns) = twigs_after es (with_found twigs (twig_in es n)) ns

-- The messages in the thread of a number, in the order of their numbers.
unfoldable pub thread_twigs : List Entry → ℕ → List Twig
thread_twigs es n = twigs_after es [] (thread_in es n)
