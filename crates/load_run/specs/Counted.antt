-- What a load run counts of an archive.
use Rattle.std.specs.Prelude.{ℕ, Bool, false, ◌==◌, List, [], ◌∷◌, ◌++◌, length, codes, decimal}
use Rattle.std.specs.List.{filter}
use Rattle.arch_model.specs.Archives.{Entry, Archive, live}
use Rattle.arch_model.specs.Threading.{thread_in}
use Rattle.load_run.specs.declared.counts.LoadCounts.{LoadCounts}

-- The first of some numbers is this one.
abbrev pub is_first : ℕ → List ℕ → Bool
is_first n [] = false
is_first n (m ∷ ms) = m == n

-- The message is the first of its thread.
abbrev pub leads : List Entry → Entry → Bool
leads entries e = is_first e.number (thread_in entries e.number)

-- The number of threads of some messages: how many of the messages are the first of their thread.
abbrev pub thread_count : List Entry → ℕ
thread_count entries = length (filter (leads entries) entries)

-- The counts of an archive: live messages, the next number, entries, and threads of live messages.
abbrev pub counts_of : Archive → LoadCounts
counts_of a = record {
  live = length (live a.entries);
  next = a.next;
  entries = length a.entries;
  threads = thread_count (live a.entries);
}

-- The line of counts, without its line feed.
abbrev pub load_line : LoadCounts → List ℕ
load_line c = codes "live " ++ (decimal c.live ++ (codes " next " ++ (decimal c.next
    ++ (codes " entries " ++ (decimal c.entries ++ (codes " threads " ++ decimal c.threads))))))
