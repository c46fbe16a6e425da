-- Four counts that are those of an archive.
use Rattle.std.proofs.Common.{◌≡◌, ◌∙◌, ap, ℕ, length}
use Rattle.arch_model.specs.Archives.{Archive, live}
use Rattle.load_run.specs.Counted.{thread_count, counts_of}
use Rattle.load_run.specs.declared.counts.LoadCounts.{LoadCounts}

abbrev pub four : ℕ → ℕ → ℕ → ℕ → LoadCounts
four live next entries threads = record { live = live; next = next; entries = entries; threads = threads }

pub counts_are : (a : Archive) (shown next entries threads : ℕ) → shown ≡ length (live a.entries) → next ≡ a.next → entries ≡ length a.entries → threads ≡ thread_count (live a.entries)
    → four shown next entries threads ≡ counts_of a
counts_are a shown next entries threads shown_is next_is entries_is threads_is =
    ap (λ (n : ℕ). four n next entries threads) shown_is ∙ ap (λ (n : ℕ). four (length (live a.entries)) n entries threads) next_is
    ∙ ap (λ (n : ℕ). four (length (live a.entries)) a.next n threads) entries_is ∙ ap (λ (n : ℕ). four (length (live a.entries)) a.next (length a.entries) n) threads_is
