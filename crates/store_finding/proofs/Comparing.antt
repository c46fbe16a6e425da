-- Texts that are read and compared, and the entries of an epoch that are joined by them.
use Rattle.std.specs.Prelude.{◌≡◌, ◌≤◌, ℕ, Bool, List, [], ◌∷◌, slice_get, Option, Some, None, Ok, Err}
use Rattle.std.specs.Str.{bytes_eq}
use Rattle.std.proofs.Common.{◌∙◌, inr}
use Rattle.disk_model.specs.Disk.{Files, Content, BothTold, WhereTold, Unchanged, bytes_of}
use Rattle.arch_model.specs.Archives.{Entry}
use Rattle.number_map.specs.declared.line.Record.{Record}
use Rattle.epoch_file.specs.declared.entry.Seen.{Seen}
use Rattle.epoch_file.specs.Entries.{EpochEntry, AreEpochEntries, epoch_of}
use Rattle.epoch_file.specs.Walking.{seen_from}
use Rattle.root_slots.specs.declared.root.Root.{Root}
use Rattle.root_change.specs.Texts.{Fronts}
use Rattle.store_finding.specs.Files.{as_read, epoch_file_of}
use Rattle.store_finding.specs.declared.entries.StoredEntry.{StoredEntry}
use Rattle.store_finding.specs.declared.join_refusal.JoinRefusal.{JoinRefusal}
use Rattle.store_finding.specs.Damage.{AreWhole}
use Rattle.store_finding.specs.Joined.{JoinedEntries, HoldsJoined, TextIn, ComparesText, JoinsByText, TakesEpoch, AreBefore}
use Rattle.store_finding.proofs.FindingTold.{told_both}
use Rattle.store_finding.proofs.Joins.{Comes, comes_first, comes_more, joins_or_stops, all_come}

-- A text of an entry was read.
abbrev pub IsReadAs : Root → ℕ → Seen → List ℕ → Files → Type 0
IsReadAs root epoch seen text files = (read : List ℕ) → TextIn (bytes_of (files (epoch_file_of root epoch))) seen read → text ≡ read

-- Both texts were read.
pub both_read : (root : Root) (v : JoinedEntries) (epoch : ℕ) (seen : Seen) (index : ℕ) (older : StoredEntry) (old new : List ℕ) (same : Bool) (before mid : Option Content) → slice_get v.entries index ≡ Some older → older.seen.blob ≡ seen.blob → BothTold Unchanged before mid
    → WhereTold (λ k. IsReadAs root older.epoch older.seen old (as_read k)) before → WhereTold (λ k. IsReadAs root epoch seen new (as_read k)) mid → same ≡ bytes_eq old new → WhereTold (λ k. ComparesText root v epoch seen (Ok same) (as_read k)) before
both_read root v epoch seen index older old new same before mid among blob kept one two is =
    told_both (IsReadAs root older.epoch older.seen old) (IsReadAs root epoch seen new) (ComparesText root v epoch seen (Ok same)) before mid kept one two
    (λ files first_text second_text form rs after all holds. inr (record {
      older = older;
      index = index;
      among = among;
      blob = blob;
      is = λ a b in_old in_new. is ∙ (λ i. bytes_eq (first_text a in_old i) (second_text b in_new i));
    }))

-- Whatever was joined before, and whatever entries an epoch's file has, some have joined.
abbrev pub Come : Root → JoinedEntries → ℕ → List Seen → JoinedEntries → List Seen → Files → Type 0
Come root old epoch seen cur left files =
    (rs after : List Record) (others : List Entry) (here : List EpochEntry) → HoldsJoined root.config.form old rs after others → AreWhole root files epoch others → Fronts (epoch_of root.config.form here) (files (epoch_file_of root epoch)) → AreEpochEntries here → seen ≡ seen_from root.config.form 8 None here
    → Comes root.config.form cur left rs others epoch here

pub come_first : (root : Root) (old : JoinedEntries) (epoch : ℕ) (seen left : List Seen) (files : Files) → AreBefore epoch old.entries → left ≡ seen → Come root old epoch seen old left files
come_first root old epoch seen left files before is = λ rs after others here holds whole fronts valid all. comes_first root.config.form old left rs after others epoch here before holds valid (is ∙ all)

pub come_more : (root : Root) (old : JoinedEntries) (epoch : ℕ) (seen : List Seen) (cur new : JoinedEntries) (left : List Seen) (s : Seen) (after : List Seen) (files : Files) → epoch ≤ 63 → left ≡ s ∷ after → Come root old epoch seen cur left files → JoinsByText root cur epoch s (Ok new) files
    → Come root old epoch seen new after files
come_more root old epoch seen cur new left s after files small is come joins = λ rs left_records others here holds whole fronts valid all.
    comes_more root files cur new left s after rs others epoch joins.2.0 here joins.0 small whole fronts (come rs left_records others here holds whole fronts valid all) is joins.1 joins.2.2 joins.2.1

pub come_stops : (root : Root) (old : JoinedEntries) (epoch : ℕ) (seen : List Seen) (cur : JoinedEntries) (left : List Seen) (s : Seen) (after : List Seen) (refusal : JoinRefusal) (files : Files) → left ≡ s ∷ after → Come root old epoch seen cur left files → JoinsByText root cur epoch s (Err refusal) files
    → TakesEpoch root old epoch seen (Err refusal) files
come_stops root old epoch seen cur left s after refusal files is come joins = λ rs left_records others here holds whole fronts valid all.
    joins_or_stops root files cur left s after rs others epoch here refusal whole fronts (come rs left_records others here holds whole fronts valid all) is joins

pub come_all : (root : Root) (old : JoinedEntries) (epoch : ℕ) (seen : List Seen) (cur : JoinedEntries) (left : List Seen) (files : Files) → left ≡ [] → Come root old epoch seen cur left files → TakesEpoch root old epoch seen (Ok cur) files
come_all root old epoch seen cur left files none come = λ rs left_records others here holds whole fronts valid all.
    all_come root.config.form cur left rs others epoch here (come rs left_records others here holds whole fronts valid all) none
