-- The texts that are read, counted; and why a text was not read.
use Rattle.std.proofs.Common.{◌≡◌, ◌≤◌, ◌⊎◌, ℕ, Bool, true, false, List, [], ◌++◌, drop, Result, inl, inr, sym, subst, ◌∙◌, arith, if◌then◌else◌}
use Rattle.arch_base.specs.Counts.{Rose}
use Rattle.arch_model.specs.Shelves.{ReadsOnce, ReadsUpTo, ReadsAhead, IsUndamaged, ReadingWhy}
use Rattle.arch_model.specs.declared.text_refusal.TextRefusal.{TextRefusal}
use Rattle.arch_model.specs.declared.text_refusal.TextRefusal.TheVariants as refusal
use Rattle.edge_io.specs.Phrases.{Says}
use Rattle.edge_io.specs.declared.sink.SinkFault.{SinkFault}
use Rattle.line_door.specs.Acts.{ConnectionState}
use Rattle.line_door.specs.Costs.{lines_cost}
use Rattle.line_door.specs.Lines.{content}
use Rattle.line_door.specs.Readers.{line_reader}
use Rattle.line_door.specs.Skipping.{Taken, Skipped, skipping_front}
use Rattle.line_door.specs.declared.turn.LineAct.TheVariants.{Went, Closed}
use Rattle.line_door.proofs.Costing.{cost-taken, cost-skipped}
use Rattle.shelf_doors.specs.Reads.{LineActReads}
use Rattle.shelf_doors.specs.Refusals.{SaysWhy}

-- Reads that leave room for others.
pub ahead-none : (most n : ℕ) → ReadsAhead most most n n
ahead-none most n = record { later = omega arith; bound = omega arith }

pub ahead-more : (most ahead left before mid now : ℕ) → ReadsAhead most ahead before mid → ReadsAhead ahead left mid now → ReadsAhead most left before now
ahead-more most ahead left before mid now reads more = record { later = omega (arith, reads.later, more.later); bound = omega (arith, reads.bound, more.bound) }

pub ahead-all : (most ahead before now : ℕ) → ReadsAhead most ahead before now → ReadsUpTo most before now
ahead-all most ahead before now reads = record { later = reads.later; bound = omega (arith, reads.bound) }

pub ahead-kept : (most ahead before mid now : ℕ) → ReadsAhead most ahead before mid → now ≡ mid → ReadsUpTo most before now
ahead-kept most ahead before mid now reads same = record { later = omega (arith, reads.later, same); bound = omega (arith, reads.bound, same) }

pub ahead-last : (most ahead before mid now : ℕ) → ReadsAhead most ahead before mid → ReadsUpTo ahead mid now → ReadsUpTo most before now
ahead-last most ahead before mid now reads last = record { later = omega (arith, reads.later, last.later); bound = omega (arith, reads.bound, last.bound) }

-- One read, and none.
pub reads-one : (before now : ℕ) → ReadsOnce before now → ReadsUpTo 1 before now
reads-one before now once = record { later = once.later; bound = once.most }

pub reads-still : (most n : ℕ) → ReadsUpTo most n n
reads-still most n = record { later = omega arith; bound = omega arith }

module _ {S : Type 0} (limit : ℕ) (cost : List ℕ → ℕ) where
  -- A line that took `n` bytes of the piece was answered.
  pub line-reads : (s t : S) (held piece line new : List ℕ) (n : ℕ) (goes : Bool) (before now : ℕ) → skipping_front limit (held ++ piece) ≡ Taken line (drop n piece) → new ≡ [] → ReadsUpTo (cost (content line)) before now
      → LineActReads limit cost (line_reader s held) piece (if goes then Went n else Closed) (line_reader t new) before now
  line-reads s t held piece line new n true before now is none reads =
      let cut = cost-taken limit cost (held ++ piece) line (drop n piece) is in
      subst (λ (x : List ℕ). ReadsAhead (lines_cost limit cost (held ++ piece)) (lines_cost limit cost (x ++ drop n piece)) before now) (sym none)
      (record { later = reads.later; bound = omega (arith, cut, reads.bound) })
  line-reads s t held piece line new n false before now is none reads =
      let cut = cost-taken limit cost (held ++ piece) line (drop n piece) is in
      record { later = reads.later; bound = omega (arith, cut, reads.bound) }

  -- So was one that is too long.
  pub skipped-reads : (s : S) (held piece new : List ℕ) (n : ℕ) (goes : Bool) (reads : ℕ) → skipping_front limit (held ++ piece) ≡ Skipped (drop n piece) → new ≡ []
      → LineActReads limit cost (line_reader s held) piece (if goes then Went n else Closed) (line_reader s new) reads reads
  skipped-reads s held piece new n true reads is none =
      let cut = cost-skipped limit cost (held ++ piece) (drop n piece) is in
      subst (λ (x : List ℕ). ReadsAhead (lines_cost limit cost (held ++ piece)) (lines_cost limit cost (x ++ drop n piece)) reads reads) (sym none) (record { later = omega arith; bound = omega (arith, cut) })
  skipped-reads s held piece new n false reads is none = record { later = omega arith; bound = omega arith }

-- Why a text was not read, while an archive is held.
pub says-unread : (line : TextRefusal → List ℕ) (i j k : ConnectionState) (why : TextRefusal) (sent : Result Unit SinkFault) → IsUndamaged why → ReadingWhy i.disk j.disk why → i.disk ≤ j.disk → i.out ≡ j.out → i.lost ≡ j.lost → k.disk ≡ j.disk → Says (line why) j.out j.lost k.out k.lost sent
    → SaysWhy true line i sent k
says-unread line i j k refusal.DiskFault sent well rose later out lost same said =
    let on : Says (line refusal.DiskFault) i.out i.lost k.out k.lost sent = rw (out, lost) said in
    let now : Rose i.disk k.disk = subst (λ (n : ℕ). Rose i.disk n) (sym same) rose in
    inl (now, omega (arith, later, same), on)
says-unread line i j k (refusal.Damaged named found) sent well rose later out lost same said = absurd well
says-unread line i j k refusal.NoMemory sent well kept later out lost same said =
    let on : Says (line refusal.NoMemory) i.out i.lost k.out k.lost sent = rw (out, lost) said in
    inr (same ∙ kept, on)

-- Why a reply stops where a text was not read.
pub stops-why : (before now : ℕ) (why : TextRefusal) → IsUndamaged why → ReadingWhy before now why → Rose before now ⊎ (now ≡ before)
stops-why before now refusal.DiskFault well rose = inl rose
stops-why before now (refusal.Damaged named found) well cause = absurd well
stops-why before now refusal.NoMemory well kept = inr kept
