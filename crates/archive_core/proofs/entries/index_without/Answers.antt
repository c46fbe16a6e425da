use Rattle.std.proofs.Common.{◌≡◌, ◌+◌, sym, subst, take, arith, List}
use Rattle.std.proofs.lemmas.List.{take_all}
use Rattle.arch_judge.specs.declared.index.Index.{Index}
use Rattle.store_finding.specs.declared.entries.StoredEntry.{StoredEntry}
use Rattle.store_planning.specs.Dropping.{without_blob}
use Rattle.archive_core.specs.Kept.{IndexesKept}
use Rattle.archive_core.proofs.Dropping.{is-other, is-same, kept-none, kept-stays, kept-goes}
use Rattle.archive_core.proofs.entries.index_without.Goals as goal
use Rattle.archive_core.proofs.entries.index_without.Goals.{then-ne+in_ok-take_entry, else-ne}

pub loop-entry-init : goal.loop-entry-init
loop-entry-init c = kept-none c.new-index.result c.new-index.ensures.owners c.new-index.ensures.blobs

pub loop-entry-preserved : goal.loop-entry-preserved
loop-entry-preserved c =
    let es = c.args.entries.now in
    let blob = c.args.blob.now in
    let i = c.loop-entry.entry-index in
    let s : StoredEntry = c.entry-item.result in
    elim c.if-ne.branch [
      | then-ne+in_ok-take_entry w ↦
          subst (λ (x : Index). IndexesKept (without_blob (take (i + 1) es) blob) x) (sym w.index-is)
          (kept-stays blob es i s c.loop-entry.index w.take_entry.new.index c.loop-entry-test.true c.entry-item.is (is-other s.seen.blob blob c.ne.result c.ne.ensures w.if-ne.true) c.loop-entry.invariant w.in_ok-take_entry.ensures.ok)
      | else-ne w ↦
          subst (λ (x : Index). IndexesKept (without_blob (take (i + 1) es) blob) x) (sym w.index-is)
          (kept-goes blob es i s c.loop-entry.index c.loop-entry-test.true c.entry-item.is (is-same s.seen.blob blob c.ne.result c.ne.ensures w.if-ne.false) c.loop-entry.invariant)
    ]

pub returns : goal.returns
returns c =
    let whole : take c.loop-entry.entry-index c.args.entries.now ≡ c.args.entries.now = take_all c.loop-entry.entry-index c.args.entries.now (omega arith) in
    subst (λ (es : List StoredEntry). IndexesKept (without_blob es c.args.blob.now) c.loop-entry.index) whole c.loop-entry.invariant
