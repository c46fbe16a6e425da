use Rattle.std.proofs.Common.{◌≡◌, ◌+◌, ◌-◌, ◌<◌, subst, ℕ, take, length, refl, arith}
use Rattle.store_finding.specs.declared.entries.StoredEntry.{StoredEntry}
use Rattle.store_planning.specs.Dropping.{without_blob}
use Rattle.archive_core.proofs.Dropping.{FrontWithout, is-other, is-same, none-ended, front-none, front-stays, front-goes, left-some, front-all}
use Rattle.archive_core.proofs.placing.places_without.Goals as goal

pub loop-index-init : goal.loop-index-init
loop-index-init c = front-none c.args.entries.now c.args.blob.now (length c.args.entries.now) c.count_without-left.result c.new-places.result.items c.new-ended.result refl c.count_without-left.ensures c.new-places.ensures.items (none-ended c.new-ended.result c.new-ended.ensures.empty)

pub overflow_sub-left : goal.overflow_sub-left
overflow_sub-left c =
    let es = c.args.entries.now in
    let blob = c.args.blob.now in
    let at = c.loop-index.index - 1 in
    let s : StoredEntry = c.index-entries-index.result in
    let on : c.loop-index.index ≡ at + 1 = omega (arith, c.loop-index-test.true) in
    let less : at < length es = omega (arith, c.loop-index-test.true, c.loop-index.auto.index) in
    let front : FrontWithout es blob (at + 1) c.loop-index.left c.loop-index.places.items c.loop-index.ended = subst (λ (n : ℕ). FrontWithout es blob n c.loop-index.left c.loop-index.places.items c.loop-index.ended) on c.loop-index.invariant in
    let some : c.loop-index.left ≡ length (without_blob (take at es) blob) + 1 = left-some es blob at c.loop-index.left s c.loop-index.places.items c.loop-index.ended less c.index-entries-index.is (is-other s.seen.blob blob c.ne.result c.ne.ensures c.if-ne.true) front in
    omega (arith, some)

pub loop-index-preserved-in-Continue-1 : goal.loop-index-preserved-in-Continue-1
loop-index-preserved-in-Continue-1 c =
    let es = c.args.entries.now in
    let blob = c.args.blob.now in
    let at = c.loop-index.index - 1 in
    let s : StoredEntry = c.index-entries-index.result in
    let on : c.loop-index.index ≡ at + 1 = omega (arith, c.loop-index-test.true) in
    let less : at < length es = omega (arith, c.loop-index-test.true, c.loop-index.auto.index) in
    let front : FrontWithout es blob (at + 1) c.loop-index.left c.loop-index.places.items c.loop-index.ended = subst (λ (n : ℕ). FrontWithout es blob n c.loop-index.left c.loop-index.places.items c.loop-index.ended) on c.loop-index.invariant in
    front-stays es blob at c.loop-index.left (c.loop-index.left - 1) s c.loop-index.places.items c.place_entry.new.places.items c.loop-index.ended c.place_entry.new.ended less c.index-entries-index.is (is-other s.seen.blob blob c.ne.result c.ne.ensures c.if-ne.true) refl front c.in_ok-place_entry.ensures

pub loop-index-preserved : goal.loop-index-preserved
loop-index-preserved c =
    let es = c.args.entries.now in
    let blob = c.args.blob.now in
    let at = c.loop-index.index - 1 in
    let s : StoredEntry = c.index-entries-index.result in
    let on : c.loop-index.index ≡ at + 1 = omega (arith, c.loop-index-test.true) in
    let less : at < length es = omega (arith, c.loop-index-test.true, c.loop-index.auto.index) in
    let front : FrontWithout es blob (at + 1) c.loop-index.left c.loop-index.places.items c.loop-index.ended = subst (λ (n : ℕ). FrontWithout es blob n c.loop-index.left c.loop-index.places.items c.loop-index.ended) on c.loop-index.invariant in
    front-goes es blob at c.loop-index.left s c.loop-index.places.items c.loop-index.ended less c.index-entries-index.is (is-same s.seen.blob blob c.ne.result c.ne.ensures c.if-ne.false) front

pub returns : goal.returns
returns c = front-all c.args.entries.now c.args.blob.now c.loop-index.index c.loop-index.left c.loop-index.places.items c.reverse.new.self.items c.loop-index.ended (omega (arith, c.loop-index-test.false)) c.loop-index.invariant c.reverse.ensures.items
