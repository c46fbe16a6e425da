-- One more source.
use Rattle.std.proofs.Common.{◌≡◌, ◌<◌, ◌+◌, List, length, take, refl, subst, arith, take_all}
use Rattle.std.specs.List.{sum_by}
use Rattle.std.proofs.lemmas.Option.{slice_get-get_or}
use Rattle.disk_model.specs.Disk.{BothTold}
use Rattle.disk_model.specs.BesideLaws.{run_started, run_joined}
use Rattle.root_change.specs.declared.sources.Source.{Source}
use Rattle.root_change.specs.Gathering.{source_count, PutSources}
use Rattle.root_change.proofs.Drops.{not_both}
use Rattle.root_change.proofs.Copies.{respects_more}
use Rattle.root_change.proofs.Gathers.{next_after, next_below, more_put, first_put, put_inside, source_left}
use Rattle.root_change.proofs.Others.{others_first, others_then}
use Rattle.root_change.proofs.sources.put_sources.Goals as goal

pub loop-source-init : goal.loop-source-init
loop-source-init g c =
    let disk = c.args.disk.now in
    let content = g.D.Disk.content in
    record {
      next_is = omega arith;
      crash_beside = λ bounds far. run_started g.D.Disk bounds disk (g.met.D.Disk.only_now disk);
      put = first_put c.args.bytes.now c.args.sources.now c.args.to c.args.end (content disk) c.requires.inside;
      inside = c.requires.inside;
      others = others_first c.args.to (content disk);
      fewest = omega arith;
      kept = refl;
    }

pub put_source-requires-clause-source : goal.put_source-requires-clause-source
put_source-requires-clause-source g c = c.requires.sources c.loop-source.source-index _ (slice_get-get_or c.args.sources.now c.loop-source.source-index _ (omega arith))

pub put_source-requires-clause-end : goal.put_source-requires-clause-end
put_source-requires-clause-end g c =
    next_below c.args.sources.now c.loop-source.source-index _ c.args.end c.loop-source.next _ (slice_get-get_or c.args.sources.now c.loop-source.source-index _ (omega arith)) c.loop-source.invariant.next_is c.requires.end

pub returns-in_err-whole-clause-crash_beside : goal.returns-in_err-whole-clause-crash_beside
returns-in_err-whole-clause-crash_beside g c = λ bounds far.
    run_joined g.D.Disk bounds c.args.disk.now c.loop-source.disk c.put_source.new.disk (c.loop-source.invariant.crash_beside bounds far) (c.put_source.ensures.crash_beside bounds (respects_more (bounds c.args.to) c.args.end c.loop-source.next (omega (arith, c.loop-source.invariant.next_is)) far))

pub returns-then-not-whole-clause-crash_beside : goal.returns-then-not-whole-clause-crash_beside
returns-then-not-whole-clause-crash_beside g c = λ bounds far.
    run_joined g.D.Disk bounds c.args.disk.now c.loop-source.disk c.put_source.new.disk (c.loop-source.invariant.crash_beside bounds far) (c.put_source.ensures.crash_beside bounds (respects_more (bounds c.args.to) c.args.end c.loop-source.next (omega (arith, c.loop-source.invariant.next_is)) far))

pub returns-then-not-whole-clause-whole : goal.returns-then-not-whole-clause-whole
returns-then-not-whole-clause-whole g c = λ has.
    let sources = c.args.sources.now in
    let i = c.loop-source.source-index in
    let below : i < length sources = omega arith in
    absurd (not_both c.in_ok-whole.whole (c.in_ok-whole.ensures.whole
    (source_left c.args.bytes.now (take i sources) _ c.args.to c.args.end (g.D.Disk.content c.args.disk.now) (g.D.Disk.content c.loop-source.disk) (c.requires.sources i _ (slice_get-get_or sources i _ below)) c.loop-source.invariant.put (has i _ (slice_get-get_or sources i _ below))))
    c.if-not-whole.true)

pub loop-source-preserved : goal.loop-source-preserved
loop-source-preserved g c =
    let before = c.loop-source.invariant in
    let content = g.D.Disk.content in
    let sources = c.args.sources.now in
    let i = c.loop-source.source-index in
    let next = c.loop-source.next in
    let k = content c.args.disk.now in
    let m = content c.loop-source.disk in
    let o = content c.put_source.new.disk in
    let below : i < length sources = omega arith in
    let put : BothTold (PutSources c.args.bytes.now (take (i + 1) sources) c.args.to c.args.end) k o =
    more_put c.args.bytes.now sources i _ c.args.to c.args.end next k m o (slice_get-get_or sources i _ below) (c.requires.sources i _ (slice_get-get_or sources i _ below)) before.next_is before.put (c.in_ok-whole.ensures.put c.if-not-whole.false) in
    let after : next + c.count_of-next.result ≡ c.args.end + sum_by source_count (take (i + 1) sources) =
    next_after sources i _ c.args.end next c.count_of-next.result (slice_get-get_or sources i _ below) before.next_is c.count_of-next.ensures in
    record {
      next_is = after;
      crash_beside = λ bounds far. run_joined g.D.Disk bounds c.args.disk.now c.loop-source.disk c.put_source.new.disk (before.crash_beside bounds far) (c.put_source.ensures.crash_beside bounds (respects_more (bounds c.args.to) c.args.end next (omega (arith, before.next_is)) far));
      put = put;
      inside = put_inside c.args.bytes.now (take (i + 1) sources) c.args.to c.args.end (next + c.count_of-next.result) k o after put;
      others = others_then c.args.to k m o before.others c.in_ok-whole.ensures.others;
      fewest = (let earlier = before.fewest in let now = c.in_ok-whole.ensures.fewest in omega (arith, earlier, now));
      kept = omega (arith, before.kept, c.in_ok-whole.ensures.cause.kept);
    }

pub returns-clause-put : goal.returns-clause-put
returns-clause-put g c = λ is.
    let sources = c.args.sources.now in
    let i = c.loop-source.source-index in
    let all : take i sources ≡ sources = take_all i sources (omega arith) in
    subst (λ (ss : List Source). BothTold (PutSources c.args.bytes.now ss c.args.to c.args.end) (g.D.Disk.content c.args.disk.now) (g.D.Disk.content c.loop-source.disk)) all c.loop-source.invariant.put

pub returns-in_err-whole-clause-others : goal.returns-in_err-whole-clause-others
returns-in_err-whole-clause-others g c =
    let content = g.D.Disk.content in
    others_then c.args.to (content c.args.disk.now) (content c.loop-source.disk) (content c.put_source.new.disk) c.loop-source.invariant.others c.put_source.ensures.others

pub returns-then-not-whole-clause-others : goal.returns-then-not-whole-clause-others
returns-then-not-whole-clause-others g c =
    let content = g.D.Disk.content in
    others_then c.args.to (content c.args.disk.now) (content c.loop-source.disk) (content c.put_source.new.disk) c.loop-source.invariant.others c.put_source.ensures.others
