-- The sources are put after what counts, or there is nothing to write.
use Rattle.std.proofs.Common.{◌∙◌, List, subst, sym, ℕ}
use Rattle.disk_model.specs.Beside.{RespectsBound}
use Rattle.disk_model.specs.Disk.{BothTold, WhereTold, IsAtMostLength}
use Rattle.root_change.specs.declared.sources.Source.{Source}
use Rattle.root_change.specs.Gathering.{PutSources}
use Rattle.root_change.specs.Names.{bounds_of}
use Rattle.root_change.proofs.Sizes.{end_respects}
use Rattle.root_change.proofs.Written.{part_asked, part_inside, none_written, put_written, sizes_still}
use Rattle.root_change.proofs.rewriting.write_plan.Goals as goal

pub put_sources-requires-clause-inside : goal.put_sources-requires-clause-inside
put_sources-requires-clause-inside g c =
    let content = g.D.Disk.content c.args.disk.now in
    subst (λ (n : ℕ). WhereTold (IsAtMostLength c.args.to n) content) (sym c.end_of-end.ensures) (part_inside c.args.root.now c.args.to content c.requires.to.other c.requires.to.no_cache c.requires.sizes)

pub returns-then-count-eq0-clause-written : goal.returns-then-count-eq0-clause-written
returns-then-count-eq0-clause-written g c =
    none_written c.args.root.now c.args.plan.now c.args.to c.requires.to.other c.requires.to.no_cache (g.D.Disk.content c.args.disk.now) (sym c.count.ensures.count ∙ c.if-count-eq0.true) c.requires.sizes

pub returns-in_err-whole-clause-crash_beside : goal.returns-in_err-whole-clause-crash_beside
returns-in_err-whole-clause-crash_beside g c =
    let bounds = bounds_of c.args.root.now in
    c.put_sources.ensures.crash_beside bounds (subst (λ (n : ℕ). RespectsBound (bounds c.args.to) n) (sym c.end_of-end.ensures) (end_respects c.args.root.now c.args.to c.requires.to.other))

pub returns-then-not-whole-clause-crash_beside : goal.returns-then-not-whole-clause-crash_beside
returns-then-not-whole-clause-crash_beside g c =
    let bounds = bounds_of c.args.root.now in
    c.put_sources.ensures.crash_beside bounds (subst (λ (n : ℕ). RespectsBound (bounds c.args.to) n) (sym c.end_of-end.ensures) (end_respects c.args.root.now c.args.to c.requires.to.other))

pub returns-then-not-whole-clause-short : goal.returns-then-not-whole-clause-short
returns-then-not-whole-clause-short g c =
    part_asked c.args.root.now c.args.plan.now c.kind-kind.result c.number-number.result c.file_of.result c.place_at.result c.kind-kind.ensures c.number-number.ensures c.file_of.ensures c.place_at.ensures

pub returns-clause-crash_beside : goal.returns-clause-crash_beside
returns-clause-crash_beside g c =
    let bounds = bounds_of c.args.root.now in
    c.put_sources.ensures.crash_beside bounds (subst (λ (n : ℕ). RespectsBound (bounds c.args.to) n) (sym c.end_of-end.ensures) (end_respects c.args.root.now c.args.to c.requires.to.other))

pub returns-clause-written : goal.returns-clause-written
returns-clause-written g c =
    let plan = c.args.plan.now in
    let k = g.D.Disk.content c.args.disk.now in
    let m = g.D.Disk.content c.put_sources.new.disk in
    let end_ = c.end_of-end.result in
    let put = subst (λ (bs : List ℕ). BothTold (PutSources bs c.sources.result.now c.args.to end_) k m) c.bytes.ensures (c.in_ok-whole.ensures.put c.if-not-whole.false) in
    put_written c.args.root.now plan c.args.to c.requires.to.other c.requires.to.no_cache end_ k m c.end_of-end.ensures (subst (λ (ss : List Source). BothTold (PutSources plan.bytes ss c.args.to end_) k m) c.sources.ensures put)

pub returns-clause-sizes : goal.returns-clause-sizes
returns-clause-sizes g c =
    let root = c.args.root.now in
    let plan = c.args.plan.now in
    let k = g.D.Disk.content c.args.disk.now in
    let m = g.D.Disk.content c.put_sources.new.disk in
    let end_ = c.end_of-end.result in
    let put = subst (λ (bs : List ℕ). BothTold (PutSources bs c.sources.result.now c.args.to end_) k m) c.bytes.ensures (c.in_ok-whole.ensures.put c.if-not-whole.false) in
    sizes_still root plan c.args.to c.requires.to.other c.requires.to.no_cache k m
    (put_written root plan c.args.to c.requires.to.other c.requires.to.no_cache end_ k m c.end_of-end.ensures (subst (λ (ss : List Source). BothTold (PutSources plan.bytes ss c.args.to end_) k m) c.sources.ensures put)) c.requires.sizes
