-- One more window.
use native.Mathlib.Numerals.{unary_clauses}
use Rattle.std.specs.Prelude.{refl}
use Rattle.std.proofs.Common.{◌≡◌, ◌+◌, ℕ, sym, subst, arith}
use Rattle.disk_model.specs.declared.name.FileName.{FileName}
use Rattle.disk_model.specs.Disk.{BothTold}
use Rattle.disk_model.specs.BesideLaws.{run_started, run_joined}
use Rattle.root_change.specs.Copying.{Copied, HasRange}
use Rattle.root_change.proofs.Drops.{not_both}
use Rattle.root_change.proofs.Copies.{next_told, first_copied, copied_inside, range_left, respects_more}
use Rattle.root_change.proofs.Others.{others_first, others_then}
use Rattle.root_change.proofs.copying.copy_range.Goals as goal

pub loop-done-init : goal.loop-done-init
loop-done-init g c =
    let disk = c.args.disk.now in
    let content = g.D.Disk.content in
    record {
      bound = omega arith;
      crash_beside = λ bounds far. run_started g.D.Disk bounds disk (g.met.D.Disk.only_now disk);
      copied = first_copied c.args.range.file c.args.range.offset c.args.to c.args.end (content disk) c.requires.inside;
      inside = simp unary_clauses c.requires.inside;
      others = others_first c.args.to (content disk);
      fewest = omega arith;
      kept = refl;
    }

pub returns-in_err-whole-clause-crash_beside : goal.returns-in_err-whole-clause-crash_beside
returns-in_err-whole-clause-crash_beside g c = λ bounds far.
    run_joined g.D.Disk bounds c.args.disk.now c.loop-done.disk c.copy_window.new.disk (c.loop-done.invariant.crash_beside bounds far) (c.copy_window.ensures.crash_beside bounds (respects_more (bounds c.args.to) c.args.end (c.args.end + c.loop-done.done) (omega arith) far))

pub returns-then-not-whole-clause-crash_beside : goal.returns-then-not-whole-clause-crash_beside
returns-then-not-whole-clause-crash_beside g c = λ bounds far.
    run_joined g.D.Disk bounds c.args.disk.now c.loop-done.disk c.copy_window.new.disk (c.loop-done.invariant.crash_beside bounds far) (c.copy_window.ensures.crash_beside bounds (respects_more (bounds c.args.to) c.args.end (c.args.end + c.loop-done.done) (omega arith) far))

pub returns-then-not-whole-clause-whole : goal.returns-then-not-whole-clause-whole
returns-then-not-whole-clause-whole g c = λ has.
    let content = g.D.Disk.content in
    let range = c.args.range in
    let next = c.next_window-next.result in
    let count_is = c.next_window-next.ensures.count in
    let bound = c.loop-done.invariant.bound in
    let left = range_left range.file range.offset c.loop-done.done next.count range.count next.offset c.args.to c.args.end (content c.args.disk.now) (content c.loop-done.disk) c.requires.apart c.next_window-next.ensures.offset (omega (arith, count_is, bound)) c.loop-done.invariant.copied has in
    absurd (not_both c.in_ok-whole.whole (c.in_ok-whole.ensures.whole (subst (λ (f : FileName). HasRange f next.offset next.count (content c.loop-done.disk)) (sym c.next_window-next.ensures.file) left)) c.if-not-whole.true)

pub loop-done-preserved : goal.loop-done-preserved
loop-done-preserved g c =
    let before = c.loop-done.invariant in
    let content = g.D.Disk.content in
    let range = c.args.range in
    let next = c.next_window-next.result in
    let done = c.loop-done.done in
    let k = content c.args.disk.now in
    let m = content c.loop-done.disk in
    let o = content c.copy_window.new.disk in
    let count_is = c.next_window-next.ensures.count in
    let bound = before.bound in
    let one = subst (λ (f : FileName). BothTold (Copied f next.offset next.count c.args.to (c.args.end + done)) m o) c.next_window-next.ensures.file (c.in_ok-whole.ensures.copied c.if-not-whole.false) in
    let copied = next_told range.file range.offset done next.count c.args.to c.args.end next.offset (c.args.end + done) k m o c.requires.apart c.next_window-next.ensures.offset refl before.copied one in
    record {
      bound = omega (arith, count_is, bound);
      crash_beside = λ bounds far. run_joined g.D.Disk bounds c.args.disk.now c.loop-done.disk c.copy_window.new.disk (before.crash_beside bounds far) (c.copy_window.ensures.crash_beside bounds (respects_more (bounds c.args.to) c.args.end (c.args.end + done) (omega arith) far));
      copied = copied;
      inside = copied_inside range.file range.offset (done + next.count) c.args.to c.args.end (c.args.end + (done + next.count)) k o refl copied;
      others = others_then c.args.to k m o before.others c.in_ok-whole.ensures.others;
      fewest = (let earlier = before.fewest in let now = c.in_ok-whole.ensures.fewest in omega (arith, earlier, now));
      kept = omega (arith, before.kept, c.in_ok-whole.ensures.cause.kept);
    }

pub returns-clause-copied : goal.returns-clause-copied
returns-clause-copied g c = λ is.
    let range = c.args.range in
    let bound = c.loop-done.invariant.bound in
    let all : c.loop-done.done ≡ range.count = omega (arith, bound) in
    subst (λ (n : ℕ). BothTold (Copied range.file range.offset n c.args.to c.args.end) (g.D.Disk.content c.args.disk.now) (g.D.Disk.content c.loop-done.disk)) all c.loop-done.invariant.copied

pub returns-in_err-whole-clause-others : goal.returns-in_err-whole-clause-others
returns-in_err-whole-clause-others g c =
    let content = g.D.Disk.content in
    others_then c.args.to (content c.args.disk.now) (content c.loop-done.disk) (content c.copy_window.new.disk) c.loop-done.invariant.others c.copy_window.ensures.others

pub returns-then-not-whole-clause-others : goal.returns-then-not-whole-clause-others
returns-then-not-whole-clause-others g c =
    let content = g.D.Disk.content in
    others_then c.args.to (content c.args.disk.now) (content c.loop-done.disk) (content c.copy_window.new.disk) c.loop-done.invariant.others c.copy_window.ensures.others
