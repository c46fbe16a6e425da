-- The write respects the bounds of the root, and keeps the lengths.
use Rattle.std.proofs.Common.{sym, subst, ℕ}
use Rattle.std.proofs.lemmas.Result.{on_ok_weaker}
use Rattle.disk_model.specs.Disk.{BothTold, WhereTold, OneFile, Wrote, IsAtMostLength}
use Rattle.disk_model.specs.BesideLaws.{write_told, run_call}
use Rattle.disk_model.specs.Beside.{RespectsBound}
use Rattle.root_change.specs.Names.{bounds_of}
use Rattle.root_change.proofs.Sizes.{end_inside, end_respects, sizes_stay}
use Rattle.root_change.proofs.appending.append.Goals as goal

pub write_at-requires-clause-inside : goal.write_at-requires-clause-inside
write_at-requires-clause-inside g c =
    let inside = end_inside c.args.root.now c.args.name (g.D.Disk.content c.args.disk.now) c.requires.other c.requires.sizes in
    subst (λ (n : ℕ). WhereTold (IsAtMostLength c.args.name n) (g.D.Disk.content c.args.disk.now)) (sym c.end_of-end.ensures) inside

pub returns-clause-crash_beside : goal.returns-clause-crash_beside
returns-clause-crash_beside g c =
    let disk = c.args.disk.now in
    let root = c.args.root.now in
    let name = c.args.name in
    let content = g.D.Disk.content in
    let bounds = bounds_of root in
    let far : RespectsBound (bounds name) c.end_of-end.result = subst (λ (n : ℕ). RespectsBound (bounds name) n) (sym c.end_of-end.ensures) (end_respects root name c.requires.other) in
    let inside = subst (λ (n : ℕ). WhereTold (IsAtMostLength name n) (content disk)) (sym c.end_of-end.ensures) (end_inside root name (content disk) c.requires.other c.requires.sizes) in
    run_call g.D.Disk bounds disk c.write_at.new.self (g.met.D.Disk.only_now disk) c.write_at.ensures.time
    (write_told c.write_at.result bounds name c.end_of-end.result c.args.bytes.now (content disk) (content c.write_at.new.self) (g.met.D.Disk.reads_fit disk) far inside c.write_at.ensures.written c.write_at.ensures.torn)

pub returns-clause-wrote : goal.returns-clause-wrote
returns-clause-wrote g c =
    let content = g.D.Disk.content in
    on_ok_weaker c.write_at.result (subst (λ (n : ℕ). BothTold (OneFile c.args.name (Wrote n c.args.bytes.now)) (content c.args.disk.now) (content c.write_at.new.self)) c.end_of-end.ensures) c.write_at.ensures.written

pub returns-clause-sizes : goal.returns-clause-sizes
returns-clause-sizes g c =
    let content = g.D.Disk.content in
    let name = c.args.name in
    on_ok_weaker c.write_at.result
    (λ wrote. sizes_stay c.args.root.now name c.args.bytes.now (content c.args.disk.now) (content c.write_at.new.self) c.requires.other c.requires.sizes
    (subst (λ (n : ℕ). BothTold (OneFile name (Wrote n c.args.bytes.now)) (content c.args.disk.now) (content c.write_at.new.self)) c.end_of-end.ensures wrote))
    c.write_at.ensures.written
