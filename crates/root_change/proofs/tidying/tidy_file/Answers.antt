-- A removal, no call, or a cut.
use Rattle.std.proofs.Common.{◌∙◌, ℕ, sym, subst}
use Rattle.std.proofs.lemmas.Result.{on_ok_weaker}
use Rattle.disk_model.specs.Beside.{RespectsBound}
use Rattle.disk_model.specs.BesideLaws.{remove_told, run_started, run_call}
use Rattle.disk_model.specs.Disk.{BothTold, OneFile}
use Rattle.root_change.specs.Names.{bounds_of}
use Rattle.root_change.specs.Tidying.{Trimmed}
use Rattle.root_change.proofs.Drops.{unnamed_bound}
use Rattle.root_change.proofs.Sizes.{end_respects}
use Rattle.root_change.proofs.Tidies.{is_root_file, isnt_root_file, removed_tidied, trimmed_tidied, root_tidied}
use Rattle.root_change.proofs.tidying.tidy_file.Goals as goal

pub returns-then-not-is_named-clause-crash_beside : goal.returns-then-not-is_named-clause-crash_beside
returns-then-not-is_named-clause-crash_beside g c =
    let disk = c.args.disk.now in
    let root = c.args.root.now in
    let content = g.D.Disk.content in
    let isnt = sym c.is_named.ensures ∙ c.if-not-is_named.true in
    run_call g.D.Disk (bounds_of root) disk c.remove.new.self (g.met.D.Disk.only_now disk) c.remove.ensures.time
    (remove_told c.remove.result (bounds_of root) c.args.name (content disk) (content c.remove.new.self) (g.met.D.Disk.reads_fit disk) (unnamed_bound root c.args.name isnt) c.remove.ensures.removed c.remove.ensures.torn)

pub returns-then-not-is_named-clause-tidied : goal.returns-then-not-is_named-clause-tidied
returns-then-not-is_named-clause-tidied g c =
    let isnt = sym c.is_named.ensures ∙ c.if-not-is_named.true in
    on_ok_weaker c.remove.result (removed_tidied c.args.root.now c.args.name (g.D.Disk.content c.args.disk.now) (g.D.Disk.content c.remove.new.self) isnt) c.remove.ensures.removed

pub returns-then-is_root-clause-crash_beside : goal.returns-then-is_root-clause-crash_beside
returns-then-is_root-clause-crash_beside g c =
    let disk = c.args.disk.now in
    run_started g.D.Disk (bounds_of c.args.root.now) disk (g.met.D.Disk.only_now disk)

pub returns-then-is_root-clause-tidied : goal.returns-then-is_root-clause-tidied
returns-then-is_root-clause-tidied g c =
    root_tidied c.args.root.now c.args.name (g.D.Disk.content c.args.disk.now) (is_root_file c.args.root.now c.args.name (sym c.is_root.ensures ∙ c.if-is_root.true))

pub returns-clause-crash_beside : goal.returns-clause-crash_beside
returns-clause-crash_beside g c =
    let root = c.args.root.now in
    let name = c.args.name in
    let is_file = isnt_root_file name (sym c.is_root.ensures ∙ c.if-is_root.false) in
    c.trim.ensures.crash_beside (bounds_of root) (subst (λ (n : ℕ). RespectsBound (bounds_of root name) n) (sym c.end_of-end.ensures) (end_respects root name is_file))

pub returns-clause-tidied : goal.returns-clause-tidied
returns-clause-tidied g c =
    let root = c.args.root.now in
    let name = c.args.name in
    let k = g.D.Disk.content c.args.disk.now in
    let m = g.D.Disk.content c.trim.new.disk in
    let is = sym c.is_named.ensures ∙ c.if-not-is_named.false in
    let is_file = isnt_root_file name (sym c.is_root.ensures ∙ c.if-is_root.false) in
    on_ok_weaker c.trim.result (λ trimmed. trimmed_tidied root name k m is is_file (subst (λ (n : ℕ). BothTold (OneFile name (Trimmed n)) k m) c.end_of-end.ensures trimmed)) c.trim.ensures.trimmed
