-- One step for the removal, and one for each write.
use Rattle.std.specs.Prelude.{Some, None, [], ◌∷◌}
use Rattle.std.proofs.lemmas.Result.{on_ok_weaker}
use Rattle.disk_model.specs.Moments.{joined}
use Rattle.root_slots.proofs.Starting.{first_zeros, other_zeros, shut_writing, became, two_zeros, begun}
use Rattle.root_slots.proofs.start.make_zeros.Goals as goal

pub returns-in_err-write_and_sync-clause-crash : goal.returns-in_err-write_and_sync-clause-crash
returns-in_err-write_and_sync-clause-crash g c =
    joined g.D.Disk c.args.disk.now c.clear.new.disk c.write_and_sync.new.disk _ _ _ c.clear.ensures.crash (rw c.root_file.ensures at c.write_and_sync.ensures.crash)
    (λ image shut. shut)
    (λ image. shut_writing None 0 2 _ _ image first_zeros (g.met.D.Disk.reads_fit c.args.disk.now) c.in_ok-clear.ensures.cleared)

pub write_and_sync-requires-2-clause-inside : goal.write_and_sync-requires-2-clause-inside
write_and_sync-requires-2-clause-inside g c =
    rw c.root_file-2.ensures (two_zeros _ _ (became None 0 (0 ∷ 0 ∷ []) _ _ _ c.in_ok-clear.ensures.cleared (rw c.root_file.ensures at c.in_ok-write_and_sync.ensures.written)))

pub returns-clause-crash : goal.returns-clause-crash
returns-clause-crash g c =
    let fit = g.met.D.Disk.reads_fit c.args.disk.now in
    joined g.D.Disk c.args.disk.now c.write_and_sync.new.disk c.write_and_sync-2.new.disk _ _ _
    (joined g.D.Disk c.args.disk.now c.clear.new.disk c.write_and_sync.new.disk _ _ _ c.clear.ensures.crash (rw c.root_file.ensures at c.write_and_sync.ensures.crash)
    (λ image shut. shut)
    (λ image. shut_writing None 0 2 _ _ image first_zeros fit c.in_ok-clear.ensures.cleared))
    (rw c.root_file-2.ensures at c.write_and_sync-2.ensures.crash)
    (λ image shut. shut)
    (λ image. shut_writing (Some (0 ∷ 0 ∷ [])) 2 4094 _ _ image other_zeros fit (became None 0 (0 ∷ 0 ∷ []) _ _ _ c.in_ok-clear.ensures.cleared (rw c.root_file.ensures at c.in_ok-write_and_sync.ensures.written)))

pub returns-clause-made : goal.returns-clause-made
returns-clause-made g c =
    on_ok_weaker c.write_and_sync-2.result
    (begun _ _ _ (became None 0 (0 ∷ 0 ∷ []) _ _ _ c.in_ok-clear.ensures.cleared (rw c.root_file.ensures at c.in_ok-write_and_sync.ensures.written)))
    (rw c.root_file-2.ensures at c.write_and_sync-2.ensures.written)
