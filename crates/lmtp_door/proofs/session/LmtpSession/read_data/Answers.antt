use Rattle.std.proofs.Common.{◌≡◌, ◌∙◌, List, ℕ, [], ap, false}
use Rattle.lmtp_door.specs.Door.{Guest, guest}
use Rattle.lmtp_door.specs.Sessions.{phase_of, work_in}
use Rattle.lmtp_door.proofs.Acting.{data-read, data-takes, data-held}
use Rattle.lmtp_door.proofs.session.LmtpSession.read_data.Goals as goal

pub returns-clause-turn : goal.returns-clause-turn
returns-clause-turn c = λ moment opened s i.
    let there : work_in (phase_of c.self.inside.stage) ≡ _ = ap (λ (r : Guest). work_in r.phase) c.self.view_is ∙ c.requires.data in
    let none : c.self.inside.held ≡ [] = data-held (work_in (phase_of c.self.inside.stage)) c.self.inside.held there c.self.invariant in
    rw (← c.self.view_is, c.taken.ensures)
    (data-read moment opened s (guest (phase_of c.self.inside.stage) c.self.inside.held false) (guest (phase_of c.read.new.self) c.self.inside.held false) c.args.piece.now c.read.result i there
    (ap (λ (b : List ℕ). guest (phase_of c.self.inside.stage) b false) none) (ap (λ (b : List ℕ). guest (phase_of c.read.new.self) b false) none) c.read.ensures)

pub returns-clause-takes : goal.returns-clause-takes
returns-clause-takes c = λ opened.
    let there : work_in (phase_of c.self.inside.stage) ≡ _ = ap (λ (r : Guest). work_in r.phase) c.self.view_is ∙ c.requires.data in
    rw (← c.self.view_is, c.taken.ensures)
    (data-takes opened (guest (phase_of c.self.inside.stage) c.self.inside.held false) (guest (phase_of c.read.new.self) c.self.inside.held false) c.args.piece.now c.read.result there c.read.ensures)
