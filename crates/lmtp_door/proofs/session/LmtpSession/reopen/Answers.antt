use Rattle.std.proofs.Common.{◌≡◌, ◌∙◌, List, ℕ, [], ap, refl, sym, false, nat_lt}
use Rattle.std.proofs.lemmas.Bool.{false≢true}
use Rattle.arch_model.specs.KeeperRecord.{keeper}
use Rattle.arch_model.specs.Next.{continues}
use Rattle.lmtp_data.specs.Readings.{data_limit}
use Rattle.lmtp_door.specs.Door.{Guest, guest}
use Rattle.lmtp_door.specs.Phases.{LmtpPhase}
use Rattle.lmtp_door.specs.Sessions.{phase_of, work_in, count_in}
use Rattle.lmtp_door.proofs.Acting.{gift-held}
use Rattle.lmtp_door.proofs.Answering.{turns-opened, turns-refused}
use Rattle.lmtp_door.proofs.session.LmtpSession.reopen.Goals as goal

pub returns-in-Ok-clause-turn : goal.returns-in-Ok-clause-turn
returns-in-Ok-clause-turn g c = λ moment name piece.
    let there : work_in (phase_of c.self.inside.stage) ≡ _ = ap (λ (r : Guest). work_in r.phase) c.self.view_is ∙ c.requires.data in
    let short : nat_lt data_limit (count_in (phase_of c.self.inside.stage)) ≡ false = ap (λ (r : Guest). nat_lt data_limit (count_in r.phase)) c.self.view_is ∙ c.requires.short in
    let none : c.self.inside.held ≡ [] = gift-held (work_in (phase_of c.self.inside.stage)) c.self.inside.held there c.self.invariant in
    let old : c.args.self.now ≡ guest (phase_of c.self.inside.stage) [] false = sym c.self.view_is ∙ ap (λ (b : List ℕ). guest (phase_of c.self.inside.stage) b false) none in
    rw old
    (turns-opened (keeper g.K.Shelf g.K.Keep) moment name (phase_of c.self.inside.stage) piece there _ _ _ _ short c.in-Ok.ensures.cause refl refl (λ ready. (c.in-Ok.ensures.nothing ready).1) c.in-Ok.ensures.ready (λ s fits. c.in-Ok.ensures.found s fits))

pub returns-in-Err-clause-turn : goal.returns-in-Err-clause-turn
returns-in-Err-clause-turn g c = λ moment name piece.
    let there : work_in (phase_of c.self.inside.stage) ≡ _ = ap (λ (r : Guest). work_in r.phase) c.self.view_is ∙ c.requires.data in
    let short : nat_lt data_limit (count_in (phase_of c.self.inside.stage)) ≡ false = ap (λ (r : Guest). nat_lt data_limit (count_in r.phase)) c.self.view_is ∙ c.requires.short in
    let none : c.self.inside.held ≡ [] = gift-held (work_in (phase_of c.self.inside.stage)) c.self.inside.held there c.self.invariant in
    let old : c.args.self.now ≡ guest (phase_of c.self.inside.stage) [] false = sym c.self.view_is ∙ ap (λ (b : List ℕ). guest (phase_of c.self.inside.stage) b false) none in
    rw (old, c.gave.ensures)
    (turns-refused (keeper g.K.Shelf g.K.Keep) moment name (phase_of c.self.inside.stage) piece there _ _ _ _ c.in-Err.refusal c.say_unopened-said.result (continues c.after.result) _ short c.after.ensures
    (ap (λ (b : List ℕ). guest (phase_of c.pass_on.new.self) b false) none ∙ ap (λ (p : LmtpPhase). guest p [] false) c.pass_on.ensures.phase) c.in-Err.ensures.cause c.in-Err.ensures.later c.say_unopened-said.ensures.said
    (λ ready. false≢true (c.in-Err.ensures.nothing ready).0) c.in-Err.ensures.ready (λ s fits. let found = c.in-Err.ensures.found s fits in (found.0, found.1, found.2)))
