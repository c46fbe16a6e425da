use Rattle.std.proofs.Common.{◌∙◌, ap, sym, refl}
use Rattle.lmtp_door.specs.Door.{Guest}
use Rattle.lmtp_door.specs.Sessions.{work_in}
use Rattle.arch_model.specs.KeeperRecord.{keeper}
use Rattle.lmtp_door.proofs.Answering.{turns-line, turns-data}
use Rattle.lmtp_door.proofs.session.LmtpSession.act.Goals as goal

pub returns-in-ReadsLines-clause-turn : goal.returns-in-ReadsLines-clause-turn
returns-in-ReadsLines-clause-turn g c = turns-line (keeper g.K.Shelf g.K.Keep) c.args.moment c.args.name.now c.args.opened c.args.self.now c.args.piece.now c.args.keep.now _ c.read_line.result _ _ (ap (λ (r : Guest). work_in r.phase) (sym c.self.view_is) ∙ sym c.work.ensures ∙ c.in-ReadsLines.is) (g.met.K.Shelf.alike_same _) refl (λ s named. c.read_line.ensures.turn c.args.moment (g.K.Shelf.faults c.args.keep.now) c.args.opened s named)

pub returns-in-ReadsData-clause-turn : goal.returns-in-ReadsData-clause-turn
returns-in-ReadsData-clause-turn g c = turns-data (keeper g.K.Shelf g.K.Keep) c.args.moment c.args.name.now c.args.opened c.args.self.now c.args.piece.now c.args.keep.now _ c.read_data.result _ _ (ap (λ (r : Guest). work_in r.phase) (sym c.self.view_is) ∙ sym c.work.ensures ∙ c.in-ReadsData.is) (g.met.K.Shelf.alike_same _) refl (λ s. c.read_data.ensures.turn c.args.moment c.args.opened s _)

pub returns-in-AnswersRecipient-clause-turn : goal.returns-in-AnswersRecipient-clause-turn
returns-in-AnswersRecipient-clause-turn g c = c.answer_recipient.ensures.turn c.args.name.now c.args.piece.now
