use Rattle.std.proofs.Common.{◌≡◌, ◌∙◌, sym, subst, true, rules}
use Rattle.imap_states.specs.States.{SuitsClient}
use Rattle.imap_session.specs.Door.{ImapClient}
use Rattle.imap_session.proofs.Acting.{update-inside}
use Rattle.imap_session.proofs.Suiting.{updated-suits}
use Rattle.imap_session.proofs.session.ImapSession.update.Goals as goal

pub returns-clause-told : goal.returns-clause-told
returns-clause-told g c = λ a disk held suits.
    let on : c.is_idle.result ≡ true = search rules in
    update-inside a c.args.self.now c.self.inside.state _ c.self.inside.framer _ _ _ c.self.view_is (sym c.is_idle.ensures ∙ on)
    (c.tell.ensures.acts a disk held (subst (λ (h : ImapClient). SuitsClient a h.0) (sym c.self.view_is) suits))

pub returns-clause-suits : goal.returns-clause-suits
returns-clause-suits g c = λ a held suits goes.
    let on : c.is_idle.result ≡ true = search rules in
    updated-suits a c.args.self.now _ _ _ _ suits goes
    (update-inside a c.args.self.now c.self.inside.state _ c.self.inside.framer _ _ _ c.self.view_is (sym c.is_idle.ensures ∙ on)
    (c.tell.ensures.acts a 0 held (subst (λ (h : ImapClient). SuitsClient a h.0) (sym c.self.view_is) suits)))
