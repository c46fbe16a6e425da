use Rattle.std.proofs.Common.{◌≡◌, ◌∙◌, ◌++◌, ℕ, List, ap, sym, refl, append_assoc, true, false}
use Rattle.imap_states.specs.States.{idles}
use Rattle.imap_session.proofs.Acting.{starved-idle, starved-awake}
use Rattle.imap_session.specs.Door.{ImapClient}
use Rattle.imap_session.proofs.session.ImapSession.refuse.Goals as goal

pub returns-then-is_idle-clause-acts : goal.returns-then-is_idle-clause-acts
returns-then-is_idle-clause-acts g c = λ a disk.
    let idle : idles c.args.self.now.0 ≡ true = ap (λ (h : ImapClient). idles h.0) (sym c.self.view_is) ∙ sym c.is_idle.ensures ∙ c.if-is_idle.true in
    starved-idle a c.args.self.now.0 _ _ _ c.say_bye_memory.result idle refl c.say_bye_memory.ensures.said

pub returns-clause-acts : goal.returns-clause-acts
returns-clause-acts g c = λ a disk.
    let awake : idles c.args.self.now.0 ≡ false = ap (λ (h : ImapClient). idles h.0) (sym c.self.view_is) ∙ sym c.is_idle.ensures ∙ c.if-is_idle.false in
    let whole : c.octets.result.now ++ c.args.last.now ≡ c.args.self.now.1.held ++ (c.args.self.now.1.part ++ c.args.last.now) =
    ap (λ (x : List ℕ). x ++ c.args.last.now) (c.octets.ensures ∙ ap (λ (h : ImapClient). h.1.held ++ h.1.part) c.self.view_is) ∙ append_assoc c.args.self.now.1.held c.args.self.now.1.part c.args.last.now in
    starved-awake a c.args.self.now.0 _ _ _ _ _ awake whole (c.say_starved.ensures.acts a c.args.self.now.0 disk)
