use Rattle.std.proofs.Common.{refl}
use Rattle.edge_io.specs.declared.events.Door.TheVariants as door
use Rattle.arch_model.specs.Next.{continues}
use Rattle.nntp_reader.specs.Door as news
use Rattle.pop3_reader.specs.Door as pop
use Rattle.lmtp_door.specs.Door as mail
use Rattle.imap_session.specs.Door as imap
use Rattle.node_serve.specs.declared.session.Session.TheVariants as session
use Rattle.node_serve.proofs.Turning.{greets-over, greets-silent}
use Rattle.node_serve.proofs.welcome.greet_at.Goals as goal

pub returns-in-Control-clause-greeted : goal.returns-in-Control-clause-greeted
returns-in-Control-clause-greeted g c = λ s disk. rw (c.in-Control.is, c.open.ensures) (greets-silent door.Control _ s _ refl)

pub returns-in-Nntp-clause-greeted : goal.returns-in-Nntp-clause-greeted
returns-in-Nntp-clause-greeted g c = λ s disk.
    rw c.in-Nntp.is (greets-over door.Nntp session.News s s.archive (news.greeting s.archive) (continues c.open-session.result.1) c.open-session.result.0 _ _ (λ way. refl) (c.open-session.ensures.greeted s.archive disk))

pub returns-in-Pop3-clause-greeted : goal.returns-in-Pop3-clause-greeted
returns-in-Pop3-clause-greeted g c = λ s disk.
    rw c.in-Pop3.is (greets-over door.Pop3 session.Pop s s.archive (pop.greeting s.archive) (continues c.open-session-in-Pop3.result.1) c.open-session-in-Pop3.result.0 _ _ (λ way. refl) (c.open-session-in-Pop3.ensures.greeted s.archive disk))

pub returns-in-Http-clause-greeted : goal.returns-in-Http-clause-greeted
returns-in-Http-clause-greeted g c = λ s disk. rw (c.in-Http.is, c.open-in-Http.ensures) (greets-silent door.Http _ s _ refl)

pub returns-in-Lmtp-clause-greeted : goal.returns-in-Lmtp-clause-greeted
returns-in-Lmtp-clause-greeted g c = λ s disk.
    rw c.in-Lmtp.is (greets-over door.Lmtp session.Lmtp s s (mail.greeting s) (continues c.open-session-in-Lmtp.result.1) c.open-session-in-Lmtp.result.0 _ _ (λ way. refl) (c.open-session-in-Lmtp.ensures.greeted s disk))

pub returns-in-Imap-clause-greeted : goal.returns-in-Imap-clause-greeted
returns-in-Imap-clause-greeted g c = λ s disk.
    rw c.in-Imap.is (greets-over door.Imap session.Imap s s.archive (imap.greeting s.archive) (continues c.open-session-in-Imap.result.1) c.open-session-in-Imap.result.0 _ _ (λ way. refl) (c.open-session-in-Imap.ensures.greeted s.archive disk))
