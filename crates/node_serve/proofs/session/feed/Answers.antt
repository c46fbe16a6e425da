use Rattle.std.proofs.Common.{◌++◌, refl, subst}
use Rattle.arch_model.specs.KeeperRecord.{keeper}
use Rattle.http_front.specs.Door as pages
use Rattle.imap_session.specs.Door as imap
use Rattle.nntp_reader.specs.Door as news
use Rattle.pop3_reader.specs.Door as pop
use Rattle.node_serve.specs.Doors.{AtNews, AtPop, AtHttp, AtImap}
use Rattle.node_serve.specs.Suiting.{SessionSuits}
use Rattle.node_serve.specs.declared.session.Session.{Session}
use Rattle.node_serve.specs.declared.session.Session.TheVariants as session
use Rattle.node_serve.proofs.Feeding.{control-fed, mail-fed, reading-fed}
use Rattle.node_serve.proofs.session.feed.Goals as goal

pub returns-in-Control-clause-fed : goal.returns-in-Control-clause-fed
returns-in-Control-clause-fed g c = λ s fits suits. rw c.in-Control.is (
    control-fed (keeper g.K.Shelf g.K.Keep) c.args.moment (c.in-Control.control ++ c.args.piece.now) s c.args.keep.now _ _ _ c.feed.new.keep _ c.feed.ensures.fed fits)

pub returns-in-News-clause-fed : goal.returns-in-News-clause-fed
returns-in-News-clause-fed g c = λ s fits suits. rw c.in-News.is (
    reading-fed (keeper g.K.Shelf g.K.Keep) c.args.moment (news.news_at c.args.moment) AtNews session.News (λ h. refl) (λ a h way. refl) (λ h. refl) (λ a h. refl) g.K.Shelf g.met.K.Keep.holds_files_are g.met.K.Keep.holds_left (λ k m alike. alike) g.met.K.Keep.alike_kept (λ k. refl) _ s c.args.keep.now _ _ _ c.feed-in-News.new.shelf _ (c.feed-in-News.ensures.fed s.archive) (g.met.K.Keep.alike_kept _ _ c.feed-in-News.ensures.shelf.same) c.requires.ready fits)

pub returns-in-Pop-clause-fed : goal.returns-in-Pop-clause-fed
returns-in-Pop-clause-fed g c = λ s fits suits. rw c.in-Pop.is (
    reading-fed (keeper g.K.Shelf g.K.Keep) c.args.moment pop.pop_door AtPop session.Pop (λ h. refl) (λ a h way. refl) (λ h. refl) (λ a h. refl) g.K.Shelf g.met.K.Keep.holds_files_are g.met.K.Keep.holds_left (λ k m alike. alike) g.met.K.Keep.alike_kept (λ k. refl) _ s c.args.keep.now _ _ _ c.feed-in-Pop.new.shelf _ (c.feed-in-Pop.ensures.fed s.archive) (g.met.K.Keep.alike_kept _ _ c.feed-in-Pop.ensures.shelf.same) c.requires.ready fits)

pub returns-in-Http-clause-fed : goal.returns-in-Http-clause-fed
returns-in-Http-clause-fed g c = λ s fits suits. rw c.in-Http.is (
    reading-fed (keeper g.K.Shelf g.K.Keep) c.args.moment (pages.pages_at c.args.moment) AtHttp session.Http (λ h. refl) (λ a h way. refl) (λ h. refl) (λ a h. refl) g.K.Shelf g.met.K.Keep.holds_files_are g.met.K.Keep.holds_left (λ k m alike. alike) g.met.K.Keep.alike_kept (λ k. refl) (c.in-Http.pages ++ c.args.piece.now) s c.args.keep.now _ _ _ c.feed-in-Http.new.shelf _ (c.feed-in-Http.ensures.fed s.archive) (g.met.K.Keep.alike_kept _ _ c.feed-in-Http.ensures.shelf.same) c.requires.ready fits)

pub returns-in-Lmtp-clause-fed : goal.returns-in-Lmtp-clause-fed
returns-in-Lmtp-clause-fed g c = λ s fits suits. rw c.in-Lmtp.is (
    mail-fed (keeper g.K.Shelf g.K.Keep) c.args.moment c.in-Lmtp.mail c.args.piece.now s c.args.keep.now _ _ _ c.feed-in-Lmtp.new.keep _ c.feed-in-Lmtp.ensures.fed fits)

pub returns-in-Imap-clause-fed : goal.returns-in-Imap-clause-fed
returns-in-Imap-clause-fed g c = λ s fits suits. rw c.in-Imap.is (
    reading-fed (keeper g.K.Shelf g.K.Keep) c.args.moment imap.imap_door AtImap session.Imap (λ h. refl) (λ a h way. refl) (λ h. refl) (λ a h. refl) g.K.Shelf g.met.K.Keep.holds_files_are g.met.K.Keep.holds_left (λ k m alike. alike) g.met.K.Keep.alike_kept (λ k. refl) _ s c.args.keep.now _ _ _ c.feed-in-Imap.new.shelf _ (λ held. c.feed-in-Imap.ensures.fed s.archive held (subst (λ (x : Session). SessionSuits s.archive x) c.in-Imap.is suits)) (g.met.K.Keep.alike_kept _ _ c.feed-in-Imap.ensures.shelf.same) c.requires.ready fits)

pub returns-in-Control-clause-reads : goal.returns-in-Control-clause-reads
returns-in-Control-clause-reads g c = rw c.in-Control.is c.feed.ensures.reads

pub returns-in-News-clause-reads : goal.returns-in-News-clause-reads
returns-in-News-clause-reads g c = rw c.in-News.is (c.feed-in-News.ensures.shelf.at_hand, c.feed-in-News.ensures.reads)

pub returns-in-Pop-clause-reads : goal.returns-in-Pop-clause-reads
returns-in-Pop-clause-reads g c = rw c.in-Pop.is (c.feed-in-Pop.ensures.shelf.at_hand, c.feed-in-Pop.ensures.reads)

pub returns-in-Http-clause-reads : goal.returns-in-Http-clause-reads
returns-in-Http-clause-reads g c = rw c.in-Http.is (c.feed-in-Http.ensures.shelf.at_hand, c.feed-in-Http.ensures.reads, c.feed-in-Http.ensures.unread)

pub returns-in-Imap-clause-reads : goal.returns-in-Imap-clause-reads
returns-in-Imap-clause-reads g c = rw c.in-Imap.is (c.feed-in-Imap.ensures.shelf.at_hand, c.feed-in-Imap.ensures.reads)
