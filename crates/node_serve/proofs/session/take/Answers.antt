use Rattle.std.proofs.Common.{refl}
use Rattle.std.proofs.lemmas.Bool.{false≢true}
use Rattle.arch_model.specs.KeeperRecord.{keeper}
use Rattle.node_serve.specs.Doors.{unopened_words, with_piece}
use Rattle.node_serve.proofs.ImapDoor.{opened-found}
use Rattle.node_serve.proofs.Feeding.{fed-opened, fed-shut, reads-from}
use Rattle.node_serve.proofs.session.take.Goals as goal

pub returns-in-Go-clause-fed : goal.returns-in-Go-clause-fed
returns-in-Go-clause-fed g c = λ s fits suits.
    let opened = c.in-Go.ensures.acts s c.args.piece.now fits in
    fed-opened (keeper g.K.Shelf g.K.Keep) c.args.moment c.args.session.now c.args.piece.now s opened.0 c.args.keep.now c.reopen.new.keep c.feed.new.keep _ _ _ _ _ opened.2 opened.1 refl opened.3 (c.feed.ensures.fed opened.0 opened.1.fits
    (suits opened.0.archive (opened-found (unopened_words c.args.moment c.args.session.now) s opened.0 (with_piece c.args.session.now c.args.piece.now) (with_piece c.args.session.now c.args.piece.now) _ _ opened.2)))

pub returns-in-Close-clause-fed : goal.returns-in-Close-clause-fed
returns-in-Close-clause-fed g c = λ s fits suits.
    let shut = c.in-Close.ensures.acts s c.args.piece.now fits in
    fed-shut (keeper g.K.Shelf g.K.Keep) c.args.moment c.args.session.now c.args.piece.now s shut.0 c.args.keep.now c.reopen.new.keep _ _ _ shut.2 shut.1 refl shut.3

pub returns-in-Go-clause-reads : goal.returns-in-Go-clause-reads
returns-in-Go-clause-reads g c = λ ready.
    let still = c.in-Go.ensures.nothing ready in
    reads-from (keeper g.K.Shelf g.K.Keep) c.args.moment c.args.session.now c.args.piece.now c.args.keep.now c.reopen.new.keep c.feed.new.keep still.1 c.feed.ensures.reads

pub returns-in-Close-clause-reads : goal.returns-in-Close-clause-reads
returns-in-Close-clause-reads g c = λ ready. (let still = c.in-Close.ensures.nothing ready in absurd (false≢true still.0))
