use Rattle.std.proofs.Common.{◌<◌, length, sym, subst, refl}
use Rattle.archive_core.specs.Engines.{unchanged-is}
use Rattle.archive_core.specs.Walks.{IsSound}
use Rattle.archive_core.proofs.Engines.{read-cause}
use Rattle.archive_core.proofs.Standing.{still_own}
use Rattle.archive_core.proofs.Walking.{line-kept-of, lines-length, gives-line, gives-at, sound-if, text-other, entry-inside}
use Rattle.archive_core.proofs.walk.WalkWalked.text.Goals as goal

pub text-requires : goal.text-requires
text-requires g c = record { there = (let less : c.args.index < length c.args.self.now.store.now.entries = subst (λ n. c.args.index < n) (lines-length c.args.self.now.store.now.entries) c.requires.there in less) }

pub returns-clause-line : goal.returns-clause-line
returns-clause-line g c = λ line is.
    let s = line-kept-of c.args.self.now.store.now.entries c.args.index line is in
    gives-line s.0 line c.args.into.now c.text.new.into c.text.result s.2 (c.text.ensures.text s.0 s.1)

pub returns-clause-archive : goal.returns-clause-archive
returns-clause-archive g c = λ a store. gives-at a c.args.index c.args.into.now c.text.new.into c.text.result (c.text.ensures.archive a store.0 store.1)

pub returns-clause-undamaged : goal.returns-clause-undamaged
returns-clause-undamaged g c = λ sound.
    let v = c.args.self.now.store.now in
    let s = entry-inside v.entries c.args.index (subst (λ n. c.args.index < n) (lines-length v.entries) c.requires.there) in
    sound-if v (g.D.Disk.content c.args.self.now.disk.now) c.args.index s.0 c.args.into.now c.text.new.into c.text.result sound s.1 (c.text.ensures.text s.0 s.1) (c.text.ensures.found s.0 s.1)

pub returns-clause-walk : goal.returns-clause-walk
returns-clause-walk g c =
    let v = c.args.self.now.store.now in
    let old = g.D.Disk.content c.args.self.now.disk.now in
    let new = g.D.Disk.content c.text.new.disk in
    record {
      same = (refl, refl, record { same = c.text.ensures.same; crash = c.text.ensures.crash });
      kept = λ a store. (store.0, still_own v store.0 a old new c.text.ensures.same store.1);
      sounds = λ sound. subst (IsSound v) (sym (unchanged-is old new c.text.ensures.same)) sound;
      lines_are = refl;
      later = c.text.ensures.cause.later;
    }

pub returns-clause-cause : goal.returns-clause-cause
returns-clause-cause g c =
    let v = c.args.self.now.store.now in
    let s = entry-inside v.entries c.args.index (subst (λ n. c.args.index < n) (lines-length v.entries) c.requires.there) in
    read-cause (g.D.Disk.faults c.args.self.now.disk.now) (g.D.Disk.faults c.text.new.disk) c.text.result c.text.ensures.cause (text-other s.0 c.args.into.now c.text.new.into c.text.result (c.text.ensures.text s.0 s.1))

pub returns-clause-reads : goal.returns-clause-reads
returns-clause-reads g c = record { later = c.text.ensures.fewest; most = c.text.ensures.count }
