use Rattle.word_index.specs.Postings.{posted}
use Rattle.word_index.specs.Days.{dated}
use Rattle.word_index.specs.Kept.{in_subject, in_from, in_body}
use Rattle.word_index.specs.Tables.{is_of}
use Rattle.word_index.proofs.TableLemmas.{unposts}
use Rattle.word_index.proofs.DayLemmas.{dated-less}
use Rattle.word_index.proofs.tables.Tables.unpost.Goals as goal

pub returns-clause-index : goal.returns-clause-index
returns-clause-index c =
    let rows = c.args.self.now.rows.entries in
    let old = c.args.self.now in
    let n = c.args.n in
    let row = c.args.row.now in
    let day = c.args.row.now.day in
    record {
      rising = c.requires.posted.rising;
      by_subject = unposts in_subject rows (posted old.subject) (posted c.remove_all.new.self) n row c.requires.new (rw (c.as_slice.ensures.value) at c.remove_all.ensures) c.requires.posted.by_subject;
      by_from = unposts in_from rows (posted old.from) (posted c.remove_all-2.new.self) n row c.requires.new (rw (c.as_slice-2.ensures.value) at c.remove_all-2.ensures) c.requires.posted.by_from;
      by_body = unposts in_body rows (posted old.body) (posted c.remove_all-3.new.self) n row c.requires.new (rw (c.as_slice-3.ensures.value) at c.remove_all-3.ensures) c.requires.posted.by_body;
      by_day = unposts is_of rows (dated old.days) (dated c.remove.new.self) n row c.requires.new (dated-less old.days c.remove.new.self day n (rw (c.dated.ensures) at c.remove.ensures.updates)) c.requires.posted.by_day;
    }
