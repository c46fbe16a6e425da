use Rattle.word_index.specs.Postings.{posted}
use Rattle.word_index.specs.Days.{dated}
use Rattle.word_index.specs.Kept.{in_subject, in_from, in_body}
use Rattle.word_index.specs.Tables.{is_of}
use Rattle.word_index.proofs.TableLemmas.{posts}
use Rattle.word_index.proofs.DayLemmas.{dated-more}
use Rattle.word_index.proofs.tables.Tables.post.Goals as goal

pub returns-clause-ok : goal.returns-clause-ok
returns-clause-ok c =
    let rows = c.args.self.now.rows.entries in
    let old = c.args.self.now in
    let n = c.args.n in
    let row = c.args.row.now in
    let day = c.args.row.now.day in
    record {
      rising = c.requires.rising;
      by_subject = posts in_subject rows (posted old.subject) (posted c.put_all.new.self) n row (rw (c.as_slice.ensures.value) at c.in_ok-put_all.ensures.ok) c.requires.by_subject;
      by_from = posts in_from rows (posted old.from) (posted c.put_all-2.new.self) n row (rw (c.as_slice-2.ensures.value) at c.in_ok-put_all-2.ensures.ok) c.requires.by_from;
      by_body = posts in_body rows (posted old.body) (posted c.put_all-3.new.self) n row (rw (c.as_slice-3.ensures.value) at c.in_ok-put_all-3.ensures.ok) c.requires.by_body;
      by_day = posts is_of rows (dated old.days) (dated c.insert.new.self) n row (dated-more old.days c.insert.new.self day n (rw (c.dated.ensures) at c.in_ok-insert.ensures.updates)) c.requires.by_day;
    }
