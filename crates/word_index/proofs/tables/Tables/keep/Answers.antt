use Rattle.word_index.specs.Postings.{posted}
use Rattle.word_index.specs.Days.{dated}
use Rattle.word_index.specs.Kept.{in_subject, in_from, in_body}
use Rattle.word_index.specs.Tables.{is_of}
use Rattle.word_index.proofs.TableLemmas.{kept}
use Rattle.word_index.proofs.tables.Tables.keep.Goals as goal

pub returns-in-Ok-clause-index : goal.returns-in-Ok-clause-index
returns-in-Ok-clause-index c =
    let old = c.args.self.now in
    let n = c.args.n in
    let row = c.args.row in
    let later = c.insert.new.self.entries in
    let updates = c.in-Ok.ensures.updates.0 in
    record {
      rising = c.in-Ok.ensures.ordered;
      by_subject = kept in_subject old.rows.entries (posted old.subject) later n row c.requires.new updates c.requires.posted.by_subject;
      by_from = kept in_from old.rows.entries (posted old.from) later n row c.requires.new updates c.requires.posted.by_from;
      by_body = kept in_body old.rows.entries (posted old.body) later n row c.requires.new updates c.requires.posted.by_body;
      by_day = kept is_of old.rows.entries (dated old.days) later n row c.requires.new updates c.requires.posted.by_day;
    }
