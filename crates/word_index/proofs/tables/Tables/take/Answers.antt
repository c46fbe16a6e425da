use Rattle.std.proofs.Common.{ℕ, List, sym, ap, ◌∙◌}
use Rattle.std.specs.Option.{is_some}
use Rattle.std.specs.Ordering.{nat_cmp}
use Rattle.std.specs.BTreeMap.{is_at}
use Rattle.word_index.specs.Kept.{shown_all, in_subject, in_from, in_body}
use Rattle.word_index.specs.Postings.{posted}
use Rattle.word_index.specs.Days.{dated}
use Rattle.word_index.specs.Tables.{is_of}
use Rattle.word_index.proofs.HeldLemmas.{all-remove}
use Rattle.word_index.proofs.RowLemmas.{shown-remove, row_at-some, row_at-none}
use Rattle.word_index.proofs.TableLemmas.{taken, partly-also}
use Rattle.word_index.proofs.tables.Tables.take.Goals as goal

pub returns-in_default-clause-found : goal.returns-in_default-clause-found
returns-in_default-clause-found c = ap is_some (sym (row_at-none c.args.self.now.words c.args.self.now.rows.entries c.args.n c.in_default.ensures.value))

pub returns-in_default-clause-taken : goal.returns-in_default-clause-taken
returns-in_default-clause-taken c = ap (shown_all c.args.self.now.words) c.in_default.ensures.entries ∙ shown-remove c.args.self.now.words (is_at (nat_cmp c.args.n)) c.args.self.now.rows.entries

pub returns-in_default-clause-spelled : goal.returns-in_default-clause-spelled
returns-in_default-clause-spelled c = rw c.in_default.ensures.entries (all-remove c.args.self.now.words c.args.self.now.rows.entries (is_at (nat_cmp c.args.n)) c.requires.spelled)

pub unpost-requires-clause-posted : goal.unpost-requires-clause-posted
unpost-requires-clause-posted c =
    let old = c.args.self.now in
    let n = c.args.n in
    let row = c.in-Some.row in
    let later = c.remove.new.self.entries in
    let had = sym c.in-Some.ensures.value in
    let updates = c.remove.ensures.updates.0 in
    record {
      rising = c.remove.ensures.ordered;
      by_subject = partly-also in_subject later (posted old.subject) n row (taken in_subject old.rows.entries (posted old.subject) later n row had updates c.requires.index.by_subject);
      by_from = partly-also in_from later (posted old.from) n row (taken in_from old.rows.entries (posted old.from) later n row had updates c.requires.index.by_from);
      by_body = partly-also in_body later (posted old.body) n row (taken in_body old.rows.entries (posted old.body) later n row had updates c.requires.index.by_body);
      by_day = partly-also is_of later (dated old.days) n row (taken is_of old.rows.entries (dated old.days) later n row had updates c.requires.index.by_day);
    }

pub unpost-requires-clause-new : goal.unpost-requires-clause-new
unpost-requires-clause-new c = c.remove.ensures.updates.1

pub returns-clause-found : goal.returns-clause-found
returns-clause-found c = ap is_some (sym (row_at-some c.args.self.now.words c.args.self.now.rows.entries c.args.n c.in-Some.row c.in-Some.ensures.value))

pub returns-clause-spelled : goal.returns-clause-spelled
returns-clause-spelled c =
    let old = c.args.self.now in
    rw (c.unpost.ensures.rows.words, c.unpost.ensures.rows.entries, c.remove.ensures.entries) (all-remove old.words old.rows.entries (is_at (nat_cmp c.args.n)) c.requires.spelled)

pub returns-clause-taken : goal.returns-clause-taken
returns-clause-taken c =
    let old = c.args.self.now in
    ap (λ (words : List (List ℕ)). shown_all words c.unpost.new.self.rows.entries) c.unpost.ensures.rows.words
    ∙ ap (shown_all old.words) (c.unpost.ensures.rows.entries ∙ c.remove.ensures.entries) ∙ shown-remove old.words (is_at (nat_cmp c.args.n)) old.rows.entries
