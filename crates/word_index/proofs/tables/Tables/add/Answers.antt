use Rattle.std.proofs.Common.{ap, ◌∙◌}
use Rattle.std.proofs.lemmas.Result.{on_ok_weaker, on_err_weaker}
use Rattle.std.specs.Ordering.{nat_cmp}
use Rattle.std.specs.BTreeMap.{insert_entry}
use Rattle.word_index.specs.Kept.{KeptRows, kept_at}
use Rattle.word_index.proofs.HeldLemmas.{none-kept, shown_all-then, held-stay, rows-stay, held-after, rows-after}
use Rattle.word_index.proofs.PostingLemmas.{on_err}
use Rattle.word_index.proofs.tables.Tables.add.Goals as goal

pub returns-in_err-row-clause-err : goal.returns-in_err-row-clause-err
returns-in_err-row-clause-err c =
    let old = c.args.self.now in
    on_err c.from_residual.result (shown_all-then old.words c.of.new.held old.rows.entries c.of.ensures.keeps c.requires.spelled)

pub unpost-requires-clause-new : goal.unpost-requires-clause-new
unpost-requires-clause-new c =
    let old = c.args.self.now in
    ap (λ (rows : KeptRows). kept_at rows c.args.n) c.post.ensures.rows.entries ∙ none-kept old.words old.rows.entries c.args.n c.requires.new

pub returns-in-Err-clause-spelled : goal.returns-in-Err-clause-spelled
returns-in-Err-clause-spelled c =
    let old = c.args.self.now in
    held-stay old.words c.of.new.held c.unpost.new.self.words old.rows.entries c.unpost.new.self.rows.entries c.of.ensures.keeps c.requires.spelled (c.unpost.ensures.rows.words ∙ c.post.ensures.rows.words)
    (c.unpost.ensures.rows.entries ∙ c.post.ensures.rows.entries)

pub returns-in-Err-clause-err : goal.returns-in-Err-clause-err
returns-in-Err-clause-err c =
    let old = c.args.self.now in
    rows-stay old.words c.of.new.held c.unpost.new.self.words old.rows.entries c.unpost.new.self.rows.entries c.of.ensures.keeps c.requires.spelled (c.unpost.ensures.rows.words ∙ c.post.ensures.rows.words)
    (c.unpost.ensures.rows.entries ∙ c.post.ensures.rows.entries)

pub keep-requires-clause-new : goal.keep-requires-clause-new
keep-requires-clause-new c =
    let old = c.args.self.now in
    ap (λ (rows : KeptRows). kept_at rows c.args.n) c.post.ensures.rows.entries ∙ none-kept old.words old.rows.entries c.args.n c.requires.new

pub returns-clause-spelled : goal.returns-clause-spelled
returns-clause-spelled c =
    let old = c.args.self.now in
    held-after c.keep.result old.words c.of.new.held c.keep.new.self.words old.rows.entries c.keep.new.self.rows.entries c.args.n c.in_ok-row.row c.of.ensures.keeps c.requires.spelled
    c.in_ok-row.ensures.ok.has (c.keep.ensures.words ∙ c.post.ensures.rows.words)
    (on_ok_weaker c.keep.result (λ is. is ∙ ap (λ (rows : KeptRows). insert_entry nat_cmp rows c.args.n c.in_ok-row.row) c.post.ensures.rows.entries) c.keep.ensures.ok)
    (on_err_weaker c.keep.result (λ is. is ∙ c.post.ensures.rows.entries) c.keep.ensures.err)

pub returns-clause-ok : goal.returns-clause-ok
returns-clause-ok c =
    let old = c.args.self.now in
    on_ok_weaker c.keep.result
    (λ is. rows-after old.words c.of.new.held c.keep.new.self.words old.rows.entries c.keep.new.self.rows.entries c.args.n c.in_ok-row.row c.args.words.now c.args.day c.of.ensures.keeps c.requires.spelled
    c.in_ok-row.ensures.ok (c.keep.ensures.words ∙ c.post.ensures.rows.words)
    (is ∙ ap (λ (rows : KeptRows). insert_entry nat_cmp rows c.args.n c.in_ok-row.row) c.post.ensures.rows.entries))
    c.keep.ensures.ok

pub returns-clause-err : goal.returns-clause-err
returns-clause-err c =
    let old = c.args.self.now in
    on_err_weaker c.keep.result
    (λ is. rows-stay old.words c.of.new.held c.keep.new.self.words old.rows.entries c.keep.new.self.rows.entries c.of.ensures.keeps c.requires.spelled (c.keep.ensures.words ∙ c.post.ensures.rows.words)
    (is ∙ c.post.ensures.rows.entries))
    c.keep.ensures.err
