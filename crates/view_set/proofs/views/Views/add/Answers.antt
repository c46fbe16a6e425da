use Rattle.std.proofs.Common.{◌≡◌, ◌∙◌, None, ap, refl}
use Rattle.overview_index.specs.Listings.{row_in, number_of, without}
use Rattle.view_set.specs.Viewed.{Viewed}
use Rattle.view_set.proofs.Keyed.{new-number, threaded-added, threaded-either, taken-back}
use Rattle.view_set.proofs.Worded.{worded-none, worded-added}
use Rattle.view_set.proofs.views.Views.add.Goals as goal

pub add-requires-clause-number : goal.add-requires-clause-number
add-requires-clause-number c = ap (λ (v : Viewed). row_in v.rows c.args.row.number) c.self.view_is ∙ c.requires.number

pub add-requires-clause-id : goal.add-requires-clause-id
add-requires-clause-id c = ap (λ (v : Viewed). number_of v.rows c.args.row.id) c.self.view_is ∙ c.requires.id

-- The number is new among the words, and among the threads.
pub post-requires-clause-words : goal.post-requires-clause-words
post-requires-clause-words c =
    let none : row_in c.self.inside.overview c.args.row.number ≡ None = ap (λ (v : Viewed). row_in v.rows c.args.row.number) c.self.view_is ∙ c.requires.number in
    worded-none c.self.inside.overview c.self.inside.words c.args.row.number c.self.invariant.1 none

pub post-requires-clause-threads : goal.post-requires-clause-threads
post-requires-clause-threads c =
    let rows = c.self.inside.overview in
    let none : row_in rows c.args.row.number ≡ None = ap (λ (v : Viewed). row_in v.rows c.args.row.number) c.self.view_is ∙ c.requires.number in
    new-number rows c.self.inside.threads c.args.row.number c.self.invariant.0 none

-- Without memory rows and words are as before.
pub invariant_of-self-in-Err : goal.invariant_of-self-in-Err
invariant_of-self-in-Err c =
    let rows = c.self.inside.overview in
    let none : row_in rows c.args.row.number ≡ None = ap (λ (v : Viewed). row_in v.rows c.args.row.number) c.self.view_is ∙ c.requires.number in
    let back = c.take.ensures.rows ∙ ap (λ rs. without rs c.args.row.number) c.in_ok-add.ensures.ok ∙ taken-back rows c.args.row c.args.row.number refl none in
    rw (back, c.in-Err.ensures.err) (threaded-either rows c.self.inside.threads c.post.new.threads c.self.invariant.0 c.in-Err.ensures.broken, c.self.invariant.1)

pub returns-in-Err-clause-err : goal.returns-in-Err-clause-err
returns-in-Err-clause-err c =
    let rows = c.self.inside.overview in
    let none : row_in rows c.args.row.number ≡ None = ap (λ (v : Viewed). row_in v.rows c.args.row.number) c.self.view_is ∙ c.requires.number in
    let back = c.take.ensures.rows ∙ ap (λ rs. without rs c.args.row.number) c.in_ok-add.ensures.ok ∙ taken-back rows c.args.row c.args.row.number refl none in
    rw (back, c.in-Err.ensures.err) c.self.view_is

pub invariant_of-self-in_default : goal.invariant_of-self-in_default
invariant_of-self-in_default c =
    let rows = c.self.inside.overview in
    rw (c.in_ok-add.ensures.ok, c.in_default.ensures.ok) (
      threaded-added rows c.self.inside.threads c.post.new.threads c.args.row c.args.row.number c.in_ok-keys.keys c.self.invariant.0 refl c.in_ok-keys.ensures c.in_default.ensures.threaded,
      worded-added rows c.self.inside.words c.args.row c.args.row.number _ c.self.invariant.1 refl,
    )
