use Rattle.std.proofs.Common.{◌∙◌, ap, inr}
use Rattle.std.specs.BTreeMap.{is_at}
use Rattle.std.specs.Map.{remove_entry}
use Rattle.std.specs.Ordering.{nat_cmp}
use Rattle.view_set.proofs.Worded.{words-back}
use Rattle.view_set.proofs.posting.post.Goals as goal

-- Words that were posted are taken again.
pub returns-in-Err-clause-err : goal.returns-in-Err-clause-err
returns-in-Err-clause-err c =
    c.take.ensures.taken ∙ ap (remove_entry (is_at (nat_cmp c.args.n))) c.in_ok-add.ensures.ok ∙ words-back c.args.index.now c.args.n (record { words = c.args.words.now; day = c.args.day }) c.requires.words

pub returns-in-Err-clause-broken : goal.returns-in-Err-clause-broken
returns-in-Err-clause-broken c = inr c.in-Err.ensures.err
