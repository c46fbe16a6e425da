use Rattle.std.proofs.Common.{◌∷◌, Some, ap}
use Rattle.git_objects.proofs.CommitLines.{tree_text, after_tree, person, author_text, committer_on, number_on, after_moment, tree_first, NoByte-tree, author_first, NoByte-author, number_there}
use Rattle.git_objects.proofs.commit_reading.committed_at.Goals as goal

pub returns-in_err-unread : goal.returns-in_err-unread
returns-in_err-unread c = λ form commit valid is.
    absurd (c.in_err-unread.ensures (tree_text commit) (after_tree commit) (NoByte-tree commit) (tree_first commit c.args.content.now is))

pub returns-in_err-author : goal.returns-in_err-author
returns-in_err-author c = λ form commit valid is.
    let one = c.in_ok-unread.ensures (tree_text commit) (after_tree commit) (NoByte-tree commit) (tree_first commit c.args.content.now is) in
    absurd (c.in_err-author.ensures commit.parent (person commit (10 ∷ committer_on commit)) one)

pub returns-in_err-committer : goal.returns-in_err-committer
returns-in_err-committer c = λ form commit valid is.
    let one = c.in_ok-unread.ensures (tree_text commit) (after_tree commit) (NoByte-tree commit) (tree_first commit c.args.content.now is) in
    let two = c.in_ok-author.ensures commit.parent (person commit (10 ∷ committer_on commit)) one in
    absurd (c.in_err-committer.ensures (author_text commit) (committer_on commit) (NoByte-author commit valid) (author_first commit c.in_ok-author.author.now two))

pub returns-in_err-number : goal.returns-in_err-number
returns-in_err-number c = λ form commit valid is.
    let one = c.in_ok-unread.ensures (tree_text commit) (after_tree commit) (NoByte-tree commit) (tree_first commit c.args.content.now is) in
    let two = c.in_ok-author.ensures commit.parent (person commit (10 ∷ committer_on commit)) one in
    let three = c.in_ok-committer.ensures (author_text commit) (committer_on commit) (NoByte-author commit valid) (author_first commit c.in_ok-author.author.now two) in
    absurd (c.in_err-number.ensures (number_on commit) three)

pub returns-in_err-committed : goal.returns-in_err-committed
returns-in_err-committed c = λ form commit valid is.
    let one = c.in_ok-unread.ensures (tree_text commit) (after_tree commit) (NoByte-tree commit) (tree_first commit c.args.content.now is) in
    let two = c.in_ok-author.ensures commit.parent (person commit (10 ∷ committer_on commit)) one in
    let three = c.in_ok-committer.ensures (author_text commit) (committer_on commit) (NoByte-author commit valid) (author_first commit c.in_ok-author.author.now two) in
    absurd (c.in_err-committed.ensures commit.committed (after_moment commit) valid.committed (number_there commit c.in_ok-committer.committer.now c.in_ok-number.number.now c.in_ok-number.ensures three))

pub returns : goal.returns
returns c = λ form commit valid is.
    let one = c.in_ok-unread.ensures (tree_text commit) (after_tree commit) (NoByte-tree commit) (tree_first commit c.args.content.now is) in
    let two = c.in_ok-author.ensures commit.parent (person commit (10 ∷ committer_on commit)) one in
    let three = c.in_ok-committer.ensures (author_text commit) (committer_on commit) (NoByte-author commit valid) (author_first commit c.in_ok-author.author.now two) in
    let four = number_there commit c.in_ok-committer.committer.now c.in_ok-number.number.now c.in_ok-number.ensures three in
    ap Some (c.in_ok-committed.ensures.only commit.committed (after_moment commit) valid.committed four).0
