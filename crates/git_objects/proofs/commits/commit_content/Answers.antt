use Rattle.std.proofs.Common.{List, ℕ, [], ◌++◌, sym, ap, ◌∙◌}
use Rattle.std.proofs.lemmas.List.{append-nil}
use Rattle.git_objects.specs.Fronts.{AppendsPiece}
use Rattle.git_objects.specs.Commits.{tree_line, parent_line, author_line, committed_part, text_part}
use Rattle.git_objects.proofs.commits.commit_content.Goals as goal

pub returns : goal.returns
returns c =
    let subject : List ℕ = text_part 10 c.args.commit.now.subject [] in
    let committed : List ℕ = committed_part c.args.commit.now.committed subject in
    let author : List ℕ = author_line c.args.commit.now.author c.args.commit.now.email c.args.commit.now.secs c.args.commit.now.zone committed in
    let parent : List ℕ = parent_line c.args.commit.now.parent author in
    let tree : List ℕ = tree_line c.args.commit.now.tree parent in
    let one : AppendsPiece c.in_ok-content.content c.push_id.new.into (tree_line c.args.commit.now.tree) = c.in_ok-push_id.ensures in
    let two : AppendsPiece c.push_id.new.into c.push_parent.new.into (parent_line c.args.commit.now.parent) = c.in_ok-push_parent.ensures in
    let three : AppendsPiece c.push_parent.new.into c.push_author.new.into (author_line c.args.commit.now.author c.args.commit.now.email c.args.commit.now.secs c.args.commit.now.zone) = c.in_ok-push_author.ensures in
    let four : AppendsPiece c.push_author.new.into c.push_committed.new.into (committed_part c.args.commit.now.committed) = c.in_ok-push_committed.ensures in
    let five : AppendsPiece c.push_committed.new.into c.push_text.new.into (text_part 10 c.args.commit.now.subject) = rw c.as_slice.ensures at c.in_ok-push_text.ensures in
    sym (append-nil c.push_text.new.into) ∙ five [] ∙ four subject ∙ three committed ∙ two author ∙ one parent ∙ ap (λ l. l ++ tree) c.in_ok-content.ensures
