use Rattle.std.proofs.Common.{◌<◌, ◌++◌, ◌^◌, length, rules}
use Rattle.epoch_file.proofs.Parts.{after_blob, blob_first, text_size, tree_next, commit_next, content_size, blob_id_valid, whole_size, front_size}
use Rattle.git_objects.specs.Objects.{CommitOf, blob_id_of, spelling}
use Rattle.epoch_file.proofs.Sizes.{content_after}
use Rattle.epoch_file.proofs.reading.read_parts.Goals as goal

pub returns-in_err-text-clause-again : goal.returns-in_err-text-clause-again
returns-in_err-text-clause-again c = λ parent e rest valid is.
    absurd (c.in_err-text.ensures.again e.text (after_blob c.args.form parent e rest) (text_size e valid) (blob_first c.args.form parent e rest c.args.bytes.now is))

pub returns-in_err-kind-clause-again : goal.returns-in_err-kind-clause-again
returns-in_err-kind-clause-again c = λ parent e rest valid is.
    let blob = c.in_ok-text.ensures.again e.text (after_blob c.args.form parent e rest) (text_size e valid) (blob_first c.args.form parent e rest c.args.bytes.now is) in
    let next = tree_next c.args.form parent e rest c.args.bytes.now c.split_at.result.1.now c.in_ok-text.blob is blob.1 c.split_at.ensures.back in
    absurd (c.in_err-kind.ensures.again e.kind (blob_id_of c.args.form e.text) (spelling (CommitOf (content_after c.args.form parent e)) ++ rest) (blob_id_valid c.args.form e.text) next)

pub returns-in_err-commit-clause-again : goal.returns-in_err-commit-clause-again
returns-in_err-commit-clause-again c = λ parent e rest valid is.
    let blob = c.in_ok-text.ensures.again e.text (after_blob c.args.form parent e rest) (text_size e valid) (blob_first c.args.form parent e rest c.args.bytes.now is) in
    let next = tree_next c.args.form parent e rest c.args.bytes.now c.split_at.result.1.now c.in_ok-text.blob is blob.1 c.split_at.ensures.back in
    let tree = c.in_ok-kind.ensures.again e.kind (blob_id_of c.args.form e.text) (spelling (CommitOf (content_after c.args.form parent e)) ++ rest) (blob_id_valid c.args.form e.text) next in
    let last = commit_next c.args.form parent e rest c.args.bytes.now c.split_at-2.result.1.now c.in_ok-text.blob c.in_ok-kind.tree is blob.1 tree.1 c.split_at-2.ensures.back in
    let long : length c.args.bytes.now < 2 ^ 64 = search rules in
    absurd (c.in_err-commit.ensures.again (content_after c.args.form parent e) rest (content_size c.args.form parent e rest c.args.bytes.now long is) last)

pub returns-clause-again : goal.returns-clause-again
returns-clause-again c = λ parent e rest valid is.
    let blob = c.in_ok-text.ensures.again e.text (after_blob c.args.form parent e rest) (text_size e valid) (blob_first c.args.form parent e rest c.args.bytes.now is) in
    let next = tree_next c.args.form parent e rest c.args.bytes.now c.split_at.result.1.now c.in_ok-text.blob is blob.1 c.split_at.ensures.back in
    let tree = c.in_ok-kind.ensures.again e.kind (blob_id_of c.args.form e.text) (spelling (CommitOf (content_after c.args.form parent e)) ++ rest) (blob_id_valid c.args.form e.text) next in
    let last = commit_next c.args.form parent e rest c.args.bytes.now c.split_at-2.result.1.now c.in_ok-text.blob c.in_ok-kind.tree is blob.1 tree.1 c.split_at-2.ensures.back in
    let long : length c.args.bytes.now < 2 ^ 64 = search rules in
    let commit = c.in_ok-commit.ensures.again (content_after c.args.form parent e) rest (content_size c.args.form parent e rest c.args.bytes.now long is) last in
    record {
      kind = tree.0;
      text = blob.0;
      front = front_size e c.in_ok-text.text.now c.in_ok-text.blob blob.0 blob.1;
      commit = commit.0;
      size = whole_size c.args.form parent e c.in_ok-text.blob c.in_ok-kind.tree c.in_ok-commit.len blob.1 tree.1 commit.1;
    }
