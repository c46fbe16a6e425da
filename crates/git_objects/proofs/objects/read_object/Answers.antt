use Rattle.std.proofs.Common.{refl}
use Rattle.git_objects.specs.Objects.{BlobOf, TreeOf, CommitOf}
use Rattle.git_objects.proofs.Spellings.{object-front, content-lent, tree-none, tree-again}
use Rattle.git_objects.proofs.objects.read_object.Goals as goal

pub returns-in-Blob-clause-found : goal.returns-in-Blob-clause-found
returns-in-Blob-clause-found c =
    object-front c.args.form c.args.bytes.now c.in_ok-kind.unread.now c.in_ok-content.rest.now c.in_ok-content.content.now c.in_ok-kind.kind (BlobOf c.in_ok-content.content.now)
    c.in_ok-kind.ensures c.in_ok-content.ensures c.in-Blob.is refl c.in_ok-content.ensures.valid_one

pub returns-in-Blob-clause-lent : goal.returns-in-Blob-clause-lent
returns-in-Blob-clause-lent c =
    content-lent c.args.bytes.now c.in_ok-kind.unread.now c.in_ok-content.rest.now c.in_ok-content.content.now c.in_ok-kind.kind c.in_ok-kind.ensures c.in_ok-content.ensures

pub returns-in-Commit-clause-found : goal.returns-in-Commit-clause-found
returns-in-Commit-clause-found c =
    object-front c.args.form c.args.bytes.now c.in_ok-kind.unread.now c.in_ok-content.rest.now c.in_ok-content.content.now c.in_ok-kind.kind (CommitOf c.in_ok-content.content.now)
    c.in_ok-kind.ensures c.in_ok-content.ensures c.in-Commit.is refl c.in_ok-content.ensures.valid_one

pub returns-in-Commit-clause-lent : goal.returns-in-Commit-clause-lent
returns-in-Commit-clause-lent c =
    content-lent c.args.bytes.now c.in_ok-kind.unread.now c.in_ok-content.rest.now c.in_ok-content.content.now c.in_ok-kind.kind c.in_ok-kind.ensures c.in_ok-content.ensures

pub returns-in_ok-entry-in-Tree-clause-found : goal.returns-in_ok-entry-in-Tree-clause-found
returns-in_ok-entry-in-Tree-clause-found c =
    object-front c.args.form c.args.bytes.now c.in_ok-kind.unread.now c.in_ok-content.rest.now c.in_ok-content.content.now c.in_ok-kind.kind (TreeOf c.in_ok-entry-in-Tree.entry c.in_ok-entry-in-Tree.id)
    c.in_ok-kind.ensures c.in_ok-content.ensures c.in-Tree.is c.in_ok-entry-in-Tree.ensures.1 c.in_ok-entry-in-Tree.ensures.0

pub returns-in_err-entry-in-Tree-clause-none : goal.returns-in_err-entry-in-Tree-clause-none
returns-in_err-entry-in-Tree-clause-none c = rw c.from_residual-in_err-entry-in-Tree.ensures
    (tree-none c.args.form c.args.bytes.now c.in_ok-kind.unread.now c.in_ok-content.rest.now c.in_ok-content.content.now c.in_ok-kind.kind c.in_ok-kind.ensures c.in_ok-content.ensures c.in-Tree.is c.in_err-entry-in-Tree.ensures)

pub returns-in_err-entry-in-Tree-clause-again : goal.returns-in_err-entry-in-Tree-clause-again
returns-in_err-entry-in-Tree-clause-again c = λ object rest valid is.
    absurd (tree-none c.args.form c.args.bytes.now c.in_ok-kind.unread.now c.in_ok-content.rest.now c.in_ok-content.content.now c.in_ok-kind.kind c.in_ok-kind.ensures c.in_ok-content.ensures c.in-Tree.is c.in_err-entry-in-Tree.ensures object rest valid is)

pub returns-in_ok-entry-in-Tree-clause-again : goal.returns-in_ok-entry-in-Tree-clause-again
returns-in_ok-entry-in-Tree-clause-again c = λ object rest valid is.
    tree-again c.args.form c.args.bytes.now c.in_ok-kind.unread.now c.in_ok-content.rest.now c.in_ok-content.content.now c.in_ok-kind.kind c.in_ok-kind.ensures c.in_ok-content.ensures c.in-Tree.is
    c.in_ok-entry-in-Tree.entry c.in_ok-entry-in-Tree.id c.in_ok-entry-in-Tree.ensures.0 c.in_ok-entry-in-Tree.ensures.1 object rest valid is
