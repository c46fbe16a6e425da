use Rattle.query_lang.specs.Queries.{query_of}
use Rattle.http_front.proofs.Finding.{page-read, page-unread}
use Rattle.http_front.proofs.search.search_at.Goals as goal

pub returns-in-Ok : goal.returns-in-Ok
returns-in-Ok g c = λ a held.
    page-read a c.args.text.now c.args.skip c.in-Ok.query (query_of c.args.text.now) c.page_of.result c.in-Ok.ensures (c.page_of.ensures a held)

pub returns-in-Err-BadRange : goal.returns-in-Err-BadRange
returns-in-Err-BadRange g c = λ a held. page-unread a c.args.text.now c.args.skip (query_of c.args.text.now) (rw c.in-Err-BadRange.field-0-is at c.in-Err-BadRange.ensures)
