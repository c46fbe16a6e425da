use Rattle.mail_reader.proofs.StoredIds.{stored_by_id}
use Rattle.mail_reader.proofs.checking.is_stored.Goals as goal

pub returns : goal.returns
returns c = stored_by_id c.args.text.now c.stored_id.result c.is_some.result c.is_some.ensures c.stored_id.ensures
