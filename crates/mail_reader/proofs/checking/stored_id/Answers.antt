use Rattle.std.proofs.Common.{◌≤◌, length, rules, tests}
use Rattle.mail_reader.specs.StorageTexts.{IsStorageText, max_text_len}
use Rattle.mail_reader.proofs.StoredIds.{id_of_form}
use Rattle.mail_reader.proofs.checking.stored_id.Goals as goal

pub returns-then-not-is_form_of : goal.returns-then-not-is_form_of
returns-then-not-is_form_of c = λ (storage : IsStorageText c.args.text.now). cc (c.is_form_of.ensures.1 storage.form, c.if-not-is_form_of.true)

pub returns : goal.returns
returns c =
    let short : length c.args.text.now ≤ max_text_len = search (rules, tests) in
    id_of_form c.args.text.now c.own_id.result short (c.is_form_of.ensures.0 c.if-not-is_form_of.false) c.own_id.ensures
