use Rattle.imap_items.proofs.labels.push_keyword.Goals as goal

pub returns-in-Fields : goal.returns-in-Fields
returns-in-Fields c = rw c.in-Fields.is c.push_listed.ensures

pub returns-in-FieldsNot : goal.returns-in-FieldsNot
returns-in-FieldsNot c = rw c.in-FieldsNot.is c.push_listed-in-FieldsNot.ensures
