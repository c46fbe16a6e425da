-- The new entry lies at the end of its file.
use Rattle.std.proofs.Common.{◌≡◌, refl, rules}
use Rattle.epoch_file.specs.Walking.{blob_front}
use Rattle.epoch_store.proofs.EntryExtents.{written_lies}
use Rattle.epoch_store.proofs.store.Store.new_entry.Goals as goal

pub returns-clause-lies : goal.returns-clause-lies
returns-clause-lies c =
    let entry = c.args.entry.now in
    let front : c.blob_front_len.result ≡ blob_front entry.text.now = search rules in
    written_lies c.args.place.now.length entry _ c.entry_offset-at.result c.blob_front_len.result c.args.written.now (search rules) c.requires.written c.entry_offset-at.ensures front refl refl (search rules)
