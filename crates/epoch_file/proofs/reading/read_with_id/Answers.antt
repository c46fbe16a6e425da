use Rattle.std.proofs.Common.{◌≡◌, ◌≢◌, ◌++◌, Option, Ok, drop, take, refl, ap, ◌∙◌, subst}
use Rattle.mail_commits.specs.declared.commits.EntryIds.{EntryIds}
use Rattle.mail_commits.specs.Entries.{tree_of, commit_text}
use Rattle.epoch_file.specs.Reading.{Respells}
use Rattle.epoch_file.proofs.Finding.{after_blob_in, entry_whole, entry_pieces, reads-other, reads-entry}
use Rattle.epoch_file.proofs.reading.read_with_id.Goals as goal

pub returns-in_ok-seen_of-in-Some : goal.returns-in_ok-seen_of-in-Some
returns-in_ok-seen_of-in-Some c =
    let parts = c.args.parts.now in
    let bytes = c.args.bytes.now in
    let objects = c.split_at-2.result.1.now in
    let spelled = subst (λ (found : Option EntryIds). Respells parts.form objects parts.kind parts.text.now c.args.moment c.args.parent (Ok found)) c.in-Some.is c.in_ok-ids.ensures in
    let cut : objects ≡ after_blob_in parts bytes = c.split_at-2.ensures.back ∙ ap (drop parts.blob) c.split_at.ensures.front in
    let whole = entry_whole parts.form bytes objects parts c.args.moment c.args.parent c.requires.parted cut spelled.0 in
    reads-entry parts.form c.args.offset c.args.parent bytes parts c.args.moment (take parts.size bytes) c.in-Some.ids c.in_ok-seen_of-in-Some.field-0 c.requires.parted c.requires.again c.requires.moment
    c.requires.stored refl whole spelled.1 c.in_ok-seen_of-in-Some.ensures

pub returns-in-None : goal.returns-in-None
returns-in-None c =
    let parts = c.args.parts.now in
    let bytes = c.args.bytes.now in
    let objects = c.split_at-2.result.1.now in
    let other : objects ≢ tree_of parts.form parts.kind parts.text.now ++ commit_text parts.form parts.kind parts.text.now c.args.moment c.args.parent =
    subst (λ (found : Option EntryIds). Respells parts.form objects parts.kind parts.text.now c.args.moment c.args.parent (Ok found)) c.in-None.is c.in_ok-ids.ensures in
    let cut : objects ≡ after_blob_in parts bytes = c.split_at-2.ensures.back ∙ ap (drop parts.blob) c.split_at.ensures.front in
    reads-other parts.form c.args.offset c.args.parent bytes parts c.args.moment (take parts.size bytes) refl
    (λ same. other (entry_pieces parts.form bytes objects parts c.args.moment c.args.parent c.requires.parted cut same))
