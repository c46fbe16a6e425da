use Rattle.std.proofs.Common.{◌≡◌, ◌∙◌, ℕ, List, Ok, refl, sym, ap, subst}
use Rattle.git_objects.specs.Objects.{blob_id_of}
use Rattle.arch_model.specs.Rows.{row_of}
use Rattle.arch_model.specs.Walking.{GivesTextAt}
use Rattle.mime_parts.specs.Words.{mail_words}
use Rattle.view_set.specs.Viewed.{with_mail}
use Rattle.view_set.proofs.Walking.{blob-named, line-blob}
use Rattle.view_set.proofs.rebuilding.add_message.Goals as goal

-- The text is the entry's, where an archive is held, so it has the line's blob id.
pub returns-in-Ok-clause-row : goal.returns-in-Ok-clause-row
returns-in-Ok-clause-row g c = λ a held.
    let form = a.config.form in
    let given = subst (λ (l : List ℕ). GivesTextAt a.entries c.args.index l c.text.new.into (Ok tt)) c.new-text.ensures (c.in_default.ensures.archive a held) in
    let read : c.as_slice-bytes.result.now ≡ given.0 = c.as_slice-bytes.ensures ∙ given.2 in
    let blob : c.args.line.now.blob ≡ blob_id_of form c.as_slice-bytes.result.now = line-blob form a.entries c.args.index c.args.line.now given.0 (c.requires.archive a held) given.1 ∙ ap (blob_id_of form) (sym read) in
    let added = c.in-Ok.ensures.ok form (rw (blob, c.content_id.ensures) refl) in
    (given.0, given.1, added ∙ ap (λ (t : List ℕ). with_mail c.args.views.now (row_of form c.args.line.now.number t c.args.line.now.secs) (mail_words t)) read)

-- A text that is damaged is that of the line.
pub returns-in-Err-clause-damage : goal.returns-in-Err-clause-damage
returns-in-Err-clause-damage g c = blob-named c.args.line.now _ _ c.in-Err.why (c.in-Err.ensures.line c.args.line.now c.requires.line)
