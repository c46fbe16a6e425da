use Rattle.std.proofs.Common.{◌≡◌, ℕ, List, ◌++◌, ◌∷◌, [], sym, ap, ◌∙◌, subst}
use Rattle.std.specs.Prelude.{IfOk}
use Rattle.mail_reader.specs.Fields.{fields_of}
use Rattle.mail_reader.specs.Laws.{wholes}
use Rattle.imap_syntax.specs.declared.items.SectionText.TheVariants as asked
use Rattle.imap_items.specs.Sections.{header_bytes}
use Rattle.imap_items.proofs.Shown.{all-shown}
use Rattle.imap_items.proofs.header_fields.whole_header.Goals as goal

pub returns : goal.returns
returns c =
    let same : c.header.result.now ++ 10 ∷ [] ≡ header_bytes asked.Header c.args.message.now =
    ap (λ t. t ++ 10 ∷ []) (c.header.ensures ∙ ap wholes (sym (all-shown (fields_of c.args.message.now)))) in
    let P : List ℕ → Type 0 = λ xs. IfOk c.with_line.result (λ t. t ≡ xs) in
    subst P same c.with_line.ensures
