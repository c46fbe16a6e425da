use Rattle.std.proofs.Common.{ℕ, List, ap, ◌∙◌}
use Rattle.std.specs.List.{list_any}
use Rattle.std.specs.Str.{str_to_ascii_lowercase}
use Rattle.imap_items.specs.Searching.{has_piece}
use Rattle.imap_items.proofs.Valuing.{values-field}
use Rattle.imap_items.proofs.kept.Kept.in_field.Goals as goal

pub returns-in-Some-clause-found : goal.returns-in-Some-clause-found
returns-in-Some-clause-found c =
    c.is_in_one.ensures ∙ ap (λ (p : List ℕ). list_any (has_piece p) c.in-Some.values.now) (c.as_slice-in-Some.ensures ∙ c.in_ok-piece.ensures)
    ∙ ap (list_any (has_piece (str_to_ascii_lowercase c.args.piece.now))) c.in-Some.ensures ∙ values-field c.args.name.now c.args.piece.now c.args.text.now

pub returns-clause-found : goal.returns-clause-found
returns-clause-found c =
    c.is_in_one-found.ensures ∙ ap (λ (p : List ℕ). list_any (has_piece p) c.as_slice-3.result.now) (c.as_slice-2.ensures ∙ c.in_ok-piece.ensures)
    ∙ ap (list_any (has_piece (str_to_ascii_lowercase c.args.piece.now))) (c.as_slice-3.ensures ∙ c.in_ok-lower_values.ensures) ∙ values-field c.args.name.now c.args.piece.now c.args.text.now
