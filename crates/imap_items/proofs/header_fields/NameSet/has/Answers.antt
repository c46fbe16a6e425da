use Rattle.std.proofs.Common.{◌≡◌, ℕ, List, ap, ◌∙◌}
use Rattle.std.specs.List.{list_any}
use Rattle.std.specs.Str.{bytes_eq, str_to_ascii_lowercase}
use Rattle.imap_items.proofs.header_fields.NameSet.has.Goals as goal

pub returns : goal.returns
returns c =
    let q = c.into_vec-lower.result in
    let items : q.items ≡ str_to_ascii_lowercase c.args.name.now = c.into_vec-lower.ensures ∙ c.in_ok-lower.ensures in
    c.contains.ensures ∙ c.self.invariant q ∙ ap (λ (names : List (List ℕ)). list_any (λ (n : List ℕ). bytes_eq (str_to_ascii_lowercase n) q.items) names) c.self.view_is
    ∙ ap (λ (t : List ℕ). list_any (λ (n : List ℕ). bytes_eq (str_to_ascii_lowercase n) t) c.args.self.now) items
