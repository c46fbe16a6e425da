use Rattle.std.proofs.Common.{◌≡◌, [], ℕ, length, List}
use Rattle.thread_model.specs.Labelling.{label_in}
use Rattle.std.proofs.Common.{sym, ap, ◌∙◌, unwrap_or, Option, ◌==◌}
use Rattle.std.proofs.lemmas.Bool.{eqb-true, false≢true}
use Rattle.thread_model.specs.Labelling.{label_at}
use Rattle.thread_model.proofs.Entries.{lookup-among}
use Rattle.thread_index.specs.Lists.{list_at, list_at_key}
use Rattle.thread_index.proofs.MapLists.{length-none, unwrap-zero}
use Rattle.thread_index.proofs.Shown.{lists-none, lists-thread}
use Rattle.thread_index.proofs.tables.Tables.thread_list.Goals as goal

-- src/tables.rt:78:13
pub returns-in_default : goal.returns-in_default
returns-in_default c = lists-none c.args.self.now.rows.entries c.args.n (ap (λ (found : Option (List (List ℕ))). unwrap_or found []) (sym c.in_default.ensures.value))

-- src/tables.rt:81:13
pub returns-then-is_empty : goal.returns-then-is_empty
returns-then-is_empty c =
    let none : c.as_slice.result.now ≡ [] = length-none c.as_slice.result.now (eqb-true (length c.as_slice.result.now) 0 (sym c.if-is_empty.ensures)) in
    lists-none c.args.self.now.rows.entries c.args.n (ap (λ (found : Option (List (List ℕ))). unwrap_or found []) (sym c.in-Some.ensures.value) ∙ sym c.as_slice.ensures ∙ none)

-- src/tables.rt:73:5
pub returns : goal.returns
returns c =
    let rows = c.args.self.now.rows.entries in
    let labels = c.args.self.now.labels in
    let members = list_at c.args.self.now.members in
    let at : c.unwrap_or.result ≡ label_in labels c.args.n = c.unwrap_or.ensures ∙ ap (λ (found : Option ℕ). unwrap_or found 0) c.get-2.ensures ∙ unwrap-zero (label_at labels c.args.n) in
    lists-thread rows labels members (list_at_key c.args.self.now.holders) c.requires c.args.n c.in-Some.keys.now
    (lookup-among rows c.args.n c.in-Some.keys.now (sym c.in-Some.ensures.value))
    (λ none. false≢true (c.if-is_empty.ensures ∙ ap (λ (keys : List (List ℕ)). length keys == 0) (c.as_slice.ensures ∙ none)))
    c.list_of.result.now (c.list_of.ensures ∙ ap members at)
    (ap (λ (found : Option (List (List ℕ))). unwrap_or found []) (sym c.in-Some.ensures.value))
