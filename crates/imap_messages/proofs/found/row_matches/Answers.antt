use Rattle.std.proofs.Common.{◌≡◌, ◌∙◌, Bool, [], IfOk, is_some, map, true, refl, sym, ap, subst, option_copied}
use Rattle.std.specs.List.{list_all}
use Rattle.arch_model.specs.Archives.{live, text_of}
use Rattle.imap_syntax.specs.Trees.{tree_of}
use Rattle.imap_items.specs.Keys.{tree_matches}
use Rattle.imap_messages.specs.Seeking.{row_keys}
use Rattle.imap_messages.specs.SearchActs.{text_at}
use Rattle.imap_messages.proofs.Messages.{row-live}
use Rattle.imap_messages.proofs.Seekings.{rows-found, if-live}
use Rattle.imap_messages.proofs.found.row_matches.Goals as goal

pub returns-in-Some-clause-found : goal.returns-in-Some-clause-found
returns-in-Some-clause-found g c = λ a told held is.
    subst (λ (z : Bool). IfOk c.keys_match.result (λ (found : Bool). found ≡ z))
    (rows-found a told c.args.place is c.unread_texts_are_alike.ensures (map tree_of c.args.keys.now) [] c.in-Some.row.now (list_all (tree_matches (text_at c.args.place [] c.in-Some.row.now)) (row_keys (map tree_of c.args.keys.now))) (sym (c.row.ensures a held) ∙ ap option_copied c.in-Some.is) refl)
    c.keys_match.ensures

pub returns-in-Some-clause-live : goal.returns-in-Some-clause-live
returns-in-Some-clause-live g c = λ a held.
    if-live c.keys_match.result (is_some (text_of (live a.entries) c.args.place.uid) ≡ true) (sym (row-live a.config.form (live a.entries) c.args.place.uid) ∙ ap is_some (sym (c.row.ensures a held) ∙ ap option_copied c.in-Some.is))
