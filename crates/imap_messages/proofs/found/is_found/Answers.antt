use Rattle.std.proofs.Common.{◌∙◌, Bool, map, sym, subst}
use Rattle.imap_syntax.specs.Trees.{tree_of}
use Rattle.imap_messages.specs.Seeking.{is_sought}
use Rattle.imap_messages.specs.SearchActs.{message_at, TellsMatch}
use Rattle.imap_messages.proofs.Seekings.{look-true, none-found}
use Rattle.imap_messages.proofs.found.is_found.Goals as goal

pub text_matches-requires-clause-live : goal.text_matches-requires-clause-live
text_matches-requires-clause-live g c = λ a held. c.in-Ok-true.ensures.live a held c.in-Ok-true.field-0-test

pub returns-in-Ok-true-clause-found : goal.returns-in-Ok-true-clause-found
returns-in-Ok-true-clause-found g c = λ a told held is.
    subst (λ (b : Bool). TellsMatch b (is_sought a told (map tree_of c.args.keys.now) (message_at c.args.place)) c.text_matches.result)
    (sym (look-true a told (map tree_of c.args.keys.now) (message_at c.args.place) (sym (c.in-Ok-true.ensures.found a told held is) ∙ c.in-Ok-true.field-0-test)))
    (c.text_matches.ensures.found a told held is (sym (c.in-Ok-true.ensures.found a told held is) ∙ c.in-Ok-true.field-0-test))

pub returns-in-Ok-false-clause-found : goal.returns-in-Ok-false-clause-found
returns-in-Ok-false-clause-found g c = λ a told held is.
    none-found a told c.args.place is (map tree_of c.args.keys.now) (sym (c.in-Ok-false.ensures.found a told held is) ∙ c.in-Ok-false.field-0-test)
