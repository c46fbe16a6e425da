use Rattle.std.proofs.Common.{◌≡◌, ◌++◌, [], sym, ap, ◌∙◌, codes}
use Rattle.std.specs.List.{fold}
use Rattle.std.proofs.lemmas.List.Sums.{fold-append}
use Rattle.mail_reader.specs.Fields.{fields_of}
use Rattle.mail_reader.specs.References.{refs_of, last, put_new, ids_in}
use Rattle.mail_reader.proofs.Distincts.{same_ok}
use Rattle.mail_reader.proofs.references.refs_of.Goals as goal

pub returns : goal.returns
unfolding refs_of
returns c =
    let first = ids_in (codes "References") (fields_of c.args.text.now) in
    let second = ids_in (codes "In-Reply-To") (fields_of c.args.text.now) in
    let found : c.push_named-2.new.found ≡ fold put_new [] (first ++ second) =
    c.in_ok-push_named-2.ensures ∙ ap (λ t. fold put_new t second) (c.in_ok-push_named.ensures ∙ ap (λ t. fold put_new t first) c.new-found.ensures)
    ∙ sym (fold-append put_new [] first second) in
    same_ok c.last.result _ _ (ap (last 200) found) c.last.ensures
