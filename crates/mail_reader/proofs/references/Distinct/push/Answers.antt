use Rattle.std.proofs.Common.{◌≡◌, ◌++◌, ◌∷◌, [], true, false, sym, ap, ◌∙◌, subst, rules, List, ℕ}
use Rattle.std.specs.Borrow.{Bor}
use Rattle.std.specs.List.{list_any}
use Rattle.std.specs.Str.{bytes_eq}
use Rattle.std.proofs.lemmas.List.{map-append}
use Rattle.mail_reader.specs.References.{shown_all, HasSeen}
use Rattle.mail_reader.proofs.Distincts.{put_new-there, put_new-more, HasSeen-more}
use Rattle.mail_reader.proofs.references.Distinct.push.Goals as goal

pub invariant_of-self-in_default : goal.invariant_of-self-in_default
invariant_of-self-in_default c =
    let pushed : c.push.new.self.items ≡ c.self.inside.ids.items ++ c.args.id ∷ [] = search rules in
    let P : List (Bor (List ℕ)) → Type 0 = λ ids. HasSeen ids c.insert.new.self in
    subst P (sym pushed) (HasSeen-more c.self.inside.ids.items c.args.id c.self.inside.seen c.insert.new.self c.self.invariant (search rules))

pub returns-in_default : goal.returns-in_default
returns-in_default c =
    let pushed : c.push.new.self.items ≡ c.self.inside.ids.items ++ c.args.id ∷ [] = search rules in
    let not_there : list_any (λ s. bytes_eq s c.args.id.now) c.args.self.now ≡ false =
    ap (list_any (λ s. bytes_eq s c.args.id.now)) (sym c.self.view_is) ∙ sym (c.self.invariant c.args.id) ∙ sym c.contains.ensures ∙ c.if-not-contains.true in
    ap shown_all pushed ∙ map-append (λ (slice : Bor (List ℕ)). slice.now) c.self.inside.ids.items (c.args.id ∷ []) ∙ ap (λ ids. ids ++ c.args.id.now ∷ []) c.self.view_is
    ∙ sym (put_new-more c.args.self.now c.args.id.now not_there)

pub returns-else-not-contains : goal.returns-else-not-contains
returns-else-not-contains c =
    let there : list_any (λ s. bytes_eq s c.args.id.now) c.args.self.now ≡ true =
    ap (list_any (λ s. bytes_eq s c.args.id.now)) (sym c.self.view_is) ∙ sym (c.self.invariant c.args.id) ∙ sym c.contains.ensures ∙ c.if-not-contains.false in
    sym (put_new-there c.args.self.now c.args.id.now there)
