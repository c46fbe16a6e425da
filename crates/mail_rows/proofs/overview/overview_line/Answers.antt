use Rattle.std.proofs.Common.{[], ◌∷◌, ◌++◌, refl, ap, ◌∙◌}
use Rattle.std.specs.Fmt.{decimal}
use Rattle.std.specs.Prelude.{codes}
use Rattle.mail_forms.specs.NamedValues.{flat_first}
use Rattle.mail_rows.proofs.OverviewLines.{over-made}
use Rattle.mail_rows.proofs.overview.overview_line.Goals as goal

pub returns : goal.returns
returns c =
    let text = c.args.text.now in
    let s = flat_first (codes "Subject") text in
    let f = flat_first (codes "From") text in
    let d = flat_first (codes "Date") text in
    let i = c.args.id.now in
    let r = flat_first (codes "References") text in
    let w = decimal c.args.wire in
    let one = c.in_ok-push_first.ensures ∙ ap (λ t. t ++ (s ++ 9 ∷ [])) c.new-over.ensures in
    let two = c.in_ok-push_first-2.ensures ∙ ap (λ t. t ++ (f ++ 9 ∷ [])) one in
    let three = c.in_ok-push_first-3.ensures ∙ ap (λ t. t ++ (d ++ 9 ∷ [])) two in
    let four = c.in_ok-push_slice.ensures ∙ ap (λ t. t ++ i) three in
    let five = c.in_ok-push.ensures ∙ ap (λ t. t ++ 9 ∷ []) four in
    let six = c.in_ok-push_first-4.ensures ∙ ap (λ t. t ++ (r ++ 9 ∷ [])) five in
    let seven = c.in_ok-push_decimal.ensures ∙ ap (λ t. t ++ w) six in
    let eight = c.in_ok-push-2.ensures ∙ ap (λ t. t ++ 9 ∷ []) seven in
    let nine = c.in_ok-push_decimal-2.ensures ∙ ap (λ t. t ++ decimal c.args.lines) eight in
    over-made text s f d i r w (decimal c.args.lines) c.push_decimal-2.new.into c.args.wire c.args.lines refl refl refl c.requires.id refl refl refl c.requires.wire c.requires.lines nine
