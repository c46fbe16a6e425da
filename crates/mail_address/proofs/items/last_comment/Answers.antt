use Rattle.std.proofs.Common.{◌≡◌, ℕ, List, sym, ◌∙◌, ap}
use Rattle.std.specs.List.{before_first}
use Rattle.mail_address.specs.declared.place.Place.{Place}
use Rattle.mail_address.specs.declared.place.Place.TheVariants.{Comment}
use Rattle.mail_address.specs.declared.place.Sought.TheVariants.{CommentEnd}
use Rattle.mail_address.specs.Places.{bytes_of, is_sought}
use Rattle.mail_address.specs.Items.{len_before}
use Rattle.mail_address.proofs.Seeking.{before_first-marked_by}
use Rattle.mail_address.proofs.items.last_comment.Goals as goal

pub returns : goal.returns
returns c =
    let inside = c.after_last_start-inside.result.now in
    let len : c.len_before-end.result ≡ len_before CommentEnd (Comment 1) inside = c.len_before-end.ensures.value in
    rw len
    (sym (before_first-marked_by (is_sought CommentEnd) (Comment 1) inside)
    ∙ ap (λ (marks : List (ℕ × Place)). bytes_of (before_first (is_sought CommentEnd) marks)) c.after_last_start-inside.ensures)
