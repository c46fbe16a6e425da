use Rattle.std.proofs.Common.{◌≡◌, ℕ, List, [], Option, refl, sym, ap, ◌∙◌}
use Rattle.std.specs.Prelude.{unwrap_or}
use Rattle.mail_reader.specs.Ids.{own_id}
use Rattle.epoch_file.proofs.reading.seen_of.Goals as goal

pub returns : goal.returns
returns c =
    let id : c.from_vec.result ≡ unwrap_or (own_id c.args.parts.now.text.now) [] =
    c.from_vec.ensures ∙ (c.in_ok-from_slice.ensures.items ∙ sym (ap (λ (o : Option (List ℕ)). unwrap_or o []) c.requires.id)) in
    rw (id, c.content_id.ensures) refl
