use Rattle.std.proofs.Common.{◌≡◌, ◌+◌, drop, refl}
use Rattle.std.proofs.lemmas.List.{take_rest}
use Rattle.mail_reader.specs.Fields.{field_of, without_feed}
use Rattle.mail_reader.proofs.header.split_field.Goals as goal

pub returns : goal.returns
unfolding field_of
returns c =
    let value : c.without_feed.result.now ≡ without_feed (drop (c.name_len-len.result + 1) c.args.whole.now) = rw (take_rest c.args.whole.now (c.name_len-len.result + 1)) at c.without_feed.ensures in
    rw (value, c.name_len-len.ensures) refl
