use Rattle.std.proofs.Common.{◌≡◌, ◌++◌, [], sym, ap, ◌∙◌, rules}
use Rattle.std.proofs.lemmas.List.{nil_from_length, append-nil}
use Rattle.mail_reader.specs.Stored.{clean_lines}
use Rattle.mail_reader.proofs.LineEnds.{clean_lines-none}
use Rattle.mail_reader.proofs.KeptLines.{kept_from-start, after_from-start}
use Rattle.mail_reader.proofs.storing.keep_fields.Goals as goal

pub loop-place-init : goal.loop-place-init
loop-place-init c = record {
  kept = ap (λ t. c.args.text.now ++ t) (kept_from-start (clean_lines c.args.bytes.now));
  after = after_from-start (clean_lines c.args.bytes.now);
}

pub returns-clause-fields : goal.returns-clause-fields
returns-clause-fields c =
    let nil : c.loop-place.rest.now ≡ [] = nil_from_length c.loop-place.rest.now (search rules) in
    sym (append-nil c.loop-place.text) ∙ rw (nil, clean_lines-none) at c.loop-place.invariant.kept

pub returns-clause-rest : goal.returns-clause-rest
returns-clause-rest c =
    let nil : c.loop-place.rest.now ≡ [] = nil_from_length c.loop-place.rest.now (search rules) in
    ap clean_lines nil ∙ clean_lines-none ∙ rw (nil, clean_lines-none) at c.loop-place.invariant.after
