use Rattle.std.proofs.Common.{◌≡◌, ◌++◌, ◌∷◌, [], sym, ap, ◌∙◌, rules}
use Rattle.std.specs.List.{concat}
use Rattle.std.proofs.lemmas.List.{nil_from_length}
use Rattle.mail_reader.specs.Stored.{clean_lines, kept_fields}
use Rattle.mail_reader.specs.Checking.{piece_at}
use Rattle.mail_reader.proofs.LineEnds.{clean_lines-none}
use Rattle.mail_reader.proofs.KeptLines.{kept_from, after_from, kept_from-start, after_from-start}
use Rattle.mail_reader.proofs.PieceEnds.{Ahead-none, Ahead-more, Ahead-not, Ahead-all, kept_more, after_more}
use Rattle.mail_reader.proofs.checking.after_fields.Goals as goal

pub loop-place-init : goal.loop-place-init
loop-place-init c = record {
  ahead = Ahead-none c.args.text.now (concat (kept_fields (clean_lines c.args.bytes.now))) _ (kept_from-start (clean_lines c.args.bytes.now));
  after = after_from-start (clean_lines c.args.bytes.now);
}

pub returns-in-None-after_piece : goal.returns-in-None-after_piece
returns-in-None-after_piece c =
    let place = c.loop-place.place in
    let line = c.first_line-line.result.content.now ++ 10 ∷ [] in
    let later = clean_lines c.first_line-line.result.rest.now in
    let split = ap (λ ls. concat (kept_from place ls)) c.first_line-line.ensures.lines ∙ kept_more place c.in-Some.next line later (sym c.in-Some.ensures) in
    Ahead-not c.args.text.now _ c.loop-place.left.now (piece_at c.in-Some.next line) _ (concat (kept_from c.in-Some.next later)) c.loop-place.invariant.ahead split c.in-None-after_piece.ensures

pub loop-place-preserved : goal.loop-place-preserved
loop-place-preserved c =
    let place = c.loop-place.place in
    let line = c.first_line-line.result.content.now ++ 10 ∷ [] in
    let later = clean_lines c.first_line-line.result.rest.now in
    let split = ap (λ ls. concat (kept_from place ls)) c.first_line-line.ensures.lines ∙ kept_more place c.in-Some.next line later (sym c.in-Some.ensures) in
    record {
      ahead = Ahead-more c.args.text.now _ c.loop-place.left.now (piece_at c.in-Some.next line) c.in-Some-after_piece.after.now _ (concat (kept_from c.in-Some.next later)) c.loop-place.invariant.ahead split c.in-Some-after_piece.ensures;
      after = sym (ap (λ ls. after_from place ls) c.first_line-line.ensures.lines ∙ after_more place c.in-Some.next line later (sym c.in-Some.ensures)) ∙ c.loop-place.invariant.after;
    }

pub returns : goal.returns
returns c =
    let nil : c.loop-place.rest.now ≡ [] = nil_from_length c.loop-place.rest.now (search rules) in
    let none : clean_lines c.loop-place.rest.now ≡ [] = ap clean_lines nil ∙ clean_lines-none in (
      Ahead-all c.args.text.now _ c.loop-place.left.now _ c.loop-place.invariant.ahead (ap (λ ls. concat (kept_from c.loop-place.place ls)) none),
      none ∙ sym (ap (λ ls. after_from c.loop-place.place ls) none) ∙ c.loop-place.invariant.after,
    )
