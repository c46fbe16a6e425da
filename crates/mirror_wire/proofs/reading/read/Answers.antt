use Rattle.std.proofs.Common.{List, ℕ, ◌++◌, sym, ap, ◌∙◌}
use Rattle.std.proofs.lemmas.Result.{err_from_is_err_and}
use Rattle.mirror_wire.proofs.Stopping.{first-bad, second-bad, third-bad, list-refused, list-read}
use Rattle.mirror_wire.proofs.reading.read.Goals as goal

pub returns-in_default : goal.returns-in_default
returns-in_default c = record {
  exact = first-bad c.args.form c.args.text.now (λ rest is. c.in_default.ensures rest (is ∙ ap (λ (w : List ℕ). w ++ rest) (sym c.first_line.ensures)));
}

pub returns-in_default-read_name : goal.returns-in_default-read_name
returns-in_default-read_name c = record {
  exact = second-bad c.args.form c.args.text.now c.in-Some.rest.now (c.in-Some.ensures ∙ ap (λ (w : List ℕ). w ++ c.in-Some.rest.now) c.first_line.ensures) c.in_default-read_name.ensures;
}

pub returns-in_default-read_next : goal.returns-in_default-read_next
returns-in_default-read_next c = record {
  exact = third-bad c.args.form c.args.text.now c.in-Some-read_name.name c.in-Some-read_name.rest.now
      (record { after_first = c.in-Some.rest.now; first = c.in-Some.ensures ∙ ap (λ (w : List ℕ). w ++ c.in-Some.rest.now) c.first_line.ensures; named = c.in-Some-read_name.ensures }) c.in_default-read_next.ensures;
}

pub returns-in_err-lines : goal.returns-in_err-lines
returns-in_err-lines c = let p = err_from_is_err_and c.from_residual.result c.from_residual.ensures.1 in rw (p.1, p.2) (record {
  exact = list-refused c.args.form c.args.text.now c.in-Some-read_name.name c.in-Some-read_next.next c.in-Some-read_next.rest.now c.in_err-lines.field-0.0
      (record {
        later = c.in-Some-read_name.rest.now;
        one = record { after_first = c.in-Some.rest.now; first = c.in-Some.ensures ∙ ap (λ (w : List ℕ). w ++ c.in-Some.rest.now) c.first_line.ensures; named = c.in-Some-read_name.ensures };
        numbered = c.in-Some-read_next.ensures;
      }) c.in_err-lines.ensures;
})

pub returns : goal.returns
returns c = record {
  exact = list-read c.args.form c.args.text.now c.in-Some-read_name.name c.in-Some-read_next.next c.in-Some-read_next.rest.now c.in_ok-lines.lines
      (record {
        later = c.in-Some-read_name.rest.now;
        one = record { after_first = c.in-Some.rest.now; first = c.in-Some.ensures ∙ ap (λ (w : List ℕ). w ++ c.in-Some.rest.now) c.first_line.ensures; named = c.in-Some-read_name.ensures };
        numbered = c.in-Some-read_next.ensures;
      }) c.in_ok-lines.ensures;
}
