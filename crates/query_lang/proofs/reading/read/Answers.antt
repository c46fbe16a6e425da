use Rattle.std.proofs.Common.{sym, ap, ◌∙◌}
use Rattle.query_lang.specs.Terms.{terms_of}
use Rattle.query_lang.specs.Queries.{query_of}
use Rattle.query_lang.specs.Asking.{with_terms}
use Rattle.query_lang.specs.declared.query.Query.{Query}
use Rattle.query_lang.proofs.AskLemmas.{with_terms-none, refused_by}
use Rattle.query_lang.proofs.reading.read.Goals as goal

pub loop-term-init : goal.loop-term-init
loop-term-init c = ap (λ (q : Query). with_terms q (terms_of c.args.text.now)) c.new-query.ensures

pub loop-term-preserved : goal.loop-term-preserved
loop-term-preserved c =
    sym (c.in-Ok.ensures (terms_of c.in-Some.others.now)) ∙ ap (with_terms c.loop-term.query) (sym c.in-Some.ensures.terms) ∙ c.loop-term.invariant

pub returns-in-Err : goal.returns-in-Err
returns-in-Err c =
    refused_by (Unit {0}) c.loop-term.query c.ask.new.query c.in-Some.term.now (terms_of c.in-Some.others.now) c.in-Err.refusal (query_of c.args.text.now)
    (ap (with_terms c.loop-term.query) (sym c.in-Some.ensures.terms) ∙ c.loop-term.invariant) c.in-Err.ensures

pub returns : goal.returns
returns c =
    sym c.loop-term.invariant ∙ ap (with_terms c.loop-term.query) c.in_default.ensures.terms ∙ with_terms-none c.loop-term.query
