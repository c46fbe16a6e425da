use Rattle.std.proofs.Common.{[], ◌∷◌, ◌++◌, List, ℕ, map, ap, ◌∙◌}
use Rattle.std.specs.Str.{str_to_ascii_lowercase}
use Rattle.text_words.specs.Words.{word_of, words_of}
use Rattle.text_words.proofs.AppendLemmas.{stands-more, stands-all, stands-some}
use Rattle.text_words.proofs.words.push_words.Goals as goal

pub loop-run-preserved : goal.loop-run-preserved
loop-run-preserved c =
    stands-more c.args.into.now (words_of c.args.text.now) c.loop-run.into c.push_lower.new.self (words_of c.loop-run.rest.now) (words_of c.in-Some.others.now) (word_of c.in-Some.run'.now) c.loop-run.invariant (ap (map word_of) c.in-Some.ensures.runs)
    (c.in_ok-push_lower.ensures ∙ ap (λ (run : List ℕ). c.loop-run.into ++ str_to_ascii_lowercase run ∷ []) c.front.ensures)

pub returns-in_err-push_lower-clause-err : goal.returns-in_err-push_lower-clause-err
returns-in_err-push_lower-clause-err c =
    stands-some c.from_residual.result c.args.into.now (words_of c.args.text.now) c.loop-run.into c.push_lower.new.self (words_of c.loop-run.rest.now) c.loop-run.invariant c.in_err-push_lower.ensures

pub returns-clause-ok : goal.returns-clause-ok
returns-clause-ok c =
    stands-all c.args.into.now (words_of c.args.text.now) c.loop-run.into (words_of c.loop-run.rest.now) c.loop-run.invariant (ap (map word_of) c.in_default.ensures.runs)
