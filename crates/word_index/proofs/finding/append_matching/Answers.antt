use Rattle.std.proofs.Common.{◌++◌, [], ◌∷◌, ℕ, List, take, get_or, sym, ap, ◌∙◌, append-nil, append_assoc}
use Rattle.std.specs.List.{filter}
use Rattle.word_index.specs.Kept.{keeps_at}
use Rattle.word_index.specs.Asked.{matches_asked}
use Rattle.word_index.proofs.ListLemmas.{filter-kept, filter-passed}
use Rattle.word_index.proofs.finding.append_matching.Goals as goal
use Rattle.word_index.proofs.finding.append_matching.Goals.{then-is_match+in_ok-push, else-is_match}

pub loop-n-init : goal.loop-n-init
loop-n-init c = sym (append-nil _)

pub loop-n-preserved : goal.loop-n-preserved
loop-n-preserved c =
    let test = keeps_at (matches_asked c.args.asked.now c.args.days.now) c.args.tables.now.rows.entries in
    let numbers = c.args.numbers.now in
    let i = c.loop-n.n-index in
    let old = c.args.into.now in
    let so_far = filter test (take i numbers) in
    elim c.if-is_match.branch [
      | then-is_match+in_ok-push w ↦
          w.into-is ∙ w.in_ok-push.ensures ∙ ap (λ (l : List ℕ). l ++ get_or numbers i 0 ∷ []) c.loop-n.invariant
          ∙ append_assoc old so_far (_ ∷ [])
          ∙ ap (λ (l : List ℕ). old ++ l) (sym (filter-kept test numbers i 0 c.loop-n-test.true (sym w.if-is_match.ensures)))
      | else-is_match w ↦ w.into-is ∙ c.loop-n.invariant ∙ ap (λ (l : List ℕ). old ++ l) (sym (filter-passed test numbers i 0 c.loop-n-test.true (sym w.if-is_match.ensures)))
    ]
