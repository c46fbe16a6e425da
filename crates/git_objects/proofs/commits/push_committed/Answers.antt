use Rattle.std.proofs.Common.{ℕ, List, ◌++◌, codes}
use Rattle.git_objects.specs.Fronts.{AppendsPiece}
use Rattle.git_objects.specs.Commits.{number_part, committed_part}
use Rattle.git_objects.proofs.Composing.{appends-bytes, appends-both, appends-last, OnOk-then}
use Rattle.git_objects.proofs.commits.push_committed.Goals as goal

pub returns : goal.returns
returns c =
    let old : List ℕ = c.args.into.now in
    let first : List ℕ → List ℕ = λ rest. codes "\ncommitter piv2 <piv2@localhost> " ++ rest in
    let second : List ℕ → List ℕ = number_part 32 c.args.moment in
    let third : List ℕ → List ℕ = λ rest. codes "+0000\n\n" ++ rest in
    let one = appends-bytes old c.push_slice.new.self (codes "\ncommitter piv2 <piv2@localhost> ") c.in_ok-push_slice.ensures in
    let two = appends-both old c.push_slice.new.self c.push_number.new.into first second one c.in_ok-push_number.ensures in
    OnOk-then c.push_slice-2.result (AppendsPiece c.push_number.new.into c.push_slice-2.new.self third) (AppendsPiece old c.push_slice-2.new.self (committed_part c.args.moment))
    (appends-last c.push_slice-2.result c.push_number.new.into c.push_slice-2.new.self (codes "+0000\n\n") c.push_slice-2.ensures)
    (λ three. appends-both old c.push_number.new.into c.push_slice-2.new.self (λ rest. first (second rest)) third two three)
