use Rattle.std.proofs.Common.{◌≡◌, Bool, true, false, ◌&&◌, Option, sym, ap, ◌∙◌}
use Rattle.std.specs.Option.{option_map_or}
use Rattle.std.specs.List.{list_all}
use Rattle.query_lang.specs.Matching.{in_ranges}
use Rattle.word_index.specs.declared.rows.KeptRow.{KeptRow}
use Rattle.word_index.specs.Asked.{is_listed, matches_asked}
use Rattle.word_index.proofs.AskedLemmas.{matches-at}
use Rattle.word_index.proofs.reading.is_match.Goals as goal

pub returns-then-has_all : goal.returns-then-has_all
returns-then-has_all c =
    let all : list_all (λ a. is_listed c.args.tables.now a c.args.n) c.args.asked.now ≡ true = sym c.has_all.ensures ∙ c.if-has_all.true in
    c.in_ranges.ensures ∙ ap (λ (b : Bool). b && in_ranges c.args.days.now c.in-Some.row.now.day) (sym all)
    ∙ matches-at c.args.tables.now c.requires c.args.asked.now c.args.days.now c.args.n c.in-Some.row.now (sym c.in-Some.ensures.value)

pub returns-in-None : goal.returns-in-None
returns-in-None c = ap (λ (o : Option KeptRow). option_map_or (matches_asked c.args.asked.now c.args.days.now) o false) c.in-None.ensures.value
