-- The length, and that many bytes after it.
use Rattle.std.proofs.Common.{◌∙◌, ap, List, ℕ, take, drop, get_or, arith}
use Rattle.root_slots.proofs.Reading.{name_parts, found_is, text_is}
use Rattle.root_slots.proofs.parts.name.Goals as goal

pub returns-then-length-gt64-clause-read : goal.returns-then-length-gt64-clause-read
returns-then-length-gt64-clause-read c = λ text rest valid is.
    let parts = name_parts c.args.bytes.now rest text valid is in
    let front = c.split_at-2.ensures.front ∙ ap (λ (l : List ℕ). take 1 l) c.split_at.ensures.front in
    let count = ap (λ (l : List ℕ). get_or l 0 0) front ∙ parts.count in
    let long = c.if-length-gt64.true in
    let short = valid.short in
    absurd (omega (arith, count, long, short))

pub returns-clause-read : goal.returns-clause-read
returns-clause-read c = λ text rest valid is.
    let bytes = c.args.bytes.now in
    let parts = name_parts bytes rest text valid is in
    let front = c.split_at-2.ensures.front ∙ ap (λ (l : List ℕ). take 1 l) c.split_at.ensures.front in
    let after = c.split_at-2.ensures.back ∙ ap (λ (l : List ℕ). drop 1 l) c.split_at.ensures.front in
    let given = text_is c.split_at-2.result.0.now c.split_at-2.result.1.now bytes rest text front after parts in
    (found_is c.read.result _ text given valid c.read.ensures.found c.read.ensures.none, c.split_at.ensures.back ∙ parts.after)
