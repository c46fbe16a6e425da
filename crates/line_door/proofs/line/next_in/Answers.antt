-- The scan of a piece up to its first line feed.
use Rattle.std.proofs.Common.{◌≡◌, ◌<◌, ℕ, length, take, get_or, sym, ap, ◌∙◌, List, arith}
use Rattle.std.proofs.lemmas.Bool.{eqb-true, eq-eqb}
use Rattle.std.proofs.lemmas.List.{get_or-take}
use Rattle.line_door.proofs.Fronts.{ahead-line, front-partial, front-more, front-long, first_line-none}
use Rattle.line_door.proofs.line.next_in.Goals as goal

pub returns-in-Some : goal.returns-in-Some
returns-in-Some c =
    let e = c.in-Some.ensures in
    let short = c.if-piece-room.true in
    let high : c.in-Some.n < length c.args.piece.now = e.0.high in
    ahead-line c.args.limit c.args.held.now c.args.piece.now c.in-Some.n c.requires high (eqb-true _ 10 e.1) (λ k l is. e.0.before k (omega arith) l (eq-eqb _ 10 is)) (omega arith)

pub returns-in-None : goal.returns-in-None
returns-in-None c =
    let none = c.in-None.ensures in
    let short = c.if-piece-room.true in
    front-more c.args.limit c.args.held.now c.args.piece.now c.requires (first_line-none c.args.piece.now (λ k l is. none k (omega arith) l (eq-eqb _ 10 is))) (omega arith)

-- The first bytes of the piece are those of the scanned part.
same-byte : (room k : ℕ) (piece near : List ℕ) → near ≡ take room piece → length near ≡ room → k < length near → get_or near k 0 ≡ get_or piece k 0
same-byte room k piece near e len l = ap (λ (x : List ℕ). get_or x k 0) e ∙ get_or-take room piece k 0 (omega arith)

pub returns-in-Some-memchr : goal.returns-in-Some-memchr
returns-in-Some-memchr c =
    let e = c.in-Some-memchr.ensures in
    let near = c.split_at.result.0.now in
    let is = c.split_at.ensures.front in
    let len = c.split_at.ensures.front_len in
    let fits = c.if-piece-room.false in
    let high : c.in-Some-memchr.n < length near = e.0.high in
    ahead-line c.args.limit c.args.held.now c.args.piece.now c.in-Some-memchr.n c.requires (omega arith)
    (sym (same-byte _ c.in-Some-memchr.n c.args.piece.now near is len high) ∙ eqb-true _ 10 e.1)
    (λ k l ten. e.0.before k (omega arith) l (eq-eqb _ 10 (same-byte _ k c.args.piece.now near is len (omega arith) ∙ ten))) (omega arith)

pub returns-in-None-memchr : goal.returns-in-None-memchr
returns-in-None-memchr c =
    let none = c.in-None-memchr.ensures in
    let near = c.split_at.result.0.now in
    let is = c.split_at.ensures.front in
    let len = c.split_at.ensures.front_len in
    let fits = c.if-piece-room.false in
    let short = (front-partial c.args.limit c.args.held.now c.requires).1 in
    front-long c.args.limit c.args.held.now c.args.piece.now (length near) c.requires (omega (arith, short)) (omega arith)
    (λ k l ten. none k (omega arith) l (eq-eqb _ 10 (same-byte _ k c.args.piece.now near is len l ∙ ten)))
