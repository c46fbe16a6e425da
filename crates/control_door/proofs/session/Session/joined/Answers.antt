use Rattle.std.proofs.Common.{◌≡◌, ◌≤◌, ◌-◌, ◌∙◌, ℕ, List, length, take, ap, arith}
use Rattle.control_door.proofs.Holding.{payload-more, payload-whole, payload-start}
use Rattle.control_door.proofs.session.Session.joined.Goals as goal

pub returns-then-piece-missing : goal.returns-then-piece-missing
returns-then-piece-missing c =
    let held : c.as_slice.result.now ≡ c.args.self.now = c.as_slice.ensures ∙ c.self.view_is in
    payload-more c.args.self.now c.args.piece.now c.args.payload.aim c.args.payload.start c.args.payload.end c.requires (rw held at c.if-piece-missing.true)

pub returns : goal.returns
returns c =
    let old : List ℕ = c.args.self.now in
    let piece : List ℕ = c.args.piece.now in
    let n : ℕ = c.args.payload.end - length old in
    let held : c.as_slice.result.now ≡ old = c.as_slice.ensures ∙ c.self.view_is in
    let long : n ≤ length piece = rw held at c.if-piece-missing.false in
    let last : c.split_at.result.0.now ≡ take n piece = rw held at c.split_at.ensures.front in
    let taken : c.args.payload.end - length c.as_slice.result.now ≡ n = ap (λ (h : List ℕ). c.args.payload.end - length h) held in
    record {
      some = omega (arith, c.requires.missing, taken);
      within = omega (arith, long, taken);
      starts = payload-start old c.args.payload.aim c.args.payload.start c.args.payload.end c.requires;
      stands = rw (taken, last) (payload-whole old piece c.args.payload.aim c.args.payload.start c.args.payload.end c.requires long);
    }
