use Rattle.std.proofs.Common.{◌≡◌, [], ◌++◌, length, take, drop, refl, arith}
use Rattle.std.proofs.lemmas.Bool.Decides.{nat_tests}
use Rattle.mail_forms.specs.WireForms.{wire_of}
use Rattle.web_text.proofs.Pushing.{kept-on}
use Rattle.imap_items.proofs.Windows.{window-more, window-none, window-end, length-zero}
use Rattle.imap_items.proofs.octets.push_window.Goals as goal

pub loop-rest-preserved : goal.loop-rest-preserved
loop-rest-preserved c =
    let all = c.args.into.now ++ take c.args.room (drop c.args.skip (wire_of c.args.source.now)) in
    let run = c.first_run-run.result in
    let rest = run.sent.now ++ wire_of run.rest.now in
    let first = c.push_slice in
    let second = c.push_slice-in-loop-rest in
    let before = window-more c.loop-rest.into first.new.into all (wire_of c.loop-rest.rest.now) run.unchanged.now rest c.loop-rest.window.room c.loop-rest.window.skip first.new.self.room first.new.self.skip
    c.first_run-run.ensures.sent c.in_ok-push_slice.ensures.ok first.ensures.skip first.ensures.room c.loop-rest.invariant.told in record {
      told = window-more first.new.into second.new.into all rest run.sent.now (wire_of run.rest.now) first.new.self.room first.new.self.skip second.new.self.room second.new.self.skip
          refl c.in_ok-push_slice-2.ensures.ok second.ensures.skip second.ensures.room before;
      kept = kept-on c.args.into.now first.new.into second.new.into (kept-on c.args.into.now c.loop-rest.into first.new.into c.loop-rest.invariant.kept first.ensures.kept) second.ensures.kept;
    }

pub returns-after-loop-rest-clause-ok : goal.returns-after-loop-rest-clause-ok
returns-after-loop-rest-clause-ok c =
    let rest = c.loop-rest.rest.now in
    let none : length rest ≡ 0 = grind (arith, nat_tests, c.is_empty.ensures, c.loop-rest-test.false) in
    let empty : rest ≡ [] = length-zero rest none in
    window-end c.loop-rest.into (c.args.into.now ++ take c.args.room (drop c.args.skip (wire_of c.args.source.now))) (take c.loop-rest.window.room (drop c.loop-rest.window.skip (wire_of rest)))
    (window-none c.loop-rest.window.room c.loop-rest.window.skip rest empty) c.loop-rest.invariant.told
