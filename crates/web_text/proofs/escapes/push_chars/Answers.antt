use Rattle.std.proofs.Common.{sym, ◌∙◌, append_assoc, append-nil}
use Rattle.std.proofs.lemmas.Str.{IsUtf8-past_char}
use Rattle.web_text.proofs.Pieces.{escaped-empty, escaped-step}
use Rattle.web_text.proofs.Pushing.{kept-on}
use Rattle.web_text.proofs.escapes.push_chars.Goals as goal

pub loop-c-preserved : goal.loop-c-preserved
loop-c-preserved c =
    let held = c.loop-c.invariant in
    let parts = c.in-Some.ensures.steps.0 in
    let step = escaped-step _ _ c.in-Some.c held.utf8 parts in record {
      utf8 = IsUtf8-past_char _ _ c.in-Some.c held.utf8 parts;
      pushed = rw (c.in_ok-push_char.ensures.ok, append_assoc) (rw step at held.pushed);
      kept = kept-on c.args.into.now c.loop-c.into c.push_char.new.into held.kept c.push_char.ensures.kept;
    }

pub returns-clause-ok : goal.returns-clause-ok
returns-clause-ok c = sym (append-nil _) ∙ rw (escaped-empty _ c.in-None.ensures.steps.0.0) at c.loop-c.invariant.pushed
