use Rattle.std.proofs.Common.{◌≡◌, ◌∙◌, ◌++◌, ℕ, List, true, false, refl, sym, subst, rules}
use Rattle.edge_io.specs.Phrases.{Says}
use Rattle.imap_commands.proofs.Leaving.{laws_hold}
use Rattle.imap_session.proofs.TagReading.{starved-tagged, starved-untagged, starved-words}
use Rattle.imap_session.proofs.starved.say_starved.Goals as goal

pub returns-then-not-is_readable-clause-acts : goal.returns-then-not-is_readable-clause-acts
returns-then-not-is_readable-clause-acts g c = λ a s disk.
    let none : c.is_readable.result ≡ false = search rules in
    starved-untagged laws_hold.memory a s (c.args.held.now ++ c.args.last.now) _ _ _ _ c.say_bye_memory.result c.tag_parts-parts.ensures refl (sym c.is_readable.ensures ∙ none) c.say_bye_memory.ensures.said

pub returns-clause-acts : goal.returns-clause-acts
returns-clause-acts g c = λ a s disk.
    let some : c.is_readable.result ≡ true = search rules in
    rw c.after.ensures
    (starved-tagged laws_hold.memory a s (c.args.held.now ++ c.args.last.now) _ _ _ _ c.send.result c.tag_parts-parts.ensures refl (sym c.is_readable.ensures ∙ some)
    (subst (λ (w : List ℕ). Says w (g.O.Sink.taken c.args.out.now) (g.O.Sink.faults c.args.out.now) (g.O.Sink.taken c.send.new.out) (g.O.Sink.faults c.send.new.out) c.send.result) (starved-words c.tag_parts-parts.result.tag.now c.tag_parts-parts.result.more.now) c.send.ensures.said))
