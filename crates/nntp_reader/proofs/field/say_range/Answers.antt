use Rattle.std.proofs.Common.{◌≡◌, ◌+◌, ◌++◌, ◌∙◌, true, not, IfSome, is_some, refl, sym, subst, rules}
use Rattle.arch_model.specs.Archives.{live, text_of}
use Rattle.arch_model.proofs.Shelving.{stays-same, stays-joined}
use Rattle.line_door.specs.Readers.{as_said, line_reader}
use Rattle.shelf_doors.proofs.Reading.{ahead-none, ahead-all}
use Rattle.shelf_doors.specs.Refusals.{unread_line}
use Rattle.shelf_doors.proofs.Streaming.{under-start, under-more, under-stopped, under-all}
use Rattle.shelf_doors.proofs.Walking.{ahead-number, last-number}
use Rattle.nntp_reader.specs.Commands.{Headers, Field, Within}
use Rattle.nntp_reader.specs.Headers.{field_at, fields_block}
use Rattle.nntp_reader.specs.Notices.{refused_code}
use Rattle.nntp_reader.specs.Replies.{in_way}
use Rattle.nntp_reader.specs.Sessions.{start_if}
use Rattle.nntp_reader.proofs.Streams.{left-value, left-none, left-some, value-some, range-streamed}
use Rattle.nntp_reader.proofs.Walking.{fields-rest}
use Rattle.nntp_reader.proofs.field.say_range.Goals as goal

pub loop-next-init : goal.loop-next-init
loop-next-init g c = record {
  so_far = λ a held. (c.args.range.first, c.live_within-next.ensures.number a held, rw c.new-reply.ensures (under-start (fields_block c.args.name.now (live a.entries) c.args.range.first c.args.range.last) _));
  reads = λ a held. (c.args.range.first, c.live_within-next.ensures.number a held, ahead-none _ _);
  alive = c.live_within-next.ensures.live;
  within = search rules;
  shelf = stays-same g.S.Shelf.holds g.S.Shelf.ready g.S.Shelf.alike g.S.Shelf.faults g.met.S.Shelf.alike_same c.args.shelf.now c.requires.ready;
  sink = g.met.O.Sink.alike_same _;
}

pub push_field-requires-clause-live : goal.push_field-requires-clause-live
push_field-requires-clause-live g c = λ a held.
    subst (λ o. IfSome o (λ n. is_some (text_of (live a.entries) n) ≡ true)) c.in-Some.is (c.loop-next.invariant.alive a held)

pub loop-next-preserved : goal.loop-next-preserved
loop-next-preserved g c = record {
  so_far = λ a held.
      let before = c.loop-next.invariant.so_far a held in
      let now = c.loop-next.invariant.shelf.kept a held in (
        c.in-Some.number + 1,
        c.live_after-next.ensures.number a (c.push_field.ensures.shelf.kept a now),
        under-more _ _ _ _ _ _ before.2 (start_if (not c.loop-next.begun) ++ field_at c.args.name.now (live a.entries) c.in-Some.number) _ c.push_field.new.reply _
            (left-value c.args.name.now (live a.entries) c.loop-next.begun before.0 c.args.range.last c.in-Some.number (fields-rest c.args.name.now (live a.entries) before.0 c.args.range.last c.in-Some.number (sym before.1 ∙ c.in-Some.is)))
            (value-some c.args.name.now (live a.entries) c.loop-next.begun c.in-Some.number (subst (λ o. IfSome o (λ n. is_some (text_of (live a.entries) n) ≡ true)) c.in-Some.is (c.loop-next.invariant.alive a now))) (c.in-Ok.ensures.value a now),
      );
  reads = λ a held.
      let before = c.loop-next.invariant.reads a held in
      let now = c.loop-next.invariant.shelf.kept a held in
      (c.in-Some.number + 1, c.live_after-next.ensures.number a (c.push_field.ensures.shelf.kept a now), ahead-number (live a.entries) _ before.0 c.args.range.last c.in-Some.number _ _ _ (sym before.1 ∙ c.in-Some.is) before.2 c.push_field.ensures.reads);
  alive = c.live_after-next.ensures.live;
  within = search rules;
  shelf = stays-joined g.S.Shelf.holds g.S.Shelf.ready g.S.Shelf.alike g.S.Shelf.faults g.met.S.Shelf.alike_joined _ _ _ c.loop-next.invariant.shelf c.push_field.ensures.shelf;
  sink = g.met.O.Sink.alike_joined _ _ _ c.loop-next.invariant.sink c.push_field.ensures.sink;
}

pub returns-in-Err-clause-acts : goal.returns-in-Err-clause-acts
returns-in-Err-clause-acts g c = λ moment a rest n held start.
    let before = c.loop-next.invariant.so_far a held in
    under-stopped (λ way. as_said rest (in_way moment a c.args.group (Headers (Field c.args.name.now) (Within c.args.range)) way)) a (line_reader c.args.group rest) _ (unread_line refused_code) true
    (range-streamed moment a c.args.group c.args.name.now c.args.range rest n start) _ _ _ _ refl c.loop-next.begun before.2 true (start_if (not c.loop-next.begun) ++ field_at c.args.name.now (live a.entries) c.in-Some.number) _ c.push_field.new.reply c.in-Err.stop _ _ c.end.result
    (left-value c.args.name.now (live a.entries) c.loop-next.begun before.0 c.args.range.last c.in-Some.number (fields-rest c.args.name.now (live a.entries) before.0 c.args.range.last c.in-Some.number (sym before.1 ∙ c.in-Some.is)))
    (left-some c.args.name.now (live a.entries) c.loop-next.begun before.0 c.args.range.last) (λ e. e) (c.in-Err.ensures.value a (c.loop-next.invariant.shelf.kept a held)) (c.end.ensures.ends (g.S.Shelf.faults c.push_field.new.shelf))

pub returns-clause-acts : goal.returns-clause-acts
returns-clause-acts g c = λ moment a rest n held start.
    let before = c.loop-next.invariant.so_far a held in
    let none = left-none c.args.name.now (live a.entries) c.loop-next.begun before.0 c.args.range.last (sym before.1 ∙ c.in_default.is) in
    rw c.after.ensures
    (under-all (λ way. as_said rest (in_way moment a c.args.group (Headers (Field c.args.name.now) (Within c.args.range)) way)) a (line_reader c.args.group rest) _ (unread_line refused_code) true
    (range-streamed moment a c.args.group c.args.name.now c.args.range rest n start) _ _ _ _ c.loop-next.begun before.2 _ c.finish.result refl (rw (none, ← c.start_if.ensures) c.finish.ensures.said))

pub returns-in-Err-clause-reads : goal.returns-in-Err-clause-reads
returns-in-Err-clause-reads g c = λ a held.
    let before = c.loop-next.invariant.reads a held in
    last-number (live a.entries) _ before.0 c.args.range.last c.in-Some.number _ _ _ (sym before.1 ∙ c.in-Some.is) before.2 c.push_field.ensures.reads

pub returns-clause-reads : goal.returns-clause-reads
returns-clause-reads g c = λ a held. ahead-all _ _ _ _ (c.loop-next.invariant.reads a held).2
