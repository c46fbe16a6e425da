use Rattle.std.proofs.Common.{◌+◌, ◌++◌, ◌∙◌, ℕ, List, true, false, nat_lt, get_or, refl, sym, ap, subst, rules, arith}
use Rattle.edge_io.specs.Phrases.{Says}
use Rattle.line_door.specs.Acts.{at_sink}
use Rattle.arch_model.specs.Archives.{Archive}
use Rattle.arch_model.specs.Shelves.{ReadsAhead}
use Rattle.arch_model.proofs.Shelving.{stays-joined}
use Rattle.shelf_doors.proofs.Reading.{ahead-all}
use Rattle.shelf_doors.specs.Refusals.{unread_line}
use Rattle.shelf_doors.proofs.Streaming.{Under, under-stopped, under-all}
use Rattle.imap_messages.specs.Fetching.{asked_fetch, fetch_said, fetch_words, fetch_lines, shown_items, message_line, reads_texts, texts_of}
use Rattle.imap_messages.specs.FetchActs.{named_from}
use Rattle.imap_messages.specs.Picking.{ToldMessage, told_message, picked}
use Rattle.imap_messages.specs.Tagged.{no_code}
use Rattle.imap_messages.proofs.Named.{named-by, passed, left-gone, texts-gone, left-line, texts-live, under-line, start, reads-start, left-some, named-none, texts-needed, texts-spared, ahead-on, ahead-stop, fetch-ways}
use Rattle.imap_messages.proofs.fetch.say_lines.Goals as goal

pub loop-index-init : goal.loop-index-init
loop-index-init g c = record {
  so_far = λ a held. start a (asked_fetch c.args.command.now) c.args.told.now.uids (at_sink g.O.Sink c.args.out.now (g.S.Shelf.faults c.args.shelf.now)) c.new-reply.result c.new-reply.ensures;
  reads = λ a held. reads-start a (asked_fetch c.args.command.now) c.args.told.now.uids (g.S.Shelf.reads c.args.shelf.now);
  within = omega arith;
  shelf = search rules;
  sink = search rules;
}

pub loop-index-preserved-then-not-picks : goal.loop-index-preserved-then-not-picks
loop-index-preserved-then-not-picks g c =
    let f = asked_fetch c.args.command.now in
    let told = c.args.told.now.uids in
    let at = c.loop-index.index in
    let most = λ (a : Archive). texts_of a f (picked f.numbering f.set told) in
    let others = λ (a : Archive). passed a f told at (get_or c.uids-uids.result.now c.loop-index.index 0) (omega (arith, c.loop-index-test.true, c.count-count.ensures.all)) (ap (λ (x : List ℕ). get_or x c.loop-index.index 0) c.uids-uids.ensures) (named-by f told (told_message (at + 1) (get_or c.uids-uids.result.now c.loop-index.index 0)) c.star-star.result false c.star-star.ensures (sym c.picks.ensures ∙ c.if-not-picks.true)) in
    record {
      so_far = λ a held. subst (λ (ms : List ToldMessage). Under (fetch_words a told f) (fetch_lines a f ms c.loop-index.gone) c.loop-index.begun (at_sink g.O.Sink c.args.out.now (g.S.Shelf.faults c.args.shelf.now)) c.loop-index.reply (at_sink g.O.Sink c.loop-index.out (g.S.Shelf.faults c.loop-index.shelf))) (others a) (c.loop-index.invariant.so_far a held);
      reads = λ a held. subst (λ (ms : List ToldMessage). ReadsAhead (most a) (texts_of a f ms) (g.S.Shelf.reads c.args.shelf.now) (g.S.Shelf.reads c.loop-index.shelf)) (others a) (c.loop-index.invariant.reads a held);
      within = (omega (arith, c.loop-index-test.true, c.count-count.ensures.all));
      shelf = c.loop-index.invariant.shelf;
      sink = c.loop-index.invariant.sink;
    }

pub loop-index-preserved-then-not-is_live : goal.loop-index-preserved-then-not-is_live
loop-index-preserved-then-not-is_live g c =
    let f = asked_fetch c.args.command.now in
    let told = c.args.told.now.uids in
    let at = c.loop-index.index in
    let named = (named-by f told (told_message (at + 1) (get_or c.uids-uids.result.now c.loop-index.index 0)) c.star-star.result true c.star-star.ensures (sym c.picks.ensures ∙ c.if-not-picks.false)) in
    record {
      so_far = λ a held.
          let held' = c.loop-index.invariant.shelf.kept a held in
          subst (λ (x : List ℕ). Under (fetch_words a told f) x c.loop-index.begun (at_sink g.O.Sink c.args.out.now (g.S.Shelf.faults c.args.shelf.now)) c.loop-index.reply (at_sink g.O.Sink c.loop-index.out (g.S.Shelf.faults c.loop-index.shelf))) (left-gone a f told at (get_or c.uids-uids.result.now c.loop-index.index 0) (omega (arith, c.loop-index-test.true, c.count-count.ensures.all)) (ap (λ (x : List ℕ). get_or x c.loop-index.index 0) c.uids-uids.ensures) named c.loop-index.gone (c.is_live.ensures a held' ∙ c.if-not-is_live.true)) (c.loop-index.invariant.so_far a held);
      reads = λ a held.
          let held' = c.loop-index.invariant.shelf.kept a held in
          subst (λ (n : ℕ). ReadsAhead (texts_of a f (picked f.numbering f.set told)) n (g.S.Shelf.reads c.args.shelf.now) (g.S.Shelf.reads c.loop-index.shelf)) (texts-gone a f told at (get_or c.uids-uids.result.now c.loop-index.index 0) (omega (arith, c.loop-index-test.true, c.count-count.ensures.all)) (ap (λ (x : List ℕ). get_or x c.loop-index.index 0) c.uids-uids.ensures) named (c.is_live.ensures a held' ∙ c.if-not-is_live.true)) (c.loop-index.invariant.reads a held);
      within = (omega (arith, c.loop-index-test.true, c.count-count.ensures.all));
      shelf = c.loop-index.invariant.shelf;
      sink = c.loop-index.invariant.sink;
    }

pub loop-index-preserved : goal.loop-index-preserved
loop-index-preserved g c =
    let f = asked_fetch c.args.command.now in
    let told = c.args.told.now.uids in
    let at = c.loop-index.index in
    let named = (named-by f told (told_message (at + 1) (get_or c.uids-uids.result.now c.loop-index.index 0)) c.star-star.result true c.star-star.ensures (sym c.picks.ensures ∙ c.if-not-picks.false)) in
    record {
      so_far = λ a held.
          let held' = c.loop-index.invariant.shelf.kept a held in
          under-line a f told at (get_or c.uids-uids.result.now c.loop-index.index 0) (omega (arith, c.loop-index-test.true, c.count-count.ensures.all)) (ap (λ (x : List ℕ). get_or x c.loop-index.index 0) c.uids-uids.ensures) named (c.is_live.ensures a held' ∙ c.if-not-is_live.false) (fetch_words a told f) c.loop-index.gone c.loop-index.begun (at_sink g.O.Sink c.args.out.now (g.S.Shelf.faults c.args.shelf.now)) c.loop-index.reply (at_sink g.O.Sink c.loop-index.out (g.S.Shelf.faults c.loop-index.shelf)) (c.loop-index.invariant.so_far a held)
          c.push_message.new.reply (at_sink g.O.Sink c.push_message.new.out (g.S.Shelf.faults c.push_message.new.shelf)) (c.in-Ok.ensures.line a held');
      reads = λ a held.
          let held' = c.loop-index.invariant.shelf.kept a held in
          ahead-on _ _ _ _ _ _ _ (texts-live a f told at (get_or c.uids-uids.result.now c.loop-index.index 0) (omega (arith, c.loop-index-test.true, c.count-count.ensures.all)) (ap (λ (x : List ℕ). get_or x c.loop-index.index 0) c.uids-uids.ensures) named (c.is_live.ensures a held' ∙ c.if-not-is_live.false)) (c.loop-index.invariant.reads a held) c.in-Ok.ensures.reads;
      within = (omega (arith, c.loop-index-test.true, c.count-count.ensures.all));
      shelf = stays-joined g.S.Shelf.holds g.S.Shelf.ready g.S.Shelf.alike g.S.Shelf.faults g.met.S.Shelf.alike_joined _ _ _ c.loop-index.invariant.shelf c.push_message.ensures.shelf;
      sink = g.met.O.Sink.alike_joined _ _ _ c.loop-index.invariant.sink c.push_message.ensures.sink;
    }

pub returns-in-Err-clause-acts : goal.returns-in-Err-clause-acts
returns-in-Err-clause-acts g c = λ a held inside.
    let f = asked_fetch c.args.command.now in
    let told = c.args.told.now.uids in
    let at = c.loop-index.index in
    let named = (named-by f told (told_message (at + 1) (get_or c.uids-uids.result.now c.loop-index.index 0)) c.star-star.result true c.star-star.ensures (sym c.picks.ensures ∙ c.if-not-picks.false)) in
    let held' = c.loop-index.invariant.shelf.kept a held in
    let texts = texts-live a f told at (get_or c.uids-uids.result.now c.loop-index.index 0) (omega (arith, c.loop-index-test.true, c.count-count.ensures.all)) (ap (λ (x : List ℕ). get_or x c.loop-index.index 0) c.uids-uids.ensures) named (c.is_live.ensures a held' ∙ c.if-not-is_live.false) in
    under-stopped (fetch_said a c.args.told.now f) a c.args.told.now (fetch_words a told f) (unread_line (no_code f.tag)) (nat_lt 0 (texts_of a f (picked f.numbering f.set told))) (fetch-ways a c.args.told.now f inside)
    (fetch_lines a f (named_from f told at) c.loop-index.gone) (at_sink g.O.Sink c.args.out.now (g.S.Shelf.faults c.args.shelf.now)) c.loop-index.reply (at_sink g.O.Sink c.loop-index.out (g.S.Shelf.faults c.loop-index.shelf)) refl c.loop-index.begun (c.loop-index.invariant.so_far a held) (reads_texts f) (message_line a (shown_items f.numbering f.items) (told_message (at + 1) (get_or c.uids-uids.result.now c.loop-index.index 0))) _
    c.push_message.new.reply c.in-Err.stop (at_sink g.O.Sink c.push_message.new.out (g.S.Shelf.faults c.push_message.new.shelf)) (at_sink g.O.Sink c.end.new.out (g.S.Shelf.faults c.push_message.new.shelf)) c.end.result
    (left-line a f told at (get_or c.uids-uids.result.now c.loop-index.index 0) (omega (arith, c.loop-index-test.true, c.count-count.ensures.all)) (ap (λ (x : List ℕ). get_or x c.loop-index.index 0) c.uids-uids.ensures) named c.loop-index.gone (c.is_live.ensures a held' ∙ c.if-not-is_live.false)) (left-some a f (named_from f told at) c.loop-index.gone) (texts-needed (reads_texts f) _ _ _ _ _ texts (c.loop-index.invariant.reads a held))
    (c.in-Err.ensures.line a held') (c.end.ensures.ends (g.S.Shelf.faults c.push_message.new.shelf))

pub returns-in-Err-clause-reads : goal.returns-in-Err-clause-reads
returns-in-Err-clause-reads g c = λ a held.
    let f = asked_fetch c.args.command.now in
    let told = c.args.told.now.uids in
    let at = c.loop-index.index in
    let named = (named-by f told (told_message (at + 1) (get_or c.uids-uids.result.now c.loop-index.index 0)) c.star-star.result true c.star-star.ensures (sym c.picks.ensures ∙ c.if-not-picks.false)) in
    let held' = c.loop-index.invariant.shelf.kept a held in
    ahead-stop _ _ _ _ _ _ _ (texts-live a f told at (get_or c.uids-uids.result.now c.loop-index.index 0) (omega (arith, c.loop-index-test.true, c.count-count.ensures.all)) (ap (λ (x : List ℕ). get_or x c.loop-index.index 0) c.uids-uids.ensures) named (c.is_live.ensures a held' ∙ c.if-not-is_live.false)) (c.loop-index.invariant.reads a held) c.in-Err.ensures.reads

pub returns-in-Err-clause-spared : goal.returns-in-Err-clause-spared
returns-in-Err-clause-spared g c = λ a held none.
    let f = asked_fetch c.args.command.now in
    let told = c.args.told.now.uids in
    let at = c.loop-index.index in
    let named = (named-by f told (told_message (at + 1) (get_or c.uids-uids.result.now c.loop-index.index 0)) c.star-star.result true c.star-star.ensures (sym c.picks.ensures ∙ c.if-not-picks.false)) in
    let held' = c.loop-index.invariant.shelf.kept a held in
    let texts = texts-live a f told at (get_or c.uids-uids.result.now c.loop-index.index 0) (omega (arith, c.loop-index-test.true, c.count-count.ensures.all)) (ap (λ (x : List ℕ). get_or x c.loop-index.index 0) c.uids-uids.ensures) named (c.is_live.ensures a held' ∙ c.if-not-is_live.false) in
    c.in-Err.ensures.spared a held' (texts-spared (reads_texts f) _ _ _ _ _ texts (c.loop-index.invariant.reads a held) none) ∙ (c.loop-index.invariant.so_far a held).kept

pub returns-clause-acts : goal.returns-clause-acts
returns-clause-acts g c = λ a held inside.
    let f = asked_fetch c.args.command.now in
    let told = c.args.told.now.uids in
    let at = c.loop-index.index in
    rw c.after.ensures
    (under-all (fetch_said a c.args.told.now f) a c.args.told.now (fetch_words a told f) (unread_line (no_code f.tag)) _ (fetch-ways a c.args.told.now f inside) (fetch_lines a f (named_from f told at) c.loop-index.gone) (at_sink g.O.Sink c.args.out.now (g.S.Shelf.faults c.args.shelf.now)) c.loop-index.reply (at_sink g.O.Sink c.loop-index.out (g.S.Shelf.faults c.loop-index.shelf))
    c.loop-index.begun (c.loop-index.invariant.so_far a held) (at_sink g.O.Sink c.say_end.new.out (g.S.Shelf.faults c.loop-index.shelf)) c.say_end.result refl
    (subst (λ (x : List ℕ). Says (c.loop-index.reply ++ x) (g.O.Sink.taken c.loop-index.out) (g.O.Sink.faults c.loop-index.out) (g.O.Sink.taken c.say_end.new.out) (g.O.Sink.faults c.say_end.new.out) c.say_end.result)
    (sym (named-none a f told at c.loop-index.gone (omega (arith, c.loop-index-test.false, c.count-count.ensures.all)))) c.say_end.ensures.said))

pub returns-clause-reads : goal.returns-clause-reads
returns-clause-reads g c = λ a held. ahead-all _ _ _ _ (c.loop-index.invariant.reads a held)

pub returns-clause-spared : goal.returns-clause-spared
returns-clause-spared g c = λ a held none. (c.loop-index.invariant.so_far a held).kept
