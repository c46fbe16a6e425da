-- A streamed reply under way, of any door: its words wait, and it stops when a text isn't read.
use Rattle.std.proofs.Common.{◌≡◌, ◌≤◌, ◌<◌, ◌⊎◌, ◌&&◌, if◌then◌else◌, ℕ, zero, suc, min, Bool, true, false, List, [], ◌++◌, length, take, Option, None, Result, Ok, Err, is_ok, inl, inr, refl, sym, ap, subst, ◌∙◌, append_assoc, length-append, arith}
use Rattle.arch_base.specs.Counts.{Rose}
use Rattle.arch_model.specs.Next.{continues}
use Rattle.arch_model.specs.declared.next.Next.{Next}
use Rattle.arch_model.specs.declared.text_refusal.TextRefusal.{TextRefusal}
use Rattle.arch_model.specs.declared.text_refusal.TextRefusal.TheVariants as refusal
use Rattle.edge_io.specs.Taken.{plus}
use Rattle.edge_io.specs.Phrases.{Says}
use Rattle.edge_io.specs.declared.sink.SinkFault.{SinkFault}
use Rattle.edge_io.proofs.Wording.{take-first}
use Rattle.line_door.specs.Acts.{ConnectionState, Said, Departure, Plain, Memory, Disk, DepartureCause, SaidShort, Acts, held_if}
use Rattle.line_door.proofs.Acting.{acts-by_says}
use Rattle.line_door.proofs.Streaming.{acts-short}
use Rattle.wire_replies.proofs.Wording.{SoFar, sofar-none, sofar-lost, Waits-then, Waits-flushed}
use Rattle.shelf_doors.proofs.Replying.{Waits-ended}
use Rattle.shelf_doors.specs.Refusals.{SaysWhy}
use Rattle.shelf_doors.specs.Streams.{says_if, Given, Missed, StreamsNext, EndsAt, StreamWays}
use Rattle.shelf_doors.specs.declared.streamed.StreamStop.{StreamStop}
use Rattle.shelf_doors.specs.declared.streamed.StreamStop.TheVariants as stop

-- A write that failed after the reply had to stop: what was taken is a prefix of the reply.
module _ {H A : Type 0} (words : Departure → Said H A) (s : Said H A) (front more : List ℕ) (i k : ConnectionState) (a : A) where
  short_of : (count : ℕ) → words Plain ≡ s → s.streamed ≡ true → s.words ≡ front ++ more → 0 < length front → 0 < length more → a ≡ s.after → k.out ≡ plus i.out (take (suc count) front) → SaidShort (words Plain) i None a k
  short_of count is streamed parts some rest after out = subst (λ (t : Said H A). SaidShort t i None a k) (sym is) (record {
    streamed = streamed;
    held_is = refl;
    after_is = after;
    count = min (suc count) (length front);
    some = omega (arith, some);
    proper = omega (arith, rest, ap length parts, length-append front more);
    out_is = out ∙ ap (plus i.out) (sym (ap (take (min (suc count) (length front))) parts ∙ take-first (suc count) front more));
  })

  acts-lost_short : (way : Departure) (count : ℕ) → ((w : Departure) → a ≡ (words w).after) → (SaidShort (words Plain) i None a k → Acts words i None a k) → DepartureCause way i.disk k.disk → i.disk ≤ k.disk → i.lost ≤ k.lost → Rose i.lost k.lost
      → words Plain ≡ s → s.streamed ≡ true → s.words ≡ front ++ more → 0 < length front → 0 < length more → k.out ≡ plus i.out (take count front) → Acts words i None a k
  acts-lost_short way zero after by_short cause later lost rose is streamed parts some rest out = record {
    way = way;
    cause = cause;
    disk_later = later;
    lost_later = lost;
    sent = inr (inl (record { lost_rose = rose; held_is = refl; after_is = after way; count = 0; out_is = out }));
  }
  acts-lost_short way (suc count) after by_short cause later lost rose is streamed parts some rest out =
      by_short (short_of count is streamed parts some rest (after Plain ∙ ap (λ (t : Said H A). t.after) is) out)

  -- A streamed reply stops: what waits of it is written, or the write fails, too.
  pub acts-stopped : (sent : Result Unit SinkFault) → ((w : Departure) → a ≡ (words w).after) → words Plain ≡ s → s.streamed ≡ true → s.words ≡ front ++ more → 0 < length front → 0 < length more
      → Rose i.disk k.disk ⊎ (k.disk ≡ i.disk) → i.disk ≤ k.disk → Says front i.out i.lost k.out k.lost sent → Acts words i None a k
  acts-stopped (Ok done) after is streamed parts some rest cause later said = acts-short words s front more i k a is streamed parts some rest cause later said (after Plain ∙ ap (λ (t : Said H A). t.after) is)
  acts-stopped (Err fault) after is streamed parts some rest (inl rose) later said =
      acts-lost_short Disk said.2.0 after (λ short. record { way = Disk; cause = rose; disk_later = later; lost_later = said.0; sent = inr (inr short) }) rose later said.0 said.1 is streamed parts some rest said.2.1
  acts-stopped (Err fault) after is streamed parts some rest (inr kept) later said =
      acts-lost_short Memory said.2.0 after (λ short. record { way = Memory; cause = kept; disk_later = later; lost_later = said.0; sent = inr (inr short) }) kept later said.0 said.1 is streamed parts some rest said.2.1

-- Of a reply some words were appended, and others are left. `begun` says whether any were.
pub record Under (reply left : List ℕ) (begun : Bool) (i : ConnectionState) (waiting : List ℕ) (j : ConnectionState) : Type 0 where
  pub so_far : SoFar reply left [] i.out i.lost waiting j.out j.lost
  pub some : begun ≡ true → 0 < length so_far.front
  pub none : begun ≡ false → (j.out ≡ i.out) × (j.lost ≡ i.lost)
  pub kept : j.disk ≡ i.disk

-- Nothing was appended.
pub under-start : (reply : List ℕ) (i : ConnectionState) → Under reply reply false i [] i
under-start reply i = record {
  so_far = sofar-none reply [] i.out i.lost;
  some = λ e. absurd (cc e);
  none = λ e. (refl, refl);
  kept = refl;
}

module _ (reply left : List ℕ) (begun : Bool) (i : ConnectionState) (waiting : List ℕ) (j : ConnectionState) (before : Under reply left begun i waiting j) where
  -- The next words were appended.
  pub under-more : (piece rest new : List ℕ) (k : ConnectionState) → left ≡ piece ++ rest → 0 < length piece → Given piece waiting j (Ok tt) new k → Under reply rest true i new k
  under-more piece rest new k is some given = record {
    so_far = record {
      front = before.so_far.front ++ piece;
      joined = before.so_far.joined ∙ ap (λ (x : List ℕ). before.so_far.front ++ x) is ∙ sym (append_assoc before.so_far.front piece rest);
      waits = Waits-then before.so_far.front piece [] waiting new i.out j.out k.out i.lost j.lost k.lost tt (Ok tt) before.so_far.waits given.1;
    };
    some = λ e. omega (arith, some, length-append before.so_far.front piece);
    none = λ e. absurd (cc e);
    kept = given.0 ∙ before.kept;
  }

-- A cause after the disk's count was kept.
cause-on : (first before now last : ℕ) → before ≡ first → last ≡ now → Rose before now ⊎ (now ≡ before) → Rose first last ⊎ (last ≡ first)
cause-on first before now last kept same (inl rose) = let more : Rose first last = omega (arith, kept, same, rose) in inl more
cause-on first before now last kept same (inr stayed) = inr (same ∙ stayed ∙ kept)

held-if : {H : Type 0} (goes : Bool) (h : H) (sent : Result Unit SinkFault) → held_if (goes && is_ok sent) h ≡ (if is_ok sent then held_if goes h else None)
held-if true h (Ok done) = refl
held-if true h (Err fault) = refl
held-if false h (Ok done) = refl
held-if false h (Err fault) = refl

-- Words were said, and the session goes on if it goes on after them and they were taken.
acts-if : {H A : Type 0} (words : Departure → Said H A) (way : Departure) (a : A) (goes : Bool) (h : H) (streamed : Bool) (text : List ℕ) (i k : ConnectionState) (sent : Result Unit SinkFault) → words way ≡ says_if a goes h streamed text → DepartureCause way i.disk k.disk → i.disk ≤ k.disk
    → Says text i.out i.lost k.out k.lost sent → Acts words i (held_if (goes && is_ok sent) h) a k
acts-if words way a goes h streamed text i k sent is cause later said = acts-by_says words way (says_if a goes h streamed text) i k (held_if (goes && is_ok sent) h) a sent is cause later said (held-if goes h sent) refl

-- An act that says why something wasn't made.
pub acts-why : {H A : Type 0} (words : Departure → Said H A) (a : A) (h : H) (stays : Bool) (line : TextRefusal → List ℕ) (needs : Bool) (i k : ConnectionState) (sent : Result Unit SinkFault) → words Memory ≡ says_if a stays h false (line refusal.NoMemory)
    → (needs ≡ true → words Disk ≡ says_if a stays h false (line refusal.DiskFault)) → SaysWhy needs line i sent k → Acts words i (held_if (stays && is_ok sent) h) a k
acts-why words a h stays line true i k sent memory disk (inl fault) = acts-if words Disk a stays h false (line refusal.DiskFault) i k sent (disk refl) fault.0 fault.1 fault.2
acts-why words a h stays line true i k sent memory disk (inr out) = acts-if words Memory a stays h false (line refusal.NoMemory) i k sent memory out.0 (omega (arith, out.0)) out.1
acts-why words a h stays line false i k sent memory disk out = acts-if words Memory a stays h false (line refusal.NoMemory) i k sent memory out.0 (omega (arith, out.0)) out.1

module _ {H A : Type 0} {goes stays : Bool} (words : Departure → Said H A) (a : A) (h : H) (reply : List ℕ) (line : TextRefusal → List ℕ) (reads : Bool) (ways : StreamWays words a h goes stays reply line reads) (left : List ℕ) (i : ConnectionState) (waiting : List ℕ) (j : ConnectionState) where
  -- A write failed at the next words.
  pub under-lost : (begun : Bool) → Under reply left begun i waiting j → (piece rest new : List ℕ) (k : ConnectionState) (fault : SinkFault) → left ≡ piece ++ rest → Given piece waiting j (Err fault) new k → Acts words i None a k
  under-lost begun before piece rest new k fault is given =
      acts-by_says words Plain (says_if a goes h true reply) i k None a (Err fault) ways.by_rules (given.0 ∙ before.kept) (let kept = before.kept in omega (arith, given.0, kept))
      (sofar-lost reply [] i.out i.lost left waiting j.out j.lost before.so_far piece rest k.out k.lost fault is given.1) refl refl

  -- Before the first words, it was said why they weren't made.
  pub under-unread : (begun : Bool) → Under reply left begun i waiting j → (needs : Bool) (k : ConnectionState) (sent : Result Unit SinkFault) → begun ≡ false → (needs ≡ true → reads ≡ true) → SaysWhy needs line j sent k → Acts words i (held_if (stays && is_ok sent) h) a k
  under-unread begun before needs k sent not_begun needed why =
      acts-why words a h stays line needs i k sent ways.no_memory (λ e. ways.no_disk (needed e)) (subst (λ (o : ConnectionState). SaysWhy needs line o sent k) still why)
    where
      still : j ≡ i
      still = let none = before.none not_begun in λ e. record { out = none.0 e; disk = before.kept e; lost = none.1 e }

  -- After some words a text wasn't read, and what waits is written.
  pub under-short : (begun : Bool) → Under reply left begun i waiting j → (new : List ℕ) (k m : ConnectionState) (sent : Result Unit SinkFault) → begun ≡ true → 0 < length left → Missed waiting j new k → m.disk ≡ k.disk → Says new k.out k.lost m.out m.lost sent → Acts words i None a m
  under-short begun before new k m sent started more missed same said =
      let on : Says waiting j.out j.lost m.out m.lost sent = subst (λ (x : List ℕ). Says x j.out j.lost m.out m.lost sent) missed.0
      (subst (λ (o : Option (List ℕ)). Says new o j.lost m.out m.lost sent) missed.1
      (subst (λ (l : ℕ). Says new k.out l m.out m.lost sent) missed.2 said)) in
      acts-stopped words (says_if a goes h true reply) before.so_far.front left i m a sent ways.after ways.by_rules refl before.so_far.joined (before.some started) more
      (cause-on i.disk j.disk k.disk m.disk before.kept same missed.4) (let later = missed.3 in omega (arith, before.kept, same))
      (Waits-flushed before.so_far.front [] waiting i.out j.out m.out i.lost j.lost m.lost tt sent before.so_far.waits on)

  -- The reply ends where it stops at the next words.
  pub under-stopped : stays ≡ true → (begun : Bool) → Under reply left begun i waiting j → (needs : Bool) (piece rest new : List ℕ) (stopped : StreamStop) (k m : ConnectionState) (next : Next) → left ≡ piece ++ rest → 0 < length left → (needs ≡ true → reads ≡ true)
      → StreamsNext line needs piece begun waiting j (Err stopped) new k → EndsAt stopped new k next m → Acts words i (held_if (continues next) h) a m
  under-stopped on begun before needs piece rest new (stop.Unread sent) k m next is some needed why ends =
      rw (ends.0, ends.1) (subst (λ (b : Bool). Acts words i (held_if (b && is_ok sent) h) a k) on (under-unread begun before needs k sent why.0 needed why.2))
  under-stopped on begun before needs piece rest new stop.Short k m next is some needed short ends = rw ends.0 (under-short begun before new k m ends.2.0 short.0 some short.1 ends.1 ends.2.1)
  under-stopped on begun before needs piece rest new stop.Lost k m next is some needed lost ends = rw (ends.0, ends.1) (under-lost begun before piece rest new k lost.0 is lost.1)

  -- All words were appended, and the last were written.
  pub under-all : (begun : Bool) → Under reply left begun i waiting j → (k : ConnectionState) (sent : Result Unit SinkFault) → k.disk ≡ j.disk → Says (waiting ++ left) j.out j.lost k.out k.lost sent → Acts words i (held_if (goes && is_ok sent) h) a k
  under-all begun before k sent same said =
      acts-if words Plain a goes h true reply i k sent ways.by_rules (same ∙ before.kept) (let kept = before.kept in omega (arith, same, kept))
      (rw before.so_far.joined (Waits-ended before.so_far.front left [] waiting i.out j.out k.out i.lost j.lost k.lost tt sent before.so_far.waits said))
