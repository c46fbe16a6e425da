-- The frames of an event, from the connections that were touched.
use Rattle.std.proofs.Math.Seq.{take-length}
use Rattle.std.proofs.Common.{◌≡◌, ◌≤◌, ◌<◌, ◌+◌, ◌-◌, ◌⊎◌, inl, inr, zero, suc, ℕ, Bool, true, false, ◌==◌, nat_lt, if◌then◌else◌, List, [], ◌∷◌, ◌++◌, Option, Some, None, ◌≢◌, length, take, drop, min, replicate, refl, sym, ◌∙◌, ap, subst, arith, append_assoc, append-nil, length-append}
use Rattle.std.proofs.lemmas.Bool.Decides.{nat_tests}
use Rattle.std.proofs.lemmas.Grind.{common_steps}
use Rattle.std.proofs.lemmas.List.{length-replicate, get_or-replicate, take-append-le}
use Rattle.std.proofs.lemmas.Option.{slice_get-get_or, slice_get_past}
use Rattle.std.specs.List.{slice_get}
use Rattle.edge_io.specs.Frames.{Outputs, bytes_or_none, count_or_0, written, closing, each_from, each_connection, event_frame, written_between, closing_between, frames_from, frames_of, last_from, last_of, nothing, FirstFrames}
use Rattle.edge_io.specs.Hosts.{SameEvents, OthersKept}
use Rattle.edge_io.specs.Passing.{PassedEvents, given_of, left_of}
use Rattle.edge_io.specs.Taken.{plus}
use Rattle.edge_io.specs.MemHosts.{outputs_in, IsUnused}
use Rattle.edge_io.specs.ScriptHosts.{mark_at, marked, IsAtMark, IsOutside, AreMarked, AgreeOn, Scripting, begun_of, Collected, Recorded}
use Rattle.edge_io.specs.declared.marks.Mark.{Mark}
use Rattle.edge_io.specs.declared.marks.Touched.{Touched}

-- A list of zeros, index by index.
zeros-at : (n i : ℕ) (b : Bool) → nat_lt i n ≡ b → slice_get {X = ℕ} (replicate n 0) i ≡ (if b then Some 0 else None)
zeros-at n i true is =
    let less : i < n = grind (arith, nat_tests) in
    let size : length {A = ℕ} (replicate n 0) ≡ n = length-replicate {A = ℕ} n 0 in
    slice_get-get_or {X = ℕ} (replicate n 0) i 0 (omega (arith, size, less)) ∙ ap Some (get_or-replicate n i 0 0 less)
zeros-at n i false is =
    let past : n ≤ i = grind (arith, nat_tests) in
    let size : length {A = ℕ} (replicate n 0) ≡ n = length-replicate {A = ℕ} n 0 in
    slice_get_past {X = ℕ} (replicate n 0) i (omega (arith, size, past))

pub zeros_made : (n : ℕ) (made : List ℕ) → made ≡ replicate n 0 → (i : ℕ) → slice_get made i ≡ (if nat_lt i n then Some 0 else None)
zeros_made n made is i = ap (λ (l : List ℕ). slice_get l i) is ∙ zeros-at n i (nat_lt i n) refl

-- Texts of connections in a row.

-- One more connection.
pub each-more : (text : ℕ → List ℕ) (first count : ℕ) → each_from text first (suc count) ≡ each_from text first count ++ text (first + count)
each-more text first zero = append-nil (text first) ∙ ap text (omega arith)
each-more text first (suc count) =
    let tail = each-more text (suc first) count in
    let last : suc first + count ≡ first + suc count = omega arith in
    ap (λ l. text first ++ l) (tail ∙ ap (λ n. each_from text (suc first) count ++ text n) last) ∙ sym (append_assoc (text first) (each_from text (suc first) count) (text (first + suc count)))

-- Two rows of connections, one after the other.
each-split : (text : ℕ → List ℕ) (first m n : ℕ) → each_from text first (m + n) ≡ each_from text first m ++ each_from text (first + m) n
each-split text first zero n =
    let same : first ≡ first + 0 = omega arith in
    let rest : 0 + n ≡ n = omega arith in
    ap (λ k. each_from text first k) rest ∙ ap (λ k. each_from text k n) same
each-split text first (suc m) n =
    let here : suc first + m ≡ first + suc m = omega arith in
    let whole : suc m + n ≡ suc (m + n) = omega arith in
    ap (λ k. each_from text first k) whole
    ∙ ap (λ l. text first ++ l) (each-split text (suc first) m n ∙ ap (λ k. each_from text (suc first) m ++ each_from text k n) here)
    ∙ sym (append_assoc (text first) (each_from text (suc first) m) (each_from text (first + suc m) n))

-- Connections without a text.
each-none : (text : ℕ → List ℕ) (first count : ℕ) → ((conn : ℕ) → first ≤ conn → conn < first + count → text conn ≡ []) → each_from text first count ≡ []
each-none text first zero none = refl
each-none text first (suc count) none =
    ap (λ l. l ++ each_from text (suc first) count) (none first (omega arith) (omega arith))
    ∙ each-none text (suc first) count (λ conn low high. none conn (omega (arith, low)) (omega (arith, high)))

-- Texts that are the same.
each-same : (a b : ℕ → List ℕ) (first count : ℕ) → ((conn : ℕ) → conn < first + count → a conn ≡ b conn) → each_from a first count ≡ each_from b first count
each-same a b first zero same = refl
each-same a b first (suc count) same =
    ap (λ l. l ++ each_from a (suc first) count) (same first (omega arith))
    ∙ ap (λ l. b first ++ l) (each-same a b (suc first) count (λ conn high. same conn (omega (arith, high))))

-- All connections up to a bound, of which those outside a range have no text.
each-within : (text : ℕ → List ℕ) (first after most : ℕ) → first ≤ after → after ≤ most → ((conn : ℕ) → conn < most → (conn < first) ⊎ (after ≤ conn) → text conn ≡ [])
    → each_from text 0 most ≡ each_from text first (after - first)
each-within text first after most low high none =
    let whole : most ≡ first + ((after - first) + (most - after)) = omega arith in
    let end : first + (after - first) ≡ after = omega arith in
    ap (λ n. each_from text 0 n) whole
    ∙ each-split text 0 first ((after - first) + (most - after))
    ∙ ap (λ k. each_from text 0 first ++ each_from text k ((after - first) + (most - after))) (let here : 0 + first ≡ first = omega arith in here)
    ∙ ap (λ l. l ++ each_from text first ((after - first) + (most - after))) (each-none text 0 first (λ conn p q. none conn (omega (arith, q)) (inl (omega (arith, q)))))
    ∙ each-split text first (after - first) (most - after)
    ∙ ap (λ l. each_from text first (after - first) ++ l) (each-none text (first + (after - first)) (most - after) (λ conn p q. none conn (omega (arith, q, end)) (inr (omega (arith, p, end)))))
    ∙ append-nil (each_from text first (after - first))

-- The same where the range may be empty, as its end may come before its start.
pub each-touched : (text : ℕ → List ℕ) (first after most : ℕ) → after ≤ most → ((conn : ℕ) → conn < most → (conn < first) ⊎ (after ≤ conn) → text conn ≡ [])
    → each_from text 0 most ≡ each_from text first (after - first)
each-touched text first after most high none = by (nat_lt after first) refl
  where
    by : (b : Bool) → nat_lt after first ≡ b → each_from text 0 most ≡ each_from text first (after - first)
    by true is =
        let less : after < first = grind (arith, nat_tests) in
        let empty : after - first ≡ 0 = omega (arith, less) in
        each-none text 0 most (λ conn p q. none conn (omega (arith, q)) (grind (arith, less))) ∙ ap (λ n. each_from text first n) (sym empty)
    by false is = each-within text first after most (grind (arith, nat_tests)) high none

-- The same of all connections of a script.
each_connection-touched : (text : ℕ → List ℕ) (first after : ℕ) → after ≤ 65536 → ((conn : ℕ) → conn < 65536 → (conn < first) ⊎ (after ≤ conn) → text conn ≡ [])
    → each_connection text ≡ each_from text first (after - first)
unfolding each_connection
each_connection-touched text first after high none = each-touched text first after 65536 high none

each_connection-same : (a b : ℕ → List ℕ) → ((conn : ℕ) → conn < 65536 → a conn ≡ b conn) → each_connection a ≡ each_connection b
unfolding each_connection
each_connection-same a b same = each-same a b 0 65536 (λ conn high. same conn (omega (arith, high)))

-- Marks.

abbrev pub zero-mark : Mark
zero-mark = record { len = 0; closings = 0 }

take-all : (xs : List ℕ) (n : ℕ) → length xs ≤ n → take n xs ≡ xs
take-all xs n long = grind (arith, common_steps)

drop-all : (xs : List ℕ) (n : ℕ) → length xs ≤ n → drop n xs ≡ []
drop-all xs n long = grind (arith, common_steps)

-- What was marked of a connection at its mark is what it has taken.
pub agrees : (now : Outputs) (marks : List Mark) (conn : ℕ) → IsAtMark now marks conn → AgreeOn (marked now marks) now conn
agrees now marks conn is = record {
  taken_agree = take-all (bytes_or_none (now.taken conn)) (mark_at marks conn).len is.taken_at;
  closings_agree = sym is.closings_at;
}

-- A connection at its mark has no frame.
written-none : (now : Outputs) (marks : List Mark) (conn : ℕ) → IsAtMark now marks conn → written_between (marked now marks) now conn ≡ []
written-none now marks conn is =
    let bytes = bytes_or_none (now.taken conn) in
    let same : take (mark_at marks conn).len bytes ≡ bytes = (agrees now marks conn is).taken_agree in
    ap (λ (l : List ℕ). written conn (drop (length l) bytes)) same ∙ ap (written conn) (drop-all bytes (length bytes) (omega arith))

not-below : (a b : ℕ) → a ≡ b → nat_lt b a ≡ false
not-below a b e = grind (arith, nat_tests)

closing-none : (now : Outputs) (marks : List Mark) (conn : ℕ) → IsAtMark now marks conn → closing_between (marked now marks) now conn ≡ []
closing-none now marks conn is = ap (closing conn) (not-below (count_or_0 (now.closings conn)) (mark_at marks conn).closings is.closings_at)

-- The frames of an event are those of the connections that were touched.
pub touched-frame : (now : Outputs) (marks : List Mark) (touched : Touched) → AreMarked now marks touched
    → event_frame (marked now marks) now ≡ each_from (written_between (marked now marks) now) touched.first (touched.after - touched.first)
    ++ each_from (closing_between (marked now marks) now) touched.first (touched.after - touched.first)
touched-frame now marks touched is =
    let before = marked now marks in
    let first : each_connection (written_between before now) ≡ each_from (written_between before now) touched.first (touched.after - touched.first) =
    each_connection-touched (written_between before now) touched.first touched.after is.bounded (λ conn small out. written-none now marks conn (is.others_at conn small out)) in
    let second : each_connection (closing_between before now) ≡ each_from (closing_between before now) touched.first (touched.after - touched.first) =
    each_connection-touched (closing_between before now) touched.first touched.after is.bounded (λ conn small out. closing-none now marks conn (is.others_at conn small out)) in
    ap (λ l. l ++ each_connection (closing_between before now)) first
    ∙ ap (λ l. each_from (written_between before now) touched.first (touched.after - touched.first) ++ l) second

-- The same of two rows that were appended, one after the other, to nothing.
pub both-rows : (now : Outputs) (marks a b : List Mark) (t : Touched) (none first both : List ℕ) → AreMarked now marks t → a ≡ marks → b ≡ marks → none ≡ []
    → first ≡ none ++ each_from (written_between (marked now a) now) t.first (t.after - t.first) → both ≡ first ++ each_from (closing_between (marked now b) now) t.first (t.after - t.first)
    → both ≡ event_frame (marked now marks) now
both-rows now marks a b t none first both is a-is b-is none-is first-is both-is =
    both-is
    ∙ ap (λ (m : List Mark). first ++ each_from (closing_between (marked now m) now) t.first (t.after - t.first)) b-is
    ∙ ap (λ l. l ++ each_from (closing_between (marked now marks) now) t.first (t.after - t.first))
    (first-is ∙ ap (λ l. l ++ each_from (written_between (marked now a) now) t.first (t.after - t.first)) none-is
    ∙ ap (λ (m : List Mark). each_from (written_between (marked now m) now) t.first (t.after - t.first)) a-is)
    ∙ sym (touched-frame now marks t is)

-- Frames of events in a row.

-- The frames from outputs that agree on all connections of a script.
pub same-frame : (a b after : Outputs) → ((conn : ℕ) → conn < 65536 → AgreeOn a b conn) → event_frame a after ≡ event_frame b after
same-frame a b after agree =
    let first : each_connection (written_between a after) ≡ each_connection (written_between b after) =
    each_connection-same (written_between a after) (written_between b after)
    (λ conn small. ap (λ (l : List ℕ). written conn (drop (length l) (bytes_or_none (after.taken conn)))) (agree conn small).taken_agree) in
    let second : each_connection (closing_between a after) ≡ each_connection (closing_between b after) =
    each_connection-same (closing_between a after) (closing_between b after)
    (λ conn small. ap (λ n. closing conn (nat_lt n (count_or_0 (after.closings conn)))) (agree conn small).closings_agree) in
    ap (λ l. l ++ each_connection (closing_between a after)) first ∙ ap (λ l. each_connection (written_between b after) ++ l) second

-- One more event.
frames-more : (before : Outputs) (past : List Outputs) (now : Outputs) → frames_from before (past ++ now ∷ []) ≡ frames_from before past ++ event_frame (last_from before past) now
frames-more before [] now = append-nil (event_frame before now)
frames-more before (after ∷ later) now =
    ap (λ l. event_frame before after ++ l) (frames-more after later now) ∙ sym (append_assoc (event_frame before after) (frames_from after later) (event_frame (last_from after later) now))

last-more : (before : Outputs) (past : List Outputs) (now : Outputs) → last_from before (past ++ now ∷ []) ≡ now
last-more before [] now = refl
last-more before (after ∷ later) now = last-more after later now

pub frames-pushed : (past : List Outputs) (now : Outputs) → frames_of (past ++ now ∷ []) ≡ frames_of past ++ event_frame (last_of past) now
frames-pushed past now = frames-more nothing past now

pub last-pushed : (past : List Outputs) (now : Outputs) → last_of (past ++ now ∷ []) ≡ now
last-pushed past now = last-more nothing past now

-- Outputs that agree with equal ones.
ap-agree : (a b c : Outputs) (conn : ℕ) → b ≡ c → AgreeOn a b conn → AgreeOn a c conn
ap-agree a b c conn same is = subst (λ (o : Outputs). AgreeOn a o conn) same is

-- The first frames of events are so where one more event follows.
first-more : (past : List Outputs) (now : Outputs) (frames : List ℕ) → FirstFrames past frames → FirstFrames (past ++ now ∷ []) frames
first-more past now frames is =
    let same : take is.count (past ++ now ∷ []) ≡ take is.count past = take-append-le is.count past (now ∷ []) is.within in
    record {
      count = is.count;
      within = omega (arith, is.within, length-append past (now ∷ []));
      frames_are = is.frames_are ∙ ap frames_of (sym same);
      none_lost = ap (λ (os : List Outputs). (last_of os).lost) same ∙ is.none_lost;
    }

-- All frames of events are the first ones.
first-all : (past : List Outputs) (frames : List ℕ) → frames ≡ frames_of past → (last_of past).lost ≡ 0 → FirstFrames past frames
first-all past frames is none = record {
  count = length past;
  within = omega arith;
  frames_are = is ∙ ap frames_of (sym (take-length past));
  none_lost = ap (λ (os : List Outputs). (last_of os).lost) (take-length past) ∙ none;
}

-- The record of a host after one more event: the frames of that event were appended, unless memory
-- ran out.
pub recorded-more : (old new : Scripting) (past : List Outputs) → Recorded old past → ((conn : ℕ) → conn < 65536 → AgreeOn (begun_of new) (outputs_in old.outgoing) conn) → Collected old new
    → Recorded new (past ++ outputs_in old.outgoing ∷ [])
recorded-more old new past is begun collected = record {
  begun_is = λ conn small. ap-agree (begun_of new) now (last_of more) conn (sym (last-pushed past now)) (begun conn small);
  frames_are = all;
  first_frames = by new.starved refl;
}
  where
    now : Outputs
    now = outputs_in old.outgoing

    more : List Outputs
    more = past ++ now ∷ []

    all : new.starved ≡ 0 → new.frames ≡ frames_of more
    all none =
        collected.appended none
        ∙ ap (λ l. l ++ event_frame (begun_of old) now) (is.frames_are (omega (arith, collected.later, none)))
        ∙ ap (λ l. frames_of past ++ l) (same-frame (begun_of old) (last_of past) now is.begun_is)
        ∙ sym (frames-pushed past now)

    by : (n : ℕ) → new.starved ≡ n → FirstFrames more new.frames
    by zero e = first-all more new.frames (all e) (ap (λ (o : Outputs). o.lost) (last-pushed past now) ∙ collected.none_lost e)
    by (suc n) e = subst (FirstFrames more) (sym (collected.unchanged (omega (arith, e)))) (first-more past now old.frames is.first_frames)

-- A row of connections, appended one by one.

-- Before the first one.
pub row-begun : (text : ℕ → List ℕ) (old : List ℕ) (first after : ℕ) → old ≡ old ++ each_from text first (min first after - first)
row-begun text old first after = let none : min first after - first ≡ 0 = omega arith in sym (append-nil old) ∙ ap (λ n. old ++ each_from text first n) (sym none)

-- After one more, whose text was appended.
pub row-more : (text : ℕ → List ℕ) (old frames new : List ℕ) (first after conn : ℕ) → first ≤ conn → conn < after → frames ≡ old ++ each_from text first (min conn after - first) → new ≡ frames ++ text conn
    → new ≡ old ++ each_from text first (min (conn + 1) after - first)
row-more text old frames new first after conn low high is more =
    let count : min (conn + 1) after - first ≡ suc (min conn after - first) = omega (arith, low, high) in
    let here : first + (min conn after - first) ≡ conn = omega (arith, low, high) in
    more ∙ ap (λ l. l ++ text conn) is ∙ append_assoc old (each_from text first (min conn after - first)) (text conn)
    ∙ ap (λ l. old ++ l) (ap (λ k. each_from text first (min conn after - first) ++ text k) (sym here) ∙ sym (each-more text first (min conn after - first)) ∙ ap (λ n. each_from text first n) (sym count))

-- After the last one.
pub row-ended : (text : ℕ → List ℕ) (old frames : List ℕ) (first after conn : ℕ) → frames ≡ old ++ each_from text first (min conn after - first) → after ≤ conn → frames ≡ old ++ each_from text first (after - first)
row-ended text old frames first after conn is past = let same : min conn after - first ≡ after - first = omega (arith, past) in is ∙ ap (λ n. old ++ each_from text first n) same

-- What a call on one connection leaves.

-- A connection whose outputs are the same is at its mark still.
at-mark-still : (old new : Outputs) (marks : List Mark) (conn : ℕ) → new.taken conn ≡ old.taken conn → new.closings conn ≡ old.closings conn → IsAtMark old marks conn → IsAtMark new marks conn
at-mark-still old new marks conn taken closings is = record {
  taken_at = subst (λ (o : Option (List ℕ)). length (bytes_or_none o) ≤ (mark_at marks conn).len) (sym taken) is.taken_at;
  closings_at = ap count_or_0 closings ∙ is.closings_at;
}

-- The connection took more bytes, or as many.
abbrev pub Grows : Outputs → Outputs → ℕ → Type 0
Grows old new conn = (more : List ℕ) × (bytes_or_none (new.taken conn) ≡ bytes_or_none (old.taken conn) ++ more)

-- The outputs of a connection that took bytes, or nothing more.
plus-grows : (old new : Option (List ℕ)) (bytes : List ℕ) → new ≡ plus old bytes → (more : List ℕ) × (bytes_or_none new ≡ bytes_or_none old ++ more)
plus-grows None new bytes e = ([], ap bytes_or_none e)
plus-grows (Some taken) new bytes e = (bytes, ap bytes_or_none e)

pub same-grows : (old new : Outputs) (conn : ℕ) → new.taken conn ≡ old.taken conn → Grows old new conn
same-grows old new conn same = ([], ap bytes_or_none same ∙ sym (append-nil (bytes_or_none (old.taken conn))))

-- Where one connection took more bytes, or as many, so did all.
grows-all : (old new : Outputs) (conn : ℕ) → Grows old new conn → OthersKept conn old.taken new.taken → (other : ℕ) → Grows old new other
grows-all old new conn here others other = by (other == conn) refl
  where
    by : (b : Bool) → (other == conn) ≡ b → Grows old new other
    by true e = let same : other ≡ conn = grind (arith, nat_tests) in subst (Grows old new) (sym same) here
    by false e = same-grows old new other (others other (λ same. grind (arith, nat_tests)))

pub took-grows : (old new : Outputs) (conn : ℕ) (bytes : List ℕ) → new.taken conn ≡ plus (old.taken conn) bytes → OthersKept conn old.taken new.taken → (other : ℕ) → Grows old new other
took-grows old new conn bytes here others = grows-all old new conn (plus-grows (old.taken conn) (new.taken conn) bytes here) others

pub kept-grows : (old new : Outputs) (conn : ℕ) → new.taken conn ≡ old.taken conn → OthersKept conn old.taken new.taken → (other : ℕ) → Grows old new other
kept-grows old new conn here others = grows-all old new conn (same-grows old new conn here) others

longer : (xs more : List ℕ) → length xs ≤ length (xs ++ more)
longer [] more = omega arith
longer (x ∷ xs) more = omega (arith, longer xs more)

-- Where one connection was touched, and took more or was closed, the marks are right still.
pub touched-more : (old new : Outputs) (marks : List Mark) (t u : Touched) (conn : ℕ) → AreMarked old marks t → u.after ≤ 65536 → (IsOutside u conn → 65536 ≤ conn)
    → ((other : ℕ) → IsOutside u other → IsOutside t other) → ((other : ℕ) → Grows old new other) → OthersKept conn old.taken new.taken → OthersKept conn old.closings new.closings
    → AreMarked new marks u
touched-more old new marks t u conn is bounded inside wider grows taken closings = record {
  all_marked = is.all_marked;
  bounded = bounded;
  within = λ c small.
      let g = grows c in
      omega (arith, is.within c small, ap length g.1, longer (bytes_or_none (old.taken c)) g.0);
  others_at = λ c small out.
      let apart : c ≢ conn = λ same. omega (arith, small, same, inside (subst (IsOutside u) same out)) in
      at-mark-still old new marks c (taken c apart) (closings c apart) (is.others_at c small (wider c out));
}

take-longer : (n : ℕ) (xs more : List ℕ) → n ≤ length xs → take n (xs ++ more) ≡ take n xs
take-longer n xs more low = grind (arith, common_steps)

-- What was marked of a connection that took more is the same.
pub begun-kept : (old new : Outputs) (marks : List Mark) (conn : ℕ) → Grows old new conn → (mark_at marks conn).len ≤ length (bytes_or_none (old.taken conn))
    → AgreeOn (marked new marks) (marked old marks) conn
begun-kept old new marks conn grows low = record {
  taken_agree =
      ap (λ (l : List ℕ). take (mark_at marks conn).len l) grows.1 ∙ take-longer (mark_at marks conn).len (bytes_or_none (old.taken conn)) grows.0 low;
  closings_agree = refl;
}

-- A record stands where the marked outputs and the frames do.
pub recorded-kept : (old new : Scripting) (past : List Outputs) → ((conn : ℕ) → conn < 65536 → AgreeOn (begun_of new) (begun_of old) conn) → old.starved ≤ new.starved → new.frames ≡ old.frames
    → Recorded old past → Recorded new past
recorded-kept old new past begun later frames is = record {
  begun_is = λ conn small. record {
    taken_agree = (begun conn small).taken_agree ∙ (is.begun_is conn small).taken_agree;
    closings_agree = (begun conn small).closings_agree ∙ (is.begun_is conn small).closings_agree;
  };
  frames_are = λ none. frames ∙ is.frames_are (omega (arith, later, none));
  first_frames = subst (FirstFrames past) (sym frames) is.first_frames;
}

-- A host whose events alone are others has the same record.
pub recorded-with : (host : Scripting) (events : PassedEvents) (past : List Outputs) → Recorded host past → Recorded (record host { events = events }) past
recorded-with host events past is = record { begun_is = is.begun_is; frames_are = is.frames_are; first_frames = is.first_frames }

-- A call on one connection leaves the events and the record.
pub events-kept : (start old new : Scripting) (touched : Touched) → old ≡ start → AreMarked (outputs_in old.outgoing) old.marks touched → new.events ≡ old.events → new.marks ≡ old.marks → new.frames ≡ old.frames
    → new.starved ≡ old.starved → ((other : ℕ) → Grows (outputs_in old.outgoing) (outputs_in new.outgoing) other)
    → SameEvents (λ (s : Scripting). Some (left_of s.events)) (λ (s : Scripting). Some (given_of s.events)) Recorded (λ (s : Scripting). 0) start new
events-kept start old new touched from is events marks frames starved grows =
    subst (λ (s : Scripting). SameEvents (λ (s : Scripting). Some (left_of s.events)) (λ (s : Scripting). Some (given_of s.events)) Recorded (λ (s : Scripting). 0) s new) from (record {
      left_same = ap (λ (p : PassedEvents). Some (left_of p)) events;
      given_same = ap (λ (p : PassedEvents). Some (given_of p)) events;
      recorded_same = λ past noted. recorded-kept old new past
          (λ conn small. subst (λ (m : List Mark). AgreeOn (marked (outputs_in new.outgoing) m) (begun_of old) conn) (sym marks)
          (begun-kept (outputs_in old.outgoing) (outputs_in new.outgoing) old.marks conn (grows conn) (is.within conn small)))
          (omega (arith, starved)) frames noted;
      faults_same = refl;
    })

take-none : (n : ℕ) → take {A = ℕ} n [] ≡ []
take-none n = take-all [] n (omega arith)

-- The record of a new host is empty.
pub new-recorded : (host : Scripting) → IsUnused (outputs_in host.outgoing) → ((conn : ℕ) → mark_at host.marks conn ≡ zero-mark) → host.frames ≡ [] → Recorded host []
new-recorded host unused zeros none = record {
  begun_is = λ conn small. record {
    taken_agree = ap (λ o. take (mark_at host.marks conn).len (bytes_or_none o)) (unused.untaken conn) ∙ take-none (mark_at host.marks conn).len;
    closings_agree = ap (λ (m : Mark). m.closings) (zeros conn);
  };
  frames_are = λ starved. none;
  first_frames = record { count = 0; within = omega arith; frames_are = none; none_lost = refl };
}
