-- A walk that takes one more entry, or finds none.
use Rattle.std.proofs.Common.{◌≡◌, ℕ, ◌+◌, ◌<◌, ◌≤◌, min, List, [], ◌∷◌, ◌++◌, length, take, drop, Option, Some, None, Ok, Err, refl, sym, ap, subst, ◌∙◌, inl, inr, arith, length-append, length-take, length-drop}
use Rattle.std.proofs.lemmas.List.{append_assoc, drop_at, append-nil, take_all, drop_all}
use Rattle.std.proofs.Common.{Bool, true, false, leb}
use Rattle.std.proofs.lemmas.Bool.{cases_lt}
use Rattle.std.proofs.lemmas.Bool.Decides.{nat_tests}
use Rattle.arch_base.specs.declared.ids.Form.{Form}
use Rattle.arch_base.specs.declared.ids.ObjectId.{ObjectId}
use Rattle.mail_commits.specs.Entries.{magic}
use Rattle.epoch_file.specs.declared.entry.Seen.{Seen}
use Rattle.epoch_file.specs.declared.window.Part.{Part}
use Rattle.epoch_file.specs.declared.state.State.{State}
use Rattle.epoch_file.specs.Entries.{EpochEntry, IsEpochEntry, bytes_after, commit_after, chain, last_of, epoch_of}
use Rattle.epoch_file.specs.Reading.{IsEntryRead}
use Rattle.epoch_file.specs.Walking.{seen_at, seen_from, LacksEntry, EndsEarly, IsEpoch}
use Rattle.epoch_file.specs.Windows.{Shows, IsInsidePart}
use Rattle.epoch_file.specs.Steps.{left_of, Walked, next_state, Brings, TakesEntry, WalkTurns, WalkMoves, KeepsWalked, SamePart, WantsEntry, WalkGoesOn}
use Rattle.disk_model.specs.declared.name.FileName.{FileName}
use Rattle.disk_model.specs.declared.refusal.WalkRefusal.TheVariants.{Damaged}
use Rattle.disk_model.specs.Disk.{Kept, Content, WhereTold, BothTold, Unchanged, bytes_of}
use Rattle.git_objects.specs.Commits.{IsParent}
use Rattle.epoch_file.specs.Forms.{HaveIdsOf}
use Rattle.epoch_file.specs.Lying.{LieIn, EntryLiesIn}
use Rattle.epoch_file.proofs.Forms.{ids_more, read_ids}
use Rattle.epoch_file.proofs.Fronts.{within}
use Rattle.epoch_file.proofs.Lying.{lie_more, read_lies}
use Rattle.epoch_file.proofs.Chains.{length-magic, chain-push, last-push, valid-push, seen-push, epoch-push, length-seen}
use Rattle.epoch_file.proofs.Showing.{part_after, left-after, shows-skip}
use Rattle.epoch_file.proofs.Sizes.{length-entry}
use Rattle.epoch_file.proofs.Kept.{IsParent-last}

-- One more entry.
pub walked-more : (bytes : List ℕ) (s : State) (found : Seen × ℕ) → Walked bytes s → IsEntryRead s.form s.part.offset s.parent s.window found → Walked bytes (next_state s found)
walked-more bytes s found w r =
    let e = r.entry in
    let piece = bytes_after s.form s.parent e in
    let front : Option ObjectId → List ℕ = λ parent. bytes_after s.form parent e in
    let split : left_of bytes s.part ≡ piece ++ (r.rest ++ w.shows.rest) = w.shows.is ∙ (ap (λ (l : List ℕ). l ++ w.shows.rest) r.is ∙ append_assoc piece r.rest w.shows.rest) in
    let after : left_of bytes (part_after s.part found.1) ≡ r.rest ++ w.shows.rest =
    left-after bytes s.part found.1 ∙ (ap (λ (n : ℕ). drop n (left_of bytes s.part)) r.size ∙ (ap (drop (length piece)) split ∙ drop_at piece (r.rest ++ w.shows.rest) (length piece) refl)) in
    let grown : epoch_of s.form w.entries ++ piece ≡ epoch_of s.form (w.entries ++ e ∷ []) = ap (λ (p : Option ObjectId). epoch_of s.form w.entries ++ front p) w.parent ∙ sym (epoch-push s.form w.entries e) in
    let size : length (chain s.form None (w.entries ++ e ∷ [])) ≡ length (chain s.form None w.entries) + found.1 =
    ap length (chain-push s.form None w.entries e) ∙ (length-append (chain s.form None w.entries) (bytes_after s.form (last_of s.form None w.entries) e)
    ∙ ap (λ (n : ℕ). length (chain s.form None w.entries) + n) (ap (λ (p : Option ObjectId). length (front p)) (sym w.parent) ∙ sym r.size)) in
    let commit : found.0.commit ≡ commit_after s.form (last_of s.form None w.entries) e = ap (λ (seen : Seen). seen.commit) r.seen ∙ ap (λ (p : Option ObjectId). commit_after s.form p e) w.parent in
    let at : found.0 ≡ seen_at s.form (8 + length (chain s.form None w.entries)) (last_of s.form None w.entries) e =
    r.seen ∙ (ap (λ (n : ℕ). seen_at s.form n s.parent e) w.offset ∙ ap (λ (p : Option ObjectId). seen_at s.form (8 + length (chain s.form None w.entries)) p e) w.parent) in
    let cut : drop found.1 s.window ≡ r.rest = ap (λ (n : ℕ). drop n s.window) r.size ∙ (ap (drop (length piece)) r.is ∙ drop_at piece r.rest (length piece) refl) in
    let shows : Shows bytes (part_after s.part (length piece)) r.rest = shows-skip bytes s.part s.window piece r.rest w.shows r.is in
    let moved : Shows bytes (part_after s.part found.1) r.rest = subst (λ (n : ℕ). Shows bytes (part_after s.part n) r.rest) (sym r.size) shows in record {
      entries = w.entries ++ e ∷ [];
      valid = valid-push w.entries e w.valid r.valid;
      spelled = w.spelled ∙ (ap (λ (l : List ℕ). epoch_of s.form w.entries ++ l) (split ∙ ap (λ (l : List ℕ). piece ++ l) (sym after))
          ∙ (sym (append_assoc (epoch_of s.form w.entries) piece (left_of bytes (part_after s.part found.1))) ∙ ap (λ (l : List ℕ). l ++ left_of bytes (part_after s.part found.1)) grown));
      offset = omega (arith, w.offset, size);
      parent = ap Some commit ∙ sym (last-push s.form None w.entries e);
      seen = ap (λ (seen : List Seen). seen ++ found.0 ∷ []) w.seen ∙ (ap (λ (one : Seen). seen_from s.form 8 None w.entries ++ one ∷ []) at ∙ sym (seen-push s.form 8 None w.entries e));
      shows = subst (λ (l : List ℕ). Shows bytes (part_after s.part found.1) l) (sym cut) moved;
    }

-- No entry in a window that would have all of one.
pub none-left : (form : Form) (bytes : List ℕ) (part : Part) (window : List ℕ) (parent : Option ObjectId) → Shows bytes part window
    → ((p : Option ObjectId) (e : EpochEntry) (rest : List ℕ) → IsEpochEntry e → left_of bytes part ≡ bytes_after form p e ++ rest → length (bytes_after form p e) ≤ length window)
    → LacksEntry form parent window → LacksEntry form parent (left_of bytes part)
none-left form bytes part window parent s all none = λ e rest valid is.
    none e (drop (length (bytes_after form parent e)) window) valid (within window s.rest (bytes_after form parent e) rest (sym s.is ∙ is) (all parent e rest valid is))

-- The first n bytes of a file are no more than those of the walked part.
pub same_front : (bytes : List ℕ) (n end : ℕ) → end ≡ min n (length bytes) → take n bytes ≡ take end bytes
same_front bytes n end is = rw is (cut (leb n (length bytes)) refl) where
  cut : (b : Bool) → leb n (length bytes) ≡ b → take n bytes ≡ take (min n (length bytes)) bytes
  cut true e = let le : n ≤ length bytes = grind (arith, nat_tests) in ap (λ (m : ℕ). take m bytes) (omega (arith, le))
  cut false e =
      let more : length bytes ≤ n = grind (arith, nat_tests) in
      take_all n bytes more ∙ sym (ap (λ (m : ℕ). take m bytes) (omega (arith, more)) ∙ take_all (length bytes) bytes (omega arith))

-- A walk that is at its end has found an epoch.
pub whole-epoch : (bytes : List ℕ) (n : ℕ) (s : State) → Walked bytes s → s.part.end ≡ min n (length bytes) → s.part.offset ≡ n → 0 < length s.seen → IsEpoch s.form n bytes s.seen
whole-epoch bytes n s w end at some =
    let room = w.shows.inside in
    let all : s.part.end ≡ n = omega (arith, end, at, room) in
    let none : left_of bytes s.part ≡ [] = drop_all s.part.offset (take s.part.end bytes) (omega (arith, all, at, length-take s.part.end bytes)) in
    let spelled : take s.part.end bytes ≡ epoch_of s.form w.entries = w.spelled ∙ (ap (λ (l : List ℕ). epoch_of s.form w.entries ++ l) none ∙ append-nil (epoch_of s.form w.entries)) in record {
      entries = w.entries;
      some = omega (arith, some, ap length w.seen, length-seen s.form 8 None w.entries);
      valid = w.valid;
      spelled = same_front bytes n s.part.end end ∙ spelled;
      whole = omega (arith, at, w.offset, length-magic s.form, length-append (magic s.form) (chain s.form None w.entries));
      is = w.seen;
    }

-- A list of length 0 is empty.
none_seen : (es : List EpochEntry) → length es ≡ 0 → es ≡ []
none_seen [] e = refl
none_seen (first ∷ es) e = absurd (omega (arith, e))

-- A walk that finds no entry although one is needed ends there.
pub ends-early : (bytes : List ℕ) (n : ℕ) (s : State) → Walked bytes s → s.part.end ≡ min n (length bytes) → (s.part.offset ≡ n → length s.seen ≡ 0) → LacksEntry s.form s.parent (left_of bytes s.part)
    → EndsEarly s.form n bytes s.part.offset
ends-early bytes n s w end wanted none =
    let room = w.shows.inside in record {
      entries = w.entries;
      rest = left_of bytes s.part;
      valid = w.valid;
      spelled = same_front bytes n s.part.end end ∙ w.spelled;
      offset_is = w.offset;
      wanted = elim (cases_lt s.part.offset n) [
        | inl below ↦ inr below
        | inr past ↦
            let at : s.part.offset ≡ n = omega (arith, past, room, end) in
            inl (none_seen w.entries (omega (arith, wanted at, ap length w.seen, length-seen s.form 8 None w.entries)))
      ];
      lacks = subst (λ (p : Option ObjectId). LacksEntry s.form p (left_of bytes s.part)) w.parent none;
    }

-- A walk with another window.
abbrev pub with_window : State → List ℕ → State
with_window s window = record { part = s.part; window = window; parent = s.parent; seen = s.seen; form = s.form }

-- A walk whose window was filled.
filled_walk : (bytes : List ℕ) (s : State) (window : List ℕ) → Walked bytes s → Shows bytes s.part window → Walked bytes (with_window s window)
filled_walk bytes s window w shows = record { entries = w.entries; valid = w.valid; spelled = w.spelled; offset = w.offset; parent = w.parent; seen = w.seen; shows = shows }

-- An entry has bytes.
entry_some : (form : Form) (parent : Option ObjectId) (e : EpochEntry) → 0 < length (bytes_after form parent e)
entry_some form parent e = omega (arith, length-entry form parent e)

-- A turn takes an entry, or finds none.
pub turns-either : (content : Option Content) (old : State) (window : List ℕ) (new : State) (came found : Bool) → came ≡ true
    → WhereTold (Brings old.form old.part old.window window (Ok came)) content → TakesEntry (with_window old window) new (Ok found) → WhereTold (WalkTurns old new (Ok found)) content
turns-either None old window new came found yes_came brings takes = tt
turns-either (Some k) old window new false found yes_came brings takes = cc
turns-either (Some k) old window new true true yes_came brings takes = λ w.
    let bytes = bytes_of (k old.part.file).seen in
    let mid = with_window old window in
    let filled = filled_walk bytes old window w (brings w.shows).0 in
    let Holds : State → Type 0 = λ t. Walked bytes t in
    subst Holds (sym takes.2) (walked-more bytes mid takes.0 filled takes.1)
turns-either (Some k) old window new true false yes_came brings takes = λ w.
    let bytes = bytes_of (k old.part.file).seen in
    let brought = brings w.shows in
    let valid : IsParent old.form old.parent = subst (IsParent old.form) (sym w.parent) (IsParent-last old.form None w.entries tt) in
    none-left old.form bytes old.part window old.parent brought.0 brought.1 (takes.0 valid)

-- A turn advances in the part.
pub moves-either : (old : State) (window : List ℕ) (new : State) (found : Bool) → IsInsidePart old.part window → TakesEntry (with_window old window) new (Ok found) → WalkMoves old new (Ok found)
moves-either old window new true inside takes =
    let r = takes.1 in
    let found = takes.0 in
    let size : found.1 ≤ length window = omega (arith, r.size, ap length r.is, length-append (bytes_after old.form old.parent r.entry) r.rest) in
    let some : 0 < found.1 = omega (arith, r.size, entry_some old.form old.parent r.entry) in
    let lies : EntryLiesIn old.part.offset (old.part.offset + found.1) found.0 = read_lies old.form old.part.offset old.parent window found r in
    let Holds : State → Type 0 = λ t. (old.part.offset < t.part.offset) × IsInsidePart t.part t.window × (LieIn 0 old.part.offset old.seen → LieIn 0 t.part.offset t.seen) × (HaveIdsOf old.form old.seen → HaveIdsOf t.form t.seen) in
    subst Holds (sym takes.2) (
      omega (arith, some),
      omega (arith, size, inside, length-drop found.1 window),
      λ lie. lie_more 0 old.part.offset (old.part.offset + found.1) old.seen found.0 (omega arith) (omega arith) lie lies,
      λ have. ids_more old.form old.seen found.0 have (read_ids old.form old.part.offset old.parent window found r),
    )
moves-either old window new false inside takes = ap (λ (s : State). s.part.offset) takes.1

-- The file's bytes are the same before and after calls that change nothing.
same_bytes : (k m : Content) (start cur : Part) → Unchanged k m → SamePart start cur → bytes_of (m cur.file).seen ≡ bytes_of (k start.file).seen
same_bytes k m start cur same part = ap (λ (kept : Kept). bytes_of kept.seen) (same cur.file) ∙ ap (λ (file : FileName). bytes_of (k file).seen) part.file

-- A walk that finds no entry although one is needed returns its offset.
pub goes-damaged : (first mid : Option Content) (n : ℕ) (start cur new : State) (offset : ℕ) → cur.form ≡ start.form → WhereTold (KeepsWalked start cur) first → SamePart start.part cur.part → BothTold Unchanged first mid
    → WhereTold (WalkTurns cur new (Ok false)) mid → WantsEntry cur n true → offset ≡ cur.part.offset → WhereTold (λ k. WalkGoesOn n (bytes_of (k start.part.file).seen) start (Err (Damaged offset))) first
goes-damaged None mid n start cur new offset form keeps part same turns wanted at = tt
goes-damaged (Some k) None n start cur new offset form keeps part same turns wanted at = absurd same
goes-damaged (Some k) (Some m) n start cur new offset form keeps part same turns wanted at = λ walked end.
    let w = keeps walked in
    let e = same_bytes k m start.part cur.part same part in
    let lacks = subst (λ (b : List ℕ). LacksEntry cur.form cur.parent (left_of b cur.part)) e (turns (subst (λ (b : List ℕ). Walked b cur) (sym e) w)) in
    let early = ends-early (bytes_of (k start.part.file).seen) n cur w (part.end ∙ end) wanted lacks in
    let ends = subst (λ (f : Form). EndsEarly f n (bytes_of (k start.part.file).seen) cur.part.offset) form early in
    inr (subst (λ (p : ℕ). EndsEarly start.form n (bytes_of (k start.part.file).seen) p) (sym at) ends)

-- A walk that needs no more entry returns what it has found.
pub goes-whole : (first : Option Content) (n : ℕ) (start cur : State) → cur.form ≡ start.form → WhereTold (KeepsWalked start cur) first → SamePart start.part cur.part → WantsEntry cur n false
    → WhereTold (λ k. WalkGoesOn n (bytes_of (k start.part.file).seen) start (Ok cur.seen)) first
goes-whole None n start cur form keeps part done = tt
goes-whole (Some k) n start cur form keeps part done = λ walked end.
    let bytes = bytes_of (k start.part.file).seen in
    subst (λ (f : Form). IsEpoch f n bytes cur.seen) form (whole-epoch bytes n cur (keeps walked) (part.end ∙ end) done.0 done.1)

-- So says a turn that finds no entry where one is wanted.
pub goes-unfound : (first mid : Option Content) (n : ℕ) (start cur new : State) (found : Bool) → found ≡ false → cur.form ≡ start.form → WhereTold (KeepsWalked start cur) first → SamePart start.part cur.part → BothTold Unchanged first mid
    → WhereTold (WalkTurns cur new (Ok found)) mid → WalkMoves cur new (Ok found) → WantsEntry cur n true → WhereTold (λ k. WalkGoesOn n (bytes_of (k start.part.file).seen) start (Err (Damaged new.part.offset))) first
goes-unfound first mid n start cur new true is form keeps part same turns moves wanted = let wrong : true ≡ false = is in absurd cc
goes-unfound first mid n start cur new false is form keeps part same turns moves wanted = goes-damaged first mid n start cur new new.part.offset form keeps part same turns wanted moves
