-- The parts of a streamed reply make an act.
use Rattle.std.proofs.Common.{◌≡◌, ◌+◌, ◌<◌, ◌≤◌, ◌⊎◌, ℕ, zero, suc, Bool, true, false, List, [], ◌∷◌, ◌++◌, length, codes, Option, Some, None, is_some, Result, Ok, Err, is_ok, if◌then◌else◌, inl, inr, refl, sym, ap, subst, ◌∙◌, append_assoc, length-append, arith, add-one}
use Rattle.std.proofs.lemmas.List.{append-nil}
use Rattle.arch_base.specs.Counts.{Rose}
use Rattle.edge_io.specs.Phrases.{Says}
use Rattle.edge_io.specs.declared.sink.SinkFault.{SinkFault}
use Rattle.edge_io.proofs.Wording.{plus-none, Says-then}
use Rattle.line_door.specs.Acts.{ConnectionState, Plain, Memory, Disk, Acts, held_if}
use Rattle.line_door.specs.Making.{says, streams}
use Rattle.line_door.proofs.Acting.{acts-by_held}
use Rattle.line_door.proofs.Streaming.{acts-short, acts-cut_off}
use Rattle.arch_model.specs.Archives.{Entry, Archive, live, text_of}
use Rattle.arch_model.specs.Shelves.{IsUndamaged, ReadingWhy}
use Rattle.arch_model.specs.declared.text_refusal.TextRefusal.{TextRefusal}
use Rattle.arch_model.specs.declared.text_refusal.TextRefusal.TheVariants as refusal
use Rattle.answer_lines.specs.Lines.{whole_line, memory_word, disk_word, unread_words}
use Rattle.door_tests.specs.Streams.{text_line, texts_from, texts_said, SaysNothing, SaysText, TellsUnread, StopsTelling, TellsPart}
use Rattle.door_tests.specs.declared.shelf_client.Part.{Part}
use Rattle.door_tests.specs.declared.shelf_client.Part.TheVariants as part

-- So many numbers were said.
pub record SoFar (entries : List Entry) (low at : ℕ) (begun : Bool) (i j : ConnectionState) : Type 0 where
  pub words : Says (texts_from entries low at) i.out i.lost j.out j.lost (Ok tt)
  pub some : begun ≡ true → 0 < length (texts_from entries low at)
  pub none : begun ≡ false → texts_from entries low at ≡ []
  pub kept : j.disk ≡ i.disk

-- Why a text wasn't read, while an archive is held.
pub says-unread : (i j k : ConnectionState) (why : TextRefusal) (sent : Result Unit SinkFault) → IsUndamaged why → ReadingWhy i.disk j.disk why → i.disk ≤ j.disk → i.out ≡ j.out → i.lost ≡ j.lost → j.disk ≡ k.disk → Says (unread_words why) j.out j.lost k.out k.lost sent → TellsUnread i sent k
says-unread i j k refusal.DiskFault sent well rose later out lost same said =
    let on : Says disk_word i.out i.lost k.out k.lost sent = rw (out, lost) said in
    let now : Rose i.disk k.disk = subst (λ (n : ℕ). Rose i.disk n) same rose in
    record { words = inl (now, on); later = omega (arith, later, same) }
says-unread i j k (refusal.Damaged named found) sent well rose later out lost same said = absurd well
says-unread i j k refusal.NoMemory sent well kept later out lost same said =
    let on : Says memory_word i.out i.lost k.out k.lost sent = rw (out, lost) said in
    record { words = inr (sym same ∙ kept, on); later = omega (arith, later, same) }

-- Why a reply stops, while an archive is held.
pub stops-why : (before now : ℕ) (why : TextRefusal) → IsUndamaged why → ReadingWhy before now why → Rose before now ⊎ (now ≡ before)
stops-why before now refusal.DiskFault well rose = inl rose
stops-why before now (refusal.Damaged named found) well cause = absurd well
stops-why before now refusal.NoMemory well kept = inr kept

-- Whether a text that was sent was taken.
pub part-given : (begun : Bool) (text : Option (List ℕ)) (i j : ConnectionState) (sent : Result Unit SinkFault) (what : Part) → what ≡ (if is_ok sent then part.Given else part.Lost) → SaysText text i sent j → TellsPart begun text i what j
part-given begun text i j (Ok done) what is said = subst (λ (p : Part). TellsPart begun text i p j) (sym is) said
part-given begun text i j (Err fault) what is said = subst (λ (p : Part). TellsPart begun text i p j) (sym is) (fault, said)

-- A number without a text.
pub no-text : (text : Option (List ℕ)) → is_some text ≡ false → text ≡ None
no-text None is = refl
no-text (Some found) is = absurd (cc is)

-- A number with a text.
pub some-text : (text : Option (List ℕ)) → is_some text ≡ true → (found : List ℕ) × (text ≡ Some found)
some-text None is = absurd (cc is)
some-text (Some found) is = (found, refl)

-- A line has a byte.
line-some : (text : List ℕ) → 0 < length (whole_line text)
line-some text = omega (arith, length-append text (10 ∷ []))

-- Nothing changes words that were said.
says-still : (words : List ℕ) (i j k : ConnectionState) → Says words i.out i.lost j.out j.lost (Ok tt) → SaysNothing j k → Says words i.out i.lost k.out k.lost (Ok tt)
says-still words i j k said nothing = (nothing.lost ∙ said.0, nothing.out ∙ said.1)

module _ (entries : List Entry) (low : ℕ) where
  pub sofar-none : (i : ConnectionState) → SoFar entries low 0 false i i
  sofar-none i = record { words = (refl, plus-none i.out); some = λ no. absurd (cc no); none = λ is. refl; kept = refl }

  module _ (at : ℕ) (begun : Bool) (i j k : ConnectionState) (before : SoFar entries low at begun i j) where
    -- One more number, which has no text.
    pub sofar-absent : text_of entries (low + at) ≡ None → SaysNothing j k → k.disk ≡ j.disk → SoFar entries low (at + 1) begun i k
    sofar-absent none nothing kept =
        let same : texts_from entries low (at + 1) ≡ texts_from entries low at = rw add-one (ap (λ (t : Option (List ℕ)). texts_from entries low at ++ text_line t) none ∙ append-nil (texts_from entries low at)) in
        record {
          words = subst (λ (w : List ℕ). Says w i.out i.lost k.out k.lost (Ok tt)) (sym same) (says-still (texts_from entries low at) i j k before.words nothing);
          some = λ is. subst (λ (w : List ℕ). 0 < length w) (sym same) (before.some is);
          none = λ is. same ∙ before.none is;
          kept = kept ∙ before.kept;
        }

    -- One more number, whose text was said.
    pub sofar-given : SaysText (text_of entries (low + at)) j (Ok tt) k → SoFar entries low (at + 1) true i k
    sofar-given said =
        let more : texts_from entries low (at + 1) ≡ texts_from entries low at ++ whole_line said.found = rw add-one (ap (λ (t : Option (List ℕ)). texts_from entries low at ++ text_line t) said.is) in
        record {
          words = subst (λ (w : List ℕ). Says w i.out i.lost k.out k.lost (Ok tt)) (sym more) (Says-then (texts_from entries low at) (whole_line said.found) i.out j.out k.out i.lost j.lost k.lost tt (Ok tt) before.words said.words);
          some = λ is. subst (λ (w : List ℕ). 0 < length w) (sym more) (omega (arith, length-append (texts_from entries low at) (whole_line said.found), line-some said.found));
          none = λ no. absurd (cc no);
          kept = said.kept ∙ before.kept;
        }

  below : (at count : ℕ) → at < suc count → (at < count) ⊎ (at ≡ count)
  below zero zero less = inr refl
  below zero (suc count) less = inl (omega arith)
  below (suc at) zero less = absurd (omega (arith, less))
  below (suc at) (suc count) less = elim (below at count (omega (arith, less))) [ inl before ↦ inl (omega (arith, before)) | inr same ↦ inr (ap suc same) ]

  -- The texts of more numbers go on from those of fewer.
  grows : (at count : ℕ) → at < count → (more : List ℕ) × (texts_from entries low count ≡ texts_from entries low (suc at) ++ more)
  grows at zero less = absurd (omega (arith, less))
  grows at (suc count) less = elim (below at count less) [
    | inl before ↦ (
        let rest = grows at count before in
        let last = text_line (text_of entries (low + count)) in
        (rest.0 ++ last, ap (λ (w : List ℕ). w ++ last) rest.1 ∙ append_assoc (texts_from entries low (suc at)) rest.0 last))
    | inr same ↦ ([], ap (λ (n : ℕ). texts_from entries low (suc n)) (sym same) ∙ sym (append-nil (texts_from entries low (suc at))))
  ]

  -- What is said, from the texts before a number on.
  pub words-from : (at count : ℕ) (found : List ℕ) → at < count → text_of entries (low + at) ≡ Some found → (more : List ℕ) × (texts_from entries low count ++ whole_line (codes "end") ≡ (texts_from entries low at ++ whole_line found) ++ more)
  words-from at count found less is =
      let rest = grows at count less in
      let front : texts_from entries low (suc at) ≡ texts_from entries low at ++ whole_line found = ap (λ (t : Option (List ℕ)). texts_from entries low at ++ text_line t) is in (
        rest.0 ++ whole_line (codes "end"),
        ap (λ (w : List ℕ). w ++ whole_line (codes "end")) (rest.1 ∙ ap (λ (w : List ℕ). w ++ rest.0) front) ∙ append_assoc (texts_from entries low at ++ whole_line found) rest.0 (whole_line (codes "end")),
      )

module _ (a : Archive) (low count : ℕ) (h : List ℕ) where
  -- All was said, or the end was lost.
  pub streams-end : (at : ℕ) (begun : Bool) (i j k : ConnectionState) (sent : Result Unit SinkFault) → at ≡ count → SoFar (live a.entries) low at begun i j → j.disk ≡ k.disk → Says (whole_line (codes "end")) j.out j.lost k.out k.lost sent → Acts (texts_said a low count h) i (held_if (is_ok sent) h) a k
  streams-end at begun i j k sent all so_far same said =
      let before : SoFar (live a.entries) low count begun i j = subst (λ (n : ℕ). SoFar (live a.entries) low n begun i j) all so_far in
      acts-by_held (texts_said a low count h) Plain (streams a h (texts_from (live a.entries) low count ++ whole_line (codes "end"))) i k h a sent refl refl (sym same ∙ before.kept) (omega (arith, before.kept, same))
      (Says-then (texts_from (live a.entries) low count) (whole_line (codes "end")) i.out j.out k.out i.lost j.lost k.lost tt sent before.words said) refl

  -- No text was said, but why.
  pub streams-unread : (at : ℕ) (begun : Bool) (i j k : ConnectionState) (sent : Result Unit SinkFault) → begun ≡ false → SoFar (live a.entries) low at begun i j → TellsUnread j sent k → Acts (texts_said a low count h) i (held_if (is_ok sent) h) a k
  streams-unread at begun i j k sent unbegun before unread = elim unread.words [
    | inl both ↦ (
        let rose : Rose i.disk k.disk = omega (arith, both.0, before.kept) in
        acts-by_held (texts_said a low count h) Disk (says a h disk_word) i k h a sent refl refl rose (omega (arith, before.kept, unread.later))
        (Says-then [] disk_word i.out j.out k.out i.lost j.lost k.lost tt sent none both.1) refl)
    | inr both ↦
        acts-by_held (texts_said a low count h) Memory (says a h memory_word) i k h a sent refl refl (both.0 ∙ before.kept) (omega (arith, before.kept, unread.later))
        (Says-then [] memory_word i.out j.out k.out i.lost j.lost k.lost tt sent none both.1) refl
  ]
    where
      none : Says [] i.out i.lost j.out j.lost (Ok tt)
      none = subst (λ (w : List ℕ). Says w i.out i.lost j.out j.lost (Ok tt)) (before.none unbegun) before.words

  -- A text was lost.
  pub streams-lost : (at : ℕ) (begun : Bool) (i j k : ConnectionState) (fault : SinkFault) → at < count → SoFar (live a.entries) low at begun i j → SaysText (text_of (live a.entries) (low + at)) j (Err fault) k → Acts (texts_said a low count h) i None a k
  streams-lost at begun i j k fault less before said =
      let rest = words-from (live a.entries) low at count said.found less said.is in
      acts-cut_off (texts_said a low count h) Plain (streams a h (texts_from (live a.entries) low count ++ whole_line (codes "end"))) (texts_from (live a.entries) low at) (whole_line said.found) rest.0 i j k a fault refl rest.1
      (said.kept ∙ before.kept) (omega (arith, before.kept, said.kept)) before.words said.words refl

  -- The reply stopped after a text.
  pub streams-short : (at : ℕ) (begun : Bool) (i j k : ConnectionState) → at < count → SoFar (live a.entries) low at begun i j → StopsTelling begun (text_of (live a.entries) (low + at)) j k → Acts (texts_said a low count h) i None a k
  streams-short at begun i j k less before stops =
      let rest = words-from (live a.entries) low at count stops.found less stops.is in
      let line = whole_line stops.found in
      let apart : texts_from (live a.entries) low count ++ whole_line (codes "end") ≡ texts_from (live a.entries) low at ++ (line ++ rest.0) = rest.1 ∙ append_assoc (texts_from (live a.entries) low at) line rest.0 in
      acts-short (texts_said a low count h) (streams a h (texts_from (live a.entries) low count ++ whole_line (codes "end"))) (texts_from (live a.entries) low at) (line ++ rest.0) i k a refl refl apart
      (before.some stops.begun_is) (omega (arith, length-append line rest.0, line-some stops.found)) why (omega (arith, before.kept, stops.nothing.later))
      (says-still (texts_from (live a.entries) low at) i j k before.words stops.nothing) refl
    where
      why : Rose i.disk k.disk ⊎ (k.disk ≡ i.disk)
      why = elim stops.why [ inl rose ↦ inl (omega (arith, rose, before.kept)) | inr same ↦ inr (same ∙ before.kept) ]
