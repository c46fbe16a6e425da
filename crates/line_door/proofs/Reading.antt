-- The laws of a door of lines, whatever its replies are.
use Rattle.std.proofs.Common.{◌≡◌, ◌<◌, ◌∙◌, inr, ℕ, true, false, List, ◌++◌, length, Option, Some, None, refl, ap, append_assoc, arith}
use Rattle.line_door.specs.Acts.{Departure, Plain}
use Rattle.line_door.specs.Clipped.{clipped}
use Rattle.line_door.specs.Cuts.{CutDoor, said_with}
use Rattle.line_door.specs.Lines.{content}
use Rattle.line_door.specs.Plain.{silent}
use Rattle.line_door.specs.Readers.{LineReader, line_reader, LineReply, reader_if, as_said, said, said_at, has_request, with_piece, left, LineReaderLaws}
use Rattle.line_door.specs.Skipping.{SkippedLine, Taken, Skipped, Unended, skipping_front, is_ended}
use Rattle.line_door.proofs.Clipping.{clipped-again, clipped-taken, clipped-skipped, clipped-ended}
use Rattle.line_door.proofs.Cutting.{door_laws}
use Rattle.line_door.proofs.Passages.{passing-goes_on, passing-stays_skipped, passing-shorter, passing-shorter_skipped}

-- More bytes leave a line that has ended what it is.
pub ended-stays : (limit : ℕ) (q bytes : List ℕ) (f : SkippedLine) → skipping_front limit bytes ≡ f → is_ended f ≡ true → is_ended (skipping_front limit (bytes ++ q)) ≡ true
ended-stays limit q bytes (Taken line rest) is h = ap is_ended (passing-goes_on limit bytes q line rest is)
ended-stays limit q bytes (Skipped rest) is h = ap is_ended (passing-stays_skipped limit bytes q rest is)
ended-stays limit q bytes Unended is h = absurd (cc h)

module _ {S A : Type 0} (limit : ℕ) where
  -- What a reply says stays, and more bytes follow the rest.
  reply-by : (q rest : List ℕ) (r : LineReply S A) (state : Option S) → r.state ≡ state → as_said (clipped limit (rest ++ q)) r ≡ said_with (with_piece limit q) (as_said rest r)
  reply-by q rest r None is = rw is refl
  reply-by q rest r (Some state) is = rw is refl

  reply-more : (q rest : List ℕ) (r : LineReply S A) → as_said (clipped limit (rest ++ q)) r ≡ said_with (with_piece limit q) (as_said rest r)
  reply-more q rest r = reply-by q rest r r.state refl

-- The session that a reply leaves open has the rest as its bytes.
rest-bytes : {S : Type 0} (o : Option S) (rest : List ℕ) (k : LineReader S) → reader_if o rest ≡ Some k → rest ≡ k.bytes
rest-bytes None rest k next = absurd (cc next)
rest-bytes {S} (Some state) rest k next = let same : line_reader state rest ≡ k = cc in ap (λ (r : LineReader S). r.bytes) same

module _ {S A : Type 0} (limit : ℕ) (answered : A → S → List ℕ → Departure → LineReply S A) (too_long : A → S → LineReply S A) where
  -- A line says the same when more bytes follow it.
  line-more : (q : List ℕ) (a : A) (h : LineReader S) (way : Departure) (f : SkippedLine) → skipping_front limit h.bytes ≡ f → is_ended f ≡ true → said limit answered too_long a (with_piece limit q h) way ≡ said_with (with_piece limit q) (said_at limit answered too_long a h f way)
  line-more q a h way (Taken line rest) is ended =
      ap (λ (f : SkippedLine). said_at limit answered too_long a (with_piece limit q h) f way) (clipped-taken limit (h.bytes ++ q) line (rest ++ q) (passing-goes_on limit h.bytes q line rest is))
      ∙ reply-more limit q rest (answered a h.state (content line) way)
  line-more q a h way (Skipped rest) is ended =
      ap (λ (f : SkippedLine). said_at limit answered too_long a (with_piece limit q h) f way) (clipped-skipped limit (h.bytes ++ q) (rest ++ q) (passing-stays_skipped limit h.bytes q rest is))
      ∙ reply-more limit q rest (too_long a h.state)
  line-more q a h way Unended is ended = absurd (cc ended)

  -- A part of a line is kept without a word.
  pub part-silent : (a : A) (h : LineReader S) (way : Departure) (f : SkippedLine) → is_ended f ≡ false → said_at limit answered too_long a h f way ≡ silent a h
  part-silent a h way (Taken line rest) none = absurd (cc none)
  part-silent a h way (Skipped rest) none = absurd (cc none)
  part-silent a h way Unended none = refl

  line-shorter : (a : A) (h k : LineReader S) (f : SkippedLine) → skipping_front limit h.bytes ≡ f → is_ended f ≡ true → (said_at limit answered too_long a h f Plain).next ≡ Some k → left k < left h
  line-shorter a h k (Taken line rest) is ended next =
      let bytes = rest-bytes (answered a h.state (content line) Plain).state rest k next in
      let less = passing-shorter limit h.bytes line rest is in
      omega (arith, ap length bytes, less)
  line-shorter a h k (Skipped rest) is ended next =
      let bytes = rest-bytes (too_long a h.state).state rest k next in
      let less = passing-shorter_skipped limit h.bytes rest is in
      omega (arith, ap length bytes, less)
  line-shorter a h k Unended is ended next = absurd (cc ended)

  -- Its pieces may be cut anywhere.
  pub reader-cuts : CutDoor (said limit answered too_long) (has_request limit) (with_piece limit) left
  reader-cuts = record {
    request_stays = λ q h asked. clipped-ended limit (h.bytes ++ q) ∙ ended-stays limit q h.bytes (skipping_front limit h.bytes) refl asked;
    said_stays = λ q a h way asked. line-more q a h way (skipping_front limit h.bytes) refl asked;
    rest_plain = λ a h part. part-silent a h Plain (skipping_front limit h.bytes) part;
    rest_kept = λ a h way part. inr (part-silent a h way (skipping_front limit h.bytes) part);
    more_joined = λ p q h. ap (line_reader h.state) (clipped-again limit (h.bytes ++ p) q ∙ ap (clipped limit) (append_assoc h.bytes p q));
    shorter = λ a h k asked next. line-shorter a h k (skipping_front limit h.bytes) refl asked next;
  }

  -- The laws of the door.
  pub reader-laws : LineReaderLaws limit answered too_long
  reader-laws = door_laws (said limit answered too_long) (has_request limit) (with_piece limit) left reader-cuts
