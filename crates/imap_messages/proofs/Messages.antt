-- What became of one live message of a FETCH.
use Rattle.std.proofs.Common.{◌≡◌, ◌==◌, ◌≤◌, ◌<◌, ◌⊎◌, ℕ, Bool, true, false, List, [], ◌∷◌, length, Option, Some, None, is_some, Result, Ok, Err, is_ok, inl, inr, refl, sym, ap, subst, ◌∙◌, arith, if◌then◌else◌}
use Rattle.arch_base.specs.Counts.{Rose}
use Rattle.arch_base.specs.declared.ids.Form.{Form}
use Rattle.mail_forms.specs.declared.row.Row.{Row}
use Rattle.arch_model.specs.Archives.{Entry, Archive, live, text_of}
use Rattle.arch_model.specs.Listings.{row_in}
use Rattle.arch_model.specs.Shelves.{IsUndamaged, ReadingWhy}
use Rattle.arch_model.specs.declared.text_refusal.TextRefusal.{TextRefusal}
use Rattle.arch_model.specs.declared.text_refusal.TextRefusal.TheVariants as refusal
use Rattle.edge_io.specs.Phrases.{Says}
use Rattle.edge_io.specs.declared.sink.SinkFault.{SinkFault}
use Rattle.line_door.specs.Acts.{ConnectionState}
use Rattle.wire_replies.specs.Waits.{Waits}
use Rattle.shelf_doors.specs.Refusals.{unread_line, SaysWhy}
use Rattle.shelf_doors.specs.Streams.{StreamsNext}
use Rattle.shelf_doors.specs.declared.streamed.StreamStop.TheVariants as stop
use Rattle.shelf_doors.proofs.Reading.{says-unread}
use Rattle.imap_messages.specs.Picking.{told_message}
use Rattle.imap_messages.specs.Tagged.{no_code}
use Rattle.imap_messages.specs.Fetching.{FetchAsked, shown_items, items_words, line_with, line_if, message_line, reads_texts}
use Rattle.imap_messages.specs.FetchActs.{IsWhy, MakesItems}

pub none-of : {X : Type 0} (o : Option X) → is_some o ≡ false → o ≡ None
none-of None e = refl
none-of (Some x) e = absurd (cc e)

pub some-of : {X : Type 0} (o : Option X) → is_some o ≡ true → (x : X) × (o ≡ Some x)
some-of None e = absurd (cc e)
some-of (Some x) e = (x, refl)

-- A live message has a row.
pub row-live : (form : Form) (entries : List Entry) (n : ℕ) → is_some (row_in form entries n) ≡ is_some (text_of entries n)
row-live form [] n = refl
row-live form (e ∷ es) n = by (e.number == n) refl (row-live form es n)
  where
    by : (b : Bool) → (e.number == n) ≡ b → is_some (row_in form es n) ≡ is_some (text_of es n) → is_some (row_in form (e ∷ es) n) ≡ is_some (text_of (e ∷ es) n)
    by true is more = rw is refl
    by false is more = rw is more

-- Why something wasn't made is a cause.
pub why-cause : (needed : Bool) (before now : ℕ) (why : TextRefusal) → IsWhy needed why → ReadingWhy before now why → Rose before now ⊎ (now ≡ before)
why-cause needed before now refusal.DiskFault is cause = inl cause
why-cause needed before now (refusal.Damaged named found) is cause = absurd is
why-cause needed before now refusal.NoMemory is cause = inr cause

-- Where no text is needed, no fault is why.
pub why-spared : (needed : Bool) (before now : ℕ) (why : TextRefusal) → needed ≡ false → IsWhy needed why → ReadingWhy before now why → now ≡ before
why-spared needed before now refusal.DiskFault none is cause = absurd (cc (none, is))
why-spared needed before now (refusal.Damaged named found) none is cause = absurd is
why-spared needed before now refusal.NoMemory none is cause = cause

undamaged : (why : TextRefusal) → IsWhy true why → IsUndamaged why
undamaged refusal.DiskFault is = tt
undamaged (refusal.Damaged named found) is = is
undamaged refusal.NoMemory is = tt

-- What was said of it.
pub says-why : (needed : Bool) (code : List ℕ) (i j k : ConnectionState) (why : TextRefusal) (sent : Result Unit SinkFault) → IsWhy needed why → ReadingWhy i.disk j.disk why → i.disk ≤ j.disk → i.out ≡ j.out → i.lost ≡ j.lost → k.disk ≡ j.disk
    → Says (unread_line code why) j.out j.lost k.out k.lost sent → SaysWhy needed (unread_line code) i sent k
says-why true code i j k why sent is cause later out lost same said = says-unread (unread_line code) i j k why sent (undamaged why is) cause later out lost same said
says-why false code i j k refusal.DiskFault sent is cause later out lost same said = absurd (cc is)
says-why false code i j k (refusal.Damaged named found) sent is cause later out lost same said = absurd is
says-why false code i j k refusal.NoMemory sent is kept later out lost same said = (same ∙ kept, rw (out, lost) said)

module _ (a : Archive) (f : FetchAsked) (s n : ℕ) (lives : is_some (text_of (live a.entries) n) ≡ true) where
  -- The line of a live message has the items of its text and row.
  line-shown : (text : List ℕ) (row : Row) → text_of (live a.entries) n ≡ Some text → row_in a.config.form (live a.entries) n ≡ Some row → message_line a (shown_items f.numbering f.items) (told_message s n) ≡ line_with s (items_words text row (shown_items f.numbering f.items))
  line-shown text row has_text has_row =
      ap (λ (o : Option (List ℕ)). line_if s (shown_items f.numbering f.items) o (row_in a.config.form (live a.entries) n)) has_text
      ∙ ap (λ (o : Option Row). line_if s (shown_items f.numbering f.items) (Some text) o) has_row

  line-is : (made : List ℕ) → MakesItems f (text_of (live a.entries) n) (row_in a.config.form (live a.entries) n) (Ok made) → message_line a (shown_items f.numbering f.items) (told_message s n) ≡ line_with s made
  line-is made makes =
      let text = some-of (text_of (live a.entries) n) lives in
      let row = some-of (row_in a.config.form (live a.entries) n) (row-live a.config.form (live a.entries) n ∙ lives) in
      line-shown text.0 row.0 text.1 row.1 ∙ ap (line_with s) (sym (makes text.0 row.0 text.1 row.1))

  pub line-some : 0 < length (message_line a (shown_items f.numbering f.items) (told_message s n))
  line-some =
      let text = some-of (text_of (live a.entries) n) lives in
      let row = some-of (row_in a.config.form (live a.entries) n) (row-live a.config.form (live a.entries) n ∙ lives) in
      subst (λ (w : List ℕ). 0 < length w) (sym (line-shown text.0 row.0 text.1 row.1)) (omega arith)

  module _ (begun : Bool) (old : List ℕ) (i : ConnectionState) where
    -- The line was appended, or a write failed.
    pub said : (made : List ℕ) → MakesItems f (text_of (live a.entries) n) (row_in a.config.form (live a.entries) n) (Ok made) → (j k : ConnectionState) (new : List ℕ) (sent : Result Unit SinkFault) → i.out ≡ j.out → i.lost ≡ j.lost → j.disk ≡ i.disk → k.disk ≡ j.disk
        → Waits (line_with s made) old j.out j.lost new k.out k.lost sent → StreamsNext (unread_line (no_code f.tag)) (reads_texts f) (message_line a (shown_items f.numbering f.items) (told_message s n)) begun old i (if is_ok sent then Ok tt else Err stop.Lost) new k
    said made makes j k new (Ok done) out lost same kept waits = (kept ∙ same, subst (λ (w : List ℕ). Waits w old i.out i.lost new k.out k.lost (Ok tt)) (sym (line-is made makes)) (rw (out, lost) waits))
    said made makes j k new (Err fault) out lost same kept waits = (fault, (kept ∙ same, subst (λ (w : List ℕ). Waits w old i.out i.lost new k.out k.lost (Err fault)) (sym (line-is made makes)) (rw (out, lost) waits)))

    -- It wasn't made.
    pub unread : begun ≡ false → (j k : ConnectionState) (why : TextRefusal) (sent : Result Unit SinkFault) → IsWhy (reads_texts f) why → ReadingWhy i.disk j.disk why → i.disk ≤ j.disk → i.out ≡ j.out → i.lost ≡ j.lost → k.disk ≡ j.disk → Says (unread_line (no_code f.tag) why) j.out j.lost k.out k.lost sent
        → StreamsNext (unread_line (no_code f.tag)) (reads_texts f) (message_line a (shown_items f.numbering f.items) (told_message s n)) begun old i (Err (stop.Unread sent)) old k
    unread not_begun j k why sent is cause later out lost same said' = (not_begun, refl, says-why (reads_texts f) (no_code f.tag) i j k why sent is cause later out lost same said')

    pub short : begun ≡ true → (j : ConnectionState) (why : TextRefusal) → IsWhy (reads_texts f) why → ReadingWhy i.disk j.disk why → i.disk ≤ j.disk → i.out ≡ j.out → i.lost ≡ j.lost
        → StreamsNext (unread_line (no_code f.tag)) (reads_texts f) (message_line a (shown_items f.numbering f.items) (told_message s n)) begun old i (Err stop.Short) old j
    short begun j why is cause later out lost = (begun, (refl, sym out, sym lost, later, why-cause (reads_texts f) i.disk j.disk why is cause))
