-- The messages that a FETCH names, one after another, and what it says of them.
use Rattle.std.proofs.Common.{◌≡◌, ◌+◌, ◌≤◌, ◌<◌, ℕ, nat_lt, Bool, true, false, not, ◌||◌, List, [], ◌∷◌, ◌++◌, length, get_or, drop, Option, Some, is_some, Ok, refl, sym, ap, subst, ◌∙◌, append_assoc, length-append, arith, if◌then◌else◌}
use Rattle.std.specs.List.{filter, flat_map, list_any}
use Rattle.std.proofs.lemmas.Bool.{or_parts, lt-ltb}
use Rattle.std.proofs.lemmas.List.{drop_more, drop_all}
use Rattle.mail_forms.specs.declared.row.Row.{Row}
use Rattle.arch_model.specs.Archives.{Archive, live, text_of}
use Rattle.arch_model.specs.Listings.{row_in}
use Rattle.arch_model.specs.Shelves.{ReadsUpTo, ReadsAhead}
use Rattle.known_uids.specs.Told.{Known, is_live}
use Rattle.line_door.specs.Acts.{ConnectionState, Departure, Plain, Memory, Disk, Newer}
use Rattle.line_door.specs.Making.{says, streams}
use Rattle.imap_syntax.specs.declared.items.Item.{Item}
use Rattle.imap_syntax.specs.declared.items.Item.TheVariants as item
use Rattle.imap_items.specs.Items.{item_of}
use Rattle.shelf_doors.specs.Refusals.{disk_line, unread_line}
use Rattle.shelf_doors.specs.Streams.{StreamWays, Given}
use Rattle.shelf_doors.proofs.Streaming.{Under, under-start, under-more}
use Rattle.imap_messages.specs.declared.numbering.Numbering.{Numbering}
use Rattle.imap_messages.specs.declared.numbering.Numbering.TheVariants as number
use Rattle.imap_messages.specs.Picking.{ToldMessage, told_message, messages_from, star_of, picks, picked, is_outside}
use Rattle.imap_messages.specs.Tagged.{no_code, bad_line, tagged}
use Rattle.imap_messages.specs.Fetching.{FetchAsked, needs_text, is_uid, shown_items, spaced_item, items_words, line_if, message_line, is_gone, fetch_end, fetch_lines, fetch_words, fetch_plain, reads_texts, fetch_said, texts_of, fetch_texts}
use Rattle.imap_messages.specs.FetchActs.{GivesTextIf, MakesItems, names, named_from}
use Rattle.imap_messages.proofs.Messages.{none-of, line-some}

-- A message at an index is before the others from there on.
pub messages-at : (told : List ℕ) (i n : ℕ) → i < length told → n ≡ get_or told i 0 → messages_from (i + 1) (drop i told) ≡ told_message (i + 1) n ∷ messages_from (i + 1 + 1) (drop (i + 1) told)
messages-at told i n within is = rw (drop_more told i 0 within, ← is) refl

-- A set has a message, or not.
pub named-by : (f : FetchAsked) (told : List ℕ) (m : ToldMessage) (star : ℕ) (b : Bool) → star ≡ star_of f.numbering told → picks f.numbering f.set star m ≡ b → names f told m ≡ b
named-by f told m star b is has = ap (λ (x : ℕ). picks f.numbering f.set x m) (sym is) ∙ has

-- What is said of a named message, and of those after it.
lines-first : (a : Archive) (f : FetchAsked) (m : ToldMessage) (ms : List ToldMessage) (gone : Bool) → fetch_lines a f (m ∷ ms) gone ≡ message_line a (shown_items f.numbering f.items) m ++ fetch_lines a f ms (gone || is_gone a m)
lines-first a f m ms gone =
    let line = message_line a (shown_items f.numbering f.items) m in
    let lines = flat_map (message_line a (shown_items f.numbering f.items)) ms in
    let any : (gone || (is_gone a m || list_any (is_gone a) ms)) ≡ ((gone || is_gone a m) || list_any (is_gone a) ms) = either-joined gone (is_gone a m) (list_any (is_gone a) ms) in
    append_assoc line lines (tagged f.tag (fetch_end f.numbering (gone || (is_gone a m || list_any (is_gone a) ms))))
    ∙ ap (λ (b : Bool). line ++ (lines ++ tagged f.tag (fetch_end f.numbering b))) any
  where
    either-joined : (p q r : Bool) → (p || (q || r)) ≡ ((p || q) || r)
    either-joined true q r = refl
    either-joined false q r = refl

-- The message at an index, and what is left from there on.
module _ (a : Archive) (f : FetchAsked) (told : List ℕ) (i n : ℕ) (within : i < length told) (is : n ≡ get_or told i 0) where
  named-step : (b : Bool) → names f told (told_message (i + 1) n) ≡ b → named_from f told i ≡ (if b then told_message (i + 1) n ∷ named_from f told (i + 1) else named_from f told (i + 1))
  named-step b e =
      ap (filter (names f told)) (messages-at told i n within is) ∙ ap (λ (x : Bool). if x then told_message (i + 1) n ∷ named_from f told (i + 1) else named_from f told (i + 1)) e

  -- It isn't named.
  pub passed : names f told (told_message (i + 1) n) ≡ false → named_from f told i ≡ named_from f told (i + 1)
  passed unnamed = named-step false unnamed

  module _ (named : names f told (told_message (i + 1) n) ≡ true) where
    lines-step : (gone : Bool) → fetch_lines a f (named_from f told i) gone ≡ message_line a (shown_items f.numbering f.items) (told_message (i + 1) n) ++ fetch_lines a f (named_from f told (i + 1)) (gone || not (is_some (text_of (live a.entries) n)))
    lines-step gone = ap (λ (ms : List ToldMessage). fetch_lines a f ms gone) (named-step true named) ∙ lines-first a f (told_message (i + 1) n) (named_from f told (i + 1)) gone

    texts-step : (b : Bool) → is_some (text_of (live a.entries) n) ≡ b → texts_of a f (named_from f told i) ≡ (if b then (if reads_texts f then 1 else 0) else 0) + texts_of a f (named_from f told (i + 1))
    texts-step b e =
        ap (texts_of a f) (named-step true named)
        ∙ ap (λ (x : Bool). if reads_texts f then length (if x then told_message (i + 1) n ∷ filter (λ (m : ToldMessage). is_live a m.uid) (named_from f told (i + 1)) else filter (λ (m : ToldMessage). is_live a m.uid) (named_from f told (i + 1))) else 0) e
        ∙ by (reads_texts f) b
      where
        by : (r c : Bool)
            → (if r then length (if c then told_message (i + 1) n ∷ filter (λ (m : ToldMessage). is_live a m.uid) (named_from f told (i + 1)) else filter (λ (m : ToldMessage). is_live a m.uid) (named_from f told (i + 1))) else 0)
            ≡ (if c then (if r then 1 else 0) else 0) + (if r then length (filter (λ (m : ToldMessage). is_live a m.uid) (named_from f told (i + 1))) else 0)
        by true true = omega arith
        by true false = omega arith
        by false true = refl
        by false false = refl

    -- It is gone.
    pub left-gone : (gone : Bool) → is_some (text_of (live a.entries) n) ≡ false → fetch_lines a f (named_from f told i) gone ≡ fetch_lines a f (named_from f told (i + 1)) true
    left-gone gone dead =
        lines-step gone
        ∙ ap (λ (o : Option (List ℕ)). line_if (i + 1) (shown_items f.numbering f.items) o (row_in a.config.form (live a.entries) n) ++ fetch_lines a f (named_from f told (i + 1)) (gone || not (is_some (text_of (live a.entries) n)))) (none-of (text_of (live a.entries) n) dead)
        ∙ ap (fetch_lines a f (named_from f told (i + 1))) (ap (λ (x : Bool). gone || not x) dead ∙ or-true gone)
      where
        or-true : (p : Bool) → (p || true) ≡ true
        or-true true = refl
        or-true false = refl

    pub texts-gone : is_some (text_of (live a.entries) n) ≡ false → texts_of a f (named_from f told i) ≡ texts_of a f (named_from f told (i + 1))
    texts-gone dead = texts-step false dead ∙ none (texts_of a f (named_from f told (i + 1)))
      where
        none : (k : ℕ) → 0 + k ≡ k
        none k = omega arith

    -- It is live.
    pub left-line : (gone : Bool) → is_some (text_of (live a.entries) n) ≡ true → fetch_lines a f (named_from f told i) gone ≡ message_line a (shown_items f.numbering f.items) (told_message (i + 1) n) ++ fetch_lines a f (named_from f told (i + 1)) gone
    left-line gone lives =
        lines-step gone
        ∙ ap (λ (x : Bool). message_line a (shown_items f.numbering f.items) (told_message (i + 1) n) ++ fetch_lines a f (named_from f told (i + 1)) x) (ap (λ (x : Bool). gone || not x) lives ∙ or-false gone)
      where
        or-false : (p : Bool) → (p || false) ≡ p
        or-false true = refl
        or-false false = refl

    pub texts-live : is_some (text_of (live a.entries) n) ≡ true → texts_of a f (named_from f told i) ≡ (if reads_texts f then 1 else 0) + texts_of a f (named_from f told (i + 1))
    texts-live lives = texts-step true lives

    -- Its line was appended.
    pub under-line : is_some (text_of (live a.entries) n) ≡ true → (reply : List ℕ) (gone begun : Bool) (from : ConnectionState) (waiting : List ℕ) (at : ConnectionState) → Under reply (fetch_lines a f (named_from f told i) gone) begun from waiting at
        → (new : List ℕ) (k : ConnectionState) → Given (message_line a (shown_items f.numbering f.items) (told_message (i + 1) n)) waiting at (Ok tt) new k → Under reply (fetch_lines a f (named_from f told (i + 1)) gone) true from new k
    under-line lives reply gone begun from waiting at before new k given =
        under-more reply (fetch_lines a f (named_from f told i) gone) begun from waiting at before (message_line a (shown_items f.numbering f.items) (told_message (i + 1) n)) (fetch_lines a f (named_from f told (i + 1)) gone) new k (left-line gone lives) (line-some a f (i + 1) n lives) given

-- All that is named is named from the first index on, and none from after the last.
pub named-all : (f : FetchAsked) (told : List ℕ) → picked f.numbering f.set told ≡ named_from f told 0
unfolding picked
named-all f told = refl

pub named-none : (a : Archive) (f : FetchAsked) (told : List ℕ) (i : ℕ) (gone : Bool) → length told ≤ i → fetch_lines a f (named_from f told i) gone ≡ tagged f.tag (fetch_end f.numbering gone)
named-none a f told i gone past = rw (drop_all i told past) (ap (λ (b : Bool). tagged f.tag (fetch_end f.numbering b)) (none gone))
  where
    none : (b : Bool) → (b || false) ≡ b
    none true = refl
    none false = refl

-- There is always something left.
pub left-some : (a : Archive) (f : FetchAsked) (ms : List ToldMessage) (gone : Bool) → 0 < length (fetch_lines a f ms gone)
left-some a f ms gone =
    omega (arith, length-append (flat_map (message_line a (shown_items f.numbering f.items)) ms) (tagged f.tag (fetch_end f.numbering (gone || list_any (is_gone a) ms))), length-append f.tag (tagged [] (fetch_end f.numbering (gone || list_any (is_gone a) ms))))

-- An item that doesn't need the text is the same of any.
item-alike : (text other : List ℕ) (row : Row) (i : Item) → needs_text i ≡ false → item_of text row i ≡ item_of other row i
unfolding item_of
item-alike text other row item.Flags e = refl
item-alike text other row item.Uid e = refl
item-alike text other row item.Size e = refl
item-alike text other row item.InternalDate e = refl
item-alike text other row item.Envelope e = absurd (cc e)
item-alike text other row item.Body e = absurd (cc e)
item-alike text other row item.BodyStructure e = absurd (cc e)
item-alike text other row item.Rfc822 e = absurd (cc e)
item-alike text other row item.Rfc822Header e = absurd (cc e)
item-alike text other row item.Rfc822Text e = absurd (cc e)
item-alike text other row (item.Section section partial) e = absurd (cc e)

words-alike : (text other : List ℕ) (row : Row) (items : List Item) → list_any needs_text items ≡ false → flat_map (spaced_item text row) items ≡ flat_map (spaced_item other row) items
words-alike text other row [] e = refl
words-alike text other row (i ∷ is) e =
    let parts = or_parts (needs_text i) (list_any needs_text is) e in
    let here = item-alike text other row i parts.0 in
    let later = words-alike text other row is parts.1 in
    ap (λ (x : List ℕ). (32 ∷ x) ++ flat_map (spaced_item text row) is) here ∙ ap (λ (x : List ℕ). (32 ∷ item_of other row i) ++ x) later

asked-alike : (text other : List ℕ) (row : Row) (items : List Item) → list_any needs_text items ≡ false → items_words text row items ≡ items_words other row items
asked-alike text other row [] e = refl
asked-alike text other row (i ∷ is) e =
    let parts = or_parts (needs_text i) (list_any needs_text is) e in
    let here = item-alike text other row i parts.0 in
    let later = words-alike text other row is parts.1 in
    ap (λ (x : List ℕ). x ++ flat_map (spaced_item text row) is) here ∙ ap (λ (x : List ℕ). item_of other row i ++ x) later

-- The items of a message whose text isn't needed are the same with any.
pub items-alike : (numbering : Numbering) (text other : List ℕ) (row : Row) (items : List Item) → list_any needs_text items ≡ false → items_words text row (shown_items numbering items) ≡ items_words other row (shown_items numbering items)
items-alike number.Sequence text other row items e = asked-alike text other row items e
items-alike number.Uid text other row items e = with-uid (list_any is_uid items) refl
  where
    with-uid : (b : Bool) → list_any is_uid items ≡ b → items_words text row (shown_items number.Uid items) ≡ items_words other row (shown_items number.Uid items)
    with-uid true is = rw is (asked-alike text other row items e)
    with-uid false is = rw is (asked-alike text other row (item.Uid ∷ items) e)

-- The items that the code made with a text are those of the message.
pub items-made : (f : FetchAsked) (found : Option (List ℕ)) (shown : Option Row) (text : List ℕ) (row : Row) (made : List ℕ) → GivesTextIf (reads_texts f) found (Ok text) → shown ≡ Some row → made ≡ items_words text row (shown_items f.numbering f.items) → MakesItems f found shown (Ok made)
items-made f found shown text row made given there is t r has_text has_row = by (reads_texts f) refl
  where
    same : row ≡ r
    same = let both : Some row ≡ Some r = sym there ∙ has_row in cc

    by : (b : Bool) → reads_texts f ≡ b → made ≡ items_words t r (shown_items f.numbering f.items)
    by true reads =
        let found' : Some t ≡ Some text = sym has_text ∙ given reads in
        let equal : text ≡ t = cc in
        rw (← same, ← equal) is
    by false reads = rw (← same) (is ∙ items-alike f.numbering text t row f.items reads)

-- A reply that is streamed, and what is said in its place.
pub fetch-ways : (a : Archive) (k : Known) (f : FetchAsked) → is_outside f.numbering f.set k.uids ≡ false → StreamWays (fetch_said a k f) a k true true (fetch_words a k.uids f) (unread_line (no_code f.tag)) (nat_lt 0 (texts_of a f (picked f.numbering f.set k.uids)))
fetch-ways a k f inside = record {
  by_rules = plain;
  no_memory = refl;
  no_disk = λ some. ap (λ (b : Bool). if b then says a k (disk_line (no_code f.tag)) else fetch_plain a k f) (ap (nat_lt 0) texts ∙ some);
  after = after;
}
  where
    plain : fetch_plain a k f ≡ streams a k (fetch_words a k.uids f)
    plain = ap (λ (b : Bool). if b then says a k (bad_line f.tag) else streams a k (fetch_words a k.uids f)) inside

    texts : fetch_texts a k f ≡ texts_of a f (picked f.numbering f.set k.uids)
    texts = ap (λ (b : Bool). if b then 0 else texts_of a f (picked f.numbering f.set k.uids)) inside

    plain-after : (b : Bool) → a ≡ (if b then says a k (bad_line f.tag) else streams a k (fetch_words a k.uids f)).after
    plain-after true = refl
    plain-after false = refl

    disk-after : (b : Bool) → a ≡ (if b then says a k (disk_line (no_code f.tag)) else fetch_plain a k f).after
    disk-after true = refl
    disk-after false = plain-after (is_outside f.numbering f.set k.uids)

    after : (way : Departure) → a ≡ (fetch_said a k f way).after
    after Plain = plain-after (is_outside f.numbering f.set k.uids)
    after Memory = refl
    after Disk = disk-after (nat_lt 0 (fetch_texts a k f))
    after Newer = plain-after (is_outside f.numbering f.set k.uids)

-- The first texts of so many are within all.
pub texts-fit : (most here rest before now : ℕ) → ReadsAhead most (here + rest) before now → here ≤ most
texts-fit most here rest before now reads = let later = reads.later in omega (arith, later, reads.bound)

pub ahead-on : (most all here rest before mid now : ℕ) → all ≡ here + rest → ReadsAhead most all before mid → ReadsUpTo here mid now → ReadsAhead most rest before now
ahead-on most all here rest before mid now parts reads more = record { later = omega (arith, reads.later, more.later); bound = omega (arith, parts, reads.bound, more.bound) }

pub ahead-stop : (most all here rest before mid now : ℕ) → all ≡ here + rest → ReadsAhead most all before mid → ReadsUpTo here mid now → ReadsUpTo most before now
ahead-stop most all here rest before mid now parts reads more = record { later = omega (arith, reads.later, more.later); bound = omega (arith, parts, reads.bound, more.bound) }

-- A text that is needed is one of all; and where there is none, none is needed.
pub texts-needed : (needs : Bool) (most all rest before now : ℕ) → all ≡ (if needs then 1 else 0) + rest → ReadsAhead most all before now → needs ≡ true → nat_lt 0 most ≡ true
texts-needed true most all rest before now parts reads e = let later = reads.later in lt-ltb 0 most (omega (arith, parts, later, reads.bound))
texts-needed false most all rest before now parts reads e = absurd (cc e)

pub texts-spared : (needs : Bool) (most all rest before now : ℕ) → all ≡ (if needs then 1 else 0) + rest → ReadsAhead most all before now → most ≡ 0 → needs ≡ false
texts-spared true most all rest before now parts reads none = let later = reads.later in absurd (omega (arith, parts, later, reads.bound, none))
texts-spared false most all rest before now parts reads none = refl

-- Before the first message.
pub start : (a : Archive) (f : FetchAsked) (told : List ℕ) (from : ConnectionState) (waiting : List ℕ) → waiting ≡ [] → Under (fetch_words a told f) (fetch_lines a f (named_from f told 0) false) false from waiting from
start a f told from waiting none =
    subst (λ (w : List ℕ). Under (fetch_words a told f) (fetch_lines a f (named_from f told 0) false) false from w from) (sym none)
    (subst (λ (ms : List ToldMessage). Under (fetch_words a told f) (fetch_lines a f ms false) false from [] from) (named-all f told) (under-start (fetch_words a told f) from))

pub reads-start : (a : Archive) (f : FetchAsked) (told : List ℕ) (n : ℕ) → ReadsAhead (texts_of a f (picked f.numbering f.set told)) (texts_of a f (named_from f told 0)) n n
reads-start a f told n =
    subst (λ (ms : List ToldMessage). ReadsAhead (texts_of a f (picked f.numbering f.set told)) (texts_of a f ms) n n) (named-all f told) (record { later = omega arith; bound = omega arith })
