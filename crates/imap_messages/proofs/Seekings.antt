-- The messages that a SEARCH finds.
use Rattle.std.proofs.Common.{◌≡◌, ◌+◌, ◌≤◌, ◌<◌, ℕ, zero, suc, nat_lt, Bool, true, false, ◌&&◌, List, [], ◌∷◌, ◌++◌, length, map, get_or, drop, Option, Some, None, is_some, Result, Ok, Err, is_ok, OnOk, IfOk, IfErr, refl, sym, ap, subst, ◌∙◌, append_assoc, length-append, arith, if◌then◌else◌}
use Rattle.std.specs.List.{list_all, list_any, filter, flat_map}
use Rattle.std.proofs.lemmas.Bool.{or_parts, lt-ltb}
use Rattle.std.proofs.lemmas.List.{map-append, drop_more}
use Rattle.std.proofs.lemmas.List.Elements.{filter-append}
use Rattle.mail_forms.specs.declared.row.Row.{Row}
use Rattle.arch_model.specs.Shelves.{ReadingWhy, ReadsUpTo}
use Rattle.edge_io.specs.Phrases.{Says}
use Rattle.edge_io.specs.declared.sink.SinkFault.{SinkFault}
use Rattle.known_uids.specs.Told.{Known}
use Rattle.line_door.specs.Acts.{ConnectionState, Plain, Acts, held_if}
use Rattle.line_door.specs.Making.{says}
use Rattle.line_door.proofs.Acting.{acts-by_held}
use Rattle.shelf_doors.specs.Refusals.{disk_line, unread_line}
use Rattle.shelf_doors.proofs.Streaming.{acts-why}
use Rattle.imap_messages.specs.Tagged.{bad_line, no_code}
use Rattle.arch_model.specs.Archives.{Archive, live, text_of}
use Rattle.arch_model.specs.Listings.{row_in}
use Rattle.arch_model.specs.declared.text_refusal.TextRefusal.{TextRefusal}
use Rattle.arch_model.specs.declared.text_refusal.TextRefusal.TheVariants as refusal
use Rattle.imap_syntax.specs.Trees.{KeyTree, trees}
use Rattle.arch_base.specs.declared.sequence.NoMemory.{NoMemory}
use Rattle.imap_items.specs.Keys.{message_of, tree_matches, tree_reads}
use Rattle.imap_items.specs.Laws.{UnreadTextsAreAlike}
use Rattle.imap_messages.specs.Picking.{ToldMessage, told_message, messages_from, number_by, greatest_uid}
use Rattle.imap_messages.specs.Wanted.{trees_are_told}
use Rattle.imap_messages.specs.Seeking.{SearchAsked, matches_all, matches_if, is_sought, sought, looks_at_texts, row_keys, looks_of, spaced_number, numbers_words, search_words, search_plain, search_said, search_texts, charset_line, is_known_charset}
use Rattle.imap_messages.specs.FetchActs.{IsWhy, GivesTextIf}
use Rattle.imap_messages.specs.SearchActs.{message_at, IsPlaceAmong, text_at, keys_by, look_of, Appends}
use Rattle.imap_messages.specs.declared.found.Place.{Place}
use Rattle.imap_messages.proofs.Named.{messages-at}
use Rattle.imap_messages.proofs.Messages.{some-of, row-live, why-spared, says-why}

-- All keys are those that read no text and those that do.
keys-split : (p : KeyTree → Bool) (keys : List KeyTree) → list_all p keys ≡ (list_all p (row_keys keys) && list_all p (filter tree_reads keys))
keys-split p [] = refl
keys-split p (k ∷ ks) = by (tree_reads k) refl (keys-split p ks)
  where
    later : (x r t : Bool) → (x && (r && t)) ≡ (r && (x && t))
    later true r t = refl
    later false true t = refl
    later false false t = refl

    sooner : (x r t : Bool) → (x && (r && t)) ≡ ((x && r) && t)
    sooner true r t = refl
    sooner false r t = refl

    by : (b : Bool) → tree_reads k ≡ b → list_all p ks ≡ (list_all p (row_keys ks) && list_all p (filter tree_reads ks)) → list_all p (k ∷ ks) ≡ (list_all p (row_keys (k ∷ ks)) && list_all p (filter tree_reads (k ∷ ks)))
    by true e more = rw e (ap (λ (x : Bool). p k && x) more ∙ later (p k) (list_all p (row_keys ks)) (list_all p (filter tree_reads ks)))
    by false e more = rw e (ap (λ (x : Bool). p k && x) more ∙ sooner (p k) (list_all p (row_keys ks)) (list_all p (filter tree_reads ks)))

-- None of some keys reads a text.
none-reads : (keys : List KeyTree) → list_any tree_reads keys ≡ false → filter tree_reads keys ≡ []
none-reads [] e = refl
none-reads (k ∷ ks) e = let parts = or_parts (tree_reads k) (list_any tree_reads ks) e in rw parts.0 (none-reads ks parts.1)

-- Keys that read no text answer the same of any.
rows-alike : UnreadTextsAreAlike → (p : Place) (t u : List ℕ) (row : Row) (keys : List KeyTree)
    → list_all (tree_matches (text_at p t row)) (row_keys keys) ≡ list_all (tree_matches (text_at p u row)) (row_keys keys)
rows-alike law p t u row [] = refl
rows-alike law p t u row (k ∷ ks) = by (tree_reads k) refl (rows-alike law p t u row ks)
  where
    by : (b : Bool) → tree_reads k ≡ b → list_all (tree_matches (text_at p t row)) (row_keys ks) ≡ list_all (tree_matches (text_at p u row)) (row_keys ks)
        → list_all (tree_matches (text_at p t row)) (row_keys (k ∷ ks)) ≡ list_all (tree_matches (text_at p u row)) (row_keys (k ∷ ks))
    by true e more = rw e more
    by false e more =
        let same : tree_matches (text_at p t row) k ≡ tree_matches (text_at p u row) k =
        law (text_at p u row) t k e in
        rw e (rw (same, more) refl)

-- A message without a row isn't found.
pub found-none : (told : List ℕ) (m : ToldMessage) (keys : List KeyTree) (text : Option (List ℕ)) → matches_if told m keys text None ≡ false
found-none told m keys None = refl
found-none told m keys (Some text) = refl

-- The message at a place, as keys are asked of it.
place-all : (told : List ℕ) (p : Place) → IsPlaceAmong told p → (keys : List KeyTree) (text : List ℕ) (row : Row) → matches_all told (message_at p) keys text row ≡ list_all (tree_matches (text_at p text row)) keys
place-all told p is keys text row =
    ap (λ (n : ℕ). list_all (tree_matches (message_of text row p.sequence n (greatest_uid told))) keys) (sym is.count)
    ∙ ap (λ (n : ℕ). list_all (tree_matches (message_of text row p.sequence p.count n)) keys) (sym is.greatest)

module _ (a : Archive) (told : List ℕ) (p : Place) (is : IsPlaceAmong told p) where
  -- A live message with a row, and its text.
  sought-is : (keys : List KeyTree) (text : List ℕ) (row : Row) → text_of (live a.entries) p.uid ≡ Some text → row_in a.config.form (live a.entries) p.uid ≡ Some row → is_sought a told keys (message_at p) ≡ list_all (tree_matches (text_at p text row)) keys
  sought-is keys text row has_text has_row =
      ap (λ (o : Option (List ℕ)). matches_if told (message_at p) keys o (row_in a.config.form (live a.entries) p.uid)) has_text
      ∙ ap (λ (o : Option Row). matches_if told (message_at p) keys (Some text) o) has_row
      ∙ place-all told p is keys text row

  text-there : (row : Row) → row_in a.config.form (live a.entries) p.uid ≡ Some row → (text : List ℕ) × (text_of (live a.entries) p.uid ≡ Some text)
  text-there row has_row = some-of (text_of (live a.entries) p.uid) (sym (row-live a.config.form (live a.entries) p.uid) ∙ ap is_some has_row)

  -- What a message without a row says.
  pub no-row : (keys : List KeyTree) → row_in a.config.form (live a.entries) p.uid ≡ None → is_sought a told keys (message_at p) ≡ false
  no-row keys none = ap (λ (o : Option Row). matches_if told (message_at p) keys (text_of (live a.entries) p.uid) o) none ∙ found-none told (message_at p) keys (text_of (live a.entries) p.uid)

  -- The keys that read no text, asked with any.
  pub rows-found : UnreadTextsAreAlike → (keys : List KeyTree) (other : List ℕ) (row : Row) (found : Bool) → row_in a.config.form (live a.entries) p.uid ≡ Some row → found ≡ list_all (tree_matches (text_at p other row)) (keys_by false keys)
      → found ≡ is_sought a told (row_keys keys) (message_at p)
  rows-found law keys other row found has_row result =
      let text = text-there row has_row in
      result ∙ rows-alike law p other text.0 row keys ∙ sym (sought-is (row_keys keys) text.0 row text.1 has_row)

  -- Then those that read texts.
  pub all-found : (keys : List KeyTree) (text : List ℕ) (row : Row) (found : Bool) → row_in a.config.form (live a.entries) p.uid ≡ Some row → GivesTextIf (list_any tree_reads keys) (text_of (live a.entries) p.uid) (Ok text)
      → is_sought a told (row_keys keys) (message_at p) ≡ true → found ≡ list_all (tree_matches (text_at p text row)) (keys_by true keys) → found ≡ is_sought a told keys (message_at p)
  all-found keys text row found has_row given rows result =
      let t = text-there row has_row in
      let first : list_all (tree_matches (text_at p t.0 row)) (row_keys keys) ≡ true = sym (sought-is (row_keys keys) t.0 row t.1 has_row) ∙ rows in
      result ∙ by (list_any tree_reads keys) refl t.0 t.1
      ∙ sym (sought-is keys t.0 row t.1 has_row ∙ keys-split (tree_matches (text_at p t.0 row)) keys ∙ ap (λ (x : Bool). x && list_all (tree_matches (text_at p t.0 row)) (filter tree_reads keys)) first)
    where
      by : (b : Bool) → list_any tree_reads keys ≡ b → (t : List ℕ) → text_of (live a.entries) p.uid ≡ Some t → list_all (tree_matches (text_at p text row)) (filter tree_reads keys) ≡ list_all (tree_matches (text_at p t row)) (filter tree_reads keys)
      by true e t has =
          let both : Some text ≡ Some t = sym (given e) ∙ has in
          let same : text ≡ t = cc in
          ap (λ (x : List ℕ). list_all (tree_matches (text_at p x row)) (filter tree_reads keys)) same
      by false e t has = rw (none-reads keys e) refl

  -- A message that a key without texts doesn't match isn't found.
  pub none-found : (keys : List KeyTree) → is_sought a told (row_keys keys) (message_at p) ≡ false → false ≡ is_sought a told keys (message_at p)
  none-found keys rows = by (row_in a.config.form (live a.entries) p.uid) refl
    where
      by : (o : Option Row) → row_in a.config.form (live a.entries) p.uid ≡ o → false ≡ is_sought a told keys (message_at p)
      by None none = sym (no-row keys none)
      by (Some row) has_row =
          let t = text-there row has_row in
          let first : list_all (tree_matches (text_at p t.0 row)) (row_keys keys) ≡ false = sym (sought-is (row_keys keys) t.0 row t.1 has_row) ∙ rows in
          sym (sought-is keys t.0 row t.1 has_row ∙ keys-split (tree_matches (text_at p t.0 row)) keys ∙ ap (λ (x : Bool). x && list_all (tree_matches (text_at p t.0 row)) (filter tree_reads keys)) first)

  -- What is found by keys without texts is live.
  pub sought-live : (keys : List KeyTree) → is_sought a told keys (message_at p) ≡ true → is_some (text_of (live a.entries) p.uid) ≡ true
  sought-live keys found = by (text_of (live a.entries) p.uid) refl
    where
      by : (o : Option (List ℕ)) → text_of (live a.entries) p.uid ≡ o → is_some (text_of (live a.entries) p.uid) ≡ true
      by (Some t) e = ap is_some e
      by None e =
          let none : is_sought a told keys (message_at p) ≡ false = ap (λ (o : Option (List ℕ)). matches_if told (message_at p) keys o (row_in a.config.form (live a.entries) p.uid)) e in
          absurd (cc (none, found))

-- A reason to read one text is one to read more.
pub why-more : (n m : ℕ) (why : TextRefusal) → n ≤ m → IsWhy (nat_lt 0 n) why → IsWhy (nat_lt 0 m) why
why-more n m refusal.DiskFault fits is = lt-ltb 0 m (omega (arith, fits, positive n is))
  where
    positive : (k : ℕ) → nat_lt 0 k ≡ true → 0 < k
    positive zero e = absurd (cc e)
    positive (suc k) e = omega arith
why-more n m (refusal.Damaged named found) fits is = is
why-more n m refusal.NoMemory fits is = tt

-- The found ones of a message and others.
sought-parts : (a : Archive) (told : List ℕ) (keys : List KeyTree) (i n : ℕ) → i < length told → n ≡ get_or told i 0
    → filter (is_sought a told keys) (messages_from (i + 1) (drop i told)) ≡ filter (is_sought a told keys) (told_message (i + 1) n ∷ []) ++ filter (is_sought a told keys) (messages_from (i + 1 + 1) (drop (i + 1) told))
sought-parts a told keys i n within is =
    ap (filter (is_sought a told keys)) (messages-at told i n within is)
    ∙ filter-append (is_sought a told keys) (told_message (i + 1) n ∷ []) (messages_from (i + 1 + 1) (drop (i + 1) told))

-- The numbers so far, and those that are still to come.
pub numbers-at : (a : Archive) (s : SearchAsked) (told : List ℕ) (i n : ℕ) (all numbers more : List ℕ) → i < length told → n ≡ get_or told i 0
    → numbers ++ map (number_by s.numbering) (filter (is_sought a told s.keys) (messages_from (i + 1) (drop i told))) ≡ all
    → more ≡ numbers ++ map (number_by s.numbering) (filter (is_sought a told s.keys) (told_message (i + 1) n ∷ []))
    → more ++ map (number_by s.numbering) (filter (is_sought a told s.keys) (messages_from (i + 1 + 1) (drop (i + 1) told))) ≡ all
numbers-at a s told i n all numbers more within is before next =
    let here = filter (is_sought a told s.keys) (told_message (i + 1) n ∷ []) in
    let later = filter (is_sought a told s.keys) (messages_from (i + 1 + 1) (drop (i + 1) told)) in
    ap (λ (x : List ℕ). x ++ map (number_by s.numbering) later) next
    ∙ append_assoc numbers (map (number_by s.numbering) here) (map (number_by s.numbering) later)
    ∙ ap (λ (x : List ℕ). numbers ++ x) (sym (map-append (number_by s.numbering) here later))
    ∙ ap (λ (x : List ToldMessage). numbers ++ map (number_by s.numbering) x) (sym (sought-parts a told s.keys i n within is))
    ∙ before

-- The texts of a message, and of those after it.
pub looks-at : (a : Archive) (told : List ℕ) (s : SearchAsked) (i n : ℕ) → i < length told → n ≡ get_or told i 0
    → looks_of a told s (messages_from (i + 1) (drop i told)) ≡ looks_of a told s (told_message (i + 1) n ∷ []) + looks_of a told s (messages_from (i + 1 + 1) (drop (i + 1) told))
looks-at a told s i n within is = by (looks_at_texts s) refl
  where
    by : (b : Bool) → looks_at_texts s ≡ b
        → looks_of a told s (messages_from (i + 1) (drop i told)) ≡ looks_of a told s (told_message (i + 1) n ∷ []) + looks_of a told s (messages_from (i + 1 + 1) (drop (i + 1) told))
    by true e = rw e (ap length (sought-parts a told (row_keys s.keys) i n within is)
        ∙ length-append (filter (is_sought a told (row_keys s.keys)) (told_message (i + 1) n ∷ [])) (filter (is_sought a told (row_keys s.keys)) (messages_from (i + 1 + 1) (drop (i + 1) told))))
    by false e = rw e refl

-- What one message looks at.
pub look-is : (a : Archive) (told : List ℕ) (s : SearchAsked) (m : ToldMessage) → look_of a told s.keys m ≡ looks_of a told s (m ∷ [])
look-is a told s m = by (is_sought a told (row_keys s.keys) m) refl
  where
    by : (b : Bool) → is_sought a told (row_keys s.keys) m ≡ b → look_of a told s.keys m ≡ looks_of a told s (m ∷ [])
    by true e = rw e refl
    by false e = rw e refl

-- What is read of a message that all other keys match.
pub look-true : (a : Archive) (told : List ℕ) (keys : List KeyTree) (m : ToldMessage) → is_sought a told (row_keys keys) m ≡ true → nat_lt 0 (look_of a told keys m) ≡ list_any tree_reads keys
look-true a told keys m found = by (list_any tree_reads keys) refl
  where
    by : (b : Bool) → list_any tree_reads keys ≡ b → nat_lt 0 (look_of a told keys m) ≡ list_any tree_reads keys
    by true e = rw (e, found) refl
    by false e = rw e refl

-- The number of a found message was appended.
pub pushed : (a : Archive) (s : SearchAsked) (told : List ℕ) (m : ToldMessage) (old new : List ℕ) (n : ℕ) (r : Result Unit TextRefusal) → is_sought a told s.keys m ≡ true → n ≡ number_by s.numbering m → OnOk r (new ≡ old ++ n ∷ []) → IfErr r (IsWhy (nat_lt 0 (looks_of a told s (m ∷ [])))) → Appends a s told m old r new
pushed a s told m old new n (Ok done) found is ok why =
    ok ∙ ap (λ (x : ℕ). old ++ x ∷ []) is ∙ ap (λ (b : Bool). old ++ map (number_by s.numbering) (if b then m ∷ [] else [])) (sym found)
pushed a s told m old new n (Err w) found is ok why = why

-- The first of the numbers, and all of them.
pub numbers-start : (a : Archive) (s : SearchAsked) (told numbers : List ℕ) → numbers ≡ [] → numbers ++ map (number_by s.numbering) (filter (is_sought a told s.keys) (messages_from 1 told)) ≡ map (number_by s.numbering) (sought a told s.keys)
unfolding sought
numbers-start a s told numbers none = ap (λ (x : List ℕ). x ++ map (number_by s.numbering) (filter (is_sought a told s.keys) (messages_from 1 told))) none

pub if-live : (r : Result Bool NoMemory) (P : Type 0) → P → IfOk r (λ (found : Bool). found ≡ true → P)
if-live (Ok found) P p = λ e. p
if-live (Err refused) P p = tt

-- The next number after a space, and the others.
pub numbers-left : (numbers : List ℕ) (i : ℕ) → i < length numbers → flat_map spaced_number (drop i numbers) ≡ spaced_number (get_or numbers i 0) ++ flat_map spaced_number (drop (i + 1) numbers)
numbers-left numbers i within = ap (flat_map spaced_number) (drop_more numbers i 0 within)

-- The texts of a SEARCH that is searched.
texts-by : (a : Archive) (k : Known) (s : SearchAsked) → trees_are_told (length k.uids) (trees s.keys) ≡ true → is_known_charset s.charset ≡ true → search_texts a k s ≡ looks_of a k.uids s (messages_from 1 k.uids)
texts-by a k s t n =
    ap (λ (b : Bool). if b && is_known_charset s.charset then looks_of a k.uids s (messages_from 1 k.uids) else 0) t
    ∙ ap (λ (b : Bool). if true && b then looks_of a k.uids s (messages_from 1 k.uids) else 0) n

-- It isn't known what is found, though no text is to be read.
pub search-spared : (a : Archive) (k : Known) (s : SearchAsked) → trees_are_told (length k.uids) (trees s.keys) ≡ true → is_known_charset s.charset ≡ true → (before now : ℕ) (why : TextRefusal) → IsWhy (nat_lt 0 (looks_of a k.uids s (messages_from 1 k.uids))) why
    → ReadingWhy before now why → search_texts a k s ≡ 0 → now ≡ before
search-spared a k s t n before now why is cause none =
    why-spared (nat_lt 0 (looks_of a k.uids s (messages_from 1 k.uids))) before now why (ap (nat_lt 0) (sym (texts-by a k s t n) ∙ none)) is cause

-- What is said of a SEARCH makes an act.
module _ (a : Archive) (k : Known) (s : SearchAsked) (i j : ConnectionState) (sent : Result Unit SinkFault) where
  plain-by : (told known : Bool) → trees_are_told (length k.uids) (trees s.keys) ≡ told → is_known_charset s.charset ≡ known
      → search_plain a k s ≡ (if told && known then says a k (search_words a k.uids s) else says a k (if told then charset_line s.tag else bad_line s.tag))
  plain-by told known t n =
      ap (λ (b : Bool). if b && is_known_charset s.charset then says a k (search_words a k.uids s) else says a k (if b then charset_line s.tag else bad_line s.tag)) t
      ∙ ap (λ (b : Bool). if told && b then says a k (search_words a k.uids s) else says a k (if told then charset_line s.tag else bad_line s.tag)) n

  by-plain : (words : List ℕ) → search_plain a k s ≡ says a k words → j.disk ≡ i.disk → Says words i.out i.lost j.out j.lost sent → Acts (search_said a k s) i (held_if (is_ok sent) k) a j
  by-plain words is kept said = acts-by_held (search_said a k s) Plain (says a k words) i j k a sent is refl kept (omega (arith, kept)) said refl

  -- A sequence number isn't told.
  pub search-bad : trees_are_told (length k.uids) (trees s.keys) ≡ false → j.disk ≡ i.disk → Says (bad_line s.tag) i.out i.lost j.out j.lost sent → Acts (search_said a k s) i (held_if (is_ok sent) k) a j
  search-bad t kept said = by-plain (bad_line s.tag) (plain-by false (is_known_charset s.charset) t refl) kept said

  -- The charset isn't known.
  pub search-unknown : trees_are_told (length k.uids) (trees s.keys) ≡ true → is_known_charset s.charset ≡ false → j.disk ≡ i.disk → Says (charset_line s.tag) i.out i.lost j.out j.lost sent → Acts (search_said a k s) i (held_if (is_ok sent) k) a j
  search-unknown t n kept said = by-plain (charset_line s.tag) (plain-by true false t n) kept said

  -- The numbers were found.
  pub search-found : trees_are_told (length k.uids) (trees s.keys) ≡ true → is_known_charset s.charset ≡ true → j.disk ≡ i.disk → (numbers : List ℕ) → numbers ≡ map (number_by s.numbering) (sought a k.uids s.keys)
      → Says (numbers_words s.tag s.numbering numbers) i.out i.lost j.out j.lost sent → Acts (search_said a k s) i (held_if (is_ok sent) k) a j
  search-found t n kept numbers is said =
      by-plain (search_words a k.uids s) (plain-by true true t n) kept (subst (λ (x : List ℕ). Says (numbers_words s.tag s.numbering x) i.out i.lost j.out j.lost sent) is said)

  -- It was said why they aren't known.
  pub search-why : trees_are_told (length k.uids) (trees s.keys) ≡ true → is_known_charset s.charset ≡ true → (mid : ConnectionState) (why : TextRefusal) → IsWhy (nat_lt 0 (looks_of a k.uids s (messages_from 1 k.uids))) why → ReadingWhy i.disk mid.disk why → i.disk ≤ mid.disk
      → i.out ≡ mid.out → i.lost ≡ mid.lost → j.disk ≡ mid.disk → Says (unread_line (no_code s.tag) why) mid.out mid.lost j.out j.lost sent → Acts (search_said a k s) i (held_if (is_ok sent) k) a j
  search-why t n mid why is cause later out lost same said =
      acts-why (search_said a k s) a k true (unread_line (no_code s.tag)) (nat_lt 0 (looks_of a k.uids s (messages_from 1 k.uids))) i j sent refl
      (λ e. ap (λ (b : Bool). if b then says a k (disk_line (no_code s.tag)) else search_plain a k s) (ap (nat_lt 0) (texts-by a k s t n) ∙ e))
      (says-why (nat_lt 0 (looks_of a k.uids s (messages_from 1 k.uids))) (no_code s.tag) i mid j why sent is cause later out lost same said)

  -- The texts that were read.
  pub search-reads : trees_are_told (length k.uids) (trees s.keys) ≡ true → is_known_charset s.charset ≡ true → (before now : ℕ) → ReadsUpTo (looks_of a k.uids s (messages_from 1 k.uids)) before now → ReadsUpTo (search_texts a k s) before now
  search-reads t n before now reads = subst (λ (x : ℕ). ReadsUpTo x before now) (sym (texts-by a k s t n)) reads
