-- The rows, texts and pieces of numbers, one after another.
use Rattle.std.proofs.Common.{◌≡◌, ◌<◌, ◌≤◌, ◌+◌, ◌-◌, ◌==◌, ℕ, zero, suc, Bool, true, false, List, [], ◌∷◌, ◌++◌, length, drop, get_or, Option, Some, None, is_some, refl, sym, ap, ◌∙◌, length-append, arith, if◌then◌else◌}
use Rattle.std.specs.List.{flat_map}
use Rattle.std.proofs.lemmas.List.{at_drop_more, drop_all}
use Rattle.arch_base.specs.declared.ids.Form.{Form}
use Rattle.arch_model.specs.Archives.{Archive, Entry, live, text_of}
use Rattle.arch_model.specs.Listings.{row_at, row_in}
use Rattle.arch_model.specs.Rows.{row_of}
use Rattle.mail_forms.specs.Mailboxes.{mbox_of, quoted, separator}
use Rattle.mail_reader.specs.Lines.{lines_of}
use Rattle.mail_forms.specs.declared.row.Row.{Row}
use Rattle.http_front.specs.Views.{shown_row, shown_text, IsNextLive}
use Rattle.http_front.specs.Mailboxes.{piece_by, piece_at, mailbox_at, pieces_from, whole_mailbox}

-- A number has a row exactly if it has a text, and the row tells the length of the text's piece.
pub data RowAndText : Option Row → Option (List ℕ) → Type 0 where
  Neither : RowAndText None None
  Both : (row : Row) (text : List ℕ) → row.mbox ≡ length (mbox_of text) → RowAndText (Some row) (Some text)

mbox-is : (form : Form) (e : Entry) → (row_at form e).mbox ≡ length (mbox_of e.text)
unfolding row_of
mbox-is form e = refl

pub row-and-text : (form : Form) (entries : List Entry) (n : ℕ) → RowAndText (row_in form entries n) (text_of entries n)
row-and-text form [] n = Neither
row-and-text form (e ∷ es) n = by (e.number == n) (row-and-text form es n)
  where
    by : (t : Bool) → RowAndText (row_in form es n) (text_of es n) → RowAndText (if t then Some (row_at form e) else row_in form es n) (if t then Some e.text else text_of es n)
    by true later = Both (row_at form e) e.text (mbox-is form e)
    by false later = later

-- The length of the piece of a number by its row.
abbrev pub mbox_by : Option Row → ℕ
mbox_by None = 0
mbox_by (Some row) = row.mbox

row-told : (row : Option Row) (text : Option (List ℕ)) → RowAndText row text → length (piece_by text) ≡ mbox_by row
row-told None None Neither = refl
row-told None (Some text) never = elim never [ ]
row-told (Some row) None never = elim never [ ]
row-told (Some row) (Some text) (Both r t is) = sym is

pub piece-of : (a : Archive) (n : ℕ) (row : Option Row) → row ≡ shown_row a n → length (piece_at a.entries n) ≡ mbox_by row
piece-of a n row is = row-told (shown_row a n) (shown_text a.entries n) (row-and-text a.config.form (live a.entries) n) ∙ ap mbox_by (sym is)

-- A number without a text has no piece.
pub no-piece : (text : Option (List ℕ)) → is_some text ≡ false → piece_by text ≡ []
no-piece None none = refl
no-piece (Some text) none = absurd (cc none)

-- The pieces of the numbers from one on.
unfoldable pub pieces_left : List Entry → ℕ → List ℕ
pieces_left entries low = pieces_from entries low (4294967296 - low)

pub pieces-all : (entries : List Entry) → whole_mailbox entries ≡ pieces_left entries 0
unfolding whole_mailbox pieces_left
pieces-all entries = let all : 4294967296 ≡ 4294967296 - 0 = omega arith in ap (pieces_from entries 0) all

skip : (entries : List Entry) (low gap count : ℕ) → ((m : ℕ) → low ≤ m → m < low + gap → shown_text entries m ≡ None) → pieces_from entries low (gap + count) ≡ pieces_from entries (low + gap) count
skip entries low zero count none =
    let here : low ≡ low + 0 = omega arith in
    let size : 0 + count ≡ count = omega arith in
    ap (pieces_from entries low) size ∙ ap (λ (k : ℕ). pieces_from entries k count) here
skip entries low (suc gap) count none =
    let size : suc gap + count ≡ suc (gap + count) = omega arith in
    let here : low + 1 + gap ≡ low + suc gap = omega arith in
    ap (pieces_from entries low) size
    ∙ ap (λ (t : Option (List ℕ)). piece_by t ++ pieces_from entries (low + 1) (gap + count)) (none low (omega arith) (omega arith))
    ∙ skip entries (low + 1) gap count (λ m from to. none m (omega (arith, from)) (omega (arith, to)))
    ∙ ap (λ (k : ℕ). pieces_from entries k count) here

-- The next live number, and the pieces after its own.
pub pieces-next : (entries : List Entry) (low n : ℕ) → n < 4294967296 → IsNextLive entries low (Some n) → pieces_left entries low ≡ piece_at entries n ++ pieces_left entries (n + 1)
unfolding pieces_left
pieces-next entries low n small next =
    let gap : 4294967296 - low ≡ (n - low) + suc (4294967296 - (n + 1)) = omega (arith, small, next.0) in
    let here : low + (n - low) ≡ n = omega (arith, next.0) in
    ap (pieces_from entries low) gap
    ∙ skip entries low (n - low) (suc (4294967296 - (n + 1))) (λ m from to. next.1 m from (omega (arith, to, next.0)))
    ∙ ap (λ (k : ℕ). pieces_from entries k (suc (4294967296 - (n + 1)))) here

-- Without one, no piece is left.
pub pieces-none : (entries : List Entry) (low : ℕ) → IsNextLive entries low None → pieces_left entries low ≡ []
unfolding pieces_left
pieces-none entries low none =
    let size : 4294967296 - low ≡ (4294967296 - low) + 0 = omega arith in
    ap (pieces_from entries low) size ∙ skip entries low (4294967296 - low) 0 (λ m from to. none m from (omega (arith, from, to)))

-- The pieces of a list of numbers from an index on.
pub mailbox-next : (entries : List Entry) (numbers : List ℕ) (i d : ℕ) → i < length numbers → mailbox_at entries (drop i numbers) ≡ piece_at entries (get_or numbers i d) ++ mailbox_at entries (drop (i + 1) numbers)
mailbox-next entries numbers i d lt = at_drop_more (mailbox_at entries) numbers i d lt

pub mailbox-none : (entries : List Entry) (numbers : List ℕ) (i : ℕ) → length numbers ≤ i → mailbox_at entries (drop i numbers) ≡ []
mailbox-none entries numbers i past = ap (mailbox_at entries) (drop_all i numbers past)

-- One more piece of all: its length, and what is left.
pub len-more : (entries : List Entry) (low n len size all : ℕ) → n < 4294967296 → IsNextLive entries low (Some n) → len + length (pieces_left entries low) ≡ all → size ≡ length (piece_at entries n) → (len + size) + length (pieces_left entries (n + 1)) ≡ all
len-more entries low n len size all small next before told =
    let cut : length (pieces_left entries low) ≡ length (piece_at entries n) + length (pieces_left entries (n + 1)) = ap length (pieces-next entries low n small next) ∙ length-append (piece_at entries n) (pieces_left entries (n + 1)) in
    omega (arith, before, told, cut)

pub len-none : (entries : List Entry) (low len all : ℕ) → IsNextLive entries low None → len + length (pieces_left entries low) ≡ all → len ≡ all
len-none entries low len all none before = let over : length (pieces_left entries low) ≡ 0 = ap length (pieces-none entries low none) in omega (arith, before, over)

-- One more piece of these numbers, and none.
pub len-next : (entries : List Entry) (numbers : List ℕ) (i d len size all : ℕ) → i < length numbers → len + length (mailbox_at entries (drop i numbers)) ≡ all → size ≡ length (piece_at entries (get_or numbers i d)) → (len + size) + length (mailbox_at entries (drop (i + 1) numbers)) ≡ all
len-next entries numbers i d len size all lt before told =
    let cut : length (mailbox_at entries (drop i numbers)) ≡ length (piece_at entries (get_or numbers i d)) + length (mailbox_at entries (drop (i + 1) numbers)) = ap length (mailbox-next entries numbers i d lt) ∙ length-append (piece_at entries (get_or numbers i d)) (mailbox_at entries (drop (i + 1) numbers)) in
    omega (arith, before, told, cut)

pub len-past : (entries : List Entry) (numbers : List ℕ) (i len all : ℕ) → length numbers ≤ i → len + length (mailbox_at entries (drop i numbers)) ≡ all → len ≡ all
len-past entries numbers i len all past before = let over : length (mailbox_at entries (drop i numbers)) ≡ 0 = ap length (mailbox-none entries numbers i past) in omega (arith, before, over)

-- The piece of a text isn't empty.
pub piece-some : (text : Option (List ℕ)) → is_some text ≡ true → 0 < length (piece_by text)
unfolding mbox_of
piece-some None e = absurd (cc e)
piece-some (Some text) e = omega (arith, length-append separator (flat_map quoted (lines_of text) ++ 10 ∷ []))
