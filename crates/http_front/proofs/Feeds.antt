-- The entries and the arrivals of a feed, one after another.
use Rattle.std.proofs.Common.{◌≡◌, ◌<◌, ◌+◌, ℕ, Bool, true, false, List, [], ◌∷◌, ◌++◌, length, take, get_or, Option, Some, None, is_some, Err, refl, sym, ap, ◌∙◌, append_assoc, append-nil, arith, nat_le, if◌then◌else◌}
use Rattle.std.proofs.lemmas.List.{take_more}
use Rattle.std.proofs.lemmas.List.Concat.{flat_map-append}
use Rattle.arch_base.specs.Moments.{last_moment}
use Rattle.arch_model.specs.Archives.{Entry, Archive, live}
use Rattle.arch_model.specs.Shelves.{IsUndamaged, ReadsOnce, ReadsUpTo}
use Rattle.arch_model.specs.Standing.{GivesTextIn}
use Rattle.arch_model.specs.declared.text_refusal.TextRefusal.{TextRefusal}
use Rattle.arch_model.specs.declared.text_refusal.TextRefusal.TheVariants as refusal
use Rattle.atom_mbox.specs.Feeds.{entry_of_shown, entries_of, feed_start, feed_end, feed_of, updated_of}
use Rattle.atom_mbox.specs.declared.feeds.Shown.{Shown}
use Rattle.mail_forms.specs.declared.row.Row.{Row}
use Rattle.mime_parts.specs.Texts.{body_text_of}
use Rattle.http_heads.specs.declared.reply.Body.TheVariants.{Feed}
use Rattle.http_front.specs.Views.{shown_row, shown_text, shown_by, shown_at, shown_all}
use Rattle.http_front.specs.Asking.{Found, Gives, feed_found}
use Rattle.http_front.specs.Feeding.{arrival_of, later_of, latest_of}
use Rattle.http_front.specs.Sessions.{FindsTarget}
use Rattle.http_front.proofs.Arrivals.{latest-append}
use Rattle.http_front.proofs.Pieces.{RowAndText, Neither, Both, row-and-text}

-- The mails of one more number.
shown-more : (a : Archive) (numbers : List ℕ) (i d : ℕ) → i < length numbers → shown_all a (take (i + 1) numbers) ≡ shown_all a (take i numbers) ++ shown_at a (get_or numbers i d)
shown-more a numbers i d lt =
    ap (shown_all a) (take_more numbers i d lt)
    ∙ flat_map-append (shown_at a) (take i numbers) (get_or numbers i d ∷ [])
    ∙ ap (λ (xs : List Shown). shown_all a (take i numbers) ++ xs) (append-nil (shown_at a (get_or numbers i d)))

-- The entries of one more number.
pub entries-more : (a : Archive) (numbers : List ℕ) (i d : ℕ) (start old new : List ℕ) → i < length numbers → old ≡ start ++ entries_of a.config.name (shown_all a (take i numbers)) → new ≡ old ++ entries_of a.config.name (shown_at a (get_or numbers i d))
    → new ≡ start ++ entries_of a.config.name (shown_all a (take (i + 1) numbers))
entries-more a numbers i d start old new lt before appended =
    appended
    ∙ ap (λ (w : List ℕ). w ++ entries_of a.config.name (shown_at a (get_or numbers i d))) before
    ∙ append_assoc start (entries_of a.config.name (shown_all a (take i numbers))) (entries_of a.config.name (shown_at a (get_or numbers i d)))
    ∙ ap (λ (w : List ℕ). start ++ w) (sym (flat_map-append (entry_of_shown a.config.name) (shown_all a (take i numbers)) (shown_at a (get_or numbers i d))) ∙ ap (entries_of a.config.name) (sym (shown-more a numbers i d lt)))

-- The last arrival with one more number.
pub latest-more : (a : Archive) (numbers : List ℕ) (i d : ℕ) (last found next : Option ℕ) → i < length numbers → last ≡ latest_of (shown_all a (take i numbers)) → found ≡ latest_of (shown_at a (get_or numbers i d)) → next ≡ later_of last found
    → next ≡ latest_of (shown_all a (take (i + 1) numbers))
latest-more a numbers i d last found next lt before here joined =
    joined
    ∙ ap (λ (o : Option ℕ). later_of o found) before
    ∙ ap (later_of (latest_of (shown_all a (take i numbers)))) here
    ∙ sym (latest-append (shown_all a (take i numbers)) (shown_at a (get_or numbers i d)))
    ∙ ap latest_of (sym (shown-more a numbers i d lt))

-- The arrival of a row that is shown with a text.
arrival-shown : (row : Row) (text : List ℕ) → latest_of (shown_by (Some row) (Some text)) ≡ arrival_of row
arrival-shown row text = by (nat_le row.arrived last_moment)
  where
    by : (t : Bool) → latest_of (if t then record { row = row; body = body_text_of text } ∷ [] else []) ≡ (if t then Some row.arrived else None)
    by true = refl
    by false = refl

-- When a mail arrived, by its row.
abbrev arrival_by : Option Row → Option ℕ
arrival_by None = None
arrival_by (Some row) = arrival_of row

row-shown : (o : Option Row) (text : Option (List ℕ)) → RowAndText o text → latest_of (shown_by o text) ≡ arrival_by o
row-shown None None Neither = refl
row-shown None (Some text) never = elim never [ ]
row-shown (Some row) None never = elim never [ ]
row-shown (Some row) (Some text) (Both r t is) = arrival-shown row text

-- When the mail of a number arrived, by its row.
latest-is : (a : Archive) (n : ℕ) (row : Option Row) → row ≡ shown_row a n → arrival_by row ≡ latest_of (shown_at a n)
latest-is a n row is = ap arrival_by is ∙ sym (row-shown (shown_row a n) (shown_text a.entries n) (row-and-text a.config.form (live a.entries) n))

pub latest-row : (a : Archive) (n : ℕ) (row : Row) → Some row ≡ shown_row a n → arrival_of row ≡ latest_of (shown_at a n)
latest-row a n row is = latest-is a n (Some row) is

pub latest-none : (a : Archive) (n : ℕ) → None ≡ shown_row a n → None ≡ latest_of (shown_at a n)
latest-none a n is = latest-is a n None is

-- A number without a text isn't shown, and has no entry.
shown-without : (row : Option Row) (text : Option (List ℕ)) → is_some text ≡ false → shown_by row text ≡ []
shown-without None text none = refl
shown-without (Some row) None none = refl
shown-without (Some row) (Some text) none = absurd (cc none)

pub appends-none : (a : Archive) (n : ℕ) (old : List ℕ) → is_some (shown_text a.entries n) ≡ false → old ≡ old ++ entries_of a.config.name (shown_at a n)
appends-none a n old none = sym (append-nil old) ∙ ap (λ (ms : List Shown). old ++ entries_of a.config.name ms) (sym (shown-without (shown_row a n) (shown_text a.entries n) none))

-- A row and its text give the entry of a number; without a row there is none.
pub appends-read : (name : List ℕ) (row : Option Row) (text : Option (List ℕ)) (read wanted old new : List ℕ) → text ≡ Some wanted → read ≡ wanted → new ≡ old ++ entries_of name (shown_by row (Some read)) → new ≡ old ++ entries_of name (shown_by row text)
appends-read name row text read wanted old new is same appended = appended ∙ ap (λ (t : Option (List ℕ)). old ++ entries_of name (shown_by row t)) (ap Some same ∙ sym is)

pub appends-no_row : (name : List ℕ) (row : Option Row) (text : Option (List ℕ)) (old : List ℕ) → None ≡ row → old ≡ old ++ entries_of name (shown_by row text)
appends-no_row name row text old none = sym (append-nil old) ∙ ap (λ (o : Option Row). old ++ entries_of name (shown_by o text)) none

-- A mail that arrived at no moment has no entry.
pub appends-late : (name : List ℕ) (row : Row) (text old : List ℕ) → nat_le row.arrived last_moment ≡ false → old ≡ old ++ entries_of name (shown_by (Some row) (Some text))
appends-late name row text old late =
    sym (append-nil old) ∙ ap (λ (b : Bool). old ++ entries_of name (if b then record { row = row; body = body_text_of text } ∷ [] else [])) (sym late)

-- The reads of one more number, and of a number at which a loop stops.
pub reads-more : (i before mid now : ℕ) → ReadsUpTo i before mid → ReadsOnce mid now → ReadsUpTo (i + 1) before now
reads-more i before mid now so_far once = record { later = omega (arith, so_far.later, once.later); bound = omega (arith, so_far.bound, once.most) }

pub reads-stop : (i all before mid now : ℕ) → i < all → ReadsUpTo i before mid → ReadsOnce mid now → ReadsUpTo all before now
reads-stop i all before mid now less so_far once = record { later = omega (arith, so_far.later, once.later); bound = omega (arith, less, so_far.bound, once.most) }

-- A text that was not read, while an archive is held.
pub unread-undamaged : (entries : List Entry) (n : ℕ) (old new : List ℕ) (why : TextRefusal) → GivesTextIn entries n old new (Err why) → IsUndamaged why
unread-undamaged entries n old new refusal.DiskFault given = tt
unread-undamaged entries n old new (refusal.Damaged named found) given = given
unread-undamaged entries n old new refusal.NoMemory given = tt

-- A feed was not made.
pub finds-refused : (a : Archive) (found : Found) (why : TextRefusal) → IsUndamaged why → FindsTarget a found true (Err why)
finds-refused a found refusal.DiskFault whole = refl
finds-refused a found (refusal.Damaged named other) whole = whole
finds-refused a found refusal.NoMemory whole = tt

three-parts : (head body tail new start mails made : List ℕ) → new ≡ [] → start ≡ new ++ head → mails ≡ start ++ body → made ≡ mails ++ tail → (head ++ body) ++ tail ≡ made
three-parts head body tail new start mails made none begun filled ended =
    sym (ended ∙ ap (λ (w : List ℕ). w ++ tail) (filled ∙ ap (λ (w : List ℕ). w ++ body) (begun ∙ ap (λ (w : List ℕ). w ++ head) none)))

-- A feed was made of its three parts.
pub feed-made : (a : Archive) (numbers new start mails made : List ℕ) → new ≡ [] → start ≡ new ++ feed_start a.config.name (updated_of a.config.born (shown_all a numbers)) → mails ≡ start ++ entries_of a.config.name (shown_all a numbers) → made ≡ mails ++ feed_end
    → feed_found a numbers ≡ Gives Feed made
unfolding feed_of
feed-made a numbers new start mails made none begun filled ended =
    ap (Gives Feed) (three-parts (feed_start a.config.name (updated_of a.config.born (shown_all a numbers))) (entries_of a.config.name (shown_all a numbers)) feed_end new start mails made none begun filled ended)
