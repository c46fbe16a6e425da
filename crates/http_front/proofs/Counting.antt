-- The texts that are read, counted.
use Rattle.std.proofs.Common.{◌≡◌, ◌<◌, ◌≤◌, ◌+◌, ◌==◌, inl, inr, ℕ, zero, suc, Bool, true, false, not, ◌&&◌, nat_le, List, [], ◌∷◌, ◌++◌, length, drop, IfOk, Option, Some, None, is_some, Result, Ok, Err, refl, sym, ap, subst, ◌∙◌, arith, if◌then◌else◌}
use Rattle.std.specs.List.{list_all, sum_by}
use Rattle.std.proofs.lemmas.Bool.Decides.{nat_tests}
use Rattle.std.proofs.lemmas.List.Sums.{sum_by-cons}
use Rattle.line_door.specs.Acts.{ConnectionState, Departure, Plain, Memory, Disk, Newer, Acts, StopsShort}
use Rattle.arch_model.specs.Archives.{Entry, Archive, text_of}
use Rattle.arch_model.specs.Shelves.{ReadsOnce, ReadsUpTo, ReadsAhead}
use Rattle.arch_model.specs.declared.text_refusal.TextRefusal.{TextRefusal}
use Rattle.mail_forms.specs.declared.row.Row.{Row}
use Rattle.http_heads.specs.Addresses.{Named, TheListing, TextOf, ThreadOf, MessageOf, TheFeed, TheMailbox, ThreadFeedOf, ThreadMailboxOf, TheEntries, BlobOf, named_by, segments_of}
use Rattle.http_heads.specs.Heads.{Asked}
use Rattle.http_heads.specs.Parameters.{path_of}
use Rattle.http_heads.specs.Replies.{verdict_of}
use Rattle.http_heads.specs.declared.reply.Verdict.{Verdict}
use Rattle.http_heads.specs.declared.reply.Verdict.TheVariants.{Serve, Refuse}
use Rattle.http_front.specs.Fronts.{HeadFront, Whole, Long, Partial, front, head_limit}
use Rattle.http_front.specs.Asking.{Found, Gives, Streams, Missing, BadRange, message_found, text_found, blob_found, target_found, target_reads, path_reads, path_texts}
use Rattle.http_front.specs.Counting.{served_texts, body_texts, path_said, verdict_texts, head_texts, reads_nothing, goes_on, verdict_goes_on, asked_at, asked_from, all_asked, texts_for_bytes, bytes_read_nothing}
use Rattle.http_front.specs.Door.{served, said_found, said_verdict, said_head}
use Rattle.http_front.specs.Sessions.{IsHeldFor, FindsTarget, MakesPage, PageActReads, unread}
use Rattle.http_front.specs.declared.session.Act.TheVariants.{Went, Closed}
use Rattle.http_front.specs.declared.found.FoundBody.{FoundBody}
use Rattle.http_front.specs.declared.found.FoundBody.TheVariants as what
use Rattle.http_front.proofs.Fronts.{front-shorter}
use Rattle.http_front.specs.Reading.{asked_in}

-- Reads that were found to be few enough for less.
pub reads-within : (most more before now : ℕ) → ReadsUpTo most before now → ReadsUpTo (most + more) before now
reads-within most more before now reads = record { later = reads.later; bound = omega (arith, reads.bound) }

-- Reads while a body is found, and then while it is said.
pub reads-then : (most said left before mid now : ℕ) (sends : Bool) → ReadsUpTo most before mid → left ≤ said → ReadsUpTo (body_texts sends left) mid now → ReadsUpTo (most + body_texts sends said) before now
reads-then most said left before mid now true found within reads = record { later = omega (arith, found.later, reads.later); bound = omega (arith, found.bound, within, reads.bound) }
reads-then most said left before mid now false found within reads = record { later = omega (arith, found.later, reads.later); bound = omega (arith, found.bound, reads.bound) }

-- A body that is sent.
pub reads-sent : (count before now : ℕ) (sends : Bool) → sends ≡ true → ReadsUpTo count before now → ReadsUpTo (body_texts sends count) before now
reads-sent count before now sends is reads = subst (λ (b : Bool). ReadsUpTo (body_texts b count) before now) (sym is) reads

-- The reads for a head that is served.
pub head-served : (a : Archive) (found : Option Asked) (asked : Asked) (sends : Bool) (before now : ℕ) → found ≡ Some asked → verdict_of (Some asked) ≡ Serve sends → ReadsUpTo (served_texts a asked.target sends) before now → ReadsUpTo (head_texts a found) before now
head-served a found asked sends before now is verdict reads =
    subst (λ (most : ℕ). ReadsUpTo most before now) (sym (ap (head_texts a) is ∙ ap (verdict_texts a asked) verdict)) reads

-- Reads that leave room for others.
pub ahead-none : (most ahead n : ℕ) → ahead ≤ most → ReadsAhead most ahead n n
ahead-none most ahead n few = record { later = omega arith; bound = omega (arith, few) }

pub ahead-once : (most ahead left before mid now : ℕ) → left + 1 ≤ ahead → ReadsAhead most ahead before mid → ReadsOnce mid now → ReadsAhead most left before now
ahead-once most ahead left before mid now less reads once = record { later = omega (arith, reads.later, once.later); bound = omega (arith, less, reads.bound, once.most) }

pub ahead-all : (most ahead before now : ℕ) → ReadsAhead most ahead before now → ReadsUpTo most before now
ahead-all most ahead before now reads = record { later = reads.later; bound = omega (arith, reads.bound) }

pub ahead-kept : (most ahead before mid now : ℕ) → ReadsAhead most ahead before mid → now ≡ mid → ReadsUpTo most before now
ahead-kept most ahead before mid now reads same = record { later = omega (arith, reads.later, same); bound = omega (arith, reads.bound, same) }

pub ahead-last : (most ahead before mid now : ℕ) → ReadsAhead most ahead before mid → ReadsUpTo ahead mid now → ReadsUpTo most before now
ahead-last most ahead before mid now reads last = record { later = omega (arith, reads.later, last.later); bound = omega (arith, reads.bound, last.bound) }

pub ahead-more : (most ahead left before mid now : ℕ) → ReadsAhead most ahead before mid → ReadsAhead ahead left mid now → ReadsAhead most left before now
ahead-more most ahead left before mid now reads more = record { later = omega (arith, reads.later, more.later); bound = omega (arith, reads.bound, more.bound) }

-- No read at all.
pub reads-zero : (most before now : ℕ) → most ≡ 0 → ReadsUpTo most before now → now ≡ before
reads-zero most before now none reads = omega (arith, none, reads.later, reads.bound)

-- How many of these entries have a number from one on.
abbrev one : Bool → ℕ
one true = 1
one false = 0

abbrev pub entries_from : List Entry → ℕ → ℕ
entries_from [] low = 0
entries_from (e ∷ es) low = one (nat_le low e.number) + entries_from es low

one-most : (t : Bool) → one t ≤ 1
one-most true = omega arith
one-most false = omega arith

-- They are not more than all.
pub from-all : (es : List Entry) (low : ℕ) → entries_from es low ≤ length es
from-all [] low = omega arith
from-all (e ∷ es) low = omega (arith, one-most (nat_le low e.number), from-all es low)

one-less : (low n k : ℕ) → low ≤ n → one (nat_le (n + 1) k) ≤ one (nat_le low k)
one-less low n k from = by (nat_le (n + 1) k) (nat_le low k) refl refl
  where
    by : (s t : Bool) → nat_le (n + 1) k ≡ s → nat_le low k ≡ t → one s ≤ one t
    by true true after here = omega arith
    by true false after here =
        let past : n + 1 ≤ k = grind (arith, nat_tests) in
        let short : k < low = grind (arith, nat_tests) in
        absurd (omega (arith, from, past, short))
    by false t after here = omega arith

from-later : (es : List Entry) (low n : ℕ) → low ≤ n → entries_from es (n + 1) ≤ entries_from es low
from-later [] low n from = omega arith
from-later (e ∷ es) low n from = omega (arith, one-less low n e.number from, from-later es low n from)

-- A live number is one of them, and is none of those after it.
pub from-next : (es : List Entry) (low n : ℕ) → low ≤ n → is_some (text_of es n) ≡ true → entries_from es (n + 1) + 1 ≤ entries_from es low
from-next [] low n from some = absurd (cc some)
from-next (e ∷ es) low n from some = by (e.number == n) refl some (λ found. from-next es low n from found)
  where
    by : (t : Bool) → (e.number == n) ≡ t → is_some (if t then Some e.text else text_of es n) ≡ true → (is_some (text_of es n) ≡ true → entries_from es (n + 1) + 1 ≤ entries_from es low) → entries_from (e ∷ es) (n + 1) + 1 ≤ entries_from (e ∷ es) low
    by true is found later =
        let same : e.number ≡ n = grind (arith, nat_tests) in
        let past : nat_le (n + 1) e.number ≡ false = grind (arith, nat_tests) in
        let here : nat_le low e.number ≡ true = grind (arith, nat_tests) in
        omega (arith, ap one past, ap one here, from-later es low n from)
    by false is found later = omega (arith, one-less low n e.number from, later found)

-- What is found for these targets is said without a read.
abbrev pub is_whole_body : Found → Bool
is_whole_body (Gives body bytes) = true
is_whole_body (Streams body bytes) = false
is_whole_body Missing = true
is_whole_body BadRange = true

whole-held : (a : Archive) (found : Found) (reads : Bool) (held : FoundBody) → is_whole_body found ≡ true → IsHeldFor a found reads held → unread a held ≡ 0
whole-held a found reads (what.Whole body bytes) whole is = refl
whole-held a found reads what.EveryMail whole is = absurd (cc (sym whole ∙ ap is_whole_body is.0))
whole-held a found reads (what.Mails numbers) whole is = absurd (cc (sym whole ∙ ap is_whole_body is.0))
whole-held a found reads what.Nothing whole is = refl
whole-held a found reads what.BadRange whole is = refl

pub leaves-whole : (a : Archive) (found : Found) (reads : Bool) (result : Result FoundBody TextRefusal) → is_whole_body found ≡ true → FindsTarget a found reads result → IfOk result (λ held. unread a held ≤ 0)
leaves-whole a found reads (Ok held) whole is = let none : unread a held ≡ 0 = whole-held a found reads held whole is in omega (arith, none)
leaves-whole a found reads (Err why) whole is = tt

pub leaves-page : (a : Archive) (found : Found) (held : FoundBody) → MakesPage found (Ok held) → unread a held ≤ 0
leaves-page a found (what.Whole body bytes) made = omega arith
leaves-page a found what.EveryMail made = absurd made
leaves-page a found (what.Mails numbers) made = absurd made
leaves-page a found what.Nothing made = omega arith
leaves-page a found what.BadRange made = omega arith

pub message-whole : (a : Archive) (row : Option Row) (text : Option (List ℕ)) → is_whole_body (message_found a row text) ≡ true
message-whole a None text = refl
message-whole a (Some row) None = refl
message-whole a (Some row) (Some text) = refl

pub blob-whole : (text : Option (List ℕ)) → is_whole_body (blob_found text) ≡ true
blob-whole None = refl
blob-whole (Some text) = refl

pub text-whole : (text : Option (List ℕ)) → is_whole_body (text_found text) ≡ true
text-whole None = refl
text-whole (Some text) = refl

-- What is still to be read, by another bound.
pub leaves-as : (a : Archive) (most wanted : ℕ) (result : Result FoundBody TextRefusal) → most ≡ wanted → IfOk result (λ held. unread a held ≤ most) → IfOk result (λ held. unread a held ≤ wanted)
leaves-as a most wanted result same left = subst (λ (n : ℕ). IfOk result (λ held. unread a held ≤ n)) same left

-- The answered heads, one by one.

asked-enough : (n m : ℕ) (bytes : List ℕ) → length bytes < n → length bytes < m → asked_from n bytes ≡ asked_from m bytes
asked-enough zero m bytes some more = absurd (omega (arith, some))
asked-enough (suc n) zero bytes some more = absurd (omega (arith, more))
asked-enough (suc n) (suc m) bytes some more = by (front head_limit bytes) refl (λ rest less. asked-enough n m rest (omega (arith, less, some)) (omega (arith, less, more)))
  where
    by : (f : HeadFront) → front head_limit bytes ≡ f → ((rest : List ℕ) → length rest < length bytes → asked_from n rest ≡ asked_from m rest) → asked_at (asked_from n) f ≡ asked_at (asked_from m) f
    by (Whole head rest) is same =
        ap (λ (later : List (Option Asked)). asked_in head ∷ (if goes_on (asked_in head) then later else [])) (same rest (front-shorter head_limit bytes head rest is))
    by Long is same = refl
    by Partial is same = refl

asked-head : (bytes head rest : List ℕ) → front head_limit bytes ≡ Whole head rest → all_asked bytes ≡ asked_in head ∷ (if goes_on (asked_in head) then all_asked rest else [])
unfolding all_asked
asked-head bytes head rest is =
    let less = front-shorter head_limit bytes head rest is in
    ap (λ (f : HeadFront). asked_at (asked_from (length bytes)) f) is
    ∙ ap (λ (later : List (Option Asked)). asked_in head ∷ (if goes_on (asked_in head) then later else [])) (asked-enough (length bytes) (suc (length rest)) rest less (omega arith))

-- The texts for a head at the front, and for the bytes after it if the session continues.
texts-head : (a : Archive) (bytes head rest : List ℕ) → front head_limit bytes ≡ Whole head rest → texts_for_bytes a bytes ≡ head_texts a (asked_in head) + sum_by (head_texts a) (if goes_on (asked_in head) then all_asked rest else [])
texts-head a bytes head rest is =
    ap (sum_by (head_texts a)) (asked-head bytes head rest is)
    ∙ sum_by-cons (head_texts a) (asked_in head) (if goes_on (asked_in head) then all_asked rest else [])

-- One head that took `n` bytes of a piece was answered.
pub turn-reads : (a : Archive) (old piece head : List ℕ) (n : ℕ) (new : List ℕ) (goes : Bool) (before now : ℕ) → front head_limit (old ++ piece) ≡ Whole head (drop n piece) → new ≡ [] → (goes ≡ true → goes_on (asked_in head) ≡ true) → ReadsUpTo (head_texts a (asked_in head)) before now
    → PageActReads a old piece (if goes then Went n else Closed) new before now
turn-reads a old piece head n new true before now is none stays reads =
    let cut : texts_for_bytes a (old ++ piece) ≡ head_texts a (asked_in head) + texts_for_bytes a (drop n piece) =
    texts-head a (old ++ piece) head (drop n piece) is ∙ ap (λ (t : Bool). head_texts a (asked_in head) + sum_by (head_texts a) (if t then all_asked (drop n piece) else [])) (stays refl) in
    subst (λ (left : List ℕ). ReadsAhead (texts_for_bytes a (old ++ piece)) (texts_for_bytes a (left ++ drop n piece)) before now) (sym none)
    (record { later = reads.later; bound = omega (arith, cut, reads.bound) })
turn-reads a old piece head n new false before now is none stays reads =
    let cut = texts-head a (old ++ piece) head (drop n piece) is in
    record { later = reads.later; bound = omega (arith, cut, reads.bound) }

-- A session that continues after a head was not to be closed by the answer.

served-ends : (moment : ℕ) (a : Archive) (sends : Bool) (rest : List ℕ) (found : Found) → (served moment a sends true rest found).next ≡ None
served-ends moment a sends rest (Gives body bytes) = refl
served-ends moment a sends rest (Streams body bytes) = refl
served-ends moment a sends rest Missing = refl
served-ends moment a sends rest BadRange = refl

found-ends : (moment : ℕ) (a : Archive) (sends : Bool) (rest : List ℕ) (found : Found) (reads : Bool) (way : Departure) → (said_found moment a sends true rest found reads way).next ≡ None
found-ends moment a sends rest found reads Plain = served-ends moment a sends rest found
found-ends moment a sends rest found reads Memory = refl
found-ends moment a sends rest found true Disk = refl
found-ends moment a sends rest found false Disk = served-ends moment a sends rest found
found-ends moment a sends rest found reads Newer = served-ends moment a sends rest found

found-open : (moment : ℕ) (a : Archive) (sends ends : Bool) (rest k : List ℕ) (found : Found) (reads : Bool) (way : Departure) → (said_found moment a sends ends rest found reads way).next ≡ Some k → not ends ≡ true
found-open moment a sends true rest k found reads way next = absurd (cc (sym (found-ends moment a sends rest found reads way) ∙ next))
found-open moment a sends false rest k found reads way next = refl

verdict-open : (moment : ℕ) (a : Archive) (asked : Asked) (rest k : List ℕ) (verdict : Verdict) (way : Departure) → (said_verdict moment a asked rest verdict way).next ≡ Some k → verdict_goes_on asked verdict ≡ true
verdict-open moment a asked rest k (Serve sends) way next = found-open moment a sends asked.closes rest k (target_found a asked.target) (target_reads a asked.target) way next
verdict-open moment a asked rest k (Refuse status sends) way next = absurd (cc next)

head-open : (moment : ℕ) (a : Archive) (asked : Option Asked) (rest k : List ℕ) (way : Departure) → (said_head moment a asked rest way).next ≡ Some k → goes_on asked ≡ true
head-open moment a None rest k way next = absurd (cc next)
head-open moment a (Some asked) rest k way next = verdict-open moment a asked rest k (verdict_of (Some asked)) way next

module _ (moment : ℕ) (a : Archive) (asked : Option Asked) (rest k : List ℕ) (i : ConnectionState) (b : Archive) (j : ConnectionState) where
  short-closes : (way : Departure) → StopsShort (said_head moment a asked rest) way i (Some k) b j → ⊥
  short-closes Plain never = never
  short-closes Memory short = cc short.held_is
  short-closes Disk short = cc short.held_is
  short-closes Newer never = never

  pub acts-open : Acts (said_head moment a asked rest) i (Some k) b j → goes_on asked ≡ true
  acts-open acts =
      elim acts.sent [
        | inl whole ↦ head-open moment a asked rest k acts.way (sym whole.held_is)
        | inr (inl lost) ↦ absurd (cc lost.held_is)
        | inr (inr short) ↦ absurd (short-closes acts.way short)
      ]

-- Heads that ask for no text read none.

named-quiet : (a : Archive) (o : Option Named) → path_reads o ≡ false → (path_texts o ≡ 0) × (path_said a o ≡ 0)
named-quiet a None quiet = (refl, refl)
named-quiet a (Some TheListing) quiet = (refl, refl)
named-quiet a (Some (MessageOf id)) quiet = absurd (cc quiet)
named-quiet a (Some (TextOf id)) quiet = absurd (cc quiet)
named-quiet a (Some (ThreadOf id)) quiet = (refl, refl)
named-quiet a (Some TheFeed) quiet = absurd (cc quiet)
named-quiet a (Some (ThreadFeedOf id)) quiet = absurd (cc quiet)
named-quiet a (Some TheMailbox) quiet = absurd (cc quiet)
named-quiet a (Some (ThreadMailboxOf id)) quiet = absurd (cc quiet)
named-quiet a (Some TheEntries) quiet = (refl, refl)
named-quiet a (Some (BlobOf digits)) quiet = absurd (cc quiet)

body-none : (sends : Bool) (count : ℕ) → count ≡ 0 → body_texts sends count ≡ 0
body-none true count none = none
body-none false count none = refl

verdict-quiet : (a : Archive) (asked : Asked) (verdict : Verdict) → target_reads a asked.target ≡ false → verdict_texts a asked verdict ≡ 0
verdict-quiet a asked (Serve sends) quiet =
    let none = named-quiet a (named_by a.config.name (segments_of (path_of asked.target))) quiet in
    omega (arith, none.0, body-none sends (path_said a (named_by a.config.name (segments_of (path_of asked.target)))) none.1)
verdict-quiet a asked (Refuse status sends) quiet = refl

not-true : (t : Bool) → not t ≡ true → t ≡ false
not-true true is = absurd (cc is)
not-true false is = refl

head-quiet : (a : Archive) (o : Option Asked) → reads_nothing a o ≡ true → head_texts a o ≡ 0
head-quiet a None quiet = refl
head-quiet a (Some asked) quiet = verdict-quiet a asked (verdict_of (Some asked)) (not-true (target_reads a asked.target) quiet)

both : (s t : Bool) → (s && t) ≡ true → (s ≡ true) × (t ≡ true)
both true t is = (refl, is)
both false t is = absurd (cc is)

all-quiet : (a : Archive) (os : List (Option Asked)) → list_all (reads_nothing a) os ≡ true → sum_by (head_texts a) os ≡ 0
all-quiet a [] quiet = refl
all-quiet a (o ∷ os) quiet =
    let parts = both (reads_nothing a o) (list_all (reads_nothing a) os) quiet in
    omega (arith, sum_by-cons (head_texts a) o os, head-quiet a o parts.0, all-quiet a os parts.1)

-- Where no head that is answered asks for a text, the count of reads stays.
pub bytes-quiet : (a : Archive) (bytes : List ℕ) (before now : ℕ) → ReadsUpTo (texts_for_bytes a bytes) before now → bytes_read_nothing a bytes ≡ true → now ≡ before
bytes-quiet a bytes before now reads quiet = reads-zero (texts_for_bytes a bytes) before now (all-quiet a (all_asked bytes) quiet) reads
