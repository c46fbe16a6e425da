-- Own ids, blob ids and numbers of live entries.
use Rattle.std.specs.Prelude.{◌≡◌, ◌≢◌, ◌+◌, ◌≤◌, ◌==◌, ◌&&◌, ℕ, Bool, true, false, not, cond, List, [], ◌∷◌, ◌++◌, length, unwrap_or, Option, Some, None, if◌then◌else◌, IsSome, refl}
use Rattle.std.specs.List.{AllByRecursion, filter}
use Rattle.std.specs.Str.{bytes_eq}
use Rattle.std.proofs.Common.{◌∙◌, sym, ap, subst, arith}
use Rattle.std.proofs.lemmas.Slice.Eq.{bytes_eq-Decides}
use Rattle.std.proofs.lemmas.Bool.Decides.{nat_tests}
use Rattle.arch_base.specs.declared.ids.Form.{Form}
use Rattle.git_objects.specs.declared.entry_kind.EntryKind.{EntryKind}
use Rattle.git_objects.specs.declared.entry_kind.EntryKind.TheVariants.{Message, Deletion}
use Rattle.mail_reader.specs.Ids.{own_id}
use Rattle.arch_model.specs.Archives.{Entry, is_message, is_ended, is_id, live, messages, owner, text_of}
use Rattle.arch_model.specs.Validity.{NumberIsFrom, number_after, Rise, AtEachPlace, EndsLive, IdsDiffer}
use Rattle.arch_model.proofs.LiveEntries.{found-has, all-text, live-all}
use Rattle.arch_model.proofs.ValidArchives.{all_after}
use Rattle.root_change.proofs.Roots.{same_test, other_test}
use Rattle.store_finding.specs.declared.entries.StoredEntry.{StoredEntry}
use Rattle.store_finding.specs.Kept.{stored_at, stored_after}
use Rattle.store_finding.specs.Joined.{message_count}

-- Each deletion ends a message that is live before it.
abbrev pub Ending : List Entry → Entry → Type 0
Ending before e = EndsLive e.kind before e

-- The own id of a text, if it has one.
abbrev pub own_of : List ℕ → List ℕ
own_of text = unwrap_or (own_id text) []

count_step : (t : Bool) (s : StoredEntry) (e : Entry) (rest : List StoredEntry) (es : List Entry) → length rest ≡ length es → length (cond t (s ∷ rest) rest) ≡ length (if t then e ∷ es else es)
count_step true s e rest es more = omega (arith, more)
count_step false s e rest es more = more

pub kept_count : (form : Form) (before es : List Entry) → message_count (stored_after form before es) ≡ length (messages es)
kept_count form before [] = refl
kept_count form before (e ∷ es) =
    let more = before ++ e ∷ [] in
    count_step (is_message e.kind) (stored_at form before e) e (filter (λ (s : StoredEntry). is_message s.seen.kind) (stored_after form more es)) (messages es) (kept_count form more es)

pub bytes_same : (a b : List ℕ) → bytes_eq a b ≡ true → a ≡ b
bytes_same a b is = (bytes_eq-Decides a b).0 is

pub bytes_yes : (a b : List ℕ) → a ≡ b → bytes_eq a b ≡ true
bytes_yes a b is = (bytes_eq-Decides a b).1 is

-- An option with a value has it.
pub there : {X : Type 0} (o : Option X) (d : X) → IsSome o → o ≡ Some (unwrap_or o d)
there None d some = absurd (let wrong : false ≡ true = some in cc)
there (Some x) d some = refl

-- A text has its own id.
id_yes : (text other : List ℕ) → IsSome (own_id text) → own_id text ≡ own_id other → is_id (own_of text) (own_id other) ≡ true
id_yes text other some same = ap (is_id (own_of text)) (sym same ∙ there (own_id text) [] some) ∙ bytes_yes (own_of text) (own_of text) refl

id_same : (text other : List ℕ) → IsSome (own_id text) → is_id (own_of text) (own_id other) ≡ true → own_id text ≡ own_id other
id_same text other some is = by (own_id other) is where
  by : (o : Option (List ℕ)) → is_id (own_of text) o ≡ true → own_id text ≡ o
  by None wrong = absurd (let no_way : false ≡ true = wrong in cc)
  by (Some id) test = there (own_id text) [] some ∙ ap Some (bytes_same (own_of text) id test)

-- A text's own id is that of no other entry.
abbrev pub Apart : List ℕ → List Entry → Type 0
Apart text es = AllByRecursion (λ (e : Entry). own_id text ≢ own_id e.text) es

-- An own id that no entry has is apart from all.
pub apart_by : (es : List Entry) (text : List ℕ) → IsSome (own_id text) → owner es (own_of text) ≡ None → Apart text es
apart_by [] text some none = tt
apart_by (e ∷ es) text some none = by (is_id (own_of text) (own_id e.text)) refl none (apart_by es text some) where
  by : (t : Bool) → is_id (own_of text) (own_id e.text) ≡ t → (if t then Some e else owner es (own_of text)) ≡ None → (owner es (own_of text) ≡ None → Apart text es) → Apart text (e ∷ es)
  by true test is more = absurd (let wrong : Some e ≡ None = is in cc)
  by false test is more = (λ same. absurd (let wrong : false ≡ true = sym test ∙ id_yes text e.text some same in cc), more is)

-- Numbers rise from one on.
abbrev pub Ascends : ℕ → List Entry → Type 0
Ascends low [] = Unit {0}
Ascends low (e ∷ es) = (low ≤ e.number) × Ascends (e.number + 1) es

ascends_more : (es : List Entry) (low high : ℕ) → low ≤ high → Ascends high es → Ascends low es
ascends_more [] low high less up = tt
ascends_more (e ∷ es) low high less up = let from = up.0 in (omega (arith, less, from), up.1)

kind_step : (k : EntryKind) (t : Bool) (n : ℕ) (e : Entry) (es : List Entry) → NumberIsFrom k n e.number → Ascends (number_after k n e.number) es → Ascends n (if is_message k && t then e ∷ es else es)
kind_step Message true n e es from up = (from, up)
kind_step Message false n e es from up = ascends_more es n (e.number + 1) (omega (arith, from)) up
kind_step Deletion t n e es from up = up

pub live_ascends : (n epoch : ℕ) (es : List Entry) → Rise n epoch es → Ascends n (live es)
live_ascends n epoch [] rise = tt
live_ascends n epoch (e ∷ es) rise = kind_step e.kind (not (is_ended es e.number)) n e (live es) rise.0 (live_ascends (number_after e.kind n e.number) e.epoch es rise.2)

message_step : (k : EntryKind) (n : ℕ) (e : Entry) (es : List Entry) → NumberIsFrom k n e.number → Ascends (number_after k n e.number) es → Ascends n (if is_message k then e ∷ es else es)
message_step Message n e es from up = (from, up)
message_step Deletion n e es from up = up

pub messages_ascend : (n epoch : ℕ) (es : List Entry) → Rise n epoch es → Ascends n (messages es)
messages_ascend n epoch [] rise = tt
messages_ascend n epoch (e ∷ es) rise = message_step e.kind n e (messages es) rise.0 (messages_ascend (number_after e.kind n e.number) e.epoch es rise.2)

-- Numbers that are tested to be equal.
same_by : (m n : ℕ) → (m == n) ≡ true → m ≡ n
same_by m n is = grind (arith, nat_tests, is)

-- What holds of all numbers holds of one that is found.
pub found_all : (P : ℕ → Type 0) (es : List Entry) (n : ℕ) (text : List ℕ) → AllByRecursion (λ (e : Entry). P e.number) es → text_of es n ≡ Some text → P n
found_all P [] n text all is = absurd (let wrong : None ≡ Some text = is in cc)
found_all P (e ∷ es) n text all is = by (e.number == n) refl (found_all P es n text all.1) is where
  by : (t : Bool) → (e.number == n) ≡ t → (text_of es n ≡ Some text → P n) → (if t then Some e.text else text_of es n) ≡ Some text → P n
  by true test rest found = subst P (same_by e.number n test) all.0
  by false test rest found = rest found

found_least : (es : List Entry) (low n : ℕ) (text : List ℕ) → Ascends low es → text_of es n ≡ Some text → low ≤ n
found_least [] low n text up is = absurd (let wrong : None ≡ Some text = is in cc)
found_least (e ∷ es) low n text up is = by (e.number == n) refl (found_least es (e.number + 1) n text up.1) is where
  by : (t : Bool) → (e.number == n) ≡ t → (text_of es n ≡ Some text → e.number + 1 ≤ n) → (if t then Some e.text else text_of es n) ≡ Some text → low ≤ n
  by true test rest found = subst (λ (m : ℕ). low ≤ m) (same_by e.number n test) up.0
  by false test rest found = let more = rest found in let from = up.0 in omega (arith, more, from)

-- What holds of all holds of the one that has an own id, and its number shows its text.
pub owner_all : (P : Entry → Type 0) (es : List Entry) (id : List ℕ) (e : Entry) → AllByRecursion P es → owner es id ≡ Some e → P e
owner_all P [] id e all is = absurd (let wrong : None ≡ Some e = is in cc)
owner_all P (x ∷ es) id e all is = by (is_id id (own_id x.text)) is (owner_all P es id e all.1) where
  by : (t : Bool) → (if t then Some x else owner es id) ≡ Some e → (owner es id ≡ Some e → P e) → P e
  by true found rest = subst P (ap (λ (o : Option Entry). unwrap_or o x) found) all.0
  by false found rest = rest found

pub owner_text : (es : List Entry) (low : ℕ) (id : List ℕ) (e : Entry) → Ascends low es → owner es id ≡ Some e → text_of es e.number ≡ Some e.text
owner_text [] low id e up is = absurd (let wrong : None ≡ Some e = is in cc)
owner_text (x ∷ es) low id e up is = by (is_id id (own_id x.text)) is (owner_text es (x.number + 1) id e up.1) where
  by : (t : Bool) → (if t then Some x else owner es id) ≡ Some e → (owner es id ≡ Some e → text_of es e.number ≡ Some e.text) → text_of (x ∷ es) e.number ≡ Some e.text
  by true found rest = let same : x ≡ e = ap (λ (o : Option Entry). unwrap_or o x) found in rw (same_test x.number e.number (ap (λ (f : Entry). f.number) same)) (ap (λ (f : Entry). Some f.text) same)
  by false found rest =
      let later = rest found in
      let least = found_least es (x.number + 1) e.number e.text up.1 later in
      rw (other_test x.number e.number (λ is. absurd (omega (arith, is, least)))) later

-- A text that is shown is that of the entry with its own id.
pub record Owned (es : List Entry) (n : ℕ) (text : List ℕ) : Type 0 where
  pub entry : Entry
  pub owns : owner es (own_of text) ≡ Some entry
  pub number_is : entry.number ≡ n
  pub text_is : entry.text ≡ text

pub found_owner : (es : List Entry) (n : ℕ) (text : List ℕ) → IsSome (own_id text) → IdsDiffer es → text_of es n ≡ Some text → Owned es n text
found_owner [] n text some differ is = absurd (let wrong : None ≡ Some text = is in cc)
found_owner (e ∷ es) n text some differ is = by (is_id (own_of text) (own_id e.text)) (e.number == n) refl refl (found_owner es n text some differ.1) is where
  by : (t u : Bool) → is_id (own_of text) (own_id e.text) ≡ t → (e.number == n) ≡ u → (text_of es n ≡ Some text → Owned es n text) → (if u then Some e.text else text_of es n) ≡ Some text → Owned (e ∷ es) n text
  by true true test same rest found = record { entry = e; owns = ap (λ (b : Bool). if b then Some e else owner es (own_of text)) test; number_is = same_by e.number n same; text_is = ap (λ (o : Option (List ℕ)). unwrap_or o text) found }
  by true false test same rest found = absurd (all-text (λ (t : List ℕ). own_id t ≢ own_id e.text) es text differ.0 (found-has es n text found) (id_same text e.text some test))
  by false true test same rest found =
      let text_is : e.text ≡ text = ap (λ (o : Option (List ℕ)). unwrap_or o text) found in
      absurd (let wrong : false ≡ true = sym test ∙ id_yes text e.text some (ap own_id (sym text_is)) in cc)
  by false false test same rest found =
      let one = rest found in
      record { entry = one.entry; owns = ap (λ (b : Bool). if b then Some e else owner es (own_of text)) test ∙ one.owns; number_is = one.number_is; text_is = one.text_is }

-- The message of a number that is live is the one that has it.
pub lone_text : (xs : List Entry) (low : ℕ) (e : Entry) (ys : List Entry) → Ascends low (xs ++ e ∷ ys) → (low ≤ e.number) × (text_of (xs ++ e ∷ ys) e.number ≡ Some e.text)
lone_text [] low e ys up = (up.0, ap (λ (b : Bool). if b then Some e.text else text_of ys e.number) (same_test e.number e.number refl))
lone_text (x ∷ xs) low e ys up =
    let rest = lone_text xs (x.number + 1) e ys up.1 in
    let least = rest.0 in
    let from = up.0 in (
      omega (arith, least, from),
      ap (λ (b : Bool). if b then Some x.text else text_of (xs ++ e ∷ ys) e.number) (other_test x.number e.number (λ is. absurd (omega (arith, is, least)))) ∙ rest.1,
    )

-- What holds of the numbers of messages holds of those of deletions, which end them.
ending_step : (P : ℕ → Type 0) (k : EntryKind) (before : List Entry) (e : Entry) (es : List Entry) → e.kind ≡ k → AllByRecursion (λ (f : Entry). P f.number) before → Ending before e → AllByRecursion (λ (f : Entry). P f.number) (if is_message k then e ∷ es else es)
    → P e.number × AllByRecursion (λ (f : Entry). P f.number) es
ending_step P Message before e es is all ends more = more
ending_step P Deletion before e es is all ends more = (found_all P (live before) e.number e.text (live-all (λ (f : Entry). P f.number) before all) (rw is at ends), more)

pub numbers_all : (P : ℕ → Type 0) (before es : List Entry) → AllByRecursion (λ (e : Entry). P e.number) before → AtEachPlace Ending before es → AllByRecursion (λ (e : Entry). P e.number) (messages es) → AllByRecursion (λ (e : Entry). P e.number) es
numbers_all P before [] all ends more = tt
numbers_all P before (e ∷ es) all ends more =
    let one = ending_step P e.kind before e (messages es) refl all ends.0 more in
    (one.0, numbers_all P (before ++ e ∷ []) es (all_after (λ (f : Entry). P f.number) before e all one.0) ends.1 one.1)
