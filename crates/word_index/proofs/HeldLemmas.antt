-- Rows that are kept, when words are added and rows come and go.
use Rattle.std.proofs.Common.{◌≡◌, ℕ, Bool, true, false, cond, List, [], ◌∷◌, Option, Some, None, Result, Ok, Err, OnOk, OnErr, option_map, refl, sym, ap, subst, ◌∙◌}
use Rattle.std.specs.Map.{remove_entry}
use Rattle.std.specs.Ordering.{nat_cmp, match_ordering}
use Rattle.std.specs.declared.cmp.Ordering.{Ordering}
use Rattle.std.specs.declared.cmp.Ordering.TheVariants.{Less, Equal, Greater}
use Rattle.std.specs.BTreeMap.{insert_entry, is_at}
use Rattle.text_words.specs.declared.word_lists.WordLists.{WordLists}
use Rattle.word_index.specs.declared.rows.KeptRow.{KeptRow}
use Rattle.word_index.specs.Rows.{WordRow, row_at}
use Rattle.word_index.specs.Vocabulary.{KeepsWords, AreNumbersOf}
use Rattle.word_index.specs.Kept.{KeptRows, shown, shown_all, IsHeld, AllHeld, IsKeptOf, kept_at}
use Rattle.word_index.proofs.RowLemmas.{row_at-shown, shown-insert}
use Rattle.word_index.proofs.WordLemmas.{held-then, spelled-then, numbers-then, keeps-then}

-- A row keeps its words.
row-then : (old new : List (List ℕ)) (row : KeptRow) → KeepsWords old new → IsHeld old row → IsHeld new row
row-then old new row keeps held =
    record {
      subject = held-then old new row.subject.items keeps held.subject;
      from = held-then old new row.from.items keeps held.from;
      body = held-then old new row.body.items keeps held.body;
    }

three : (s f b s2 f2 b2 : List (List ℕ)) (day : ℕ) → s ≡ s2 → f ≡ f2 → b ≡ b2
    → let one : WordRow = record { words = record { subject = s; from = f; body = b }; day = day } in
    let two : WordRow = record { words = record { subject = s2; from = f2; body = b2 }; day = day } in one ≡ two
three s f b s2 f2 b2 day p q r = cc

shown-then : (old new : List (List ℕ)) (row : KeptRow) → KeepsWords old new → IsHeld old row → shown new row ≡ shown old row
shown-then old new row keeps held =
    three _ _ _ _ _ _ row.day (spelled-then old new row.subject.items keeps held.subject) (spelled-then old new row.from.items keeps held.from) (spelled-then old new row.body.items keeps held.body)

-- So do all rows.
pub all-then : (old new : List (List ℕ)) (rows : KeptRows) → KeepsWords old new → AllHeld old rows → AllHeld new rows
all-then old new [] keeps held = tt
all-then old new (e ∷ es) keeps held = (row-then old new e.1 keeps held.0, all-then old new es keeps held.1)

pub shown_all-then : (old new : List (List ℕ)) (rows : KeptRows) → KeepsWords old new → AllHeld old rows → shown_all new rows ≡ shown_all old rows
shown_all-then old new [] keeps held = refl
shown_all-then old new (e ∷ es) keeps held =
    ap (λ (row : WordRow). (e.0, row) ∷ shown_all new es) (shown-then old new e.1 keeps held.0)
    ∙ ap (λ (rest : List (ℕ × WordRow)). (e.0, shown old e.1) ∷ rest) (shown_all-then old new es keeps held.1)

-- A new row, from the numbers of its words.
pub kept-of : (a b c d : List (List ℕ)) (words : WordLists) (day : ℕ) (row : KeptRow) → KeepsWords a b → KeepsWords b c → KeepsWords c d → AreNumbersOf b words.subject row.subject.items → AreNumbersOf c words.from row.from.items
    → AreNumbersOf d words.body row.body.items → row.day ≡ day → IsKeptOf d words day row
kept-of a b c d words day row one two rest subject from body of_day =
    let s = numbers-then b d words.subject row.subject.items (keeps-then b c d two rest) subject in
    let f = numbers-then c d words.from row.from.items rest from in
    record {
      has = record { subject = s.held; from = f.held; body = body.held };
      is = three _ _ _ _ _ _ row.day s.are f.are body.are ∙ ap (λ (day : ℕ). let it : WordRow = record { words = words; day = day } in it) of_day;
    }

-- One row more, and one less.
pub all-insert : (words : List (List ℕ)) (rows : KeptRows) (n : ℕ) (row : KeptRow) → AllHeld words rows → IsHeld words row → AllHeld words (insert_entry nat_cmp rows n row)
all-insert words [] n row held one = (one, tt)
all-insert words (e ∷ es) n row held one = go (nat_cmp n e.0) (all-insert words es n row held.1 one)
  where
    go : (o : Ordering) → AllHeld words (insert_entry nat_cmp es n row) → AllHeld words (match_ordering o ((n, row) ∷ e ∷ es) ((e.0, row) ∷ es) (e ∷ insert_entry nat_cmp es n row))
    go Less ih = (one, held)
    go Equal ih = (one, held.1)
    go Greater ih = (held.0, ih)

pub all-remove : (words : List (List ℕ)) (rows : KeptRows) (test : ℕ → Bool) → AllHeld words rows → AllHeld words (remove_entry test rows)
all-remove words [] test held = tt
all-remove words (e ∷ es) test held = go (test e.0) (all-remove words es test held.1)
  where
    go : (b : Bool) → AllHeld words (remove_entry test es) → AllHeld words (cond b es (e ∷ remove_entry test es))
    go true ih = held.1
    go false ih = (held.0, ih)

-- The row with a number.
pub held-at : (words : List (List ℕ)) (rows : KeptRows) (n : ℕ) (row : KeptRow) → AllHeld words rows → kept_at rows n ≡ Some row → IsHeld words row
held-at words [] n row held found = absurd (cc)
held-at words (e ∷ es) n row held found = go (is_at (nat_cmp n) e.0) found (held-at words es n row held.1)
  where
    same : (a b : KeptRow) → Some a ≡ Some b → a ≡ b
    same a b h = cc

    go : (b : Bool) → cond b (Some e.1) (kept_at es n) ≡ Some row → (kept_at es n ≡ Some row → IsHeld words row) → IsHeld words row
    go true h later = subst (IsHeld words) (same e.1 row h) held.0
    go false h later = later h

-- A number has no row where none is kept under it.
pub none-kept : (words : List (List ℕ)) (rows : KeptRows) (n : ℕ) → row_at (shown_all words rows) n ≡ None → kept_at rows n ≡ None
none-kept words rows n none = go (kept_at rows n) (sym (row_at-shown words rows n) ∙ none)
  where
    go : (o : Option KeptRow) → option_map (shown words) o ≡ None → o ≡ None
    go None h = refl
    go (Some row) h = absurd (cc)

-- A row that was added, with its words.
pub rows-added : (old new : List (List ℕ)) (rows later : KeptRows) (n : ℕ) (row : KeptRow) (words : WordLists) (day : ℕ) → KeepsWords old new → AllHeld old rows → IsKeptOf new words day row → later ≡ insert_entry nat_cmp rows n row
    → shown_all new later ≡ insert_entry nat_cmp (shown_all old rows) n (record { words = words; day = day })
rows-added old new rows later n row words day keeps held kept is =
    ap (shown_all new) is ∙ shown-insert new rows n row ∙ ap (λ (r : WordRow). insert_entry nat_cmp (shown_all new rows) n r) kept.is
    ∙ ap (λ (rs : List (ℕ × WordRow)). insert_entry nat_cmp rs n (record { words = words; day = day })) (shown_all-then old new rows keeps held)

pub held-added : (old new : List (List ℕ)) (rows later : KeptRows) (n : ℕ) (row : KeptRow) → KeepsWords old new → AllHeld old rows → IsHeld new row → later ≡ insert_entry nat_cmp rows n row → AllHeld new later
held-added old new rows later n row keeps held one is = subst (AllHeld new) (sym is) (all-insert new rows n row (all-then old new rows keeps held) one)

-- The rows that stay, with the words of an index that has more.
pub rows-stay : (old new words : List (List ℕ)) (rows later : KeptRows) → KeepsWords old new → AllHeld old rows → words ≡ new → later ≡ rows → shown_all words later ≡ shown_all old rows
rows-stay old new words rows later keeps held are is = ap (λ (ws : List (List ℕ)). shown_all ws later) are ∙ ap (shown_all new) is ∙ shown_all-then old new rows keeps held

pub held-stay : (old new words : List (List ℕ)) (rows later : KeptRows) → KeepsWords old new → AllHeld old rows → words ≡ new → later ≡ rows → AllHeld words later
held-stay old new words rows later keeps held are is =
    subst (λ (ws : List (List ℕ)). AllHeld ws later) (sym are) (subst (AllHeld new) (sym is) (all-then old new rows keeps held))

-- A row that is kept, unless memory ran out.
pub held-after : {T E : Type 0} (r : Result T E) (old new words : List (List ℕ)) (rows later : KeptRows) (n : ℕ) (row : KeptRow) → KeepsWords old new → AllHeld old rows → IsHeld new row → words ≡ new
    → OnOk r (later ≡ insert_entry nat_cmp rows n row) → OnErr r (later ≡ rows) → AllHeld words later
held-after (Ok x) old new words rows later n row keeps held one are ok err = subst (λ (ws : List (List ℕ)). AllHeld ws later) (sym are) (held-added old new rows later n row keeps held one ok)
held-after (Err e) old new words rows later n row keeps held one are ok err = held-stay old new words rows later keeps held are err

pub rows-after : (old new words : List (List ℕ)) (rows later : KeptRows) (n : ℕ) (row : KeptRow) (lists : WordLists) (day : ℕ) → KeepsWords old new → AllHeld old rows → IsKeptOf new lists day row → words ≡ new
    → later ≡ insert_entry nat_cmp rows n row → shown_all words later ≡ insert_entry nat_cmp (shown_all old rows) n (record { words = lists; day = day })
rows-after old new words rows later n row lists day keeps held kept are is = ap (λ (ws : List (List ℕ)). shown_all ws later) are ∙ rows-added old new rows later n row lists day keeps held kept is
