-- The results of reading a list, from those of reading its parts.
use Rattle.std.proofs.Common.{◌⊎◌, inl, inr, ◌≡◌, ◌≢◌, ◌+◌, ◌≤◌, ◌<◌, ◌^◌, ℕ, List, [], ◌∷◌, ◌++◌, length, take, drop, codes, Err, refl, sym, ap, subst, ◌∙◌, append_assoc, append-nil, length-append, length-take, arith, rules}
use Rattle.std.specs.List.{concat}
use Rattle.std.proofs.lemmas.List.{take-append-drop, take_all, take-take, append_cancel_left}
use Rattle.std.proofs.lemmas.List.Folds.{concat-append}
use Rattle.std.proofs.lemmas.Bool.{cases_lt}
use Rattle.arch_base.specs.declared.ids.Form.{Form}
use Rattle.arch_base.specs.Names.{IsArchiveName}
use Rattle.git_objects.specs.Fronts.{Lacks, Begins}
use Rattle.git_objects.specs.Commits.{number_part, text_part}
use Rattle.arch_model.specs.declared.line.EntryLine.{EntryLine}
use Rattle.mirror_wire.specs.declared.checking.Checked.{Checked}
use Rattle.mirror_wire.specs.declared.list.MirrorList.{MirrorList}
use Rattle.mirror_wire.specs.Lists.{first_words, entry_part, list_lines, list_text}
use Rattle.mirror_wire.specs.Rules.{IsNext, MayFollow, EachMayFollow, IsMirrorList}
use Rattle.mirror_wire.specs.declared.list.ListRefusal.{ListRefusal}
use Rattle.mirror_wire.specs.declared.list.ListRefusal.TheVariants.{BadList, NoMemory}
use Rattle.mirror_wire.specs.Reading.{StartsList, IsFirstBad, ReadsList}
use Rattle.mirror_wire.specs.Parts.{head_part, entries_part}
use Rattle.mirror_wire.specs.Checking.{HasEntriesUpTo, LacksLine, GoesOn, ListStopsAt, ReadsEntries, IsChecked}
use Rattle.mirror_wire.proofs.Following.{each-spelled, each-first, each-next}
use Rattle.mirror_wire.proofs.Texts.{one-before, two-before, some-before, all-before, text-is, lines-count}
use Rattle.mirror_wire.proofs.Meeting.{end-apart, GoesOnWith, Meets, entries-meet}

-- The list of a name, a next number and entries.
abbrev pub list_with : List ℕ → ℕ → List EntryLine → MirrorList
list_with name next lines = record { name = name; next = next; lines = lines }

-- Fewer lines start a list, too.
pub starts-fewer : (form : Form) (m n : ℕ) (text : List ℕ) → m ≤ n → StartsList form n text → StartsList form m text
starts-fewer form m n text few starts =
    let lines : List (List ℕ) = list_lines form starts.list in
    let cut : concat (take n lines) ≡ concat (take m lines) ++ concat (drop m (take n lines)) =
    sym (ap concat (take-append-drop m (take n lines))) ∙ concat-append (take m (take n lines)) (drop m (take n lines)) ∙ ap (λ (ps : List (List ℕ)). concat ps ++ concat (drop m (take n lines))) (take-take m n lines few) in
    record {
      list = starts.list;
      valid = starts.valid;
      enough = (let all = starts.enough in omega (arith, all, few));
      rest = concat (drop m (take n lines)) ++ starts.rest;
      is = starts.is ∙ ap (λ (t : List ℕ). t ++ starts.rest) cut ∙ append_assoc (concat (take m lines)) (concat (drop m (take n lines))) starts.rest;
    }

-- The text of a list starts with all its lines.
pub starts-whole : (form : Form) (list : MirrorList) (text rest : List ℕ) → IsMirrorList form list → text ≡ list_text form list ++ rest → StartsList form (length list.lines + 4) text
starts-whole form list text rest valid is = record {
  list = list;
  valid = valid;
  enough = (let count = lines-count form list in omega (arith, count));
  rest = rest;
  is = is ∙ ap (λ (ps : List (List ℕ)). concat ps ++ rest) (sym (take_all (length list.lines + 4) (list_lines form list) (let count = lines-count form list in omega (arith, count))));
}

-- So a text of which so few lines start no list is none.
pub no-list : (form : Form) (n : ℕ) (text : List ℕ) → n ≤ 4 → (StartsList form n text → ⊥) → (list : MirrorList) → IsMirrorList form list → text ≢ list_text form list
no-list form n text few none list valid is =
    none (starts-fewer form n (length list.lines + 4) text (omega (arith, few)) (starts-whole form list text [] valid (is ∙ sym (append-nil (list_text form list)))))

-- A name, and a list with any name and next number and without entries.
letter_a : IsArchiveName (97 ∷ [])
letter_a = record { nonempty = omega arith; short = omega arith; bytes = search rules; first = refl; last = refl }

empty_list : (form : Form) (name : List ℕ) → IsArchiveName name → IsMirrorList form (list_with name 1 [])
empty_list form name ok = record { name = ok; next = record { least = omega arith; most = omega arith }; lines = tt }

-- No line is bad before the first.
starts-none : (form : Form) (text : List ℕ) → StartsList form 0 text
starts-none form text = record { list = list_with (97 ∷ []) 1 []; valid = empty_list form (97 ∷ []) letter_a; enough = omega arith; rest = text; is = refl }

-- The first line is bad.
pub first-bad : (form : Form) (text : List ℕ) → ((rest : List ℕ) → text ≢ text_part 10 (first_words form) [] ++ rest) → IsFirstBad form text 1
first-bad form text none =
    let bad : StartsList form 1 text → ⊥ = λ (starts : StartsList form 1 text). none starts.rest (starts.is ∙ one-before form starts.list starts.rest ∙ sym (append_assoc (first_words form) (10 ∷ []) starts.rest)) in
    record { least = omega arith; before = starts-none form text; bad = bad; no_list = no-list form 1 text (omega arith) bad }

-- The second line is bad.
pub second-bad : (form : Form) (text later : List ℕ) → text ≡ text_part 10 (first_words form) [] ++ later → Lacks IsArchiveName (text_part 10) later → IsFirstBad form text 2
second-bad form text later is none =
    let bad : StartsList form 2 text → ⊥ = λ (starts : StartsList form 2 text).
    none starts.list.name starts.rest starts.valid.name
    (append_cancel_left (text_part 10 (first_words form) []) later (text_part 10 starts.list.name starts.rest)
    (sym is ∙ starts.is ∙ two-before form starts.list starts.rest ∙ sym (append_assoc (first_words form) (10 ∷ []) (text_part 10 starts.list.name starts.rest)))) in
    record {
      least = omega arith;
      before = record { list = list_with (97 ∷ []) 1 []; valid = empty_list form (97 ∷ []) letter_a; enough = omega arith; rest = later; is = is ∙ append_assoc (first_words form) (10 ∷ []) later ∙ sym (one-before form (list_with (97 ∷ []) 1 []) later) };
      bad = bad;
      no_list = no-list form 2 text (omega arith) bad;
    }

-- The first two lines are read.
pub record ReadNamed (form : Form) (text name later : List ℕ) : Type 0 where
  pub after_first : List ℕ
  pub first : text ≡ text_part 10 (first_words form) [] ++ after_first
  pub named : Begins IsArchiveName (text_part 10) after_first name later

-- Their text, and the name of a list that starts with them.
named-text : {form : Form} {text name later : List ℕ} (one : ReadNamed form text name later) → text ≡ text_part 10 (first_words form) (text_part 10 name later)
named-text {form} {text} {name} {later} one = one.first ∙ append_assoc (first_words form) (10 ∷ []) one.after_first ∙ ap (text_part 10 (first_words form)) one.named.spelled

named-once : {form : Form} {text name later : List ℕ} (one : ReadNamed form text name later) (other more : List ℕ) → IsArchiveName other → text ≡ text_part 10 (first_words form) (text_part 10 other more) → (name ≡ other) × (later ≡ more)
named-once {form} one other more ok is =
    one.named.only other more ok
    (append_cancel_left (text_part 10 (first_words form) []) one.after_first (text_part 10 other more) (sym one.first ∙ is ∙ sym (append_assoc (first_words form) (10 ∷ []) (text_part 10 other more))))

-- The third line is bad.
pub third-bad : (form : Form) (text name later : List ℕ) → ReadNamed form text name later → Lacks IsNext (number_part 10) later → IsFirstBad form text 3
third-bad form text name later one none =
    let list : MirrorList = list_with name 1 [] in
    let bad : StartsList form 3 text → ⊥ = λ (starts : StartsList form 3 text).
    none starts.list.next starts.rest starts.valid.next
    (named-once one starts.list.name (number_part 10 starts.list.next starts.rest) starts.valid.name (starts.is ∙ some-before form starts.list 3 0 starts.rest (omega arith) (omega arith))).1 in
    record {
      least = omega arith;
      before = record { list = list; valid = empty_list form name one.named.valid_one; enough = omega arith; rest = later; is = named-text one ∙ sym (two-before form list later) };
      bad = bad;
      no_list = no-list form 3 text (omega arith) bad;
    }

-- The first three lines are read.
pub record ReadHead (form : Form) (text name : List ℕ) (next : ℕ) (body : List ℕ) : Type 0 where
  pub later : List ℕ
  pub one : ReadNamed form text name later
  pub numbered : Begins IsNext (number_part 10) later next body

head-text : {form : Form} {text name : List ℕ} {next : ℕ} {body : List ℕ} (two : ReadHead form text name next body) → text ≡ head_part form name next body
head-text {form} {text} {name} {next} {body} two = named-text two.one ∙ ap (λ (t : List ℕ). text_part 10 (first_words form) (text_part 10 name t)) two.numbered.spelled

pub head-once : {form : Form} {text name : List ℕ} {next : ℕ} {body : List ℕ} (two : ReadHead form text name next body) (list : MirrorList) (more : List ℕ) → IsMirrorList form list → text ≡ head_part form list.name list.next more
    → (name ≡ list.name) × (next ≡ list.next) × (body ≡ more)
head-once two list more valid is =
    let named = named-once two.one list.name (number_part 10 list.next more) valid.name is in
    let numbered = two.numbered.only list.next more valid.next named.1 in
    (named.0, numbered.0, numbered.1)

-- All is read.
pub list-read : (form : Form) (text name : List ℕ) (next : ℕ) (body : List ℕ) (lines : List EntryLine) → ReadHead form text name next body → HasEntriesUpTo form next body lines (codes "end\n")
    → IsMirrorList form (list_with name next lines) × (text ≡ list_text form (list_with name next lines))
list-read form text name next body lines two entries = (
  record { name = two.one.named.valid_one; next = two.numbered.valid_one; lines = entries.valid },
  head-text two ∙ ap (head_part form name next) entries.is ∙ sym (text-is form (list_with name next lines)),
)

-- Where the lines of entries meet those of a list: the list goes on, or has just these entries.
pub record ListMeets (form : Form) (next : ℕ) (lines : List EntryLine) (rest : List ℕ) (others : List EntryLine) (tail : List ℕ) : Type 0 where
  pub meets : Meets lines others rest tail
  pub each : EachMayFollow form next [] others

module _ (form : Form) (text name : List ℕ) (next : ℕ) (body : List ℕ) (two : ReadHead form text name next body) (lines : List EntryLine) (rest : List ℕ) (entries : HasEntriesUpTo form next body lines rest) where
  small : next ≤ 2 ^ 32
  small = let most = two.numbered.valid_one.most in omega (arith, most)

  -- A list whose first lines are the text's.
  meets-list : (list : MirrorList) (k : ℕ) (tail : List ℕ) → IsMirrorList form list → text ≡ head_part form list.name list.next (entries_part (take k list.lines) tail) → ListMeets form next lines rest (take k list.lines) tail
  meets-list list k tail valid is =
      let head = head-once two list (entries_part (take k list.lines) tail) valid is in
      let each : EachMayFollow form next [] (take k list.lines) = subst (λ (n : ℕ). EachMayFollow form n [] (take k list.lines)) (sym head.1)
      (each-first form list.next [] (take k list.lines) (drop k list.lines) (subst (EachMayFollow form list.next []) (sym (take-append-drop k list.lines)) valid.lines)) in
      record {
        meets = entries-meet form lines (take k list.lines) rest tail (each-spelled form next [] lines small tt entries.valid) (each-spelled form next [] (take k list.lines) small tt each) (sym entries.is ∙ head.2);
        each = each;
      }

  -- One whose text is the text.
  pub meets-whole : (list : MirrorList) → IsMirrorList form list → text ≡ list_text form list → ListMeets form next lines rest list.lines (codes "end\n")
  meets-whole list valid is =
      let all : take (length list.lines) list.lines ≡ list.lines = take_all (length list.lines) list.lines (omega arith) in
      subst (λ (ls : List EntryLine). ListMeets form next lines rest ls (codes "end\n")) all
      (meets-list list (length list.lines) (codes "end\n") valid (is ∙ text-is form list ∙ ap (λ (ls : List EntryLine). head_part form list.name list.next (entries_part ls (codes "end\n"))) (sym all)))

  -- The entries that are read start a list.
  starts-read : StartsList form (length lines + 3) text
  starts-read =
      let list : MirrorList = list_with name next lines in
      let all : take (length lines) lines ≡ lines = take_all (length lines) lines (omega arith) in
      record {
        list = list;
        valid = record { name = two.one.named.valid_one; next = two.numbered.valid_one; lines = entries.valid };
        enough = (let count = lines-count form list in omega (arith, count));
        rest = rest;
        is = head-text two ∙ ap (head_part form name next) entries.is ∙ ap (λ (ls : List EntryLine). head_part form name next (entries_part ls rest)) (sym all) ∙ sym (some-before form list (length lines + 3) (length lines) rest refl (omega arith));
      }

  -- So they do with `end`.
  starts-ended : (more : List ℕ) → rest ≡ codes "end\n" ++ more → StartsList form (length lines + 4) text
  starts-ended more is =
      let list : MirrorList = list_with name next lines in
      starts-whole form list text more (record { name = two.one.named.valid_one; next = two.numbered.valid_one; lines = entries.valid })
      (head-text two ∙ ap (head_part form name next) entries.is ∙ ap (λ (t : List ℕ). head_part form name next (entries_part lines t)) is ∙ sym (all-before form list more))

  -- A list that goes on with an entry after those that are read.
  goes-on : (others : List EntryLine) (tail : List ℕ) → EachMayFollow form next [] others → GoesOnWith others lines rest tail → Lacks (MayFollow form next lines) entry_part rest → ⊥
  goes-on others tail each on none = none on.line (entries_part on.more tail) (each-next form next [] lines on.line on.more (subst (EachMayFollow form next []) on.lines each)) on.rest_is

-- A text starts with the line `end`.
pub record StartsWithEnd (text : List ℕ) : Type 0 where
  pub more : List ℕ
  pub is : text ≡ codes "end\n" ++ more

-- What lists with so many lines at the front of a text have there.
pub record StartedWith (form : Form) (j : ℕ) (text : List ℕ) : Type 0 where
  pub list : MirrorList
  pub valid : IsMirrorList form list
  pub k : ℕ
  pub tail : List ℕ
  pub is : text ≡ head_part form list.name list.next (entries_part (take k list.lines) tail)
  pub how : ((length (take k list.lines) ≡ j) × StartsWithEnd tail) ⊎ (length (take k list.lines) ≡ j + 1)

started : (form : Form) (j : ℕ) (text : List ℕ) → StartsList form (j + 4) text → StartedWith form j text
started form j text starts = by (cases_lt j (length starts.list.lines)) where
  list : MirrorList
  list = starts.list

  by : (j < length list.lines) ⊎ (length list.lines ≤ j) → StartedWith form j text
  by (inl below) = record {
    list = list;
    valid = starts.valid;
    k = j + 1;
    tail = starts.rest;
    is = starts.is ∙ some-before form list (j + 4) (j + 1) starts.rest (omega arith) (omega (arith, below));
    how = inr (let len = length-take (j + 1) list.lines in omega (arith, len, below));
  }
  by (inr past) =
      let count = lines-count form list in
      let enough = starts.enough in
      let same : length list.lines ≡ j = omega (arith, count, enough, past) in
      let all : take (length list.lines) list.lines ≡ list.lines = take_all (length list.lines) list.lines (omega arith) in
      record {
        list = list;
        valid = starts.valid;
        k = length list.lines;
        tail = codes "end\n" ++ starts.rest;
        is = starts.is ∙ ap (λ (ps : List (List ℕ)). concat ps ++ starts.rest) (take_all (j + 4) (list_lines form list) (omega (arith, count, same)))
            ∙ all-before form list starts.rest ∙ ap (λ (ls : List EntryLine). head_part form list.name list.next (entries_part ls (codes "end\n" ++ starts.rest))) (sym all);
        how = inl (ap length all ∙ same, record { more = starts.rest; is = refl });
      }

-- How long a list is that goes on.
on-length : (others lines : List EntryLine) (rest tail : List ℕ) → GoesOnWith others lines rest tail → length lines + 1 ≤ length others
on-length others lines rest tail on = let len = ap length on.lines in let sum = length-append lines (on.line ∷ on.more) in omega (arith, len, sum)

module _ (form : Form) (text name : List ℕ) (next : ℕ) (body : List ℕ) (two : ReadHead form text name next body) (lines : List EntryLine) (rest : List ℕ) (entries : HasEntriesUpTo form next body lines rest) where
  -- The line after the entries is bad: it is no entry that may follow, and not `end`.
  lacks-bad : (none : Lacks (MayFollow form next lines) entry_part rest) → ((more : List ℕ) → rest ≢ codes "end\n" ++ more) → IsFirstBad form text (length lines + 4)
  lacks-bad none no_end = record {
    least = omega arith;
    before = subst (λ (n : ℕ). StartsList form n text) (omega arith) (starts-read form text name next body two lines rest entries);
    bad = λ starts. at_start (started form (length lines) text starts);
    no_list = λ list valid is. at_whole list.lines (meets-whole form text name next body two lines rest entries list valid is);
  } where
    at_whole : (others : List EntryLine) → ListMeets form next lines rest others (codes "end\n") → ⊥
    at_whole others found = by found.meets where
      by : Meets lines others rest (codes "end\n") → ⊥
      by (inl same) = no_end [] (same.1 ∙ sym (append-nil (codes "end\n")))
      by (inr (inl on)) = goes-on form text name next body two lines rest entries others (codes "end\n") found.each on none
      by (inr (inr back)) = end-apart back.line [] (entries_part back.more rest) (append-nil (codes "end\n") ∙ back.rest_is)

    at_start : StartedWith form (length lines) text → ⊥
    at_start s = by (meets-list form text name next body two lines rest entries s.list s.k s.tail s.valid s.is) s.how where
      by : ListMeets form next lines rest (take s.k s.list.lines) s.tail → ((length (take s.k s.list.lines) ≡ length lines) × StartsWithEnd s.tail) ⊎ (length (take s.k s.list.lines) ≡ length lines + 1) → ⊥
      by found how = on found.meets how where
        on : Meets lines (take s.k s.list.lines) rest s.tail → ((length (take s.k s.list.lines) ≡ length lines) × StartsWithEnd s.tail) ⊎ (length (take s.k s.list.lines) ≡ length lines + 1) → ⊥
        on (inl same) (inl ended) = no_end ended.1.more (same.1 ∙ ended.1.is)
        on (inl same) (inr longer) = let len = ap length same.0 in omega (arith, len, longer)
        on (inr (inl more)) how = goes-on form text name next body two lines rest entries (take s.k s.list.lines) s.tail found.each more none
        on (inr (inr back)) (inl ended) = let len = on-length lines (take s.k s.list.lines) s.tail rest back in let same = ended.0 in omega (arith, len, same)
        on (inr (inr back)) (inr longer) = let len = on-length lines (take s.k s.list.lines) s.tail rest back in omega (arith, len, longer)

  -- The line after `end` is bad.
  after-bad : (more : List ℕ) → rest ≡ codes "end\n" ++ more → more ≢ [] → IsFirstBad form text (length lines + 5)
  after-bad more ended some = record {
    least = omega arith;
    before = subst (λ (n : ℕ). StartsList form n text) (omega arith) (starts-ended form text name next body two lines rest entries more ended);
    bad = λ starts. at_start (started form (length lines + 1) text (subst (λ (n : ℕ). StartsList form n text) (omega arith) starts));
    no_list = λ list valid is. at_whole list.lines (meets-whole form text name next body two lines rest entries list valid is);
  } where
    at_whole : (others : List EntryLine) → ListMeets form next lines rest others (codes "end\n") → ⊥
    at_whole others found = by found.meets where
      by : Meets lines others rest (codes "end\n") → ⊥
      by (inl same) = some (append_cancel_left (codes "end\n") more [] (sym ended ∙ same.1 ∙ sym (append-nil (codes "end\n"))))
      by (inr (inl on)) = end-apart on.line more (entries_part on.more (codes "end\n")) (sym ended ∙ on.rest_is)
      by (inr (inr back)) = end-apart back.line [] (entries_part back.more rest) (append-nil (codes "end\n") ∙ back.rest_is)

    at_start : StartedWith form (length lines + 1) text → ⊥
    at_start s = by (meets-list form text name next body two lines rest entries s.list s.k s.tail s.valid s.is) s.how where
      longer : ((length (take s.k s.list.lines) ≡ length lines + 1) × StartsWithEnd s.tail) ⊎ (length (take s.k s.list.lines) ≡ length lines + 1 + 1) → length lines + 1 ≤ length (take s.k s.list.lines)
      longer (inl ended) = let same = ended.0 in omega (arith, same)
      longer (inr one) = omega (arith, one)

      by : ListMeets form next lines rest (take s.k s.list.lines) s.tail → ((length (take s.k s.list.lines) ≡ length lines + 1) × StartsWithEnd s.tail) ⊎ (length (take s.k s.list.lines) ≡ length lines + 1 + 1) → ⊥
      by found how = on found.meets where
        on : Meets lines (take s.k s.list.lines) rest s.tail → ⊥
        on (inl same) = let len = ap length same.0 in let most = longer how in omega (arith, len, most)
        on (inr (inl more_lines)) = end-apart more_lines.line more (entries_part more_lines.more s.tail) (sym ended ∙ more_lines.rest_is)
        on (inr (inr back)) = let len = on-length lines (take s.k s.list.lines) s.tail rest back in let most = longer how in omega (arith, len, most)

-- Where the reader of entries stops, the list is bad.
pub list-stops : (form : Form) (text name : List ℕ) (next : ℕ) (body : List ℕ) (line : ℕ) → ReadHead form text name next body → ListStopsAt form next body line → IsFirstBad form text line
list-stops form text name next body line two stops = by stops.stop where
  by : LacksLine form next stops.lines stops.rest line ⊎ GoesOn stops.lines stops.rest line → IsFirstBad form text line
  by (inl lacks) = subst (IsFirstBad form text) (sym lacks.is) (lacks-bad form text name next body two stops.lines stops.rest stops.read lacks.none lacks.no_end)
  by (inr on) = subst (IsFirstBad form text) (sym on.is) (after-bad form text name next body two stops.lines stops.rest stops.read on.more on.ended on.some)

-- What ends the reading of entries ends that of the list.
pub list-refused : (form : Form) (text name : List ℕ) (next : ℕ) (body : List ℕ) (why : ListRefusal) → ReadHead form text name next body → ReadsEntries form next body (Err why) → ReadsList form text (Err why)
list-refused form text name next body (BadList line) two stops = list-stops form text name next body line two stops
list-refused form text name next body NoMemory two stops = tt

-- Where no line may follow what is checked, and no `end` is there, the reader stops.
pub checked-stops : (form : Form) (next : ℕ) (text : List ℕ) (c : Checked) (rest : List ℕ) (line : ℕ) → c.form ≡ form → c.next ≡ next → IsChecked c → text ≡ entries_part c.lines rest → Lacks (MayFollow c.form c.next c.lines) entry_part rest
    → ((more : List ℕ) → rest ≢ codes "end\n" ++ more) → line ≡ length c.lines + 4 → ListStopsAt form next text line
checked-stops form next text c rest line of_form of_next checked is none no_end count =
    let here : ListStopsAt c.form c.next text line = record { lines = c.lines; rest = rest; read = record { valid = checked.valid; is = is }; stop = inl (record { is = count; none = none; no_end = no_end }) } in
    subst (λ (f : Form). ListStopsAt f next text line) of_form (subst (λ (n : ℕ). ListStopsAt c.form n text line) of_next here)
