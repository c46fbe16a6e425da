-- What views hold of an archive's messages: one message more or less.
use Rattle.std.specs.Prelude.{◌≡◌, ◌==◌, ◌+◌, ℕ, Bool, true, false, List, [], ◌∷◌, ◌++◌, None, refl, if◌then◌else◌}
use Rattle.std.specs.declared.cmp.Ordering.{Ordering}
use Rattle.std.specs.Ordering.{nat_cmp, match_ordering}
use Rattle.std.specs.BTreeMap.{is_at, insert_entry}
use Rattle.std.specs.Map.{remove_entry}
use Rattle.std.proofs.Common.{◌∙◌, sym, ap, cond, arith}
use Rattle.std.proofs.lemmas.Bool.{eqb-true}
use Rattle.arch_base.specs.declared.ids.Form.{Form}
use Rattle.mail_forms.specs.declared.row.Row.{Row}
use Rattle.mime_parts.specs.Words.{mail_words}
use Rattle.arch_model.specs.Archives.{Entry}
use Rattle.arch_model.specs.Listings.{row_at, rows_of}
use Rattle.arch_model.proofs.LiveEntries.{without as without_number}
use Rattle.overview_index.specs.Listings.{row_in}
use Rattle.overview_index.proofs.Messages.{AllBelow, Ascends, at_is, above_front, none-below, row-number, row-date, rows-added, rows-taken}
use Rattle.overview_index.proofs.RowLists.{without-with}
use Rattle.query_lang.specs.Dates.{utc_day}
use Rattle.text_words.specs.declared.word_lists.WordLists.{WordLists}
use Rattle.word_index.specs.Rows.{WordRow as Worded}
use Rattle.view_set.specs.Viewed.{Viewed, worded_by, with_mail, without_mail, worded_at, worded_of, views_of, AreWorded}
use Rattle.view_set.proofs.Worded.{worded-none, words-back}

words-push : (es : List Entry) (e : Entry) → worded_of (es ++ e ∷ []) ≡ worded_of es ++ (e.number, worded_at e) ∷ []
words-push [] e = refl
words-push (x ∷ es) e = ap (λ (ws : List (ℕ × Worded)). (x.number, worded_at x) ∷ ws) (words-push es e)

words_last : (es : List Entry) (n : ℕ) (word : Worded) → AllBelow n es → insert_entry nat_cmp (worded_of es) n word ≡ worded_of es ++ (n, word) ∷ []
words_last [] n word below = refl
words_last (e ∷ es) n word below =
    ap (λ (r : Ordering). match_ordering r ((n, word) ∷ worded_of (e ∷ es)) ((e.number, word) ∷ worded_of es) ((e.number, worded_at e) ∷ insert_entry nat_cmp (worded_of es) n word)) (above_front n e.number below.0)
    ∙ ap (λ (ws : List (ℕ × Worded)). (e.number, worded_at e) ∷ ws) (words_last es n word below.1)

-- The words beside a row are its message's.
word-row : (form : Form) (e : Entry) → worded_by (row_at form e) (mail_words e.text) ≡ worded_at e
word-row form e = ap (λ date. let word : Worded = record { words = mail_words e.text; day = utc_day date } in word) (row-date form e)

words-added : (form : Form) (es : List Entry) (e : Entry) → AllBelow e.number es → insert_entry nat_cmp (worded_of es) (row_at form e).number (worded_by (row_at form e) (mail_words e.text)) ≡ worded_of (es ++ e ∷ [])
words-added form es e below =
    ap (λ (n : ℕ). insert_entry nat_cmp (worded_of es) n (worded_by (row_at form e) (mail_words e.text))) (row-number form e.number e.text e.moment)
    ∙ ap (λ (word : Worded). insert_entry nat_cmp (worded_of es) e.number word) (word-row form e)
    ∙ words_last es e.number (worded_at e) below
    ∙ sym (words-push es e)

-- Two parts make what views hold.
both : (v w : Viewed) → v.rows ≡ w.rows → v.words ≡ w.words → v ≡ w
both v w rows words = λ i. record { rows = rows i; words = words i }

pub mails-added : (form : Form) (es : List Entry) (e : Entry) → AllBelow e.number es → with_mail (views_of form es) (row_at form e) (mail_words e.text) ≡ views_of form (es ++ e ∷ [])
mails-added form es e below = both (with_mail (views_of form es) (row_at form e) (mail_words e.text)) (views_of form (es ++ e ∷ [])) (rows-added form es e below) (words-added form es e below)

-- One message less, where numbers rise.
gone_step : (n : ℕ) (e : Entry) (es : List Entry) (t : Bool) → (e.number == n) ≡ t → (e.number ≡ n → without_number n es ≡ es) → remove_entry (is_at (nat_cmp n)) (worded_of es) ≡ worded_of (without_number n es)
    → cond t (worded_of es) ((e.number, worded_at e) ∷ remove_entry (is_at (nat_cmp n)) (worded_of es)) ≡ worded_of (if t then without_number n es else e ∷ without_number n es)
gone_step n e es true test none ih = ap worded_of (sym (none (eqb-true e.number n test)))
gone_step n e es false test none ih = ap (λ (ws : List (ℕ × Worded)). (e.number, worded_at e) ∷ ws) ih

words-taken : (es : List Entry) (number n : ℕ) → Ascends number es → remove_entry (is_at (nat_cmp n)) (worded_of es) ≡ worded_of (without_number n es)
words-taken [] number n ascends = refl
words-taken (e ∷ es) number n ascends =
    ap (λ (t : Bool). cond t (worded_of es) ((e.number, worded_at e) ∷ remove_entry (is_at (nat_cmp n)) (worded_of es))) (at_is n e.number)
    ∙ gone_step n e es (e.number == n) refl (λ same. none-below es n (e.number + 1) ascends.1 (omega (arith, same))) (words-taken es (e.number + 1) n ascends.1)

pub mails-taken : (form : Form) (es : List Entry) (number n : ℕ) → Ascends number es → without_mail (views_of form es) n ≡ views_of form (without_number n es)
mails-taken form es number n ascends = both (without_mail (views_of form es) n) (views_of form (without_number n es)) (rows-taken form es number n ascends) (words-taken es number n ascends)

-- There are words of just the messages that have a row.
pub are-worded : (form : Form) (es : List Entry) → AreWorded (rows_of form es) (worded_of es)
are-worded form [] = refl
are-worded form (e ∷ es) = ap (λ (ns : List ℕ). e.number ∷ ns) (are-worded form es)

-- A message that was added and taken again leaves what was there.
pub mail-back : (v : Viewed) (row : Row) (words : WordLists) (n : ℕ) → n ≡ row.number → AreWorded v.rows v.words → row_in v.rows row.number ≡ None → without_mail (with_mail v row words) n ≡ v
mail-back v row words n is worded none =
    ap (without_mail (with_mail v row words)) is
    ∙ both (without_mail (with_mail v row words) row.number) v (without-with v.rows row.number row none) (words-back v.words row.number (worded_by row words) (worded-none v.rows v.words row.number worded none))
