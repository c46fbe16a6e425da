-- The views of the archive in memory after one more entry.
use Rattle.std.specs.Prelude.{◌≡◌, ◌==◌, ◌+◌, ◌<◌, ℕ, Bool, true, false, List, [], ◌∷◌, ◌++◌, Option, length, Some, None, refl, if◌then◌else◌}
use Rattle.std.specs.List.{AllByRecursion}
use Rattle.std.proofs.Common.{◌∙◌, sym, ap, subst, arith}
use Rattle.std.proofs.lemmas.Bool.{eqb-true}
use Rattle.arch_base.specs.declared.config.Config.{Config}
use Rattle.arch_base.specs.declared.ids.Form.{Form}
use Rattle.git_objects.specs.declared.entry_kind.EntryKind.TheVariants.{Message}
use Rattle.mime_parts.specs.Words.{mail_words}
use Rattle.arch_model.specs.Archives.{Archive, Entry, message, deletion, live}
use Rattle.arch_model.specs.Listings.{row_at, row_in as row_shown}
use Rattle.arch_model.specs.Rows.{row_of}
use Rattle.arch_model.specs.Validity.{Rise}
use Rattle.arch_model.proofs.LiveEntries.{live-message, live-deletion, live-all}
use Rattle.arch_model.proofs.ValidArchives.{all_weaker}
use Rattle.arch_judge.specs.Indexes.{HasSame}
use Rattle.arch_judge.specs.declared.index.Index.{Index}
use Rattle.arch_judge.proofs.Endings.{Ascend, live-ascend}
use Rattle.arch_judge.proofs.Indexes.{IsArchiveIndex-same}
use Rattle.overview_index.specs.Listings.{row_in}
use Rattle.overview_index.proofs.Messages.{AllBelow, Ascends, row-is, row-number}
use Rattle.view_set.specs.Viewed.{Viewed, with_mail, without_mail, views_of, searched, AreWorded}
use Rattle.view_set.proofs.MailLists.{mails-added, mails-taken, mail-back, are-worded}
use Rattle.view_set.proofs.Searching.{searched-is}
use Rattle.arch_model.specs.Searching.{search}
use Rattle.query_lang.specs.declared.query.Query.{Query}
use Rattle.mem_archive.specs.Memory.{archive_of, entry_of, entries_of, IsKept, IsNumberUpTo}
use Rattle.mem_archive.specs.declared.kept.End.{End}
use Rattle.mem_archive.specs.declared.kept.Kept.{Kept}
use Rattle.mem_archive.specs.declared.kept.KeptPlace.{KeptPlace}
use Rattle.mem_archive.proofs.Lines.{entries_of-push, of-kind}

-- A number above those of all messages has no row.
other_front : (m n : ℕ) → m < n → (m == n) ≡ false
other_front m n less = by (m == n) refl where
  by : (t : Bool) → (m == n) ≡ t → t ≡ false
  by true e = absurd (let same : m ≡ n = eqb-true m n e in omega (arith, same, less))
  by false e = refl

none_above : (form : Form) (es : List Entry) (n : ℕ) → AllBelow n es → row_shown form es n ≡ None
none_above form [] n below = refl
none_above form (e ∷ es) n below = ap (λ (t : Bool). if t then Some (row_at form e) else row_shown form es n) (other_front e.number n below.0) ∙ none_above form es n below.1

ascends-of : (number : ℕ) (es : List Entry) → Ascend number es → Ascends number es
ascends-of number [] rise = tt
ascends-of number (e ∷ es) rise = (rise.0, ascends-of (e.number + 1) es rise.1)

-- One message more, with the next number.
views_message : (form : Form) (es more : List Entry) (next epoch : ℕ) (text : List ℕ) (moment : ℕ) (old new : Viewed) → more ≡ es ++ message next epoch text moment ∷ [] → AllByRecursion (λ (e : Entry). e.number < next) es → old ≡ views_of form (live es)
    → new ≡ with_mail old (row_of form next text moment) (mail_words text) → new ≡ views_of form (live more)
views_message form es more next epoch text moment old new more_is below old_is new_is =
    let one : Entry = message next epoch text moment in
    new_is
    ∙ ap (λ (v : Viewed). with_mail v (row_at form one) (mail_words text)) old_is
    ∙ mails-added form (live es) one (live-all (λ (e : Entry). e.number < next) es below)
    ∙ ap (views_of form) (sym (ap live more_is ∙ live-message es next epoch text moment))

-- One deletion more.
pub views-deletion : (form : Form) (es more : List Entry) (n epoch : ℕ) (text : List ℕ) (moment : ℕ) (old new : Viewed) → more ≡ es ++ deletion n epoch text moment ∷ [] → Rise 1 0 es → old ≡ views_of form (live es) → new ≡ without_mail old n → new ≡ views_of form (live more)
views-deletion form es more n epoch text moment old new more_is rise old_is new_is =
    new_is
    ∙ ap (λ (v : Viewed). without_mail v n) old_is
    ∙ mails-taken form (live es) 1 n (ascends-of 1 (live es) (live-ascend 1 0 es rise))
    ∙ ap (views_of form) (sym (ap live more_is ∙ live-deletion es n epoch text moment))

-- The same of what is kept, with the number that was made for the message. Where it is not kept, all
-- is as before.
module _ (config : Config) (ks : List Kept) (places : List (Option KeptPlace)) (index : Index) (end_ : End) (a : Archive) (is : archive_of config ks places ≡ a) (kept : IsKept config ks places index end_) (views : Viewed) (views_are : views ≡ views_of config.form (live (entries_of ks))) (number : ℕ) (number_is : number ≡ a.next) (read : List ℕ) (moment : ℕ) (mid : Viewed) (mid_is : mid ≡ with_mail views (row_of config.form number read moment) (mail_words read)) where
  last : number ≡ length places + 1
  last = number_is ∙ ap (λ (b : Archive). b.next) (sym is)

  below : AllByRecursion (λ (e : Entry). e.number < number) (entries_of ks)
  below = all_weaker (IsNumberUpTo (length places)) (λ (e : Entry). e.number < number) (entries_of ks) (λ e up. let most = up.1 in omega (arith, most, last)) kept.numbered

  pub row-kept : (k : Kept) → k.kind ≡ Message → k.number ≡ number → k.moment ≡ moment → read ≡ k.text → (held : List Kept) → held ≡ ks ++ k ∷ [] → mid ≡ views_of config.form (live (entries_of held))
  row-kept k kind_is numbered moment_is read_is held held_is =
      let entry_is : entry_of k ≡ message number k.epoch k.text moment = of-kind k Message kind_is ∙ ap (λ n. message n k.epoch k.text k.moment) numbered ∙ ap (λ m. message number k.epoch k.text m) moment_is in
      views_message config.form (entries_of ks) (entries_of held) number k.epoch k.text moment views mid (ap entries_of held_is ∙ entries_of-push ks k ∙ ap (λ (e : Entry). entries_of ks ++ e ∷ []) entry_is) below views_are
      (mid_is ∙ ap (λ t. with_mail views (row_of config.form number t moment) (mail_words t)) read_is)

  free : row_in views.rows (row_of config.form number read moment).number ≡ None
  free =
      ap (λ n. row_in views.rows n) (row-number config.form number read moment)
      ∙ ap (λ (v : Viewed). row_in v.rows number) views_are ∙ row-is config.form (live (entries_of ks)) number ∙ none_above config.form (live (entries_of ks)) number (live-all (λ (e : Entry). e.number < number) (entries_of ks) below)

  worded : AreWorded views.rows views.words
  worded = subst (λ (v : Viewed). AreWorded v.rows v.words) (sym views_are) (are-worded config.form (live (entries_of ks)))

  back : (new : Viewed) → new ≡ without_mail mid number → new ≡ views
  back new new_is =
      new_is
      ∙ ap (λ (v : Viewed). without_mail v number) mid_is
      ∙ mail-back views (row_of config.form number read moment) (mail_words read) number (sym (row-number config.form number read moment)) worded free

  pub row-left : (held : List Kept) → held ≡ ks → (spots : List (Option KeptPlace)) → spots ≡ places → (other : Index) → HasSame index other → (new : Viewed) → new ≡ without_mail mid number → IsKept config held spots other end_ × (new ≡ views_of config.form (live (entries_of held)))
  row-left held held_is spots spots_are other same new new_is = (
    subst (λ (ks2 : List Kept). IsKept config ks2 spots other end_) (sym held_is)
        (subst (λ (places2 : List (Option KeptPlace)). IsKept config ks places2 other end_) (sym spots_are) (record {
          settings = kept.settings;
          numbers = kept.numbers;
          placed = kept.placed;
          numbered = kept.numbered;
          order = kept.order;
          deletions = kept.deletions;
          ids = kept.ids;
          blobs = kept.blobs;
          named = kept.named;
          indexed = IsArchiveIndex-same (entries_of ks) index other kept.indexed same;
          lines = kept.lines;
          last = kept.last;
          ends = kept.ends;
        })),
    back new new_is ∙ views_are ∙ ap (λ (held2 : List Kept). views_of config.form (live (entries_of held2))) (sym held_is),
  )

-- A search among what is kept.
pub found-kept : (config : Config) (ks : List Kept) (places : List (Option KeptPlace)) (index : Index) (end_ : End) (a : Archive) (is : archive_of config ks places ≡ a) (kept : IsKept config ks places index end_) (query : Query) → searched query (views_of a.config.form (live a.entries)) ≡ search query (live a.entries)
found-kept config ks places index end_ a is kept query =
    subst (λ (b : Archive). searched query (views_of b.config.form (live b.entries)) ≡ search query (live b.entries)) is
    (searched-is config.form query (live (entries_of ks)) (ascends-of 1 (live (entries_of ks)) (live-ascend 1 0 (entries_of ks) kept.order)))

-- What is kept is in order.
pub ordered-kept : (config : Config) (ks : List Kept) (places : List (Option KeptPlace)) (index : Index) (end_ : End) (a : Archive) → archive_of config ks places ≡ a → IsKept config ks places index end_ → Rise 1 0 a.entries
ordered-kept config ks places index end_ a is kept = subst (λ (b : Archive). Rise 1 0 b.entries) is kept.order
