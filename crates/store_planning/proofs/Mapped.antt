-- The records of a map by the entries that are kept, one after the other.
use Rattle.std.specs.Prelude.{◌≡◌, ◌≢◌, ◌+◌, ◌-◌, ◌*◌, ◌<◌, ◌≤◌, ◌==◌, ℕ, zero, suc, Bool, true, false, if◌then◌else◌, List, [], ◌∷◌, ◌++◌, length, drop, get_or, slice_get, Option, Some, None, refl}
use Rattle.std.specs.List.{flat_map, sum_by}
use Rattle.std.proofs.Common.{◌∙◌, sym, ap, subst, arith, append_assoc}
use Rattle.std.proofs.lemmas.Bool.Decides.{nat_tests}
use Rattle.std.proofs.lemmas.List.{append-nil}
use Rattle.std.proofs.lemmas.List.Sums.{sum_by-append, sum_by-cons}
use Rattle.std.proofs.lemmas.Option.{same_Some, slice_get-get_or, slice_get_within}
use Rattle.arch_base.specs.Ids.{form_of}
use Rattle.arch_base.specs.declared.ids.Form.{Form}
use Rattle.arch_base.specs.declared.ids.Form.TheVariants.{Sha1, Sha256}
use Rattle.disk_model.specs.Sizes.{record_size}
use Rattle.disk_model.specs.declared.name.FileKind.TheVariants as kind
use Rattle.git_objects.specs.declared.entry_kind.EntryKind.{EntryKind}
use Rattle.git_objects.specs.declared.entry_kind.EntryKind.TheVariants.{Message, Deletion}
use Rattle.number_map.specs.declared.line.Record.{Record}
use Rattle.number_map.specs.Records.{record_bytes, size_of_line, zero_id}
use Rattle.number_map.specs.Sizes.{sizes_none, sizes_one, sizes_sum}
use Rattle.root_change.specs.declared.plan.Target.TheVariants.{Anew}
use Rattle.root_change.specs.declared.sources.Source.{Source}
use Rattle.root_change.specs.declared.sources.Source.TheVariants.{Bytes}
use Rattle.root_change.specs.Rewriting.{Plan, IsPlan, IsPlanWhole, no_plan, plan_count, with_bytes, written_by}
use Rattle.root_change.specs.Texts.{Texts}
use Rattle.root_change.proofs.Plans.{written_with_bytes}
use Rattle.root_change.proofs.Pushes.{count_with_bytes, each_more, whole_with_bytes}
use Rattle.root_change.proofs.Roots.{same_test}
use Rattle.arch_model.specs.Archives.{Entry, is_message, messages}
use Rattle.arch_model.specs.Validity.{Rise, number_after}
use Rattle.arch_model.proofs.Purging.{Climbs, messages_climb}
use Rattle.store_finding.specs.declared.entries.StoredEntry.{StoredEntry}
use Rattle.store_finding.specs.Recovery.{entry_of, record_for, records_from}
use Rattle.store_finding.specs.Kept.{stored_after, stored_at}
use Rattle.store_planning.specs.Epochs.{PlansRecords}
use Rattle.store_planning.specs.Mapping.{AddsByKind, AddsRecord, AreAllRecords, AreRecordsTo, record_of_kept}

zero_form : (form : Form) → form_of (zero_id form) ≡ form
zero_form Sha1 = refl
zero_form Sha256 = refl

pub none_sizes : (form : Form) (n count : ℕ) → sum_by size_of_line (records_from form [] n count) ≡ record_size form * count
none_sizes form n zero = sym (sizes_none form)
none_sizes form n (suc count) =
    let first : record_size (form_of (zero_id form)) ≡ record_size form = ap record_size (zero_form form) in
    let rest = none_sizes form (n + 1) count in
    let one = sizes_one form in
    let sum = sizes_sum form 1 count (suc count) (omega arith) in
    let cons = sum_by-cons size_of_line (record_for form n None) (records_from form [] (n + 1) count) in
    omega (arith, first, rest, one, sum, cons)

-- One number more without a message.
pub none_more : (form : Form) (n count : ℕ) → records_from form [] n (suc count) ≡ records_from form [] n count ++ record_for form (n + count) None ∷ []
none_more form n zero = ap (λ (m : ℕ). record_for form m None ∷ []) (let is : n ≡ n + 0 = omega arith in is)
none_more form n (suc count) =
    ap (λ (rs : List Record). record_for form n None ∷ rs)
    (none_more form (n + 1) count ∙ ap (λ (m : ℕ). records_from form [] (n + 1) count ++ record_for form m None ∷ []) (let is : n + 1 + count ≡ n + suc count = omega arith in is))

pub none_next : (form : Form) (from number : ℕ) (before lines more : List Record) → from ≤ number → lines ≡ before ++ records_from form [] from (number - from) → more ≡ lines ++ record_for form number None ∷ [] → more ≡ before ++ records_from form [] from (number + 1 - from)
none_next form from number before lines more least is more_is =
    let count : number + 1 - from ≡ suc (number - from) = omega (arith, least) in
    let last : from + (number - from) ≡ number = omega (arith, least) in
    let piece = records_from form [] from (number - from) in
    more_is
    ∙ (ap (λ (l : List Record). l ++ record_for form number None ∷ []) is
    ∙ (append_assoc before piece (record_for form number None ∷ [])
    ∙ ap (λ (l : List Record). before ++ l)
    (ap (λ (m : ℕ). piece ++ record_for form m None ∷ []) (sym last) ∙ (sym (none_more form from (number - from)) ∙ ap (records_from form [] from) (sym count)))))

-- Where numbers rise, none is found below the first, and an entry isn't found above its number.
found_step : (t : Bool) (e : Entry) (o : Option Entry) (n : ℕ) → (e.number == n) ≡ t → e.number ≢ n → (if t then Some e else o) ≡ o
found_step true e o n test apart = absurd (apart (let is : e.number ≡ n = grind (arith, nat_tests, test) in is))
found_step false e o n test apart = refl

found_other : (e : Entry) (es : List Entry) (n : ℕ) → e.number ≢ n → entry_of (e ∷ es) n ≡ entry_of es n
found_other e es n apart = found_step (e.number == n) e (entry_of es n) n refl apart

none_below : (es : List Entry) (low n : ℕ) → n < low → Climbs low es → entry_of es n ≡ None
none_below [] low n less climbs = refl
none_below (e ∷ es) low n less climbs =
    let at : low ≤ e.number = climbs.0 in
    found_other e es n (λ is. absurd (omega (arith, is, at, less))) ∙ none_below es (e.number + 1) n (omega (arith, at, less)) climbs.1

records_after : (form : Form) (e : Entry) (es : List Entry) (n count : ℕ) → e.number < n → records_from form (e ∷ es) n count ≡ records_from form es n count
records_after form e es n zero less = refl
records_after form e es n (suc count) less =
    ap (λ (o : Option Entry). record_for form n o ∷ records_from form (e ∷ es) (n + 1) count) (found_other e es n (λ is. absurd (omega (arith, is, less))))
    ∙ ap (λ (rs : List Record). record_for form n (entry_of es n) ∷ rs) (records_after form e es (n + 1) count (omega (arith, less)))

-- The records up to that of the first message, and the others.
first_record : (form : Form) (e : Entry) (es : List Entry) (n gap count total : ℕ) → n + gap ≡ e.number → total ≡ gap + suc count → Climbs (e.number + 1) es
    → records_from form (e ∷ es) n total ≡ records_from form [] n gap ++ record_for form e.number (Some e) ∷ records_from form es (e.number + 1) count
first_record form e es n zero count total is sum climbs =
    let own : n ≡ e.number = omega (arith, is) in
    let here : entry_of (e ∷ es) n ≡ Some e = ap (λ (b : Bool). if b then Some e else entry_of es n) (same_test e.number n (sym own)) in
    ap (records_from form (e ∷ es) n) (let all : total ≡ suc count = omega (arith, sum) in all)
    ∙ (ap (λ (o : Option Entry). record_for form n o ∷ records_from form (e ∷ es) (n + 1) count) here
    ∙ (ap (λ (rs : List Record). record_for form n (Some e) ∷ rs) (records_after form e es (n + 1) count (omega (arith, own)))
    ∙ ap (λ (m : ℕ). record_for form m (Some e) ∷ records_from form es (m + 1) count) own))
first_record form e es n (suc gap) count total is sum climbs =
    let less : n < e.number = omega (arith, is) in
    let none : entry_of (e ∷ es) n ≡ None = found_other e es n (λ same. absurd (omega (arith, same, less))) ∙ none_below es (e.number + 1) n (omega (arith, less)) climbs in
    ap (records_from form (e ∷ es) n) (let all : total ≡ suc (gap + suc count) = omega (arith, sum) in all)
    ∙ (ap (λ (o : Option Entry). record_for form n o ∷ records_from form (e ∷ es) (n + 1) (gap + suc count)) none
    ∙ ap (λ (rs : List Record). record_for form n None ∷ rs) (first_record form e es (n + 1) gap count (gap + suc count) (omega (arith, is)) refl climbs))

-- An entry of a list, and what follows it.
pub record Stands (form : Form) (es : List Entry) (i : ℕ) (s : StoredEntry) : Type 0 where
  pub entry : Entry
  pub before : List Entry
  pub rest : drop i es ≡ entry ∷ drop (suc i) es
  pub kept : s ≡ stored_at form before entry

stands : (form : Form) (before es : List Entry) (i : ℕ) (s : StoredEntry) → slice_get (stored_after form before es) i ≡ Some s → Stands form es i s
stands form before [] i s here = absurd (let less = slice_get_within {A = StoredEntry} [] i s here in omega (arith, less))
stands form before (e ∷ es) zero s here = record { entry = e; before = before; rest = refl; kept = sym (same_Some (stored_at form before e) s here) }
stands form before (e ∷ es) (suc i) s here = (let r = stands form (before ++ e ∷ []) es i s here in record { entry = r.entry; before = r.before; rest = r.rest; kept = r.kept })

-- After a message the numbers are greater.
climbs_step : (k : EntryKind) (number low : ℕ) (es : List Entry) → k ≡ Message → Climbs (number_after k low number) es → Climbs (number + 1) es
climbs_step Message number low es is climbs = climbs
climbs_step Deletion number low es is climbs = absurd (cc is)

abbrev head_or : List Entry → Entry → Entry
head_or [] x = x
head_or (y ∷ ys) x = y

same_head : (x y : Entry) (xs ys : List Entry) → x ∷ xs ≡ y ∷ ys → x ≡ y
same_head x y xs ys is = ap (λ (l : List Entry). head_or l x) is

abbrev no_entries : List Entry
no_entries = []

none_dropped : (n : ℕ) (e : Entry) → drop n no_entries ≡ e ∷ drop (suc n) no_entries → ⊥
none_dropped zero e is = let size : 0 ≡ suc (length (drop 1 no_entries)) = ap (λ (l : List Entry). length l) is in absurd (omega (arith, size))
none_dropped (suc n) e is = let size : 0 ≡ suc (length (drop (suc (suc n)) no_entries)) = ap (λ (l : List Entry). length l) is in absurd (omega (arith, size))

climbs_at : (low epoch : ℕ) (es : List Entry) (i : ℕ) (e : Entry) → Rise low epoch es → drop i es ≡ e ∷ drop (suc i) es → e.kind ≡ Message → Climbs (e.number + 1) (messages (drop (suc i) es))
climbs_at low epoch [] i e rise is message = absurd (none_dropped i e is)
climbs_at low epoch (f ∷ fs) zero e rise is message =
    let same : f ≡ e = same_head f e fs fs is in
    climbs_step e.kind e.number low (messages fs) message (subst (λ (x : Entry). Climbs (number_after x.kind low x.number) (messages fs)) same (messages_climb (number_after f.kind low f.number) f.epoch fs rise.2))
climbs_at low epoch (f ∷ fs) (suc i) e rise is message = climbs_at (number_after f.kind low f.number) f.epoch fs i e rise.2 is message

-- Messages, where the first entry is one or isn't.
message_first : (k : EntryKind) (e : Entry) (ms : List Entry) → k ≡ Message → (if is_message k then e ∷ ms else ms) ≡ e ∷ ms
message_first Message e ms is = refl
message_first Deletion e ms is = absurd (cc is)

deletion_first : (k : EntryKind) (e : Entry) (ms : List Entry) → k ≡ Deletion → (if is_message k then e ∷ ms else ms) ≡ ms
deletion_first Deletion e ms is = refl
deletion_first Message e ms is = absurd (cc is)

-- An item of a list at an index.
pub item_at : (es : List StoredEntry) (i : ℕ) (e : StoredEntry) → i < length es → e ≡ get_or es i e → slice_get es i ≡ Some e
item_at es i e below is = slice_get-get_or es i e below ∙ ap (λ (s : StoredEntry). Some s) (sym is)

pub none_first : (form : Form) (from : ℕ) (lines : List Record) → lines ≡ lines ++ records_from form [] from (from - from)
none_first form from lines = sym (ap (λ (n : ℕ). lines ++ records_from form [] from n) (let none : from - from ≡ 0 = omega arith in none) ∙ append-nil lines)

-- Before the first entry.
pub records_none : (form : Form) (entries : List StoredEntry) (next : ℕ) (lines : List Record) → 1 ≤ next → lines ≡ [] → AreRecordsTo form entries next lines 0 1
records_none form entries next lines least none = subst (λ (l : List Record). AreRecordsTo form entries next l 0 1) (sym none) (record {
  least = omega arith;
  most = least;
  size = (let one = sizes_one form in omega (arith, one));
  records = λ es is rise. refl;
})

-- One more entry.
module _ (form : Form) (entries : List StoredEntry) (next : ℕ) (i : ℕ) (s : StoredEntry) (here : slice_get entries i ≡ Some s) (from : ℕ) (old new : List Record) (after : ℕ) (so : AreRecordsTo form entries next old i from) where
  more_message : s.seen.kind ≡ Message → AddsRecord form next from s old new after → AreRecordsTo form entries next new (suc i) after
  more_message message adds =
      let least = so.least in
      let low = adds.least in
      let below = adds.below in
      let after_is = adds.after_is in
      let gap = s.number - from in
      let none = none_sizes form from gap in
      let piece = records_from form [] from gap in
      let own : size_of_line (record_of_kept s) ≡ record_size form = ap record_size adds.form_is in
      let single : sum_by size_of_line (record_of_kept s ∷ []) ≡ record_size form = (let cons = sum_by-cons size_of_line (record_of_kept s) [] in omega (arith, own, cons)) in
      let sizes = ap (sum_by size_of_line) adds.records ∙ sum_by-append size_of_line old (piece ++ record_of_kept s ∷ []) in
      let parts = sum_by-append size_of_line piece (record_of_kept s ∷ []) in
      let was = so.size in
      let one = sizes_one form in
      let first = sizes_sum form from gap s.number (omega (arith, low)) in
      let last = sizes_sum form s.number 1 after (omega (arith, after_is)) in
      record {
        least = omega (arith, after_is);
        most = omega (arith, below, after_is);
        size = omega (arith, sizes, parts, none, single, was, one, first, last);
        records = λ es is rise.
            let at = stands form [] es i s (ap (λ (l : List StoredEntry). slice_get l i) (sym is) ∙ here) in
            let e = at.entry in
            let e_kind : e.kind ≡ Message = sym (ap (λ (t : StoredEntry). t.seen.kind) at.kept) ∙ message in
            let e_number : s.number ≡ e.number = ap (λ (t : StoredEntry). t.number) at.kept in
            let rest = messages (drop (suc i) es) in
            let count = next - after in
            let climbs = climbs_at 1 0 es i e rise at.rest e_kind in
            let all : messages (drop i es) ≡ e ∷ rest = ap messages at.rest ∙ message_first e.kind e rest e_kind in
            let total : next - from ≡ gap + suc count = omega (arith, low, below, after_is) in
            let own_record : record_of_kept s ≡ record_for form e.number (Some e) = ap record_of_kept at.kept in
            let split : records_from form (messages (drop i es)) from (next - from) ≡ piece ++ record_of_kept s ∷ records_from form rest after count =
            ap (λ (l : List Entry). records_from form l from (next - from)) all
            ∙ (first_record form e rest from gap count (next - from) (omega (arith, low, e_number)) total climbs
            ∙ (ap (λ (r : Record). piece ++ r ∷ records_from form rest (e.number + 1) count) (sym own_record)
            ∙ ap (λ (n : ℕ). piece ++ record_of_kept s ∷ records_from form rest n count) (let n_is : e.number + 1 ≡ after = omega (arith, e_number, after_is) in n_is))) in
            ap (λ (l : List Record). l ++ records_from form rest after count) adds.records
            ∙ (append_assoc old (piece ++ record_of_kept s ∷ []) (records_from form rest after count)
            ∙ (ap (λ (l : List Record). old ++ l) (append_assoc piece (record_of_kept s ∷ []) (records_from form rest after count) ∙ sym split)
            ∙ so.records es is rise));
      }

  more_deletion : s.seen.kind ≡ Deletion → new ≡ old → after ≡ from → AreRecordsTo form entries next new (suc i) after
  more_deletion deletion same stays =
      subst (λ (l : List Record). AreRecordsTo form entries next l (suc i) after) (sym same) (subst (AreRecordsTo form entries next old (suc i)) (sym stays) (record {
        least = so.least;
        most = so.most;
        size = so.size;
        records = λ es is rise.
            let at = stands form [] es i s (ap (λ (l : List StoredEntry). slice_get l i) (sym is) ∙ here) in
            let e = at.entry in
            let e_kind : e.kind ≡ Deletion = sym (ap (λ (t : StoredEntry). t.seen.kind) at.kept) ∙ deletion in
            let rest = messages (drop (suc i) es) in
            let all : messages (drop i es) ≡ rest = ap messages at.rest ∙ deletion_first e.kind e rest e_kind in
            ap (λ (l : List Entry). old ++ records_from form l from (next - from)) (sym all) ∙ so.records es is rise;
      }))

  by_kind : (k : EntryKind) → s.seen.kind ≡ k → AddsByKind k form next from s old new after → AreRecordsTo form entries next new (suc i) after
  by_kind Message is adds = more_message is adds
  by_kind Deletion is adds = more_deletion is adds.0 adds.1

  pub records_next : AddsByKind s.seen.kind form next from s old new after → AreRecordsTo form entries next new (i + 1) after
  records_next adds = subst (λ (n : ℕ). AreRecordsTo form entries next new n after) (let count : suc i ≡ i + 1 = omega arith in count) (by_kind s.seen.kind refl adds)

-- After the last entry, and the numbers that are left.
drop_all : (n : ℕ) (es : List Entry) → length es ≤ n → drop n es ≡ []
drop_all zero [] less = refl
drop_all (suc n) [] less = refl
drop_all zero (e ∷ es) less = absurd (omega (arith, less))
drop_all (suc n) (e ∷ es) less = drop_all n es (omega (arith, less))

length_stored : (form : Form) (before es : List Entry) → length (stored_after form before es) ≡ length es
length_stored form before [] = refl
length_stored form before (e ∷ es) = ap suc (length_stored form (before ++ e ∷ []) es)

pub records_all : (form : Form) (entries : List StoredEntry) (next number : ℕ) (lines all : List Record) → AreAllRecords form entries next lines number → all ≡ lines ++ records_from form [] number (next - number)
    → (sum_by size_of_line all + record_size form ≡ record_size form * next) × ((es : List Entry) → entries ≡ stored_after form [] es → Rise 1 0 es → all ≡ records_from form (messages es) 1 (next - 1))
records_all form entries next number lines all whole all_is =
    let so = whole.2 in
    let above = whole.1 in
    let most = so.most in
    let was = so.size in
    let sizes = ap (sum_by size_of_line) all_is ∙ sum_by-append size_of_line lines (records_from form [] number (next - number)) in
    let none = none_sizes form number (next - number) in
    let sum = sizes_sum form number (next - number) next (omega (arith, most)) in (
      omega (arith, sizes, was, none, sum),
      λ es is rise.
          let size : length entries ≡ length es = ap length is ∙ length_stored form [] es in
          let empty : messages (drop whole.0 es) ≡ [] = ap messages (drop_all whole.0 es (omega (arith, size, above))) in
          all_is ∙ (ap (λ (l : List Entry). lines ++ records_from form l number (next - number)) (sym empty) ∙ so.records es is rise),
    )

-- The plan of a map, which gets these records as one piece.
pub plans_records : (form : Form) (lines : List Record) (next : ℕ) (old plan : Plan) → old ≡ no_plan kind.Map 0 Anew → plan ≡ with_bytes old (flat_map record_bytes lines) → IsPlan plan → IsPlan old → length (flat_map record_bytes lines) ≡ sum_by size_of_line lines → sum_by size_of_line lines + record_size form ≡ record_size form * next → PlansRecords form lines next plan
plans_records form lines next old plan old_is plan_is valid old_valid size sum =
    let bytes = flat_map record_bytes lines in
    let none = no_plan kind.Map 0 Anew in
    let is : plan ≡ with_bytes none bytes = plan_is ∙ ap (λ (p : Plan). with_bytes p bytes) old_is in
    let none_valid : IsPlan none = subst IsPlan old_is old_valid in
    let count = ap plan_count is ∙ count_with_bytes none bytes in
    let empty : plan_count none ≡ 0 = refl in
    let none_whole : (texts : Texts) → IsPlanWhole texts none = λ texts i source wrong. absurd (let no : None ≡ Some source = wrong in cc) in
    record {
      kind = ap (λ (p : Plan). p.kind) is;
      number = ap (λ (p : Plan). p.number) is;
      target = ap (λ (p : Plan). p.target) is;
      valid = valid;
      count = omega (arith, count, empty, size, sum);
      bytes_only = λ i source here.
          each_more (λ (s : Source). (offset count : ℕ) × (s ≡ Bytes offset count)) [] (Bytes 0 (length bytes)) (λ j t wrong. absurd (let no : None ≡ Some t = wrong in cc)) (0, length bytes, refl) i source
          (ap (λ (p : Plan). slice_get p.sources i) (sym is) ∙ here);
      whole = λ texts. subst (IsPlanWhole texts) (sym is) (whole_with_bytes texts none bytes (none_whole texts));
      written = λ texts. ap (written_by texts) is ∙ written_with_bytes texts none bytes none_valid;
    }
