-- Files are opened as what they stand for, and stand for what they are opened as.
use Rattle.std.specs.Prelude.{◌≡◌, ◌≢◌, ◌+◌, ◌-◌, ◌*◌, ◌<◌, ◌≤◌, ℕ, zero, suc, Bool, true, false, cond, List, [], ◌∷◌, length, take, map, Option, Some, None, refl}
use Rattle.std.specs.List.{AllByRecursion, flat_map}
use Rattle.std.proofs.Common.{◌∙◌, sym, ap, subst, inl, inr, arith, length-take}
use Rattle.std.proofs.lemmas.List.{append-nil}
use Rattle.std.proofs.lemmas.Bool.{cases_lt}
use Rattle.arch_base.specs.declared.config.Config.{Config}
use Rattle.arch_base.specs.declared.ids.Form.{Form}
use Rattle.git_objects.specs.Objects.{blob_id_of}
use Rattle.disk_model.specs.Disk.{bytes_of}
use Rattle.disk_model.specs.Sizes.{record_size}
use Rattle.arch_model.specs.Archives.{Entry, Archive, in_epoch, messages as delivered}
use Rattle.arch_model.specs.Epochs.{epoch_bytes}
use Rattle.number_map.specs.declared.line.Record.{Record}
use Rattle.number_map.specs.Laws.{RecordsDiffer}
use Rattle.number_map.specs.Records.{record_bytes, IsRecord, AreRecordsFrom}
use Rattle.number_map.specs.Sizes.{records_length}
use Rattle.root_slots.specs.declared.root.Root.{Root}
use Rattle.root_change.specs.Texts.{Fronts}
use Rattle.store_finding.specs.Files.{map_file_of, epoch_file_of, cache_file_of}
use Rattle.arch_model.specs.Validity.{IsEntry, IsArchive}
use Rattle.arch_model.proofs.LiveEntries.{messages-all}
use Rattle.store_finding.proofs.Live.{Ascends, messages_ascend, numbers_all}
use Rattle.store_finding.specs.Recovery.{entry_of, record_for, records_from, records_of, map_bytes, NamesArchive}
use Rattle.store_finding.proofs.FrontParts.{from_parts, parts_front}
use Rattle.store_finding.specs.Damage.{has_message, messages, record_of, AreFirst}
use Rattle.store_finding.specs.Openings.{archive_of, cache_in, OpenedRecovers, RecoversMap, RecoversOpened}
use Rattle.arch_model.proofs.ValidArchives.{all_weaker}
use Rattle.root_change.proofs.Roots.{same_test, other_test, less_test}
use Rattle.store_finding.proofs.Mapped.{records_valid, records_few, map_length}
use Rattle.store_finding.proofs.Firsts.{numbers_rise}
use Rattle.store_finding.proofs.Opening.{fronts_by}

-- The entry of a number is the first one, or one of the others.
at_first : (e : Entry) (es : List Entry) (n : ℕ) → e.number ≡ n → entry_of (e ∷ es) n ≡ Some e
at_first e es n is = rw (same_test e.number n is) refl

not_first : (e : Entry) (es : List Entry) (n : ℕ) → e.number ≢ n → entry_of (e ∷ es) n ≡ entry_of es n
not_first e es n apart = rw (other_test e.number n apart) refl

-- No entry has a number below all.
none_lower : (es : List Entry) (low n : ℕ) → Ascends low es → n < low → entry_of es n ≡ None
none_lower [] low n rise less = refl
none_lower (e ∷ es) low n rise less =
    let high = rise.0 in
    not_first e es n (λ is. absurd (omega (arith, is, less, high))) ∙ none_lower es (e.number + 1) n rise.1 (omega (arith, less, high))

-- An entry at the front doesn't change the records of greater numbers.
records_after : (form : Form) (e : Entry) (es : List Entry) (n count : ℕ) → e.number < n → records_from form (e ∷ es) n count ≡ records_from form es n count
records_after form e es n zero less = refl
records_after form e es n (suc count) less =
    ap (λ (o : Option Entry). record_for form n o ∷ records_from form (e ∷ es) (n + 1) count) (not_first e es n (λ is. absurd (omega (arith, is, less))))
    ∙ ap (λ (rs : List Record). record_for form n (entry_of es n) ∷ rs) (records_after form e es (n + 1) count (omega (arith, less)))

-- A record with a message is kept, and one without isn't.
with_message : (r : Record) (rs : List Record) → has_message r ≡ true → messages (r ∷ rs) ≡ r ∷ messages rs
with_message r rs is = rw is refl

-- The records of messages that have one are theirs.
messages_of : (form : Form) (es : List Entry) (n count : ℕ) → AllByRecursion IsEntry es → Ascends n es → AllByRecursion (λ (e : Entry). e.number < n + count) es → messages (records_from form es n count) ≡ map (record_of form) es
messages_of form [] n zero valid rise below = refl
messages_of form (e ∷ es) n zero valid rise below = absurd (let low = rise.0 in let high : e.number < n + 0 = below.0 in omega (arith, low, high))
messages_of form [] n (suc count) valid rise below = messages_of form [] (n + 1) count tt tt tt
messages_of form (e ∷ es) n (suc count) valid rise below = elim (cases_lt n e.number) [
  | inl less ↦
      ap (λ (o : Option Entry). messages (record_for form n o ∷ records_from form (e ∷ es) (n + 1) count)) (none_lower (e ∷ es) e.number n (omega arith, rise.1) less)
      ∙ messages_of form (e ∷ es) (n + 1) count valid (omega (arith, less), rise.1)
      (all_weaker (λ (f : Entry). f.number < n + suc count) (λ (f : Entry). f.number < n + 1 + count) (e ∷ es) (λ f few. omega (arith, few)) below)
  | inr most ↦
      (let low = rise.0 in
      let is : e.number ≡ n = omega (arith, most, low) in
      let small = valid.0.epoch in
      let r : Record = record_for form n (Some e) in
      let same : r ≡ record_of form e = (λ i. record { number = sym is i; epoch = e.epoch; blob = blob_id_of form e.text }) in
      ap (λ (o : Option Entry). messages (record_for form n o ∷ records_from form (e ∷ es) (n + 1) count)) (at_first e es n is)
      ∙ (with_message r (records_from form (e ∷ es) (n + 1) count) (less_test e.epoch 64 (omega (arith, small)))
      ∙ (ap (λ (rs : List Record). r ∷ messages rs) (records_after form e es (n + 1) count (omega (arith, is)))
      ∙ ((λ i. same i ∷ messages (records_from form es (n + 1) count))
      ∙ ap (λ (rs : List Record). record_of form e ∷ rs) (messages_of form es (n + 1) count valid.1 (subst (λ (m : ℕ). Ascends (m + 1) es) is rise.1)
      (all_weaker (λ (f : Entry). f.number < n + suc count) (λ (f : Entry). f.number < n + 1 + count) es (λ f few. omega (arith, few)) below.1))))))
]

-- The records of an archive that have a message are those of its messages.
pub delivered_records : (a : Archive) → IsArchive a → messages (records_of a) ≡ map (record_of a.config.form) (delivered a.entries)
delivered_records a valid =
    let least = valid.next_least in
    messages_of a.config.form (delivered a.entries) 1 (a.next - 1) (messages-all IsEntry a.entries valid.entries) (messages_ascend 1 0 a.entries valid.order)
    (messages-all (λ (e : Entry). e.number < 1 + (a.next - 1)) a.entries (all_weaker (λ (e : Entry). e.number < a.next) (λ (e : Entry). e.number < 1 + (a.next - 1)) a.entries (λ e less. omega (arith, less, least)) valid.below))

-- The record of a number without a message.
none_is : (form : Form) (n : ℕ) (line : Record) → IsRecord form n line → has_message line ≡ false → line ≡ record_for form n None
none_is form n line valid test = elim valid.message [
  | inl low ↦ absurd (let yes_it = less_test line.epoch 64 (omega (arith, low)) in let wrong : true ≡ false = sym yes_it ∙ test in cc)
  | inr none ↦ (λ i. record { number = valid.number i; epoch = none.0 i; blob = none.1 i })
]

-- The records of a map are those of the entries that it has.
records_back : (form : Form) (n : ℕ) (rs : List Record) (es : List Entry) → AreRecordsFrom form n rs → Ascends n es → messages rs ≡ map (record_of form) es → rs ≡ records_from form es n (length rs)
records_back form n [] es valid rise is = refl
records_back form n (line ∷ lines) es valid rise is = by (λ fs. records_back form (n + 1) lines fs valid.1) (has_message line) refl es rise is where
  later : (e : Entry) (fs : List Entry) → messages lines ≡ map (record_of form) (e ∷ fs) → n + 1 ≤ e.number
  later e fs are = (numbers_rise form (n + 1) lines [] (record_of form e) (map (record_of form) fs) valid.1 are).1

  after_none : (fs : List Entry) → Ascends n fs → messages lines ≡ map (record_of form) fs → Ascends (n + 1) fs
  after_none [] up are = tt
  after_none (e ∷ fs) up are = (later e fs are, up.1)

  by : ((fs : List Entry) → Ascends (n + 1) fs → messages lines ≡ map (record_of form) fs → lines ≡ records_from form fs (n + 1) (length lines)) → (b : Bool) → has_message line ≡ b → (fs : List Entry) → Ascends n fs → cond b (line ∷ messages lines) (messages lines) ≡ map (record_of form) fs → (line ∷ lines) ≡ records_from form fs n (suc (length lines))
  by others false test fs up are =
      let rise_on = after_none fs up are in
      let one : line ≡ record_for form n (entry_of fs n) = none_is form n line valid.0 test ∙ ap (record_for form n) (sym (none_lower fs (n + 1) n rise_on (omega arith))) in
      let rest = others fs rise_on are in
      λ i. one i ∷ rest i
  by others true test [] up are = absurd (let wrong : line ∷ messages lines ≡ [] = are in cc)
  by others true test (e ∷ fs) up are =
      let same : line ≡ record_of form e = cc in
      let tail : messages lines ≡ map (record_of form) fs = cc in
      let number : e.number ≡ n = ap (λ (r : Record). r.number) (sym same) ∙ valid.0.number in
      let entry : record_of form e ≡ record_for form n (Some e) = (λ i. record { number = number i; epoch = e.epoch; blob = blob_id_of form e.text }) in
      let one : line ≡ record_for form n (entry_of (e ∷ fs) n) = same ∙ (entry ∙ ap (record_for form n) (sym (at_first e fs n number))) in
      let rest : lines ≡ records_from form (e ∷ fs) (n + 1) (length lines) =
      others fs (subst (λ (m : ℕ). Ascends (m + 1) fs) number up.1) tail ∙ sym (records_after form e fs (n + 1) (length lines) (omega (arith, number))) in
      λ i. one i ∷ rest i

-- No entry has a number after them.
numbers_most : (form : Form) (n : ℕ) (rs : List Record) (es : List Entry) → AreRecordsFrom form n rs → messages rs ≡ map (record_of form) es → AllByRecursion (λ (e : Entry). e.number < n + length rs) es
numbers_most form n [] [] valid is = tt
numbers_most form n [] (e ∷ es) valid is = absurd (let wrong : [] ≡ record_of form e ∷ map (record_of form) es = is in cc)
numbers_most form n (line ∷ lines) es valid is = by (λ fs. numbers_most form (n + 1) lines fs valid.1) (has_message line) es is where
  more : (e : Entry) → e.number < n + 1 + length lines → e.number < n + suc (length lines)
  more e less = omega (arith, less)

  by : ((fs : List Entry) → messages lines ≡ map (record_of form) fs → AllByRecursion (λ (e : Entry). e.number < n + 1 + length lines) fs) → (b : Bool) (fs : List Entry) → cond b (line ∷ messages lines) (messages lines) ≡ map (record_of form) fs → AllByRecursion (λ (e : Entry). e.number < n + suc (length lines)) fs
  by others false fs are = all_weaker (λ (e : Entry). e.number < n + 1 + length lines) (λ (e : Entry). e.number < n + suc (length lines)) fs more (others fs are)
  by others true [] are = tt
  by others true (e ∷ fs) are =
      let same : line ≡ record_of form e = cc in
      let tail : messages lines ≡ map (record_of form) fs = cc in
      let number : e.number ≡ n = ap (λ (r : Record). r.number) (sym same) ∙ valid.0.number in
      (omega (arith, number), all_weaker (λ (f : Entry). f.number < n + 1 + length lines) (λ (f : Entry). f.number < n + suc (length lines)) fs more (others fs tail))

-- Files that are opened stand for the archive of what was found.
pub opened_recovers : OpenedRecovers
opened_recovers root files rs entries has opened =
    let a = archive_of root entries in
    let least = has.is_root.next_least in
    let count = has.count in
    let all : messages rs ≡ map (record_of root.config.form) (delivered entries) = opened.first.records ∙ append-nil (map (record_of root.config.form) (delivered entries)) in
    let back : rs ≡ records_of a = records_back root.config.form 1 rs (delivered entries) has.begins.valid (messages_ascend 1 0 entries opened.first.order) all ∙ ap (records_from root.config.form (delivered entries) 1) count in
    let size : record_size root.config.form * length rs ≡ length (map_bytes a) = sym (records_length root.config.form 1 rs has.begins.valid) ∙ ap (λ (l : List Record). length (flat_map record_bytes l)) back in
    let names : NamesArchive root a = record { is_root = has.is_root; fits = has.fits; config = refl; next = refl; epochs = opened.whole.lengths } in
    let cache_fits : length (cache_in root files) ≤ root.cache.length = (let size = length-take {A = ℕ} root.cache.length (bytes_of (files (cache_file_of root))) in omega (arith, size)) in
    let valid : IsArchive a = record {
      name = has.fits.name;
      config = has.is_root.config;
      next_least = least;
      next_most = has.is_root.next_most;
      entries = opened.first.valid;
      below = all_weaker (λ (e : Entry). e.number < 1 + length rs) (λ (e : Entry). e.number < root.next) entries (λ e less. omega (arith, less, count, least))
          (numbers_all (λ (n : ℕ). n < 1 + length rs) [] entries tt opened.first.ends (numbers_most root.config.form 1 rs (delivered entries) has.begins.valid all));
      order = opened.first.order;
      ends = opened.first.ends;
      ids = opened.first.ids;
      blobs = opened.first.blobs;
    } in
    record {
      valid = valid;
      names = names;
      cache_fits = cache_fits;
      stands = from_parts root a (cache_in root files) valid names cache_fits files (record {
        current = has.current;
        map_front = fronts_by (record_size root.config.form * length rs) (map_bytes a) (files (map_file_of root)) (has.begins.spelled ∙ ap (flat_map record_bytes) back) size;
        epochs_front = opened.whole.fronts;
        cache_is = refl;
      });
    }

-- A root that names an archive has the form of its settings.
form_is : (root : Root) (a : Archive) → NamesArchive root a → a.config.form ≡ root.config.form
form_is root a names = ap (λ (c : Config). c.form) (sym names.config)

-- Files that stand for an archive are opened with its entries.
pub recovers_opened : RecordsDiffer → RecoversOpened
recovers_opened differ root files rs a cache has recovers =
    let parts = parts_front root cache files a recovers in
    let valid = recovers.valid in
    let next : root.next ≡ a.next = recovers.names.next in
    let same_form = form_is root a recovers.names in
    let lines : AreRecordsFrom root.config.form 1 (records_of a) = subst (λ (form : Form). AreRecordsFrom form 1 (records_of a)) same_form (records_valid a valid) in
    let count : length rs ≡ a.next - 1 = has.count ∙ ap (λ (n : ℕ). n - 1) next in
    let size : record_size root.config.form * length rs ≡ length (map_bytes a) = (λ i. record_size (sym same_form i) * count i) ∙ sym (map_length a valid) in
    let bytes : flat_map record_bytes rs ≡ map_bytes a =
    sym has.begins.spelled ∙ (ap (λ (n : ℕ). take n (bytes_of (files (map_file_of root)))) size ∙ parts.map_front.front) in
    let same : rs ≡ records_of a = differ root.config.form rs (records_of a) has.begins.valid lines bytes in
    let first : AreFirst a.config.form rs [] a.entries = record {
      valid = valid.entries;
      order = valid.order;
      ends = valid.ends;
      ids = valid.ids;
      blobs = valid.blobs;
      records = ap messages same ∙ (delivered_records a valid ∙ sym (append-nil (map (record_of a.config.form) (delivered a.entries))));
    } in
    record {
      first = subst (λ (form : Form). AreFirst form rs [] a.entries) same_form first;
      whole = record {
        below = all_weaker IsEntry (λ (e : Entry). e.epoch < 64) a.entries (λ e entry. (let small = entry.epoch in omega (arith, small))) valid.entries;
        lengths = λ e less. recovers.names.epochs e less ∙ ap (λ (form : Form). length (epoch_bytes form (in_epoch a.entries e))) same_form;
        fronts = λ e less. subst (λ (form : Form). Fronts (epoch_bytes form (in_epoch a.entries e)) (files (epoch_file_of root e))) same_form (parts.epochs_front e less);
      };
    }

-- Files that stand for an archive have its map.
pub recovers_map : RecoversMap
recovers_map root files a cache recovers =
    let valid = recovers.valid in
    let count : length (records_of a) ≡ a.next - 1 = records_few a in
    let same_form = form_is root a recovers.names in
    let size : record_size root.config.form * length (records_of a) ≡ length (map_bytes a) = (λ i. record_size (sym same_form i) * count i) ∙ sym (map_length a valid) in
    record {
      is_root = recovers.names.is_root;
      fits = recovers.names.fits;
      current = recovers.stands.current;
      count = count ∙ ap (λ (n : ℕ). n - 1) (sym recovers.names.next);
      begins = record {
        valid = subst (λ (form : Form). AreRecordsFrom form 1 (records_of a)) same_form (records_valid a valid);
        spelled = ap (λ (n : ℕ). take n (bytes_of (files (map_file_of root)))) size ∙ (parts_front root cache files a recovers).map_front.front;
      };
    }
