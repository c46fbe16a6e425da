-- The first entries of a map's records.
use Rattle.std.specs.Prelude.{◌≡◌, ◌≢◌, ◌+◌, ◌<◌, ◌≤◌, ℕ, zero, suc, Bool, true, false, cond, List, [], ◌∷◌, ◌++◌, length, map, slice_get, unwrap_or, Option, Some, None, if◌then◌else◌, refl}
use Rattle.std.specs.List.{AllByRecursion}
use Rattle.std.proofs.Common.{◌∙◌, sym, ap, subst, arith, append_assoc}
use Rattle.std.proofs.lemmas.List.{append-nil, map-append}
use Rattle.std.proofs.lemmas.Bool.Decides.{nat_tests}
use Rattle.arch_base.specs.declared.ids.Form.{Form}
use Rattle.git_objects.specs.declared.entry_kind.EntryKind.{EntryKind}
use Rattle.git_objects.specs.declared.entry_kind.EntryKind.TheVariants.{Message, Deletion}
use Rattle.mail_reader.specs.Ids.{own_id}
use Rattle.git_objects.specs.Objects.{blob_id_of}
use Rattle.arch_model.specs.Archives.{Entry, is_message, live, messages as delivered, text_of}
use Rattle.number_map.specs.declared.line.Record.{Record}
use Rattle.number_map.specs.Records.{AreRecordsFrom}
use Rattle.arch_model.specs.Validity.{IsEntry, NumberIsFrom, number_after, Rise, AtEachPlace, EndsLive, IdsDiffer, LiveDiffer, BlobsAgree}
use Rattle.arch_model.proofs.LiveEntries.{without, live-message, live-deletion, messages-message, messages-deletion, ids-now, ids-without, place-push}
use Rattle.arch_model.proofs.ValidArchives.{Agrees, all_after, all_weaker, rise_more, ids_more, blobs_more}
use Rattle.store_finding.specs.Kept.{stored_after}
use Rattle.store_finding.specs.Damage.{messages, has_message, record_of, AreFirst}
use Rattle.store_finding.specs.Joined.{AreBefore}
use Rattle.store_finding.proofs.Live.{Ending, Apart, numbers_all}

-- What holds of all items holds of the first ones, of the others, and of one that was appended.
pub all_front : {X : Type 0} (P : X → Type 0) (xs ys : List X) → AllByRecursion P (xs ++ ys) → AllByRecursion P xs
all_front P [] ys all = tt
all_front P (x ∷ xs) ys all = (all.0, all_front P xs ys all.1)

pub all_back : {X : Type 0} (P : X → Type 0) (xs ys : List X) → AllByRecursion P (xs ++ ys) → AllByRecursion P ys
all_back P [] ys all = all
all_back P (x ∷ xs) ys all = all_back P xs ys all.1

pub all_last : {X : Type 0} (P : X → Type 0) (xs : List X) (x : X) → AllByRecursion P (xs ++ x ∷ []) → P x
all_last P xs x all = (all_back P xs (x ∷ []) all).0

-- The same of what holds at each place.
pub place_front : (P : List Entry → Entry → Type 0) (before xs ys : List Entry) → AtEachPlace P before (xs ++ ys) → AtEachPlace P before xs
place_front P before [] ys all = tt
place_front P before (x ∷ xs) ys all = (all.0, place_front P (before ++ x ∷ []) xs ys all.1)

pub place_last : (P : List Entry → Entry → Type 0) (before xs : List Entry) (e : Entry) → AtEachPlace P before (xs ++ e ∷ []) → P (before ++ xs) e
place_last P before [] e all = subst (λ (l : List Entry). P l e) (sym (append-nil before)) all.0
place_last P before (x ∷ xs) e all = subst (λ (l : List Entry). P l e) (append_assoc before (x ∷ []) xs) (place_last P (before ++ x ∷ []) xs e all.1)

pub rise_front : (number epoch : ℕ) (xs ys : List Entry) → Rise number epoch (xs ++ ys) → Rise number epoch xs
rise_front number epoch [] ys rise = tt
rise_front number epoch (x ∷ xs) ys rise = (rise.0, rise.1, rise_front (number_after x.kind number x.number) x.epoch xs ys rise.2)

blobs_front : (form : Form) (xs ys : List Entry) → BlobsAgree form (xs ++ ys) → BlobsAgree form xs
blobs_front form [] ys agree = tt
blobs_front form (x ∷ xs) ys agree = (all_front _ xs ys agree.0, blobs_front form xs ys agree.1)

-- The last of entries whose texts agree has the text of each with its blob id.
pub blobs_last : (form : Form) (es : List Entry) (e : Entry) → BlobsAgree form (es ++ e ∷ []) → Agrees form e.text es
blobs_last form [] e agree = tt
blobs_last form (f ∷ es) e agree = (all_last (λ (g : Entry). blob_id_of form g.text ≡ blob_id_of form f.text → g.text ≡ f.text) es e agree.0, blobs_last form es e agree.1)

-- The last of entries whose own ids differ has one of its own.
pub ids_apart : (es : List Entry) (new : Entry) → IdsDiffer (es ++ new ∷ []) → Apart new.text es
ids_apart [] new differ = tt
ids_apart (e ∷ es) new differ = (all_last (λ (f : Entry). own_id f.text ≢ own_id e.text) es new differ.0, ids_apart es new differ.1)

-- The messages of two lists, and their records.
delivered_step : (t : Bool) (e : Entry) (all xs ys : List Entry) → all ≡ xs ++ ys → (if t then e ∷ all else all) ≡ (if t then e ∷ xs else xs) ++ ys
delivered_step true e all xs ys is = ap (λ (l : List Entry). e ∷ l) is
delivered_step false e all xs ys is = is

pub delivered_joined : (xs ys : List Entry) → delivered (xs ++ ys) ≡ delivered xs ++ delivered ys
delivered_joined [] ys = refl
delivered_joined (x ∷ xs) ys = delivered_step (is_message x.kind) x (delivered (xs ++ ys)) (delivered xs) (delivered ys) (delivered_joined xs ys)

-- The first of the first entries.
pub first_front : (form : Form) (rs after : List Record) (xs ys : List Entry) → AreFirst form rs after (xs ++ ys) → AreFirst form rs (map (record_of form) (delivered ys) ++ after) xs
first_front form rs after xs ys first = record {
  valid = all_front IsEntry xs ys first.valid;
  order = rise_front 1 0 xs ys first.order;
  ends = place_front Ending [] xs ys first.ends;
  ids = place_front LiveDiffer [] xs ys first.ids;
  blobs = blobs_front form xs ys first.blobs;
  records = first.records ∙ (ap (λ (l : List Entry). map (record_of form) l ++ after) (delivered_joined xs ys)
      ∙ (ap (λ (l : List Record). l ++ after) (map-append (record_of form) (delivered xs) (delivered ys)) ∙ append_assoc (map (record_of form) (delivered xs)) (map (record_of form) (delivered ys)) after));
}

-- The epochs of what is kept are those of the entries.
pub stored_before : (form : Form) (epoch : ℕ) (before es : List Entry) → AreBefore epoch (stored_after form before es) → AllByRecursion (λ (e : Entry). e.epoch < epoch) es
stored_before form epoch before [] all = tt
stored_before form epoch before (e ∷ es) all = (all.0, stored_before form epoch (before ++ e ∷ []) es all.1)

-- The record after those of some entries.
pub record_after : (form : Form) (es : List Entry) (after : List Record) → slice_get (map (record_of form) es ++ after) (length es) ≡ slice_get after 0
record_after form [] after = refl
record_after form (e ∷ es) after = record_after form es after

pub map_after : {X Y : Type 0} (f : X → Y) (xs : List X) (x : X) (ys : List Y) → map f (xs ++ x ∷ []) ++ ys ≡ map f xs ++ f x ∷ ys
map_after f [] x ys = refl
map_after f (z ∷ zs) x ys = ap (λ (l : List _). f z ∷ l) (map_after f zs x ys)

-- The first of some records.
pub record FirstIs (after : List Record) (next : Record) : Type 0 where
  pub rest : List Record
  pub is : after ≡ next ∷ rest

pub first_is : (after : List Record) (next : Record) → slice_get after 0 ≡ Some next → FirstIs after next
first_is [] next is = absurd (let wrong : None ≡ Some next = is in cc)
first_is (r ∷ rs) next is = record { rest = rs; is = ap (λ (s : Record). s ∷ rs) (ap (λ (o : Option Record). unwrap_or o r) is) }

pub first_none : (after : List Record) → slice_get after 0 ≡ None → after ≡ []
first_none [] is = refl
first_none (r ∷ rs) is = absurd (let wrong : Some r ≡ None = is in cc)

-- The numbers of a map's records rise.
abbrev Below : ℕ → List Entry → Record → Type 0
Below n es r = AllByRecursion (λ (e : Entry). e.number < r.number) es × (n ≤ r.number)

below_step : (form : Form) (b : Bool) (n : ℕ) (line : Record) (rest : List Record) (es : List Entry) (r : Record) (more : List Record) → line.number ≡ n
    → ((fs : List Entry) → rest ≡ map (record_of form) fs ++ r ∷ more → Below (n + 1) fs r) → cond b (line ∷ rest) rest ≡ map (record_of form) es ++ r ∷ more → Below n es r
below_step form false n line rest es r more number later is = let all = later es is in (all.0, omega (arith, all.1))
below_step form true n line rest [] r more number later is =
    let same : line ≡ r = cc in
    let there_is : line.number ≡ r.number = ap (λ (x : Record). x.number) same in
    (tt, omega (arith, number, there_is))
below_step form true n line rest (e ∷ es) r more number later is =
    let same : line ≡ record_of form e = cc in
    let tail : rest ≡ map (record_of form) es ++ r ∷ more = cc in
    let all = later es tail in
    let there_is : line.number ≡ e.number = ap (λ (x : Record). x.number) same in
    ((omega (arith, number, there_is, all.1), all.0), omega (arith, all.1))

pub numbers_rise : (form : Form) (n : ℕ) (rs : List Record) (es : List Entry) (r : Record) (more : List Record) → AreRecordsFrom form n rs → messages rs ≡ map (record_of form) es ++ r ∷ more → Below n es r
numbers_rise form n [] [] r more valid is = absurd (let wrong : [] ≡ r ∷ more = is in cc)
numbers_rise form n [] (e ∷ es) r more valid is = absurd (let wrong : [] ≡ record_of form e ∷ (map (record_of form) es ++ r ∷ more) = is in cc)
numbers_rise form n (line ∷ lines) es r more valid is = below_step form (has_message line) n line (messages lines) es r more valid.0.number (λ fs. numbers_rise form (n + 1) lines fs r more valid.1) is

-- What a new entry needs of those before it, by its kind.
abbrev pub FitsKind : EntryKind → List Entry → Entry → Type 0
FitsKind Message es new = Apart new.text (live es)
FitsKind Deletion es new = text_of (live es) new.number ≡ Some new.text

-- The records in a form after those of some entries, if the next entry is of a kind and others follow.
abbrev pub with_record : Form → EntryKind → Entry → List Record → List Record
with_record form Message new after = record_of form new ∷ after
with_record form Deletion new after = after

-- An entry of either kind.
pub as_message : (e : Entry) → e.kind ≡ Message → e ≡ record { kind = Message; number = e.number; epoch = e.epoch; text = e.text; moment = e.moment }
as_message e is = λ i. record { kind = is i; number = e.number; epoch = e.epoch; text = e.text; moment = e.moment }

pub as_deletion : (e : Entry) → e.kind ≡ Deletion → e ≡ record { kind = Deletion; number = e.number; epoch = e.epoch; text = e.text; moment = e.moment }
as_deletion e is = λ i. record { kind = is i; number = e.number; epoch = e.epoch; text = e.text; moment = e.moment }

pub live_more : (es : List Entry) (new : Entry) → new.kind ≡ Message → live (es ++ new ∷ []) ≡ live es ++ new ∷ []
live_more es new is = subst (λ (e : Entry). live (es ++ e ∷ []) ≡ live es ++ e ∷ []) (sym (as_message new is)) (live-message es new.number new.epoch new.text new.moment)

pub live_less : (es : List Entry) (new : Entry) → new.kind ≡ Deletion → live (es ++ new ∷ []) ≡ without new.number (live es)
live_less es new is = subst (λ (e : Entry). live (es ++ e ∷ []) ≡ without new.number (live es)) (sym (as_deletion new is)) (live-deletion es new.number new.epoch new.text new.moment)

pub delivered_more : (es : List Entry) (new : Entry) → new.kind ≡ Message → delivered (es ++ new ∷ []) ≡ delivered es ++ new ∷ []
delivered_more es new is = subst (λ (e : Entry). delivered (es ++ e ∷ []) ≡ delivered es ++ e ∷ []) (sym (as_message new is)) (messages-message es new.number new.epoch new.text new.moment)

pub delivered_same : (es : List Entry) (new : Entry) → new.kind ≡ Deletion → delivered (es ++ new ∷ []) ≡ delivered es
delivered_same es new is = subst (λ (e : Entry). delivered (es ++ e ∷ []) ≡ delivered es) (sym (as_deletion new is)) (messages-deletion es new.number new.epoch new.text new.moment)

-- The records of entries with one more.
records_by : (form : Form) (k : EntryKind) (es : List Entry) (new : Entry) (after : List Record) → new.kind ≡ k → map (record_of form) (delivered (es ++ new ∷ [])) ++ after ≡ map (record_of form) (delivered es) ++ with_record form k new after
records_by form Message es new after is = ap (λ (l : List Entry). map (record_of form) l ++ after) (delivered_more es new is) ∙ map_after (record_of form) (delivered es) new after
records_by form Deletion es new after is = ap (λ (l : List Entry). map (record_of form) l ++ after) (delivered_same es new is)

pub records_last : (form : Form) (es : List Entry) (new : Entry) (after : List Record) → map (record_of form) (delivered (es ++ new ∷ [])) ++ after ≡ map (record_of form) (delivered es) ++ with_record form new.kind new after
records_last form es new after = records_by form new.kind es new after refl

-- Its number comes after those before it, if it is a message.
number_by : (form : Form) (k : EntryKind) (rs after : List Record) (es : List Entry) (new : Entry) → AreRecordsFrom form 1 rs → AreFirst form rs (with_record form k new after) es → NumberIsFrom k 1 new.number × AllByRecursion (λ (e : Entry). NumberIsFrom k (e.number + 1) new.number) es
number_by form Message rs after es new numbered first =
    let below = numbers_rise form 1 rs (delivered es) (record_of form new) after numbered first.records in
    (below.1, all_weaker (λ (e : Entry). e.number < new.number) (λ (e : Entry). e.number + 1 ≤ new.number) es (λ e less. omega (arith, less)) (numbers_all (λ (n : ℕ). n < new.number) [] es tt first.ends below.0))
number_by form Deletion rs after es new numbered first = (tt, none_asked es) where
  none_asked : (fs : List Entry) → AllByRecursion (λ (e : Entry). NumberIsFrom Deletion (e.number + 1) new.number) fs
  none_asked [] = tt
  none_asked (f ∷ fs) = (tt, none_asked fs)

-- The own ids of live entries differ still.
ids_by : (k : EntryKind) (es : List Entry) (new : Entry) → new.kind ≡ k → IdsDiffer (live es) → FitsKind k es new → IdsDiffer (live (es ++ new ∷ []))
ids_by Message es new is differ fits = subst IdsDiffer (sym (live_more es new is)) (ids_more (live es) new differ fits)
ids_by Deletion es new is differ fits = subst IdsDiffer (sym (live_less es new is)) (ids-without new.number (live es) differ)

ends_by : (k : EntryKind) (es : List Entry) (new : Entry) → FitsKind k es new → EndsLive k es new
ends_by Message es new fits = tt
ends_by Deletion es new fits = fits

-- An entry of the next record, if it is a message, joins those of the first ones if it fits by its
-- kind and has the text of each entry with its blob id.
pub first_more : (form : Form) (rs after : List Record) (es : List Entry) (new : Entry) → AreRecordsFrom form 1 rs → AreFirst form rs (with_record form new.kind new after) es → IsEntry new
    → AllByRecursion (λ (e : Entry). e.epoch ≤ new.epoch) es → FitsKind new.kind es new → Agrees form new.text es → AreFirst form rs after (es ++ new ∷ [])
first_more form rs after es new numbered first entry older fits agree =
    let numbers = number_by form new.kind rs after es new numbered first in
    record {
      valid = all_after IsEntry es new first.valid entry;
      order = rise_more 1 0 es new first.order numbers.0 (omega arith) numbers.1 older;
      ends = place-push Ending [] es new first.ends (ends_by new.kind es new fits);
      ids = place-push LiveDiffer [] es new first.ids (ids_by new.kind es new refl (ids-now es first.ids) fits);
      blobs = blobs_more form es new first.blobs agree;
      records = first.records ∙ sym (records_last form es new after);
    }

-- The last entry fits.
fits_by : (k : EntryKind) (es : List Entry) (new : Entry) → new.kind ≡ k → EndsLive k es new → IdsDiffer (live (es ++ new ∷ [])) → FitsKind k es new
fits_by Message es new is ends differ = ids_apart (live es) new (subst IdsDiffer (live_more es new is) differ)
fits_by Deletion es new is ends differ = ends

pub fits_last : (form : Form) (rs after : List Record) (es : List Entry) (new : Entry) → AreFirst form rs after (es ++ new ∷ []) → FitsKind new.kind es new
fits_last form rs after es new first = fits_by new.kind es new refl (place_last Ending [] es new first.ends) (ids-now (es ++ new ∷ []) first.ids)

-- Those before the last one are the first, and its record is the next one if it is a message.
pub first_less : (form : Form) (rs after : List Record) (es : List Entry) (new : Entry) → AreFirst form rs after (es ++ new ∷ []) → AreFirst form rs (with_record form new.kind new after) es
first_less form rs after es new first =
    let less = first_front form rs after es (new ∷ []) first in
    record { valid = less.valid; order = less.order; ends = less.ends; ids = less.ids; blobs = less.blobs; records = first.records ∙ records_last form es new after }

-- Each record with a message has an epoch.
small_step : (b : Bool) (line : Record) (rest : List Record) (i : ℕ) (r : Record) → has_message line ≡ b → ((k : ℕ) → slice_get rest k ≡ Some r → r.epoch < 64) → slice_get (cond b (line ∷ rest) rest) i ≡ Some r → r.epoch < 64
small_step false line rest i r test later is = later i is
small_step true line rest zero r test later is = let same : line ≡ r = ap (λ (o : Option Record). unwrap_or o line) is in let less : line.epoch < 64 = grind (arith, nat_tests) in subst (λ (s : Record). s.epoch < 64) same less
small_step true line rest (suc i) r test later is = later i is

pub messages_small : (rs : List Record) (i : ℕ) (r : Record) → slice_get (messages rs) i ≡ Some r → r.epoch < 64
messages_small [] i r is = absurd (let wrong : None ≡ Some r = is in cc)
messages_small (line ∷ lines) i r is = small_step (has_message line) line (messages lines) i r refl (λ k. messages_small lines k r) is
