-- Without the entries of a text an archive is valid.
use Rattle.std.specs.Prelude.{◌≡◌, ◌≢◌, ◌+◌, ◌<◌, ◌≤◌, ◌==◌, ℕ, Bool, true, false, not, ◌&&◌, List, [], ◌∷◌, ◌++◌, Some, refl, if◌then◌else◌}
use Rattle.std.specs.List.{AllByRecursion, filter}
use Rattle.std.specs.Str.{bytes_eq}
use Rattle.std.proofs.Common.{◌⊎◌, inl, inr, ◌∙◌, sym, ap, subst, arith, append-nil, append_assoc}
use Rattle.std.proofs.lemmas.Bool.Decides.{nat_tests}
use Rattle.std.proofs.lemmas.Slice.Eq.{bytes_eq-Decides}
use Rattle.arch_base.specs.declared.ids.Form.{Form}
use Rattle.git_objects.specs.Objects.{blob_id_of}
use Rattle.git_objects.specs.declared.entry_kind.EntryKind.{EntryKind}
use Rattle.git_objects.specs.declared.entry_kind.EntryKind.TheVariants.{Message, Deletion}
use Rattle.mail_reader.specs.Ids.{own_id}
use Rattle.arch_model.specs.Archives.{Entry, Archive, message, deletion, is_message, is_ended, live, messages, text_of, without_text, without_entries}
use Rattle.arch_model.specs.Validity.{IsEntry, NumberIsFrom, number_after, Rise, AtEachPlace, EndsLive, IdsDiffer, LiveDiffer, BlobsAgree, IsArchive}
use Rattle.arch_model.proofs.LiveEntries.{live-message, live-deletion, without, found-has, all-text}

-- The numbers of entries rise from this one on.
abbrev pub Climbs : ℕ → List Entry → Type 0
Climbs low [] = Unit {0}
Climbs low (e ∷ es) = (low ≤ e.number) × Climbs (e.number + 1) es

climbs_lower : (low less : ℕ) (es : List Entry) → less ≤ low → Climbs low es → Climbs less es
climbs_lower low less [] down climbs = tt
climbs_lower low less (e ∷ es) down climbs = (let at : low ≤ e.number = climbs.0 in omega (arith, down, at), climbs.1)

messages_step : (k : EntryKind) (low : ℕ) (e : Entry) (es : List Entry) → NumberIsFrom k low e.number → Climbs (number_after k low e.number) es → Climbs low (if is_message k then e ∷ es else es)
messages_step Message low e es from rest = (from, rest)
messages_step Deletion low e es from rest = rest

-- The numbers of messages rise.
pub messages_climb : (low epoch : ℕ) (es : List Entry) → Rise low epoch es → Climbs low (messages es)
messages_climb low epoch [] rise = tt
messages_climb low epoch (e ∷ es) rise = messages_step e.kind low e (messages es) rise.0 (messages_climb (number_after e.kind low e.number) e.epoch es rise.2)

live_step : (k : EntryKind) (ended : Bool) (low : ℕ) (e : Entry) (es : List Entry) → NumberIsFrom k low e.number → Climbs (number_after k low e.number) es → Climbs low (if is_message k && not ended then e ∷ es else es)
live_step Message false low e es from rest = (from, rest)
live_step Message true low e es from rest = climbs_lower (e.number + 1) low es (omega (arith, from)) rest
live_step Deletion ended low e es from rest = rest

-- The numbers of live entries rise.
pub live_climbs : (low epoch : ℕ) (es : List Entry) → Rise low epoch es → Climbs low (live es)
live_climbs low epoch [] rise = tt
live_climbs low epoch (e ∷ es) rise = live_step e.kind (is_ended es e.number) low e (live es) rise.0 (live_climbs (number_after e.kind low e.number) e.epoch es rise.2)

above_step : (t : Bool) (low n : ℕ) (text : List ℕ) (e : Entry) (es : List Entry) → (e.number == n) ≡ t → low ≤ e.number → (text_of es n ≡ Some text → e.number + 1 ≤ n) → (if t then Some e.text else text_of es n) ≡ Some text → low ≤ n
above_step true low n text e es test from rest is = let same : e.number ≡ n = grind (arith, nat_tests, test) in omega (arith, same, from)
above_step false low n text e es test from rest is = let more : e.number + 1 ≤ n = rest is in omega (arith, more, from)

-- A number that is found isn't below the first.
pub climbs_above : (low : ℕ) (es : List Entry) (n : ℕ) (text : List ℕ) → Climbs low es → text_of es n ≡ Some text → low ≤ n
climbs_above low [] n text climbs is = absurd (cc)
climbs_above low (e ∷ es) n text climbs is = above_step (e.number == n) low n text e es refl climbs.0 (climbs_above (e.number + 1) es n text climbs.1) is

-- Of entries those with a text that is kept. `keep` is the test of a text.
module _ (keep : List ℕ → Bool) where
  abbrev pub kept : List Entry → List Entry
  kept es = filter (λ (e : Entry). keep e.text) es

  all_step : (P : Entry → Type 0) (t : Bool) (e : Entry) (es : List Entry) → P e → AllByRecursion P es → AllByRecursion P (if t then e ∷ es else es)
  all_step P true e es one all = (one, all)
  all_step P false e es one all = all

  -- What holds of each entry holds of those that are kept.
  pub kept_all : (P : Entry → Type 0) (es : List Entry) → AllByRecursion P es → AllByRecursion P (kept es)
  kept_all P [] all = tt
  kept_all P (e ∷ es) all = all_step P (keep e.text) e (kept es) all.0 (kept_all P es all.1)

  ids_step : (t : Bool) (e : Entry) (es : List Entry) → AllByRecursion (λ (f : Entry). own_id f.text ≢ own_id e.text) es → IdsDiffer es → IdsDiffer (if t then e ∷ es else es)
  ids_step true e es apart differ = (apart, differ)
  ids_step false e es apart differ = differ

  pub kept_ids : (es : List Entry) → IdsDiffer es → IdsDiffer (kept es)
  kept_ids [] differ = tt
  kept_ids (e ∷ es) differ = ids_step (keep e.text) e (kept es) (kept_all (λ (f : Entry). own_id f.text ≢ own_id e.text) es differ.0) (kept_ids es differ.1)

  blobs_step : (form : Form) (t : Bool) (e : Entry) (es : List Entry) → AllByRecursion (λ (f : Entry). blob_id_of form f.text ≡ blob_id_of form e.text → f.text ≡ e.text) es → BlobsAgree form es → BlobsAgree form (if t then e ∷ es else es)
  blobs_step form true e es agree rest = (agree, rest)
  blobs_step form false e es agree rest = rest

  pub kept_blobs : (form : Form) (es : List Entry) → BlobsAgree form es → BlobsAgree form (kept es)
  kept_blobs form [] agree = tt
  kept_blobs form (e ∷ es) agree = blobs_step form (keep e.text) e (kept es) (kept_all (λ (f : Entry). blob_id_of form f.text ≡ blob_id_of form e.text → f.text ≡ e.text) es agree.0) (kept_blobs form es agree.1)

  from_lower : (k : EntryKind) (low less n : ℕ) → less ≤ low → NumberIsFrom k low n → NumberIsFrom k less n
  from_lower Message low less n down from = omega (arith, down, from)
  from_lower Deletion low less n down from = tt

  after_lower : (k : EntryKind) (low less n : ℕ) → less ≤ low → number_after k less n ≤ number_after k low n
  after_lower Message low less n down = omega arith
  after_lower Deletion low less n down = down

  after_later : (k : EntryKind) (low less n : ℕ) → less ≤ low → NumberIsFrom k low n → less ≤ number_after k low n
  after_later Message low less n down from = omega (arith, down, from)
  after_later Deletion low less n down from = down

  rise_step : (t : Bool) (less at : ℕ) (e : Entry) (es : List Entry) → NumberIsFrom e.kind less e.number → at ≤ e.epoch → (t ≡ true → Rise (number_after e.kind less e.number) e.epoch es) → (t ≡ false → Rise less at es) → Rise less at (if t then e ∷ es else es)
  rise_step true less at e es from later rest skip = (from, later, rest refl)
  rise_step false less at e es from later rest skip = skip refl

  -- Numbers of entries that are kept still rise, and epochs still don't fall.
  pub kept_rise : (es : List Entry) (low epoch less at : ℕ) → less ≤ low → at ≤ epoch → Rise low epoch es → Rise less at (kept es)
  kept_rise [] low epoch less at down before rise = tt
  kept_rise (e ∷ es) low epoch less at down before rise =
      let later : epoch ≤ e.epoch = rise.1 in
      rise_step (keep e.text) less at e (kept es) (from_lower e.kind low less e.number down rise.0) (omega (arith, before, later))
      (λ is. kept_rise es (number_after e.kind low e.number) e.epoch (number_after e.kind less e.number) e.epoch (after_lower e.kind low less e.number down) (omega arith) rise.2)
      (λ is. kept_rise es (number_after e.kind low e.number) e.epoch less at (after_later e.kind low less e.number down rise.0) (omega (arith, before, later)) rise.2)

  messages_kept_step : (t m : Bool) (e : Entry) (es ms : List Entry) → keep e.text ≡ t → is_message e.kind ≡ m → messages es ≡ kept ms → messages (if t then e ∷ es else es) ≡ kept (if m then e ∷ ms else ms)
  messages_kept_step true true e es ms test is same =
      ap (λ (b : Bool). if b then e ∷ messages es else messages es) is ∙ ap (λ (l : List Entry). e ∷ l) same ∙ sym (ap (λ (b : Bool). if b then e ∷ kept ms else kept ms) test)
  messages_kept_step true false e es ms test is same = ap (λ (b : Bool). if b then e ∷ messages es else messages es) is ∙ same
  messages_kept_step false true e es ms test is same = same ∙ sym (ap (λ (b : Bool). if b then e ∷ kept ms else kept ms) test)
  messages_kept_step false false e es ms test is same = same

  -- The messages of entries that are kept are the messages that are kept.
  pub messages_kept : (es : List Entry) → messages (kept es) ≡ kept (messages es)
  messages_kept [] = refl
  messages_kept (e ∷ es) = messages_kept_step (keep e.text) (is_message e.kind) e (kept es) (messages es) refl refl (messages_kept es)

  found_step : (t u : Bool) (n : ℕ) (text : List ℕ) (e : Entry) (es ks : List Entry) → (e.number == n) ≡ u → (text_of ks n ≡ Some text → text_of es n ≡ Some text) → (text_of es n ≡ Some text → e.number + 1 ≤ n) → text_of (if t then e ∷ ks else ks) n ≡ Some text → (if u then Some e.text else text_of es n) ≡ Some text
  found_step true true n text e es ks test rest above is = sym (ap (λ (b : Bool). if b then Some e.text else text_of ks n) test) ∙ is
  found_step true false n text e es ks test rest above is = rest (sym (ap (λ (b : Bool). if b then Some e.text else text_of ks n) test) ∙ is)
  found_step false true n text e es ks test rest above is =
      absurd (let same : e.number ≡ n = grind (arith, nat_tests, test) in let more : e.number + 1 ≤ n = above (rest is) in omega (arith, same, more))
  found_step false false n text e es ks test rest above is = rest is

  -- What is found among entries that are kept was found before, where numbers rise.
  pub kept_found : (low : ℕ) (es : List Entry) (n : ℕ) (text : List ℕ) → Climbs low es → text_of (kept es) n ≡ Some text → text_of es n ≡ Some text
  kept_found low [] n text climbs is = is
  kept_found low (e ∷ es) n text climbs is = found_step (keep e.text) (e.number == n) n text e es (kept es) refl (kept_found (e.number + 1) es n text climbs.1) (climbs_above (e.number + 1) es n text climbs.1) is

  stays_step : (t u : Bool) (n : ℕ) (text : List ℕ) (e : Entry) (es ks : List Entry) → keep e.text ≡ t → (e.number == n) ≡ u → keep text ≡ true → (text_of es n ≡ Some text → text_of ks n ≡ Some text) → (if u then Some e.text else text_of es n) ≡ Some text → text_of (if t then e ∷ ks else ks) n ≡ Some text
  stays_step true true n text e es ks stays test its rest is = ap (λ (b : Bool). if b then Some e.text else text_of ks n) test ∙ is
  stays_step true false n text e es ks stays test its rest is = ap (λ (b : Bool). if b then Some e.text else text_of ks n) test ∙ rest is
  stays_step false true n text e es ks stays test its rest is = absurd (let same : e.text ≡ text = cc in let wrong : true ≡ false = sym its ∙ ap keep (sym same) ∙ stays in cc)
  stays_step false false n text e es ks stays test its rest is = rest is

  -- A text that is found and is kept is found still.
  pub kept_stays : (es : List Entry) (n : ℕ) (text : List ℕ) → keep text ≡ true → text_of es n ≡ Some text → text_of (kept es) n ≡ Some text
  kept_stays [] n text its is = is
  kept_stays (e ∷ es) n text its is = stays_step (keep e.text) (e.number == n) n text e es (kept es) refl refl its (kept_stays es n text its) is

  apart_step : (t u : Bool) (n : ℕ) (e : Entry) (es : List Entry) → keep e.text ≡ t → (e.number == n) ≡ u → kept (without n es) ≡ without n (kept es) → kept (if u then without n es else e ∷ without n es) ≡ without n (if t then e ∷ kept es else kept es)
  apart_step true true n e es stays test rest = rest ∙ sym (ap (λ (b : Bool). if b then without n (kept es) else e ∷ without n (kept es)) test)
  apart_step true false n e es stays test rest =
      ap (λ (b : Bool). if b then e ∷ kept (without n es) else kept (without n es)) stays ∙ ap (λ (l : List Entry). e ∷ l) rest ∙ sym (ap (λ (b : Bool). if b then without n (kept es) else e ∷ without n (kept es)) test)
  apart_step false true n e es stays test rest = rest
  apart_step false false n e es stays test rest = ap (λ (b : Bool). if b then e ∷ kept (without n es) else kept (without n es)) stays ∙ rest

  -- Keeping and taking a number commute.
  kept_without : (n : ℕ) (es : List Entry) → kept (without n es) ≡ without n (kept es)
  kept_without n [] = refl
  kept_without n (e ∷ es) = apart_step (keep e.text) (e.number == n) n e es refl refl (kept_without n es)

  none_step : (t u : Bool) (n : ℕ) (text : List ℕ) (e : Entry) (es : List Entry) → keep e.text ≡ t → (e.number == n) ≡ u → keep text ≡ false → (text_of es n ≡ Some text → kept (without n es) ≡ kept es) → ((e.number == n) ≡ true → without n es ≡ es) → (if u then Some e.text else text_of es n) ≡ Some text
      → kept (if u then without n es else e ∷ without n es) ≡ (if t then e ∷ kept es else kept es)
  none_step true true n text e es stays test its rest none is = absurd (let same : e.text ≡ text = cc in let wrong : true ≡ false = sym stays ∙ ap keep same ∙ its in cc)
  none_step false true n text e es stays test its rest none is = ap kept (none test)
  none_step true false n text e es stays test its rest none is = ap (λ (b : Bool). if b then e ∷ kept (without n es) else kept (without n es)) stays ∙ ap (λ (l : List Entry). e ∷ l) (rest is)
  none_step false false n text e es stays test its rest none is = ap (λ (b : Bool). if b then e ∷ kept (without n es) else kept (without n es)) stays ∙ rest is

  same_step : (t : Bool) (n : ℕ) (e : Entry) (es : List Entry) → (e.number == n) ≡ t → n + 1 ≤ e.number → without n es ≡ es → (if t then without n es else e ∷ without n es) ≡ e ∷ es
  same_step true n e es test high rest = absurd (let same : e.number ≡ n = grind (arith, nat_tests, test) in omega (arith, same, high))
  same_step false n e es test high rest = ap (λ (l : List Entry). e ∷ l) rest

  -- Taking a number that is below all changes nothing.
  without_none : (n low : ℕ) (es : List Entry) → n + 1 ≤ low → Climbs low es → without n es ≡ es
  without_none n low [] high climbs = refl
  without_none n low (e ∷ es) high climbs =
      let at : low ≤ e.number = climbs.0 in
      same_step (e.number == n) n e es refl (omega (arith, high, at)) (without_none n (e.number + 1) es (omega (arith, high, at)) climbs.1)

  -- Taking the number of a text that isn't kept changes nothing of what is kept.
  kept_none : (n low : ℕ) (es : List Entry) (text : List ℕ) → Climbs low es → keep text ≡ false → text_of es n ≡ Some text → kept (without n es) ≡ kept es
  kept_none n low [] text climbs its is = refl
  kept_none n low (e ∷ es) text climbs its is =
      none_step (keep e.text) (e.number == n) n text e es refl refl its (kept_none n (e.number + 1) es text climbs.1 its)
      (λ test. (let same : e.number ≡ n = grind (arith, nat_tests, test) in without_none n (e.number + 1) es (omega (arith, same)) climbs.1)) is

  push_step : (t : Bool) (e : Entry) (es : List Entry) → keep e.text ≡ t → kept (e ∷ []) ≡ (if t then e ∷ [] else [])
  push_step true e es is = ap (λ (b : Bool). if b then e ∷ [] else []) is
  push_step false e es is = ap (λ (b : Bool). if b then e ∷ [] else []) is

  front_step : (t : Bool) (e : Entry) (es fs : List Entry) → kept (es ++ fs) ≡ kept es ++ kept fs → (if t then e ∷ kept (es ++ fs) else kept (es ++ fs)) ≡ (if t then e ∷ kept es else kept es) ++ kept fs
  front_step true e es fs is = ap (λ (l : List Entry). e ∷ l) is
  front_step false e es fs is = is

  pub kept_append : (es fs : List Entry) → kept (es ++ fs) ≡ kept es ++ kept fs
  kept_append [] fs = refl
  kept_append (e ∷ es) fs = front_step (keep e.text) e es fs (kept_append es fs)

  -- The live entries of those that are kept are the live ones that are kept.
  abbrev pub SameLive : List Entry → Type 0
  SameLive es = live (kept es) ≡ kept (live es)

  -- One more message.
  one_message : (before : List Entry) (n epoch : ℕ) (text : List ℕ) (moment : ℕ) (t : Bool) → keep text ≡ t → SameLive before → SameLive (before ++ message n epoch text moment ∷ [])
  one_message before n epoch text moment true is same =
      let new : Entry = message n epoch text moment in
      ap live (kept_append before (new ∷ []) ∙ ap (λ (l : List Entry). kept before ++ l) (push_step true new [] is))
      ∙ live-message (kept before) n epoch text moment
      ∙ ap (λ (l : List Entry). l ++ new ∷ []) same
      ∙ sym (ap kept (live-message before n epoch text moment) ∙ kept_append (live before) (new ∷ []) ∙ ap (λ (l : List Entry). kept (live before) ++ l) (push_step true new [] is))
  one_message before n epoch text moment false is same =
      let new : Entry = message n epoch text moment in
      ap live (kept_append before (new ∷ []) ∙ ap (λ (l : List Entry). kept before ++ l) (push_step false new [] is) ∙ append-nil (kept before))
      ∙ same
      ∙ sym (ap kept (live-message before n epoch text moment) ∙ kept_append (live before) (new ∷ []) ∙ ap (λ (l : List Entry). kept (live before) ++ l) (push_step false new [] is) ∙ append-nil (kept (live before)))

  -- One more deletion of a live message.
  one_deletion : (low : ℕ) (before : List Entry) (n epoch : ℕ) (text : List ℕ) (moment : ℕ) (t : Bool) → keep text ≡ t → Climbs low (live before) → text_of (live before) n ≡ Some text → SameLive before → SameLive (before ++ deletion n epoch text moment ∷ [])
  one_deletion low before n epoch text moment true is climbs ends same =
      let new : Entry = deletion n epoch text moment in
      ap live (kept_append before (new ∷ []) ∙ ap (λ (l : List Entry). kept before ++ l) (push_step true new [] is))
      ∙ live-deletion (kept before) n epoch text moment
      ∙ ap (without n) same
      ∙ sym (kept_without n (live before))
      ∙ sym (ap kept (live-deletion before n epoch text moment))
  one_deletion low before n epoch text moment false is climbs ends same =
      let new : Entry = deletion n epoch text moment in
      ap live (kept_append before (new ∷ []) ∙ ap (λ (l : List Entry). kept before ++ l) (push_step false new [] is) ∙ append-nil (kept before))
      ∙ same
      ∙ sym (kept_none n low (live before) text climbs is ends)
      ∙ sym (ap kept (live-deletion before n epoch text moment))

  one_more : (low : ℕ) (before : List Entry) (k : EntryKind) (e : Entry) → e.kind ≡ k → Climbs low (live before) → EndsLive k before e → SameLive before → SameLive (before ++ e ∷ [])
  one_more low before Message e is climbs ends same =
      let as_message : e ≡ message e.number e.epoch e.text e.moment = ap (λ (kind : EntryKind). record { kind = kind; number = e.number; epoch = e.epoch; text = e.text; moment = e.moment }) is in
      subst (λ (x : Entry). SameLive (before ++ x ∷ [])) (sym as_message) (one_message before e.number e.epoch e.text e.moment (keep e.text) refl same)
  one_more low before Deletion e is climbs ends same =
      let as_deletion : e ≡ deletion e.number e.epoch e.text e.moment = ap (λ (kind : EntryKind). record { kind = kind; number = e.number; epoch = e.epoch; text = e.text; moment = e.moment }) is in
      subst (λ (x : Entry). SameLive (before ++ x ∷ [])) (sym as_deletion) (one_deletion low before e.number e.epoch e.text e.moment (keep e.text) refl climbs ends same)

  -- Numbers rise along a front.
  rise_front : (low epoch : ℕ) (xs ys : List Entry) → Rise low epoch (xs ++ ys) → Rise low epoch xs
  rise_front low epoch [] ys rise = tt
  rise_front low epoch (x ∷ xs) ys rise = (rise.0, rise.1, rise_front (number_after x.kind low x.number) x.epoch xs ys rise.2)

  -- What holds at each place of the entries that are kept: a deletion ends a live message, and live ids
  -- differ.
  pub record KeptPlaces (before es : List Entry) : Type 0 where
    pub same : SameLive (before ++ es)
    pub ends : AtEachPlace (λ (b : List Entry) (e : Entry). EndsLive e.kind b e) (kept before) (kept es)
    pub ids : AtEachPlace LiveDiffer (kept before) (kept es)

  kept_ends : (k : EntryKind) (before : List Entry) (e : Entry) → keep e.text ≡ true → SameLive before → EndsLive k before e → EndsLive k (kept before) e
  kept_ends Message before e stays same ends = tt
  kept_ends Deletion before e stays same ends = subst (λ (l : List Entry). text_of l e.number ≡ Some e.text) (sym same) (kept_stays (live before) e.number e.text stays ends)

  places_step : (t : Bool) (before es : List Entry) (e : Entry) → keep e.text ≡ t → EndsLive e.kind (kept before) e ⊎ (t ≡ false) → IdsDiffer (live (kept (before ++ e ∷ []))) → KeptPlaces (before ++ e ∷ []) es → KeptPlaces before (e ∷ es)
  places_step true before es e stays (inl ends) differ rest =
      let pushed : kept (before ++ e ∷ []) ≡ kept before ++ e ∷ [] = kept_append before (e ∷ []) ∙ ap (λ (l : List Entry). kept before ++ l) (push_step true e [] stays) in
      let now : kept (e ∷ es) ≡ e ∷ kept es = ap (λ (b : Bool). if b then e ∷ kept es else kept es) stays in
      record {
        same = subst SameLive (append_assoc before (e ∷ []) es) rest.same;
        ends = subst (λ (l : List Entry). AtEachPlace (λ (b : List Entry) (x : Entry). EndsLive x.kind b x) (kept before) l) (sym now) (ends, subst (λ (l : List Entry). AtEachPlace (λ (b : List Entry) (x : Entry). EndsLive x.kind b x) l (kept es)) pushed rest.ends);
        ids = subst (λ (l : List Entry). AtEachPlace LiveDiffer (kept before) l) (sym now) (subst (λ (l : List Entry). IdsDiffer (live l)) pushed differ, subst (λ (l : List Entry). AtEachPlace LiveDiffer l (kept es)) pushed rest.ids);
      }
  places_step true before es e stays (inr wrong) differ rest = absurd (cc)
  places_step false before es e stays either differ rest =
      let pushed : kept (before ++ e ∷ []) ≡ kept before = kept_append before (e ∷ []) ∙ ap (λ (l : List Entry). kept before ++ l) (push_step false e [] stays) ∙ append-nil (kept before) in
      let now : kept (e ∷ es) ≡ kept es = ap (λ (b : Bool). if b then e ∷ kept es else kept es) stays in
      record {
        same = subst SameLive (append_assoc before (e ∷ []) es) rest.same;
        ends = subst (λ (l : List Entry). AtEachPlace (λ (b : List Entry) (x : Entry). EndsLive x.kind b x) (kept before) l) (sym now) (subst (λ (l : List Entry). AtEachPlace (λ (b : List Entry) (x : Entry). EndsLive x.kind b x) l (kept es)) pushed rest.ends);
        ids = subst (λ (l : List Entry). AtEachPlace LiveDiffer (kept before) l) (sym now) (subst (λ (l : List Entry). AtEachPlace LiveDiffer l (kept es)) pushed rest.ids);
      }

  ends_or : (t : Bool) (before : List Entry) (e : Entry) → keep e.text ≡ t → SameLive before → EndsLive e.kind before e → EndsLive e.kind (kept before) e ⊎ (t ≡ false)
  ends_or true before e stays same ends = inl (kept_ends e.kind before e stays same ends)
  ends_or false before e stays same ends = inr refl

  pub kept_places : (before es : List Entry) → Rise 1 0 (before ++ es) → AtEachPlace (λ (b : List Entry) (e : Entry). EndsLive e.kind b e) before es → AtEachPlace LiveDiffer before es → SameLive before → KeptPlaces before es
  kept_places before [] rise ends ids same = record { same = subst SameLive (sym (append-nil before)) same; ends = tt; ids = tt }
  kept_places before (e ∷ es) rise ends ids same =
      let climbs : Climbs 1 (live before) = live_climbs 1 0 before (rise_front 1 0 before (e ∷ es) rise) in
      let next : SameLive (before ++ e ∷ []) = one_more 1 before e.kind e refl climbs ends.0 same in
      places_step (keep e.text) before es e refl (ends_or (keep e.text) before e refl same ends.0)
      (subst IdsDiffer (sym next) (kept_ids (live (before ++ e ∷ [])) ids.0))
      (kept_places (before ++ e ∷ []) es (subst (Rise 1 0) (sym (append_assoc before (e ∷ []) es)) rise) ends.1 ids.1 next)

-- The test of a text other than this one.
abbrev pub other : List ℕ → List ℕ → Bool
other text own = not (bytes_eq text own)

-- The places of a valid archive without the entries of a text.
pub places_without : (a : Archive) (text : List ℕ) → IsArchive a → KeptPlaces (other text) [] a.entries
places_without a text valid = kept_places (other text) [] a.entries valid.order valid.ends valid.ids refl

-- The live entries without a text are those of the archive without it.
pub live_without : (a : Archive) (text : List ℕ) → IsArchive a → live (without_text a.entries text) ≡ without_text (live a.entries) text
live_without a text valid = (places_without a text valid).same

-- Without the entries of a text an archive is valid.
pub valid_without : (a : Archive) (text : List ℕ) → IsArchive a → IsArchive (without_entries a text)
valid_without a text valid =
    let places = places_without a text valid in
    record {
      name = valid.name;
      config = valid.config;
      next_least = valid.next_least;
      next_most = valid.next_most;
      entries = kept_all (other text) IsEntry a.entries valid.entries;
      below = kept_all (other text) (λ (e : Entry). e.number < a.next) a.entries valid.below;
      order = kept_rise (other text) a.entries 1 0 1 0 (omega arith) (omega arith) valid.order;
      ends = places.ends;
      ids = places.ids;
      blobs = kept_blobs (other text) a.config.form a.entries valid.blobs;
    }

-- Texts that differ are told apart.
test_false : (x y : List ℕ) (t : Bool) → bytes_eq x y ≡ t → x ≢ y → bytes_eq x y ≡ false
test_false x y true is apart = absurd (apart ((bytes_eq-Decides x y).0 is))
test_false x y false is apart = is

-- The front entry stays, or it goes.
front_stays : (text : List ℕ) (e : Entry) (es : List Entry) → bytes_eq text e.text ≡ false → without_text (e ∷ es) text ≡ e ∷ without_text es text
front_stays text e es is = ap (λ (b : Bool). if not b then e ∷ without_text es text else without_text es text) is

front_goes : (text : List ℕ) (e : Entry) (es : List Entry) → bytes_eq text e.text ≡ true → without_text (e ∷ es) text ≡ without_text es text
front_goes text e es is = ap (λ (b : Bool). if not b then e ∷ without_text es text else without_text es text) is

-- Where no entry has the own id of a text, none goes with it.
none_with : (es : List Entry) (text : List ℕ) → AllByRecursion (λ (f : Entry). own_id f.text ≢ own_id text) es → without_text es text ≡ es
none_with [] text apart = refl
none_with (e ∷ es) text apart =
    let stays : bytes_eq text e.text ≡ false = test_false text e.text (bytes_eq text e.text) refl (λ same. apart.0 (ap own_id (sym same))) in
    front_stays text e es stays ∙ ap (λ (l : List Entry). e ∷ l) (none_with es text apart.1)

gone_step : (t : Bool) (m : ℕ) (text : List ℕ) (e : Entry) (es : List Entry) → (e.number == m) ≡ t → IdsDiffer (e ∷ es) → Climbs (e.number + 1) es → (text_of es m ≡ Some text → without_text es text ≡ without m es) → (if t then Some e.text else text_of es m) ≡ Some text
    → without_text (e ∷ es) text ≡ (if t then without m es else e ∷ without m es)
gone_step true m text e es test differ climbs rest is =
    let own : e.text ≡ text = cc in
    let here : bytes_eq text e.text ≡ true = (bytes_eq-Decides text e.text).1 (sym own) in
    let apart : AllByRecursion (λ (f : Entry). own_id f.text ≢ own_id text) es = subst (λ (t : List ℕ). AllByRecursion (λ (f : Entry). own_id f.text ≢ own_id t) es) own differ.0 in
    let number : e.number ≡ m = grind (arith, nat_tests, test) in
    front_goes text e es here ∙ none_with es text apart ∙ sym (without_none (other text) m (e.number + 1) es (omega (arith, number)) climbs)
gone_step false m text e es test differ climbs rest is =
    let apart : own_id text ≢ own_id e.text = all-text (λ (t : List ℕ). own_id t ≢ own_id e.text) es text differ.0 (found-has es m text is) in
    let stays : bytes_eq text e.text ≡ false = test_false text e.text (bytes_eq text e.text) refl (λ same. apart (ap own_id same)) in
    front_stays text e es stays ∙ ap (λ (l : List Entry). e ∷ l) (rest is)

-- Where ids differ and numbers rise, the entries without the text of a number are those without the
-- number.
pub text_gone : (low : ℕ) (es : List Entry) (m : ℕ) (text : List ℕ) → Climbs low es → IdsDiffer es → text_of es m ≡ Some text → without_text es text ≡ without m es
text_gone low [] m text climbs differ is = refl
text_gone low (e ∷ es) m text climbs differ is = gone_step (e.number == m) m text e es refl differ climbs.1 (text_gone (e.number + 1) es m text climbs.1 differ.1) is

own_found : (e : Entry) (es : List Entry) → text_of (e ∷ es) e.number ≡ Some e.text
own_found e es = let same : (e.number == e.number) ≡ true = grind (arith, nat_tests) in ap (λ (b : Bool). if b then Some e.text else text_of es e.number) same

pub later_found : (t : Bool) (n : ℕ) (text : List ℕ) (e : Entry) (es : List Entry) → (e.number == n) ≡ t → Climbs (e.number + 1) es → text_of es n ≡ Some text → text_of (e ∷ es) n ≡ Some text
later_found true n text e es test climbs is =
    absurd (let same : e.number ≡ n = grind (arith, nat_tests, test) in let more : e.number + 1 ≤ n = climbs_above (e.number + 1) es n text climbs is in omega (arith, same, more))
later_found false n text e es test climbs is = ap (λ (b : Bool). if b then Some e.text else text_of es n) test ∙ is

-- Where no number has a text, no entry goes with it.
pub none_gone : (low : ℕ) (es : List Entry) (text : List ℕ) → Climbs low es → ((n : ℕ) → text_of es n ≡ Some text → ⊥) → without_text es text ≡ es
none_gone low [] text climbs none = refl
none_gone low (e ∷ es) text climbs none =
    let stays : bytes_eq text e.text ≡ false = test_false text e.text (bytes_eq text e.text) refl (λ same. none e.number (own_found e es ∙ ap Some (sym same))) in
    front_stays text e es stays ∙ ap (λ (l : List Entry). e ∷ l) (none_gone (e.number + 1) es text climbs.1 (λ n is. none n (later_found (e.number == n) n text e es refl climbs.1 is)))
