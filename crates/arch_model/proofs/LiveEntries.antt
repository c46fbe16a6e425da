-- The live entries and the messages of an archive with one more message or deletion.
use Rattle.std.proofs.Common.{◌⊎◌, inl, inr, ◌≡◌, ◌≢◌, ◌+◌, ◌≤◌, ◌==◌, ℕ, Bool, true, false, not, ◌&&◌, ◌||◌, List, [], ◌∷◌, ◌++◌, Some, None, refl, sym, ap, subst, ◌∙◌, append-nil, append_assoc, arith, if◌then◌else◌}
use Rattle.std.specs.List.{AllByRecursion}
use Rattle.std.proofs.lemmas.Bool.Decides.{nat_tests}
use Rattle.mail_reader.specs.Ids.{own_id}
use Rattle.git_objects.specs.declared.entry_kind.EntryKind.{EntryKind}
use Rattle.git_objects.specs.declared.entry_kind.EntryKind.TheVariants.{Message, Deletion}
use Rattle.arch_model.specs.Archives.{Entry, message, deletion, is_message, is_ended, live, messages, text_of}
use Rattle.arch_model.specs.Validity.{NumberIsFrom, number_after, Rise, AtEachPlace, IdsDiffer, LiveDiffer}

-- One more message ends nothing.
ended-message : (es : List Entry) (n epoch : ℕ) (text : List ℕ) (moment k : ℕ) → is_ended (es ++ message n epoch text moment ∷ []) k ≡ is_ended es k
ended-message [] n epoch text moment k = refl
ended-message (e ∷ es) n epoch text moment k = ap (λ (b : Bool). (not (is_message e.kind) && e.number == k) || b) (ended-message es n epoch text moment k)

or_none : (b : Bool) → (b || false) ≡ b
or_none true = refl
or_none false = refl

or_assoc : (x e b : Bool) → (x || (e || b)) ≡ ((x || e) || b)
or_assoc true e b = refl
or_assoc false e b = refl

-- One more deletion ends its number.
ended-deletion : (es : List Entry) (n epoch : ℕ) (text : List ℕ) (moment k : ℕ) → is_ended (es ++ deletion n epoch text moment ∷ []) k ≡ (is_ended es k || n == k)
ended-deletion [] n epoch text moment k = or_none (n == k)
ended-deletion (e ∷ es) n epoch text moment k =
    ap (λ (b : Bool). (not (is_message e.kind) && e.number == k) || b) (ended-deletion es n epoch text moment k)
    ∙ or_assoc (not (is_message e.kind) && e.number == k) (is_ended es k) (n == k)

push_step : (t : Bool) (e x : Entry) (xs ys : List Entry) → ys ≡ xs ++ x ∷ [] → (if t then e ∷ ys else ys) ≡ (if t then e ∷ xs else xs) ++ x ∷ []
push_step true e x xs ys is = ap (λ (l : List Entry). e ∷ l) is
push_step false e x xs ys is = is

-- One more message is live.
pub live-message : (es : List Entry) (n epoch : ℕ) (text : List ℕ) (moment : ℕ) → live (es ++ message n epoch text moment ∷ []) ≡ live es ++ message n epoch text moment ∷ []
live-message [] n epoch text moment = refl
live-message (e ∷ es) n epoch text moment =
    let new : Entry = message n epoch text moment in
    ap (λ (b : Bool). if is_message e.kind && not b then e ∷ live (es ++ new ∷ []) else live (es ++ new ∷ [])) (ended-message es n epoch text moment e.number)
    ∙ push_step (is_message e.kind && not (is_ended es e.number)) e new (live es) (live (es ++ new ∷ [])) (live-message es n epoch text moment)

-- The entries that don't have a number.
abbrev pub without : ℕ → List Entry → List Entry
without n [] = []
without n (e ∷ es) = if e.number == n then without n es else e ∷ without n es

without_step : (m en b : Bool) (n : ℕ) (e : Entry) (xs ys : List Entry) → (e.number == n) ≡ b → ys ≡ without n xs → (if m && not (en || b) then e ∷ ys else ys) ≡ without n (if m && not en then e ∷ xs else xs)
without_step false en b n e xs ys test is = is
without_step true true b n e xs ys test is = is
without_step true false true n e xs ys test is = is ∙ sym (ap (λ (t : Bool). if t then without n xs else e ∷ without n xs) test)
without_step true false false n e xs ys test is = ap (λ (l : List Entry). e ∷ l) is ∙ sym (ap (λ (t : Bool). if t then without n xs else e ∷ without n xs) test)

same_test : (m n : ℕ) → (m == n) ≡ (n == m)
same_test m n = by (m == n) (n == m) refl refl where
  by : (t u : Bool) → (m == n) ≡ t → (n == m) ≡ u → t ≡ u
  by true true a b = refl
  by false false a b = refl
  by true false a b = absurd (let same : m ≡ n = grind (arith, nat_tests, a) in let yes : (n == m) ≡ true = grind (arith, nat_tests, same) in let wrong : true ≡ false = sym yes ∙ b in cc)
  by false true a b = absurd (let same : n ≡ m = grind (arith, nat_tests, b) in let yes : (m == n) ≡ true = grind (arith, nat_tests, same) in let wrong : true ≡ false = sym yes ∙ a in cc)

-- One more deletion takes its number from the live entries.
pub live-deletion : (es : List Entry) (n epoch : ℕ) (text : List ℕ) (moment : ℕ) → live (es ++ deletion n epoch text moment ∷ []) ≡ without n (live es)
live-deletion [] n epoch text moment = refl
live-deletion (e ∷ es) n epoch text moment =
    let new : Entry = deletion n epoch text moment in
    ap (λ (b : Bool). if is_message e.kind && not b then e ∷ live (es ++ new ∷ []) else live (es ++ new ∷ [])) (ended-deletion es n epoch text moment e.number)
    ∙ without_step (is_message e.kind) (is_ended es e.number) (n == e.number) n e (live es) (live (es ++ new ∷ [])) (same_test e.number n) (live-deletion es n epoch text moment)

-- One more message is one of the messages.
pub messages-message : (es : List Entry) (n epoch : ℕ) (text : List ℕ) (moment : ℕ) → messages (es ++ message n epoch text moment ∷ []) ≡ messages es ++ message n epoch text moment ∷ []
messages-message [] n epoch text moment = refl
messages-message (e ∷ es) n epoch text moment = push_step (is_message e.kind) e (message n epoch text moment) (messages es) (messages (es ++ message n epoch text moment ∷ [])) (messages-message es n epoch text moment)

-- One more deletion is none.
pub messages-deletion : (es : List Entry) (n epoch : ℕ) (text : List ℕ) (moment : ℕ) → messages (es ++ deletion n epoch text moment ∷ []) ≡ messages es
messages-deletion [] n epoch text moment = refl
messages-deletion (e ∷ es) n epoch text moment = ap (λ (l : List Entry). if is_message e.kind then e ∷ l else l) (messages-deletion es n epoch text moment)

-- What holds for each entry holds for each live one.
all_step : (P : Entry → Type 0) (t : Bool) (e : Entry) (xs : List Entry) → P e → AllByRecursion P xs → AllByRecursion P (if t then e ∷ xs else xs)
all_step P true e xs one all = (one, all)
all_step P false e xs one all = all

pub live-all : (P : Entry → Type 0) (es : List Entry) → AllByRecursion P es → AllByRecursion P (live es)
live-all P [] all = tt
live-all P (e ∷ es) all = all_step P (is_message e.kind && not (is_ended es e.number)) e (live es) all.0 (live-all P es all.1)

pub messages-all : (P : Entry → Type 0) (es : List Entry) → AllByRecursion P es → AllByRecursion P (messages es)
messages-all P [] all = tt
messages-all P (e ∷ es) all = all_step P (is_message e.kind) e (messages es) all.0 (messages-all P es all.1)

less_step : (P : Entry → Type 0) (t : Bool) (e : Entry) (xs : List Entry) → P e → AllByRecursion P xs → AllByRecursion P (if t then xs else e ∷ xs)
less_step P true e xs one all = all
less_step P false e xs one all = (one, all)

pub without-all : (P : Entry → Type 0) (n : ℕ) (es : List Entry) → AllByRecursion P es → AllByRecursion P (without n es)
without-all P n [] all = tt
without-all P n (e ∷ es) all = less_step P (e.number == n) e (without n es) all.0 (without-all P n es all.1)

-- Own ids that differ still do among fewer entries.
differ_step : (t : Bool) (e : Entry) (xs : List Entry) → AllByRecursion (λ (f : Entry). own_id f.text ≢ own_id e.text) xs → IdsDiffer xs → IdsDiffer (if t then xs else e ∷ xs)
differ_step true e xs apart differ = differ
differ_step false e xs apart differ = (apart, differ)

pub ids-without : (n : ℕ) (es : List Entry) → IdsDiffer es → IdsDiffer (without n es)
ids-without n [] differ = tt
ids-without n (e ∷ es) differ = differ_step (e.number == n) e (without n es) (without-all (λ (f : Entry). own_id f.text ≢ own_id e.text) n es differ.0) (ids-without n es differ.1)

-- The text of another number stays without a number.
other_step : (t u : Bool) (n m : ℕ) (e : Entry) (xs ys : List Entry) → m ≢ n → (e.number == n) ≡ t → (e.number == m) ≡ u → text_of ys m ≡ text_of xs m → text_of (if t then ys else e ∷ ys) m ≡ (if u then Some e.text else text_of xs m)
other_step true true n m e xs ys apart a b is = absurd (let one : e.number ≡ n = grind (arith, nat_tests, a) in let two : e.number ≡ m = grind (arith, nat_tests, b) in apart (sym two ∙ one))
other_step true false n m e xs ys apart a b is = is
other_step false true n m e xs ys apart a b is = ap (λ (t : Bool). if t then Some e.text else text_of ys m) b
other_step false false n m e xs ys apart a b is = ap (λ (t : Bool). if t then Some e.text else text_of ys m) b ∙ is

pub text-without-other : (es : List Entry) (n m : ℕ) → m ≢ n → text_of (without n es) m ≡ text_of es m
text-without-other [] n m apart = refl
text-without-other (e ∷ es) n m apart = other_step (e.number == n) (e.number == m) n m e es (without n es) apart refl refl (text-without-other es n m apart)

own_step : (t : Bool) (n : ℕ) (e : Entry) (ys : List Entry) → (e.number == n) ≡ t → text_of ys n ≡ None → text_of (if t then ys else e ∷ ys) n ≡ None
own_step true n e ys a is = is
own_step false n e ys a is = ap (λ (t : Bool). if t then Some e.text else text_of ys n) a ∙ is

pub text-without-own : (es : List Entry) (n : ℕ) → text_of (without n es) n ≡ None
text-without-own [] n = refl
text-without-own (e ∷ es) n = own_step (e.number == n) n e (without n es) refl (text-without-own es n)

-- What holds at each place and at one more.
pub place-push : (P : List Entry → Entry → Type 0) (before es : List Entry) (x : Entry) → AtEachPlace P before es → P (before ++ es) x → AtEachPlace P before (es ++ x ∷ [])
place-push P before [] x all one = (subst (λ (l : List Entry). P l x) (append-nil before) one, tt)
place-push P before (e ∷ es) x all one = (all.0, place-push P (before ++ e ∷ []) es x all.1 (subst (λ (l : List Entry). P l x) (sym (append_assoc before (e ∷ []) es)) one))

-- The ids of the live entries after the last place differ.
ids-from : (before es : List Entry) → AtEachPlace LiveDiffer before es → IdsDiffer (live before) → IdsDiffer (live (before ++ es))
ids-from before [] all first = subst (λ (l : List Entry). IdsDiffer (live l)) (sym (append-nil before)) first
ids-from before (e ∷ es) all first = subst (λ (l : List Entry). IdsDiffer (live l)) (append_assoc before (e ∷ []) es) (ids-from (before ++ e ∷ []) es all.1 all.0)

pub ids-now : (es : List Entry) → AtEachPlace LiveDiffer [] es → IdsDiffer (live es)
ids-now es all = ids-from [] es all tt

-- One of these entries has this text.
abbrev pub HasText : List ℕ → List Entry → Type 0
HasText text [] = ⊥
HasText text (e ∷ es) = (e.text ≡ text) ⊎ HasText text es

found_step : (t : Bool) (n : ℕ) (text : List ℕ) (e : Entry) (es : List Entry) → (text_of es n ≡ Some text → HasText text es) → (if t then Some e.text else text_of es n) ≡ Some text → HasText text (e ∷ es)
found_step true n text e es rest is = inl (cc)
found_step false n text e es rest is = inr (rest is)

-- A text that is found is there.
pub found-has : (es : List Entry) (n : ℕ) (text : List ℕ) → text_of es n ≡ Some text → HasText text es
found-has [] n text is = absurd (cc)
found-has (e ∷ es) n text is = found_step (e.number == n) n text e es (λ more. found-has es n text more) is

has_step : (t : Bool) (text : List ℕ) (e : Entry) (xs es : List Entry) → (HasText text xs → HasText text es) → HasText text (if t then e ∷ xs else xs) → HasText text (e ∷ es)
has_step true text e xs es rest (inl is) = inl is
has_step true text e xs es rest (inr more) = inr (rest more)
has_step false text e xs es rest has = inr (rest has)

-- A live text is there.
pub live-has : (es : List Entry) (text : List ℕ) → HasText text (live es) → HasText text es
live-has [] text has = has
live-has (e ∷ es) text has = has_step (is_message e.kind && not (is_ended es e.number)) text e (live es) es (live-has es text) has

-- What holds for each text holds for one that is there.
pub all-text : (P : List ℕ → Type 0) (es : List Entry) (text : List ℕ) → AllByRecursion (λ (e : Entry). P e.text) es → HasText text es → P text
all-text P [] text all has = absurd has
all-text P (e ∷ es) text all (inl is) = subst P is all.0
all-text P (e ∷ es) text all (inr more) = all-text P es text all.1 more

-- Where numbers rise, a live number is that of one message, which has the text that is shown.
pub record IsOne (es : List Entry) (number n : ℕ) (text : List ℕ) : Type 0 where
  pub above : number ≤ n
  pub is : text_of (messages es) n ≡ Some text

one_hit : (t : Bool) (e : Entry) (es : List Entry) (n : ℕ) (text : List ℕ) → (e.number == n) ≡ t → IsOne es (e.number + 1) n text → (if t then Some e.text else text_of (messages es) n) ≡ Some text
one_hit true e es n text test one = absurd (let same : e.number ≡ n = grind (arith, nat_tests, test) in let above : e.number + 1 ≤ n = one.above in omega (arith, same, above))
one_hit false e es n text test one = one.is

one_live : (t : Bool) (number : ℕ) (e : Entry) (es : List Entry) (n : ℕ) (text : List ℕ) → (e.number == n) ≡ t → number ≤ e.number → (text_of (live es) n ≡ Some text → IsOne es (e.number + 1) n text) → (if t then Some e.text else text_of (live es) n) ≡ Some text
    → (number ≤ n) × ((if t then Some e.text else text_of (messages es) n) ≡ Some text)
one_live true number e es n text test low rest is = (let same : e.number ≡ n = grind (arith, nat_tests, test) in omega (arith, same, low), is)
one_live false number e es n text test low rest is = let one = rest is in (let above : e.number + 1 ≤ n = one.above in omega (arith, above, low), one.is)

one_step : (k : EntryKind) (ended : Bool) (number : ℕ) (e : Entry) (es : List Entry) (n : ℕ) (text : List ℕ) → NumberIsFrom k number e.number → (text_of (live es) n ≡ Some text → IsOne es (number_after k number e.number) n text)
    → text_of (if is_message k && not ended then e ∷ live es else live es) n ≡ Some text → (number ≤ n) × (text_of (if is_message k then e ∷ messages es else messages es) n ≡ Some text)
one_step Deletion ended number e es n text low rest is = let one = rest is in (one.above, one.is)
one_step Message true number e es n text low rest is = let one = rest is in (let above : e.number + 1 ≤ n = one.above in omega (arith, above, low), one_hit (e.number == n) e es n text refl one)
one_step Message false number e es n text low rest is = one_live (e.number == n) number e es n text refl low rest is

pub live-one : (number epoch : ℕ) (es : List Entry) (n : ℕ) (text : List ℕ) → Rise number epoch es → text_of (live es) n ≡ Some text → IsOne es number n text
live-one number epoch [] n text rise is = absurd (cc)
live-one number epoch (e ∷ es) n text rise is =
    let both = one_step e.kind (is_ended es e.number) number e es n text rise.0 (live-one (number_after e.kind number e.number) e.epoch es n text rise.2) is in
    record { above = both.0; is = both.1 }
