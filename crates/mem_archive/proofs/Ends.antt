-- The end of an archive, after one more entry.
use Rattle.std.proofs.Common.{◌≡◌, ◌+◌, ◌-◌, ◌≤◌, ◌<◌, ◌==◌, ◌||◌, nat_lt, ℕ, Bool, true, false, List, [], ◌∷◌, ◌++◌, length, Option, Some, None, refl, sym, ◌∙◌, ap, subst, arith, length-append, if◌then◌else◌}
use Rattle.std.proofs.lemmas.List.{append-nil, append_assoc}
use Rattle.std.proofs.lemmas.List.Elements.{filter-append}
use Rattle.std.proofs.lemmas.Bool.Decides.{nat_tests}
use Rattle.std.proofs.lemmas.Option.{same_Some}
use Rattle.arch_base.specs.declared.ids.ObjectId.{ObjectId}
use Rattle.arch_base.specs.declared.ids.Form.{Form}
use Rattle.arch_model.specs.Archives.{Entry, Archive, in_epoch}
use Rattle.arch_model.specs.Delivery.{last_epoch, greater, takes_more, new_epoch}
use Rattle.arch_model.specs.Epochs.{epoch_bytes, entries_bytes, last_commit}
use Rattle.mail_commits.specs.Entries.{entry_bytes, commit_id, magic}
use Rattle.mem_archive.specs.Memory.{IsEpochEnd, IsEndAfter, end_for_new, end_in_epoch, end_after, front_bytes}
use Rattle.mem_archive.specs.declared.kept.End.{End}
use Rattle.arch_model.proofs.EpochLemmas.{entries_bytes-push, last_commit-push}

front_some : (form : Form) (id : ObjectId) (es : List Entry) → front_bytes form (last_commit form (Some id) es) ≡ []
front_some form id [] = refl
front_some form id (e ∷ es) = front_some form (commit_id form e.kind e.text e.moment (Some id)) es

-- The bytes of an epoch with one more entry.
pub epoch_bytes-after : (form : Form) (es : List Entry) (e : Entry) → epoch_bytes form (es ++ e ∷ []) ≡ epoch_bytes form es ++ (front_bytes form (last_commit form None es) ++ entry_bytes form e.kind e.text e.moment (last_commit form None es))
epoch_bytes-after form [] e = ap (λ bs. magic form ++ bs) (append-nil (entry_bytes form e.kind e.text e.moment None))
epoch_bytes-after form (x ∷ es) e =
    let p : Option ObjectId = Some (commit_id form x.kind x.text x.moment None) in
    ap (λ bs. magic form ++ bs) (entries_bytes-push form None (x ∷ es) e)
    ∙ sym (append_assoc (magic form) (entries_bytes form None (x ∷ es)) (entry_bytes form e.kind e.text e.moment (last_commit form None (x ∷ es))))
    ∙ ap (λ bs. (magic form ++ entries_bytes form None (x ∷ es)) ++ (bs ++ entry_bytes form e.kind e.text e.moment (last_commit form None (x ∷ es)))) (sym (front_some form (commit_id form x.kind x.text x.moment None) es))

one_in : (e : Entry) (k : ℕ) (t : Bool) → (if t then e ∷ in_epoch [] k else in_epoch [] k) ≡ (if t then e ∷ [] else [])
one_in e k true = refl
one_in e k false = refl

pub in_epoch-at : (es : List Entry) (e : Entry) (k : ℕ) → e.epoch ≡ k → in_epoch (es ++ e ∷ []) k ≡ in_epoch es k ++ e ∷ []
in_epoch-at es e k is =
    let here : (e.epoch == k) ≡ true = grind (arith, nat_tests, is) in
    filter-append (λ (x : Entry). x.epoch == k) es (e ∷ []) ∙ ap (λ xs. in_epoch es k ++ xs) (rw here refl)

pub in_epoch-else : (es : List Entry) (e : Entry) (k : ℕ) → (e.epoch == k) ≡ false → in_epoch (es ++ e ∷ []) k ≡ in_epoch es k
in_epoch-else es e k other = filter-append (λ (x : Entry). x.epoch == k) es (e ∷ []) ∙ ap (λ xs. in_epoch es k ++ xs) (rw other refl) ∙ append-nil (in_epoch es k)

greater_low : (m n k : ℕ) → greater m n < k → (m < k) × (n < k)
greater_low m n k h = by_test (nat_lt m n) refl h where
  by_test : (t : Bool) → nat_lt m n ≡ t → (if t then n else m) < k → (m < k) × (n < k)
  by_test true is h = (let less : m < n = grind (arith, nat_tests, is) in omega (arith, less, h), h)
  by_test false is h = (h, let less : n ≤ m = grind (arith, nat_tests, is) in omega (arith, less, h))

pub greater_end : (m n : ℕ) → m ≤ n → greater m n ≡ n
greater_end m n h = by_test (nat_lt m n) refl where
  by_test : (t : Bool) → nat_lt m n ≡ t → (if t then n else m) ≡ n
  by_test true is = refl
  by_test false is = let less : n ≤ m = grind (arith, nat_tests, is) in omega (arith, less, h)

none_above : (es : List Entry) (k : ℕ) → last_epoch es < k → in_epoch es k ≡ []
none_above [] k h = refl
none_above (e ∷ es) k h =
    let low = greater_low e.epoch (last_epoch es) k h in
    let other : (e.epoch == k) ≡ false = grind (arith, nat_tests, low.0) in
    rw other (none_above es k low.1)

-- The last epoch is that of the last entry, if epochs don't fall.
pub last_epoch-push : (es : List Entry) (e : Entry) → last_epoch es ≤ e.epoch → last_epoch (es ++ e ∷ []) ≡ e.epoch
last_epoch-push [] e h = zero_end e.epoch where
  zero_end : (n : ℕ) → greater n 0 ≡ n
  zero_end n = by_test (nat_lt n 0) refl where
    by_test : (t : Bool) → nat_lt n 0 ≡ t → (if t then 0 else n) ≡ n
    by_test true is = let less : n < 0 = grind (arith, nat_tests, is) in absurd (omega (arith, less))
    by_test false is = refl
last_epoch-push (x ∷ es) e h =
    let low = greater_low x.epoch (last_epoch es) (e.epoch + 1) (omega (arith, h)) in
    ap (greater x.epoch) (last_epoch-push es e (omega (arith, low.1))) ∙ greater_end x.epoch e.epoch (omega (arith, low.0))

-- The end after one more entry in its epoch.
pub IsEpochEnd-push : (form : Form) (limit : ℕ) (es : List Entry) (e : Entry) (end_ : End) → IsEpochEnd form limit es end_ → e.epoch ≡ end_.epoch → IsEpochEnd form limit (es ++ e ∷ []) (end_after form end_ e.kind e.text e.moment)
IsEpochEnd-push form limit es e end_ is at =
    let here : List Entry = in_epoch es end_.epoch in
    let more : in_epoch (es ++ e ∷ []) end_.epoch ≡ here ++ e ∷ [] = in_epoch-at es e end_.epoch at in
    let added : List ℕ = front_bytes form end_.parent ++ entry_bytes form e.kind e.text e.moment end_.parent in
    let bytes : epoch_bytes form (in_epoch (es ++ e ∷ []) end_.epoch) ≡ epoch_bytes form here ++ added =
    ap (epoch_bytes form) more ∙ epoch_bytes-after form here e ∙ ap (λ (p : Option ObjectId). epoch_bytes form here ++ (front_bytes form p ++ entry_bytes form e.kind e.text e.moment p)) (sym is.parent) in
    record {
      room = omega (arith, is.room, ap length bytes, length-append (epoch_bytes form here) added);
      parent = sym (ap (last_commit form None) more ∙ last_commit-push form None here e ∙ ap (λ (p : Option ObjectId). Some (commit_id form e.kind e.text e.moment p)) (sym is.parent));
      small = is.small;
    }

-- The end to which a new entry is appended, and its epoch.
abbrev pub NewEnd : Form → ℕ → List Entry → ℕ → End → Type 0
NewEnd form limit es epoch end_ = IsEpochEnd form limit es end_ × (end_.epoch ≡ epoch) × (last_epoch es ≤ end_.epoch)

-- A new epoch has no entry.
new_end : (form : Form) (limit epoch : ℕ) (es : List Entry) → last_epoch es < epoch → epoch ≤ 63 → NewEnd form limit es epoch (record { epoch = epoch; room = limit; parent = None })
new_end form limit epoch es later small =
    let none : in_epoch es epoch ≡ [] = none_above es epoch later in (
      record {
        room = let all : limit ≡ limit - 0 = omega arith in all ∙ sym (ap (λ (xs : List Entry). limit - length (epoch_bytes form xs)) none);
        parent = sym (ap (last_commit form None) none);
        small = small;
      },
      refl,
      omega (arith, later),
    )

new_step : (form : Form) (limit len : ℕ) (es : List Entry) (end_ : End) (t u : Bool) → IsEpochEnd form limit es end_ → end_.epoch ≡ last_epoch es → t ≡ u → (t ≡ false → end_.epoch < 63)
    → NewEnd form limit es (if u then last_epoch es else last_epoch es + 1) (if t then end_ else record { epoch = end_.epoch + 1; room = limit; parent = None })
new_step form limit len es end_ true true is last same below = (is, last, omega (arith, last))
new_step form limit len es end_ true false is last same below = absurd (cc)
new_step form limit len es end_ false true is last same below = absurd (cc)
new_step form limit len es end_ false false is last same below =
    subst (λ (n : ℕ). NewEnd form limit es (n + 1) (record { epoch = end_.epoch + 1; room = limit; parent = None })) last (new_end form limit (end_.epoch + 1) es (omega (arith, last)) (omega (arith, below refl)))

pub IsEpochEnd-new : (a : Archive) (end_ : End) → IsEpochEnd a.config.form a.config.limit a.entries end_ → end_.epoch ≡ last_epoch a.entries → NewEnd a.config.form a.config.limit a.entries (new_epoch a) (end_for_new a.config.limit end_)
IsEpochEnd-new a end_ is last =
    let len : ℕ = length (epoch_bytes a.config.form (in_epoch a.entries (last_epoch a.entries))) in
    let room : end_.room ≡ a.config.limit - len = is.room ∙ ap (λ (k : ℕ). a.config.limit - length (epoch_bytes a.config.form (in_epoch a.entries k))) last in
    let same : nat_lt 0 end_.room ≡ nat_lt len a.config.limit = grind (arith, nat_tests, room) in
    let tests : (end_.epoch == 63 || nat_lt 0 end_.room) ≡ takes_more a.config.limit (last_epoch a.entries) len = ap (λ (t : Bool). end_.epoch == 63 || t) same ∙ ap (λ (k : ℕ). k == 63 || nat_lt len a.config.limit) last in
    new_step a.config.form a.config.limit len a.entries end_ (end_.epoch == 63 || nat_lt 0 end_.room) (takes_more a.config.limit (last_epoch a.entries) len) is last tests (λ closed. below end_.epoch (nat_lt 0 end_.room) is.small closed)
  where
    below : (k : ℕ) (t : Bool) → k ≤ 63 → (k == 63 || t) ≡ false → k < 63
    below k t small closed = grind (arith, nat_tests, small, closed)

-- The end to which an entry of an epoch is appended that isn't before the last one.
in_step : (form : Form) (limit epoch : ℕ) (es : List Entry) (end_ : End) (t : Bool) → (end_.epoch == epoch) ≡ t → IsEpochEnd form limit es end_ → end_.epoch ≡ last_epoch es → last_epoch es ≤ epoch → epoch ≤ 63 → NewEnd form limit es epoch (if t then end_ else record { epoch = epoch; room = limit; parent = None })
in_step form limit epoch es end_ true test is last low small = (is, grind (arith, nat_tests, test), omega (arith, last))
in_step form limit epoch es end_ false test is last low small = new_end form limit epoch es (grind (arith, nat_tests, test, last, low)) small

pub IsEpochEnd-in : (form : Form) (limit epoch : ℕ) (es : List Entry) (end_ : End) → IsEpochEnd form limit es end_ → end_.epoch ≡ last_epoch es → last_epoch es ≤ epoch → epoch ≤ 63 → NewEnd form limit es epoch (end_in_epoch epoch limit end_)
IsEpochEnd-in form limit epoch es end_ is last low small = in_step form limit epoch es end_ (end_.epoch == epoch) refl is last low small

-- The end and the commit after an entry that is appended there.
pub end-after : (a : Archive) (e : Entry) (begin next : End) (commit : ObjectId) → NewEnd a.config.form a.config.limit a.entries e.epoch begin → next ≡ end_after a.config.form begin e.kind e.text e.moment → next.parent ≡ Some commit → IsEndAfter a e commit next
end-after a e begin next commit new next_is commit_is =
    let parent : begin.parent ≡ last_commit a.config.form None (in_epoch a.entries e.epoch) = new.0.parent ∙ ap (λ (n : ℕ). last_commit a.config.form None (in_epoch a.entries n)) new.1 in
    let some : Some commit ≡ Some (commit_id a.config.form e.kind e.text e.moment begin.parent) = sym commit_is ∙ ap (λ (n : End). n.parent) next_is in
    record {
      ends = subst (λ (n : End). IsEpochEnd a.config.form a.config.limit (a.entries ++ e ∷ []) n) (sym next_is) (IsEpochEnd-push a.config.form a.config.limit a.entries e begin new.0 (sym new.1));
      epoch = ap (λ (n : End). n.epoch) next_is ∙ new.1;
      commit_is = same_Some commit (commit_id a.config.form e.kind e.text e.moment begin.parent) some ∙ ap (commit_id a.config.form e.kind e.text e.moment) parent;
    }
