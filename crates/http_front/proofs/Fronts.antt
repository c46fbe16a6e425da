-- The head at the front, and how more bytes continue it.
use Rattle.std.proofs.Common.{◌≡◌, ◌<◌, ◌≤◌, ◌+◌, ℕ, Bool, true, false, nat_le, nat_lt, List, [], ◌∷◌, ◌++◌, length, take, drop, codes, Option, Some, None, refl, sym, ap, ◌∙◌, length-append, length-drop, arith, if◌then◌else◌, inl, inr, ◌⊎◌}
use Rattle.std.specs.Str.{bytes_eq}
use Rattle.std.proofs.lemmas.Bool.{cases_order}
use Rattle.std.proofs.lemmas.Bool.Decides.{nat_tests}
use Rattle.std.proofs.lemmas.List.{length-take, take-append-le, drop-append-le}
use Rattle.std.proofs.lemmas.Slice.Eq.{bytes_eq-Decides}
use Rattle.http_front.specs.Fronts.{ends_here, plus_len, head_len, HeadFront, Whole, Long, Partial, sized, front, is_whole}

some_is : {X : Type 0} (x y : X) → Some x ≡ Some y → x ≡ y
some_is x y e = cc

-- Four bytes end a head.
pub ends-long : (bytes : List ℕ) → ends_here bytes ≡ true → 4 ≤ length bytes
ends-long bytes is =
    let same : take 4 bytes ≡ codes "\r\n\r\n" = (bytes_eq-Decides (take 4 bytes) (codes "\r\n\r\n")).0 is in
    let four : length (take 4 bytes) ≡ 4 = ap length same in
    grind (arith, four, length-take 4 bytes)

-- More bytes don't change whether four bytes end a head.
pub ends-goes : (bytes q : List ℕ) → 4 ≤ length bytes → ends_here (bytes ++ q) ≡ ends_here bytes
ends-goes bytes q long = ap (λ (front : List ℕ). bytes_eq front (codes "\r\n\r\n")) (take-append-le 4 bytes q long)

-- The length of the head, by whether it ends here.
abbrev pub len_by : Bool → Option ℕ → Option ℕ
len_by true more = Some 4
len_by false more = plus_len 1 more

pub head_len-cons : (b : ℕ) (bs : List ℕ) → head_len (b ∷ bs) ≡ len_by (ends_here (b ∷ bs)) (head_len bs)
head_len-cons b bs = by (ends_here (b ∷ bs))
  where
    by : (t : Bool) → (if t then Some 4 else plus_len 1 (head_len bs)) ≡ len_by t (head_len bs)
    by true = refl
    by false = refl

within-plus : (o : Option ℕ) (n k : ℕ) → ((m : ℕ) → o ≡ Some m → (4 ≤ m) × (m ≤ k)) → plus_len 1 o ≡ Some n → (4 ≤ n) × (n ≤ 1 + k)
within-plus None n k more is = absurd (cc is)
within-plus (Some m) n k more is =
    let same : 1 + m ≡ n = some_is (1 + m) n is in
    let bounds = more m refl in
    (omega (arith, same, bounds.0), omega (arith, same, bounds.1))

within-by : (t : Bool) (o : Option ℕ) (n k : ℕ) → (t ≡ true → 4 ≤ 1 + k) → ((m : ℕ) → o ≡ Some m → (4 ≤ m) × (m ≤ k)) → len_by t o ≡ Some n → (4 ≤ n) × (n ≤ 1 + k)
within-by true o n k long more is = let same : 4 ≡ n = some_is 4 n is in (omega (arith, same), omega (arith, same, long refl))
within-by false o n k long more is = within-plus o n k more is

-- A head has at least four bytes, and lies within the bytes.
pub head_len-within : (bytes : List ℕ) (n : ℕ) → head_len bytes ≡ Some n → (4 ≤ n) × (n ≤ length bytes)
head_len-within [] n is = absurd (cc is)
head_len-within (b ∷ bs) n is =
    let bounds = within-by (ends_here (b ∷ bs)) (head_len bs) n (length bs) (λ ends. omega (arith, ends-long (b ∷ bs) ends)) (λ m found. head_len-within bs m found) (sym (head_len-cons b bs) ∙ is) in
    (bounds.0, omega (arith, bounds.1))

goes-plus : (o p : Option ℕ) (n : ℕ) → ((m : ℕ) → o ≡ Some m → p ≡ Some m) → plus_len 1 o ≡ Some n → plus_len 1 p ≡ Some n
goes-plus None p n more is = absurd (cc is)
goes-plus (Some m) p n more is = ap (plus_len 1) (more m refl) ∙ is

goes-by : (s t : Bool) (o p : Option ℕ) (n : ℕ) → (s ≡ true → t ≡ true) → (plus_len 1 o ≡ Some n → t ≡ s) → ((m : ℕ) → o ≡ Some m → p ≡ Some m) → len_by s o ≡ Some n → len_by t p ≡ Some n
goes-by true true o p n up same more is = is
goes-by true false o p n up same more is = absurd (cc (up refl))
goes-by false true o p n up same more is = absurd (cc (same is))
goes-by false false o p n up same more is = goes-plus o p n more is

plus-some : (o : Option ℕ) (n : ℕ) → plus_len 1 o ≡ Some n → (m : ℕ) × (o ≡ Some m)
plus-some None n is = absurd (cc is)
plus-some (Some m) n is = (m, refl)

-- More bytes leave the length of a head.
pub head_len-goes : (bytes q : List ℕ) (n : ℕ) → head_len bytes ≡ Some n → head_len (bytes ++ q) ≡ Some n
head_len-goes [] q n is = absurd (cc is)
head_len-goes (b ∷ bs) q n is =
    head_len-cons b (bs ++ q)
    ∙ goes-by (ends_here (b ∷ bs)) (ends_here (b ∷ bs ++ q)) (head_len bs) (head_len (bs ++ q)) n
    (λ ends. ends-goes (b ∷ bs) q (ends-long (b ∷ bs) ends) ∙ ends)
    (λ later. let found = plus-some (head_len bs) n later in ends-goes (b ∷ bs) q (omega (arith, (head_len-within bs found.0 found.1).0, (head_len-within bs found.0 found.1).1)))
    (λ m found. head_len-goes bs q m found) (sym (head_len-cons b bs) ∙ is)

-- The front by the length of the head.

pub sized-whole : (limit : ℕ) (bytes : List ℕ) (n : ℕ) → n ≤ limit → sized limit bytes (Some n) ≡ Whole (take n bytes) (drop n bytes)
sized-whole limit bytes n fits = let t : nat_le n limit ≡ true = grind (arith, nat_tests) in rw t refl

pub sized-over : (limit : ℕ) (bytes : List ℕ) (n : ℕ) → limit < n → sized limit bytes (Some n) ≡ Long
sized-over limit bytes n over = let t : nat_le n limit ≡ false = grind (arith, nat_tests) in rw t refl

pub sized-part : (limit : ℕ) (bytes : List ℕ) → length bytes < limit → sized limit bytes None ≡ Partial
sized-part limit bytes short = let t : nat_lt (length bytes) limit ≡ true = grind (arith, nat_tests) in rw t refl

pub sized-long : (limit : ℕ) (bytes : List ℕ) → limit ≤ length bytes → sized limit bytes None ≡ Long
sized-long limit bytes long = let t : nat_lt (length bytes) limit ≡ false = grind (arith, nat_tests) in rw t refl

-- No bytes are a part of a head.
pub front-nil : (limit : ℕ) → 0 < limit → front limit [] ≡ Partial
unfolding front
front-nil limit some = sized-part limit [] some

-- What is at the front stays there, and more bytes follow it.
pub data Goes (q : List ℕ) : HeadFront → HeadFront → Type 0 where
  Same : (head rest : List ℕ) → Goes q (Whole head rest) (Whole head (rest ++ q))
  Over : Goes q Long Long
  Open : (next : HeadFront) → Goes q Partial next

goes-some : (limit : ℕ) (bytes q : List ℕ) (n : ℕ) (t : Bool) → nat_le n limit ≡ t → n ≤ length bytes → Goes q (sized limit bytes (Some n)) (sized limit (bytes ++ q) (Some n))
goes-some limit bytes q n true h within =
    let fits : n ≤ limit = grind (arith, nat_tests) in
    rw (sized-whole limit bytes n fits, sized-whole limit (bytes ++ q) n fits, take-append-le n bytes q within, drop-append-le n bytes q within) (Same (take n bytes) (drop n bytes))
goes-some limit bytes q n false h within = rw h Over

order : (a b : ℕ) → (a ≤ b) ⊎ (b < a)
order a b = elim (cases_order a b) [ inl same ↦ inl (omega (arith, same)) | inr (inl less) ↦ inl (omega (arith, less)) | inr (inr more) ↦ inr (omega (arith, more)) ]

none-by : (t : Bool) (o : Option ℕ) → len_by t o ≡ None → (t ≡ false) × (o ≡ None)
none-by true o e = absurd (cc e)
none-by false None e = (refl, refl)
none-by false (Some m) e = absurd (cc e)

no-end : (b : ℕ) (bs : List ℕ) → head_len (b ∷ bs) ≡ None → (ends_here (b ∷ bs) ≡ false) × (head_len bs ≡ None)
no-end b bs none = none-by (ends_here (b ∷ bs)) (head_len bs) (sym (head_len-cons b bs) ∙ none)

past-by : (t : Bool) (o : Option ℕ) (b : ℕ) (bs q : List ℕ) (n : ℕ) → ends_here (b ∷ bs ++ q) ≡ t → head_len (b ∷ bs) ≡ None → ((m : ℕ) → o ≡ Some m → length bs < m) → len_by t o ≡ Some n → length (b ∷ bs) < n
past-by true o b bs q n ends none past e =
    let same : 4 ≡ n = some_is 4 n e in
    elim (order 4 (length (b ∷ bs))) [
      | inl long ↦ absurd (cc (sym (no-end b bs none).0 ∙ sym (ends-goes (b ∷ bs) q long) ∙ ends))
      | inr short ↦ omega (arith, same, short)
    ]
past-by false None b bs q n ends none past e = absurd (cc e)
past-by false (Some m) b bs q n ends none past e =
    let same : 1 + m ≡ n = some_is (1 + m) n e in
    omega (arith, same, past m refl)

-- A head whose end more bytes bring ends after those before.
pub head_len-later : (bytes q : List ℕ) (n : ℕ) → head_len (bytes ++ q) ≡ Some n → head_len bytes ≡ None → length bytes < n
head_len-later [] q n is none = omega (arith, (head_len-within q n is).0)
head_len-later (b ∷ bs) q n is none =
    past-by (ends_here (b ∷ bs ++ q)) (head_len (bs ++ q)) b bs q n refl none (λ m found. head_len-later bs q m found (no-end b bs none).1) (sym (head_len-cons b (bs ++ q)) ∙ is)

-- Bytes at the limit without the end of a head stay too long.
goes-long : (limit : ℕ) (bytes q : List ℕ) (o : Option ℕ) → head_len (bytes ++ q) ≡ o → head_len bytes ≡ None → limit ≤ length bytes → Goes q Long (sized limit (bytes ++ q) o)
goes-long limit bytes q None is none long = rw (sized-long limit (bytes ++ q) (omega (arith, length-append bytes q, long))) Over
goes-long limit bytes q (Some n) is none long = rw (sized-over limit (bytes ++ q) n (omega (arith, long, head_len-later bytes q n is none))) Over

goes-none : (limit : ℕ) (bytes q : List ℕ) (t : Bool) → nat_lt (length bytes) limit ≡ t → head_len bytes ≡ None → Goes q (sized limit bytes None) (sized limit (bytes ++ q) (head_len (bytes ++ q)))
goes-none limit bytes q true h none = rw h (Open (sized limit (bytes ++ q) (head_len (bytes ++ q))))
goes-none limit bytes q false h none =
    let long : limit ≤ length bytes = grind (arith, nat_tests) in
    rw h (goes-long limit bytes q (head_len (bytes ++ q)) refl none long)

goes-by_len : (limit : ℕ) (bytes q : List ℕ) (o : Option ℕ) → head_len bytes ≡ o → Goes q (sized limit bytes o) (sized limit (bytes ++ q) (head_len (bytes ++ q)))
goes-by_len limit bytes q None is = goes-none limit bytes q (nat_lt (length bytes) limit) refl is
goes-by_len limit bytes q (Some n) is = rw (head_len-goes bytes q n is) (goes-some limit bytes q n (nat_le n limit) refl (head_len-within bytes n is).1)

-- More bytes follow those at the front.
pub front-goes : (limit : ℕ) (bytes q : List ℕ) → Goes q (front limit bytes) (front limit (bytes ++ q))
unfolding front
front-goes limit bytes q = goes-by_len limit bytes q (head_len bytes) refl

-- The rest after a head is shorter than the bytes.
shorter-some : (limit : ℕ) (bytes head rest : List ℕ) (n : ℕ) (t : Bool) → nat_le n limit ≡ t → 4 ≤ n → n ≤ length bytes → sized limit bytes (Some n) ≡ Whole head rest → length rest < length bytes
shorter-some limit bytes head rest n true h some within is =
    let same : Whole (take n bytes) (drop n bytes) ≡ Whole head rest = sym (sized-whole limit bytes n (grind (arith, nat_tests))) ∙ is in
    let back : drop n bytes ≡ rest = cc in
    omega (arith, some, within, length-drop n bytes, ap length back)
shorter-some limit bytes head rest n false h some within is = absurd (cc (rw h at is))

shorter-by : (limit : ℕ) (bytes head rest : List ℕ) (o : Option ℕ) → head_len bytes ≡ o → sized limit bytes o ≡ Whole head rest → length rest < length bytes
shorter-by limit bytes head rest None found is = absurd (never (nat_lt (length bytes) limit) is)
  where
    never : (t : Bool) → (if t then Partial else Long) ≡ Whole head rest → ⊥
    never true e = cc e
    never false e = cc e
shorter-by limit bytes head rest (Some n) found is =
    let bounds = head_len-within bytes n found in
    shorter-some limit bytes head rest n (nat_le n limit) refl bounds.0 bounds.1 is

pub front-shorter : (limit : ℕ) (bytes head rest : List ℕ) → front limit bytes ≡ Whole head rest → length rest < length bytes
unfolding front
front-shorter limit bytes head rest is = shorter-by limit bytes head rest (head_len bytes) refl is

-- A front that isn't answered now is a part of a head.
pub not_whole : (f : HeadFront) → is_whole f ≡ false → f ≡ Partial
not_whole (Whole head rest) h = absurd (cc h)
not_whole Long h = absurd (cc h)
not_whole Partial h = refl
