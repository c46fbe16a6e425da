-- Bytes that are added to a file, one piece after the other.
use Rattle.std.specs.Prelude.{◌≡◌, ◌≢◌, ℕ, ◌+◌, ◌<◌, ◌≤◌, List, [], ◌++◌, length, take, drop, Option, Some, None, refl}
use Rattle.std.proofs.Common.{◌∙◌, sym, ap, subst, arith, length-append, length-take, length-drop}
use Rattle.std.proofs.lemmas.List.{append-nil, append_assoc, nil_from_length, take-append-drop, take-take, drop-take, drop-drop, drop_all}
use Rattle.disk_model.specs.declared.name.FileName.{FileName}
use Rattle.disk_model.specs.Disk.{File, Kept, Content, BothTold, WhereTold, OneFile, Unchanged, Wrote, HasRead, IsAtMostLength, bytes_of, overlay}
use Rattle.disk_model.specs.Beside.{RespectsBound}
use Rattle.disk_model.specs.Tells.{told_then, told_where}
use Rattle.root_change.specs.Copying.{range_of, file_range, HasRange, Added, Put, Copied}
use Rattle.root_change.proofs.Sizes.{overlay_least}
use Rattle.root_change.proofs.Changes.{overlay_end}

-- Two ranges of which the second follows the first are one.
take_then : (m n : ℕ) (bytes : List ℕ) → take m bytes ++ take n (drop m bytes) ≡ take (m + n) bytes
take_then m n bytes =
    let front : take m (take (m + n) bytes) ≡ take m bytes = take-take m (m + n) bytes (omega arith) in
    let rest : drop m (take (m + n) bytes) ≡ take n (drop m bytes) = drop-take m n bytes in
    ap (λ (front_ : List ℕ). front_ ++ take n (drop m bytes)) (sym front)
    ∙ (ap (λ (rest_ : List ℕ). take m (take (m + n) bytes) ++ rest_) (sym rest) ∙ take-append-drop m (take (m + n) bytes))

range_then : (offset m n : ℕ) (bytes : List ℕ) → range_of bytes offset m ++ range_of bytes (offset + m) n ≡ range_of bytes offset (m + n)
range_then offset m n bytes =
    ap (λ (rest : List ℕ). take m (drop offset bytes) ++ take n rest) (sym (drop-drop m offset bytes)) ∙ take_then m n (drop offset bytes)

-- Bytes aren't none if there are some.
some_isnt_none : (bytes : List ℕ) → 0 < length bytes → bytes ≢ []
some_isnt_none bytes some none = absurd (let size : length bytes ≡ 0 = ap length none in omega (arith, size, some))

-- Two parts are none if the whole is.
front_none : (xs ys : List ℕ) → xs ++ ys ≡ [] → xs ≡ []
front_none xs ys none = nil_from_length xs (let size : length (xs ++ ys) ≡ 0 = ap length none in omega (arith, size, length-append xs ys))

rest_none : (xs ys : List ℕ) → xs ++ ys ≡ [] → ys ≡ []
rest_none xs ys none = nil_from_length ys (let size : length (xs ++ ys) ≡ 0 = ap length none in omega (arith, size, length-append xs ys))

-- Bytes that are written from an offset on.
pub wrote_added : (bytes : List ℕ) (to : FileName) (end_ : ℕ) (k m : Content) → 0 < length bytes → end_ ≤ length (bytes_of (k to).seen) → OneFile to (Wrote end_ bytes) k m → Added bytes to end_ k m
wrote_added bytes to end_ k m some inside one = record {
  there = λ ends. ap bytes_of one.here.seen ∙ (ap (λ (n : ℕ). overlay n bytes (bytes_of (k to).seen)) (sym ends) ∙ overlay_end (bytes_of (k to).seen) bytes);
  reaches = subst (λ (file : File). end_ + length bytes ≤ length (bytes_of file)) (sym one.here.seen) (overlay_least end_ bytes (bytes_of (k to).seen) inside);
  alone = λ none. absurd (some_isnt_none bytes some none);
  others = λ name apart. ap (λ (kept : Kept). kept.seen) (one.elsewhere name apart);
}

-- No bytes.
pub none_added : (to : FileName) (end_ : ℕ) (k : Content) → end_ ≤ length (bytes_of (k to).seen) → Added [] to end_ k k
none_added to end_ k inside = record {
  there = λ ends. sym (append-nil (bytes_of (k to).seen));
  reaches = omega (arith, inside);
  alone = λ none. refl;
  others = λ name apart. refl;
}

-- Bytes after others.
pub added_then : (xs ys : List ℕ) (to : FileName) (end_ next : ℕ) (k m o : Content) → next ≡ end_ + length xs → Added xs to end_ k m → Added ys to next m o → Added (xs ++ ys) to end_ k o
added_then xs ys to end_ next k m o next_is first second = record {
  there = λ ends.
      let now = first.there ends in
      let size : length (bytes_of (m to).seen) ≡ next = ap length now ∙ omega (arith, ends, next_is, length-append (bytes_of (k to).seen) xs) in
      second.there size ∙ (ap (λ (bytes : List ℕ). bytes ++ ys) now ∙ append_assoc (bytes_of (k to).seen) xs ys);
  reaches = (let reached = second.reaches in omega (arith, reached, next_is, length-append xs ys));
  alone = λ none. second.alone (rest_none xs ys none) ∙ first.alone (front_none xs ys none);
  others = λ name apart. second.others name apart ∙ first.others name apart;
}

-- So many bytes after so many others.
pub put_then : (xs ys : List ℕ) (m n : ℕ) (to : FileName) (end_ next : ℕ) (k l o : Content) → next ≡ end_ + m → Put xs m to end_ k l → Put ys n to next l o → Put (xs ++ ys) (m + n) to end_ k o
put_then xs ys m n to end_ next k l o next_is first second =
    let full = first.full in
    let more = second.full in
    record {
      added = added_then xs ys to end_ next k l o (omega (arith, next_is, full)) first.added second.added;
      full = omega (arith, full, more, length-append xs ys);
    }

-- A range that comes after one that was copied.
copied_next : (file : FileName) (offset done count : ℕ) (to : FileName) (end_ : ℕ) (at next : ℕ) (k m o : Content) → file ≢ to → at ≡ offset + done → next ≡ end_ + done → Copied file offset done to end_ k m → Copied file at count to next m o → Copied file offset (done + count) to end_ k o
copied_next file offset done count to end_ at next k m o apart at_is next_is first second =
    let same : file_range m file at count ≡ file_range k file (offset + done) count = ap (λ (f : File). range_of (bytes_of f) at count) (first.added.others file apart) ∙ ap (λ (n : ℕ). range_of (bytes_of (k file).seen) n count) at_is in
    let one : file_range k file offset done ++ file_range m file at count ≡ file_range k file offset (done + count) = ap (λ (rest : List ℕ). file_range k file offset done ++ rest) same ∙ range_then offset done count (bytes_of (k file).seen) in
    subst (λ (bytes : List ℕ). Put bytes (done + count) to end_ k o) one (put_then (file_range k file offset done) (file_range m file at count) done count to end_ next k m o next_is first second)

-- A window that was filled and written.
window_copied : (file : FileName) (offset count : ℕ) (to : FileName) (end_ n : ℕ) (before after : List ℕ) (k l m : Content) → 0 < count → length before ≡ count → count ≤ n → HasRead file offset n before after k → Unchanged k l → end_ ≤ length (bytes_of (k to).seen) → OneFile to (Wrote end_ after) l m → Copied file offset count to end_ k m
window_copied file offset count to end_ n before after k l m some size most read same inside one =
    let count_is = read.count in
    let whole : n ≡ count = omega (arith, count_is, size, most) in
    let after_is : after ≡ file_range k file offset count = read.bytes ∙ (ap (λ (rest : List ℕ). take n (drop offset (bytes_of (k file).seen)) ++ rest) (drop_all n before (omega (arith, size, whole))) ∙ (append-nil (take n (drop offset (bytes_of (k file).seen))) ∙ ap (λ (i : ℕ). take i (drop offset (bytes_of (k file).seen))) whole)) in
    let full : length (file_range k file offset count) ≡ count = omega (arith, count_is, size, whole, length-take {A = ℕ} count (drop offset (bytes_of (k file).seen)), length-drop {A = ℕ} offset (bytes_of (k file).seen)) in
    let long : 0 < length after = subst (λ (bytes : List ℕ). 0 < length bytes) (sym after_is) (omega (arith, full, some)) in
    let added = wrote_added after to end_ l m long (subst (λ (kept : Kept). end_ ≤ length (bytes_of kept.seen)) (sym (same to)) inside) one in
    record {
      added = subst (λ (bytes : List ℕ). Added bytes to end_ k m) after_is (record {
        there = λ ends. added.there (ap (λ (kept : Kept). length (bytes_of kept.seen)) (same to) ∙ ends) ∙ ap (λ (kept : Kept). bytes_of kept.seen ++ after) (same to);
        reaches = added.reaches;
        alone = λ none. added.alone none ∙ ap (λ (kept : Kept). kept.seen) (same to);
        others = λ name apart. added.others name apart ∙ ap (λ (kept : Kept). kept.seen) (same name);
      });
      full = full;
    }

-- The same, of a disk that may tell its content.
pub window_told : (file : FileName) (offset count : ℕ) (to : FileName) (end_ n : ℕ) (before after : List ℕ) (k l m : Option Content) → 0 < count → length before ≡ count → count ≤ n → WhereTold (HasRead file offset n before after) k → BothTold Unchanged k l → WhereTold (IsAtMostLength to end_) k → BothTold (OneFile to (Wrote end_ after)) l m → BothTold (Copied file offset count to end_) k m
window_told file offset count to end_ n before after None None None some size most read same inside one = tt
window_told file offset count to end_ n before after None None (Some m) some size most read same inside one = absurd one
window_told file offset count to end_ n before after None (Some l) m some size most read same inside one = absurd same
window_told file offset count to end_ n before after (Some k) None m some size most read same inside one = absurd same
window_told file offset count to end_ n before after (Some k) (Some l) None some size most read same inside one = absurd one
window_told file offset count to end_ n before after (Some k) (Some l) (Some m) some size most read same inside one = window_copied file offset count to end_ n before after k l m some size most read same inside one

-- A range that is whole fills the window.
pub window_full : (file : FileName) (offset count n : ℕ) (before after : List ℕ) (k : Option Content) → length before ≡ count → WhereTold (HasRead file offset n before after) k → HasRange file offset count k → count ≤ n
window_full file offset count n before after None size read has = absurd has
window_full file offset count n before after (Some k) size read has = (let is = read.count in omega (arith, is, size, has))

pub next_told : (file : FileName) (offset done count : ℕ) (to : FileName) (end_ at next : ℕ) (k m o : Option Content) → file ≢ to → at ≡ offset + done → next ≡ end_ + done → BothTold (Copied file offset done to end_) k m → BothTold (Copied file at count to next) m o → BothTold (Copied file offset (done + count) to end_) k o
next_told file offset done count to end_ at next k m o apart at_is next_is first second =
    told_then (Copied file offset done to end_) (Copied file at count to next) (Copied file offset (done + count) to end_) k m o (λ a b d is told one two. copied_next file offset done count to end_ at next a b d apart at_is next_is one two) first second

-- Nothing was copied yet.
pub first_copied : (file : FileName) (offset : ℕ) (to : FileName) (end_ : ℕ) (k : Option Content) → WhereTold (IsAtMostLength to end_) k → BothTold (Copied file offset 0 to end_) k k
first_copied file offset to end_ None inside = tt
first_copied file offset to end_ (Some k) inside = record { added = none_added to end_ k inside; full = refl }

-- The offset after the bytes is within the file.
pub copied_inside : (file : FileName) (offset count : ℕ) (to : FileName) (end_ next : ℕ) (k m : Option Content) → next ≡ end_ + count → BothTold (Copied file offset count to end_) k m → WhereTold (IsAtMostLength to next) m
copied_inside file offset count to end_ next None None next_is told = tt
copied_inside file offset count to end_ next None (Some m) next_is told = absurd told
copied_inside file offset count to end_ next (Some k) None next_is told = absurd told
copied_inside file offset count to end_ next (Some k) (Some m) next_is told = (let reached = told.added.reaches in let full = told.full in omega (arith, reached, full, next_is))

-- The rest of a whole range is whole.
pub range_left : (file : FileName) (offset done count all at : ℕ) (to : FileName) (end_ : ℕ) (k m : Option Content) → file ≢ to → at ≡ offset + done → done + count ≤ all → BothTold (Copied file offset done to end_) k m → HasRange file offset all k → HasRange file at count m
range_left file offset done count all at to end_ None m apart at_is most told has = absurd has
range_left file offset done count all at to end_ (Some k) None apart at_is most told has = absurd told
range_left file offset done count all at to end_ (Some k) (Some m) apart at_is most told has =
    subst (λ (f : File). at + count ≤ length (bytes_of f)) (sym (told.added.others file apart)) (omega (arith, at_is, most, has))

-- An offset after one that respects a bound respects it too.
pub respects_more : (bound : Option ℕ) (at next : ℕ) → at ≤ next → RespectsBound bound at → RespectsBound bound next
respects_more None at next more far = absurd far
respects_more (Some n) at next more far = omega (arith, more, far)

-- An offset within a file is within it after a call that changes nothing.
pub inside_still : (name : FileName) (at : ℕ) (k m : Option Content) → WhereTold (IsAtMostLength name at) k → BothTold Unchanged k m → WhereTold (IsAtMostLength name at) m
inside_still name at k m inside same = told_where Unchanged (IsAtMostLength name at) (IsAtMostLength name at) k m (λ a b old_is new_is kept long. subst (λ (it : Kept). at ≤ length (bytes_of it.seen)) (sym (kept name)) long) same inside
