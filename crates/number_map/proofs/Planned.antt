-- Plans of a map without the messages of some numbers.
use Rattle.std.specs.Prelude.{◌≡◌, ◌+◌, ◌-◌, ◌*◌, ◌<◌, ◌≤◌, ◌^◌, ◌==◌, ◌||◌, ℕ, zero, suc, Bool, true, false, List, [], ◌∷◌, ◌++◌, length, take, drop, get_or, refl, if◌then◌else◌}
use Rattle.std.specs.List.{flat_map}
use Rattle.std.proofs.Common.{◌∙◌, sym, ap, subst, arith, append_assoc, length-take, length-drop, take_all}
use Rattle.std.proofs.lemmas.Bool.Decides.{nat_tests}
use Rattle.std.proofs.lemmas.Grind.{flat_map-append}
use Rattle.std.proofs.lemmas.List.{append-nil, drop_more, map-append, take-append-drop, take_more}
use Rattle.arch_base.specs.declared.ids.Form.{Form}
use Rattle.disk_model.specs.BigEndian.{front_is, rest_is}
use Rattle.disk_model.specs.declared.name.FileName.{FileName}
use Rattle.root_change.specs.Copying.{range_of}
use Rattle.root_change.specs.Rewriting.{Plan, with_bytes, with_range}
use Rattle.root_change.proofs.Plans.{written_with_bytes, written_with_range}
use Rattle.root_change.proofs.Pushes.{bytes_is_plan, count_with_bytes, count_with_range, from_with_bytes, from_with_range, range_is_plan, whole_with_bytes, whole_with_range}
use Rattle.disk_model.specs.Sizes.{record_size}
use Rattle.number_map.specs.declared.line.Record.{Record}
use Rattle.number_map.specs.Records.{record_bytes, AreRecordsFrom}
use Rattle.number_map.specs.Rewriting.{PlansMap, PushesGone, RisesUpTo, is_among, map_without, none_record, record_without, records_without}
use Rattle.number_map.specs.Sizes.{none_long, records_length, sizes_most, sizes_one, sizes_sum}
use Rattle.number_map.specs.Walks.{BeginsWithRecords}
use Rattle.number_map.proofs.Standing.{begins_of, stands_of}

-- Numbers below those that rise aren't among them.
none_below : (low high : ℕ) (ns : List ℕ) (n : ℕ) → RisesUpTo low high ns → n < low → is_among ns n ≡ false
none_below low high [] n rises below = refl
none_below low high (m ∷ ms) n rises below =
    let other : (m == n) ≡ false = (let least = rises.0 in grind (arith, nat_tests)) in
    ap (λ (b : Bool). b || is_among ms n) other ∙ none_below (m + 1) high ms n rises.2 (let least = rises.0 in omega (arith, least, below))

-- What is left of the numbers, after those of the first records.
pub record AreLeft (gone : List ℕ) (done high : ℕ) (left : List ℕ) : Type 0 where
  pub rises : RisesUpTo (done + 1) high left
  pub among : (n : ℕ) → done < n → is_among gone n ≡ is_among left n

-- The next number.
pub left_next : (gone left rest : List ℕ) (done high number : ℕ) → left ≡ number ∷ rest → AreLeft gone done high left → AreLeft gone number high rest
left_next gone left rest done high number is at =
    let rises : RisesUpTo (done + 1) high (number ∷ rest) = subst (RisesUpTo (done + 1) high) is at.rises in
    record {
      rises = rises.2;
      among = λ n after.
          let least = rises.0 in
          let other : (number == n) ≡ false = grind (arith, nat_tests) in
          at.among n (omega (arith, least, after)) ∙ (ap (λ (ns : List ℕ). is_among ns n) is ∙ ap (λ (b : Bool). b || is_among rest n) other);
    }

-- It is one of those that are left out.
next_among : (gone left rest : List ℕ) (done high number : ℕ) → left ≡ number ∷ rest → AreLeft gone done high left → is_among gone number ≡ true
next_among gone left rest done high number is at =
    let rises : RisesUpTo (done + 1) high (number ∷ rest) = subst (RisesUpTo (done + 1) high) is at.rises in
    let same : (number == number) ≡ true = grind (arith, nat_tests) in
    at.among number (let least = rises.0 in omega (arith, least)) ∙ (ap (λ (ns : List ℕ). is_among ns number) is ∙ ap (λ (b : Bool). b || is_among rest number) same)

-- Those between aren't.
none_between : (gone left rest : List ℕ) (done high number n : ℕ) → left ≡ number ∷ rest → AreLeft gone done high left → done < n → n < number → is_among gone n ≡ false
none_between gone left rest done high number n is at after before =
    let rises : RisesUpTo (done + 1) high (number ∷ rest) = subst (RisesUpTo (done + 1) high) is at.rises in
    let same : RisesUpTo number high (number ∷ rest) = (omega arith, rises.1, rises.2) in
    at.among n after ∙ (ap (λ (ns : List ℕ). is_among ns n) is ∙ none_below number high (number ∷ rest) n same before)

module _ (form : Form) where
  -- The first records of valid ones are valid.
  records_take : (n k : ℕ) (lines : List Record) → AreRecordsFrom form n lines → AreRecordsFrom form n (take k lines)
  records_take n zero lines valid = tt
  records_take n (suc k) [] valid = tt
  records_take n (suc k) (x ∷ xs) valid = (valid.0, records_take (n + 1) k xs valid.1)

  -- So are the others, from their number on.
  records_drop : (n k : ℕ) (lines : List Record) → AreRecordsFrom form n lines → AreRecordsFrom form (n + k) (drop k lines)
  records_drop n zero lines valid = (let number : n + 0 ≡ n = omega arith in subst (λ (m : ℕ). AreRecordsFrom form m lines) (sym number) valid)
  records_drop n (suc k) [] valid = tt
  records_drop n (suc k) (x ∷ xs) valid =
      let number : n + suc k ≡ n + 1 + k = omega arith in
      subst (λ (m : ℕ). AreRecordsFrom form m (drop k xs)) (sym number) (records_drop (n + 1) k xs valid.1)

  -- A map that starts with records starts with the first of them.
  begins_front : (k : ℕ) (lines : List Record) (bytes : List ℕ) → BeginsWithRecords form lines bytes → BeginsWithRecords form (take k lines) bytes
  begins_front k lines bytes begins =
      let rest = drop (record_size form * length lines) bytes in
      let front = flat_map record_bytes (take k lines) in
      let back = flat_map record_bytes (drop k lines) in
      let both : flat_map record_bytes lines ≡ front ++ back =
      ap (flat_map record_bytes) (sym (take-append-drop k lines)) ∙ flat_map-append record_bytes (take k lines) (drop k lines) in
      begins_of form (take k lines) (back ++ rest) bytes (record {
        valid = records_take 1 k lines begins.valid;
        spelled = (stands_of form lines bytes begins).spelled ∙ (ap (λ (l : List ℕ). l ++ rest) both ∙ append_assoc front back rest);
      })

  -- The map is at least as long as its records.
  begins_long : (lines : List Record) (bytes : List ℕ) → BeginsWithRecords form lines bytes → record_size form * length lines ≤ length bytes
  begins_long lines bytes begins =
      omega (arith, records_length form 1 lines begins.valid, ap (λ (l : List ℕ). length l) begins.spelled, length-take (record_size form * length lines) bytes)

  -- The bytes of records after others.
  record_range : (k : ℕ) (lines : List Record) (bytes : List ℕ) → k ≤ length lines → BeginsWithRecords form lines bytes → range_of bytes (record_size form * k) (record_size form * (length lines - k)) ≡ flat_map record_bytes (drop k lines)
  record_range k lines bytes within begins =
      let rest = drop (record_size form * length lines) bytes in
      let front = flat_map record_bytes (take k lines) in
      let back = flat_map record_bytes (drop k lines) in
      let both : flat_map record_bytes lines ≡ front ++ back =
      ap (flat_map record_bytes) (sym (take-append-drop k lines)) ∙ flat_map-append record_bytes (take k lines) (drop k lines) in
      let is : bytes ≡ front ++ (back ++ rest) = (stands_of form lines bytes begins).spelled ∙ (ap (λ (l : List ℕ). l ++ rest) both ∙ append_assoc front back rest) in
      let few : length (take k lines) ≡ k = omega (arith, within, length-take k lines) in
      let front_long : length front ≡ record_size form * k = records_length form 1 (take k lines) (records_take 1 k lines begins.valid) ∙ ap (λ (n : ℕ). record_size form * n) few in
      let back_long : length back ≡ record_size form * (length lines - k) = records_length form (1 + k) (drop k lines) (records_drop 1 k lines begins.valid) ∙ ap (λ (n : ℕ). record_size form * n) (length-drop k lines) in
      front_is (record_size form * (length lines - k)) (drop (record_size form * k) bytes) back rest back_long (rest_is (record_size form * k) bytes front (back ++ rest) front_long is)

  -- A record whose number isn't among some stays.
  record_stays : (gone : List ℕ) (line : Record) → is_among gone line.number ≡ false → record_without form gone line ≡ line
  record_stays gone line isnt = ap (λ (b : Bool). if b then none_record form line.number else line) isnt

  record_goes : (gone : List ℕ) (line : Record) → is_among gone line.number ≡ true → record_without form gone line ≡ none_record form line.number
  record_goes gone line is = ap (λ (b : Bool). if b then none_record form line.number else line) is

  -- Records whose numbers aren't among some stay.
  records_stay : (gone : List ℕ) (n : ℕ) (lines : List Record) → AreRecordsFrom form n lines → ((m : ℕ) → n ≤ m → m < n + length lines → is_among gone m ≡ false) → records_without form gone lines ≡ lines
  records_stay gone n [] valid isnt = refl
  records_stay gone n (x ∷ xs) valid isnt =
      let first = record_stays gone x (ap (is_among gone) valid.0.number ∙ isnt n (omega arith) (omega arith)) in
      let rest = records_stay gone (n + 1) xs valid.1 (λ m low high. isnt m (omega (arith, low)) (omega (arith, high))) in
      λ i. first i ∷ rest i

  -- A map of records after others.
  map_more : (gone : List ℕ) (a b : List Record) → map_without form gone (a ++ b) ≡ map_without form gone a ++ map_without form gone b
  map_more gone a b = ap (flat_map record_bytes) (map-append (record_without form gone) a b) ∙ flat_map-append record_bytes (records_without form gone a) (records_without form gone b)

  -- The records after the planned ones, up to a number, stay.
  pub range_planned : (file : FileName) (done to offset count : ℕ) (gone : List ℕ) (plan : Plan) → to < 2 ^ 32 → done ≤ to → offset ≡ record_size form * done → count ≡ record_size form * (to - done) → ((n : ℕ) → done < n → n ≤ to → is_among gone n ≡ false)
      → PlansMap form file done gone plan → PlansMap form file to gone (with_range plan file offset count)
  range_planned file done to offset count gone plan fits within at size isnt before = record {
    kind = before.kind;
    number = before.number;
    target = before.target;
    valid =
        let planned = before.count_is in
        let sum = sizes_sum form done (to - done) to (omega (arith, within)) in
        range_is_plan plan file offset count before.valid (omega (arith, fits, at, size, sum, sizes_most form to)) (omega (arith, fits, size, planned, sum, sizes_most form to));
    count_is = (let planned = before.count_is in omega (arith, size, planned, count_with_range plan file offset count, sizes_sum form done (to - done) to (omega (arith, within))));
    from = from_with_range file plan offset count before.from;
    written = λ texts lines long begins.
        let bytes = texts file in
        let front = take done lines in
        let back = drop done lines in
        let size_front : length front ≡ done = omega (arith, within, long, length-take done lines) in
        let old = before.written texts front size_front (begins_front done lines bytes begins) in
        let ends : offset + count ≤ length bytes = omega (arith, at, size, sizes_sum form done (to - done) to (omega (arith, within)), ap (λ (n : ℕ). record_size form * n) long, begins_long lines bytes begins) in
        let stay : records_without form gone back ≡ back =
        records_stay gone (1 + done) back (records_drop 1 done lines begins.valid) (λ m low high. isnt m (omega (arith, low)) (omega (arith, within, high, long, length-drop done lines))) in
        let range : range_of bytes offset count ≡ flat_map record_bytes back =
        (λ i. range_of bytes (at i) (size i)) ∙ (ap (λ (n : ℕ). range_of bytes (record_size form * done) (record_size form * (n - done))) (sym long) ∙ record_range done lines bytes (omega (arith, within, long)) begins) in (
          whole_with_range texts plan file offset count old.0 ends,
          written_with_range texts plan file offset count
              ∙ ((λ i. old.1 i ++ range i)
              ∙ (ap (λ (l : List ℕ). map_without form gone front ++ l) (ap (flat_map record_bytes) (sym stay))
              ∙ (sym (map_more gone front back) ∙ ap (map_without form gone) (take-append-drop done lines)))),
        );
  }

  -- The record after the planned ones loses its message.
  record_planned : (file : FileName) (done : ℕ) (gone : List ℕ) (plan : Plan) → done < 2 ^ 32 → is_among gone (1 + done) ≡ true → PlansMap form file done gone plan → PlansMap form file (1 + done) gone (with_bytes plan (record_bytes (none_record form (1 + done))))
  record_planned file done gone plan fits is before = record {
    kind = before.kind;
    number = before.number;
    target = before.target;
    valid =
        let planned = before.count_is in
        bytes_is_plan plan (record_bytes (none_record form (1 + done))) before.valid (omega (arith, fits, planned, none_long form (1 + done), sizes_one form, sizes_sum form 1 done (1 + done) refl, sizes_most form (1 + done)));
    count_is = (let planned = before.count_is in omega (arith, planned, count_with_bytes plan (record_bytes (none_record form (1 + done))), none_long form (1 + done), sizes_one form, sizes_sum form 1 done (1 + done) refl));
    from = from_with_bytes file plan (record_bytes (none_record form (1 + done))) before.from;
    written = λ texts lines long begins.
        let bytes = texts file in
        let front = take done lines in
        let last = get_or lines done (none_record form 0) in
        let size_front : length front ≡ done = omega (arith, long, length-take done lines) in
        let old = before.written texts front size_front (begins_front done lines bytes begins) in
        let below : done < length lines = omega (arith, long) in
        let back : drop done lines ≡ last ∷ drop (done + 1) lines = drop_more lines done (none_record form 0) below in
        let valid_back = subst (AreRecordsFrom form (1 + done)) back (records_drop 1 done lines begins.valid) in
        let number : last.number ≡ 1 + done = valid_back.0.number in
        let goes : record_without form gone last ≡ none_record form (1 + done) = record_goes gone last (ap (is_among gone) number ∙ is) ∙ ap (none_record form) number in
        let all : front ++ last ∷ [] ≡ lines = sym (take_more lines done (none_record form 0) below) ∙ take_all (done + 1) lines (omega (arith, long)) in (
          whole_with_bytes texts plan (record_bytes (none_record form (1 + done))) old.0,
          written_with_bytes texts plan (record_bytes (none_record form (1 + done))) before.valid
              ∙ ((λ i. old.1 i ++ record_bytes (sym goes i))
              ∙ (ap (λ (l : List ℕ). map_without form gone front ++ l) (sym (append-nil (record_bytes (record_without form gone last))))
              ∙ (sym (map_more gone front (last ∷ [])) ∙ ap (map_without form gone) all))),
        );
  }

  -- The records up to the next number, and that without its message.
  pub gone_planned : (file : FileName) (done number high : ℕ) (gone left rest : List ℕ) (plan new : Plan) → number < 2 ^ 32 → done < number → left ≡ number ∷ rest → AreLeft gone done high left → PushesGone form file done number plan new → PlansMap form file done gone plan → PlansMap form file number gone new
  gone_planned file done number high gone left rest plan new fits below is at pushed before =
      let last = number - 1 in
      let number_is : 1 + last ≡ number = omega (arith, below) in
      let few : number - done - 1 ≡ last - done = omega (arith, below) in
      let kept : record_size form * (number - done - 1) ≡ record_size form * (last - done) = ap (λ (n : ℕ). record_size form * n) few in
      let mid = with_range plan file (record_size form * done) (record_size form * (number - done - 1)) in
      let stays : PlansMap form file last gone mid =
      range_planned file done last (record_size form * done) (record_size form * (number - done - 1)) gone plan (omega (arith, fits, below)) (omega (arith, below)) refl kept (λ n after before_. none_between gone left rest done high number n is at after (omega (arith, before_, below))) before in
      let goes = record_planned file last gone mid (omega (arith, fits, below)) (ap (is_among gone) number_is ∙ next_among gone left rest done high number is at) stays in
      subst (PlansMap form file number gone) (sym pushed) (subst (λ (n : ℕ). PlansMap form file n gone (with_bytes mid (record_bytes (none_record form n)))) number_is goes)

  -- The records after the last number that is left out stay.
  pub last_planned : (file : FileName) (done count offset size : ℕ) (gone : List ℕ) (plan : Plan) → count < 2 ^ 32 → done ≤ count → offset ≡ record_size form * done → size ≡ record_size form * (count - done) → AreLeft gone done count [] → PlansMap form file done gone plan → PlansMap form file count gone (with_range plan file offset size)
  last_planned file done count offset size gone plan fits within offset_is size_is at before = range_planned file done count offset size gone plan fits within offset_is size_is (λ n after most. at.among n after) before
