-- Time zones at the front of bytes.
use Rattle.std.proofs.Common.{◌≡◌, ◌<◌, ◌≤◌, ◌+◌, ◌-◌, ◌*◌, ◌/◌, ◌%◌, ℕ, suc, List, ◌∷◌, sym, ap, ◌∙◌, arith}
use Rattle.std.specs.Prelude.{ℤ, pos, negsuc, ◌-ℤ◌}
use Rattle.std.specs.Int.RustNames.{unsigned_abs}
use Rattle.std.proofs.lemmas.Int.{ints}
use Rattle.git_objects.specs.Fronts.{Lacks, Begins}
use Rattle.git_objects.specs.Commits.{IsCommitZone, IsBelow100, two_digits, zone_text, zone_sign}

-- A zone's minutes are less than a day.
pub zone-abs : (zone : ℤ) → IsCommitZone zone → unsigned_abs zone ≤ 1439
zone-abs (pos n) h = omega (arith, ints, h.high)
zone-abs (negsuc n) h = omega (arith, ints, h.low)

-- Equal bytes have equal heads and tails.
tails : {bytes : List ℕ} {a b : ℕ} {x y : List ℕ} → bytes ≡ a ∷ x → bytes ≡ b ∷ y → x ≡ y
tails e f = cc

heads : {bytes : List ℕ} {a b : ℕ} {x y : List ℕ} → bytes ≡ a ∷ x → bytes ≡ b ∷ y → a ≡ b
heads e f = cc

-- Bytes without the digits of the hour don't start with a zone.
pub zone-hour : (bytes : List ℕ) (sign : ℕ) (after : List ℕ) → bytes ≡ sign ∷ after → Lacks IsBelow100 two_digits after → Lacks IsCommitZone zone_text bytes
zone-hour bytes sign after e none = λ zone rest valid is.
    let small : unsigned_abs zone / 60 < 100 = omega (arith, zone-abs zone valid) in
    none (unsigned_abs zone / 60) (two_digits (unsigned_abs zone % 60) rest) small (tails e is)

-- Bytes without the digits of the minute don't start with a zone.
pub zone-minute : (bytes : List ℕ) (sign : ℕ) (after : List ℕ) (hour : ℕ) (later : List ℕ) → bytes ≡ sign ∷ after
    → Begins IsBelow100 two_digits after hour later → Lacks IsBelow100 two_digits later → Lacks IsCommitZone zone_text bytes
zone-minute bytes sign after hour later e one none = λ zone rest valid is.
    let small : unsigned_abs zone / 60 < 100 = omega (arith, zone-abs zone valid) in
    let low : unsigned_abs zone % 60 < 100 = omega arith in
    none (unsigned_abs zone % 60) rest low (one.only (unsigned_abs zone / 60) (two_digits (unsigned_abs zone % 60) rest) small (tails e is)).1

-- The zone west of UTC with these minutes.
zone-west : (zone : ℤ) (minutes : ℕ) → zone_sign zone ≡ 45 → unsigned_abs zone ≡ suc minutes → zone ≡ negsuc minutes
zone-west (pos n) minutes s e = absurd (omega (arith, s))
zone-west (negsuc n) minutes s e = ap negsuc (omega (arith, e))

-- A negative zone is west of UTC.
west-of : (n : ℕ) → 0 < n → pos 0 -ℤ pos n ≡ negsuc (n - 1)
west-of n some = omega (arith, ints)

-- A zone west of UTC.
pub zone-west_found : (bytes after : List ℕ) (hour : ℕ) (later : List ℕ) (minute : ℕ) (rest : List ℕ) (zone : ℤ) → bytes ≡ 45 ∷ after
    → Begins IsBelow100 two_digits after hour later → Begins IsBelow100 two_digits later minute rest → hour ≤ 23 → minute ≤ 59
    → 0 < 60 * hour + minute → zone ≡ pos 0 -ℤ pos (60 * hour + minute) → Begins IsCommitZone zone_text bytes zone rest
zone-west_found bytes after hour later minute rest zone e one two h m some is =
    let less : ℕ = 60 * hour + minute - 1 in
    let all : 60 * hour + minute ≡ suc less = omega arith in
    let west : zone ≡ negsuc less = is ∙ west-of (60 * hour + minute) some in
    let hours : suc less / 60 ≡ hour = omega arith in
    let minutes : suc less % 60 ≡ minute = omega arith in
    record {
      valid_one = record { low = omega (arith, ints, west); high = omega (arith, ints, west) };
      spelled = rw (west, hours, minutes) (e ∙ ap (λ l. 45 ∷ l) (one.spelled ∙ ap (two_digits hour) two.spelled));
      only = λ other more valid same.
          let small : unsigned_abs other / 60 < 100 = omega (arith, zone-abs other valid) in
          let low : unsigned_abs other % 60 < 100 = omega arith in
          let first = one.only (unsigned_abs other / 60) (two_digits (unsigned_abs other % 60) more) small (tails e same) in
          let second = two.only (unsigned_abs other % 60) more low first.1 in
          let sign : zone_sign other ≡ 45 = sym (heads e same) in
          let abs : unsigned_abs other ≡ suc less = omega (arith, first.0, second.0) in
          (west ∙ sym (zone-west other less sign abs), second.1);
    }
