-- The form in which dates are printed for IMAP.
use Rattle.std.proofs.Common.{◌≡◌, ℕ, zero, suc, ◌+◌, ◌/◌, ◌%◌, List, [], ◌∷◌, ◌++◌, get_or, refl, arith, unsigned_abs}
use Rattle.std.specs.Int.{IsInRange}
use Rattle.mail_date.specs.declared.moment.CivilDate.{CivilDate}
use Rattle.mail_date.specs.Printed.{month_name, tens_or_space, two_places, four_digits, clock_text, sign_of, zone_text, imap_text}

-- A month's name has three letters.
pub three_letters : (month : ℕ) → IsInRange 1 12 month → month_name month ≡ get_or (month_name month) 0 0 ∷ get_or (month_name month) 1 0 ∷ get_or (month_name month) 2 0 ∷ []
three_letters (suc zero) h = refl
three_letters (suc (suc zero)) h = refl
three_letters (suc (suc (suc zero))) h = refl
three_letters (suc (suc (suc (suc zero)))) h = refl
three_letters (suc (suc (suc (suc (suc zero))))) h = refl
three_letters (suc (suc (suc (suc (suc (suc zero)))))) h = refl
three_letters (suc (suc (suc (suc (suc (suc (suc zero))))))) h = refl
three_letters (suc (suc (suc (suc (suc (suc (suc (suc zero)))))))) h = refl
three_letters (suc (suc (suc (suc (suc (suc (suc (suc (suc zero))))))))) h = refl
three_letters (suc (suc (suc (suc (suc (suc (suc (suc (suc (suc zero)))))))))) h = refl
three_letters (suc (suc (suc (suc (suc (suc (suc (suc (suc (suc (suc zero))))))))))) h = refl
three_letters (suc (suc (suc (suc (suc (suc (suc (suc (suc (suc (suc (suc zero)))))))))))) h = refl
three_letters zero h = absurd (omega arith)
three_letters (suc (suc (suc (suc (suc (suc (suc (suc (suc (suc (suc (suc (suc k))))))))))))) h = absurd (omega arith)

-- The bytes of a printed date, one by one.
pub imap_written : (date : CivilDate) (tens sign offset : ℕ) → IsInRange 1 12 date.month → tens ≡ tens_or_space date.day → sign ≡ sign_of date.zone → offset ≡ unsigned_abs date.zone → tens ∷ (48 + date.day % 10) ∷ 45 ∷ get_or (month_name date.month) 0 0 ∷ get_or (month_name date.month) 1 0 ∷ get_or (month_name date.month) 2 0 ∷ 45 ∷ (48 + date.year / 100 / 10) ∷ (48 + date.year / 100 % 10) ∷ (48 + date.year % 100 / 10) ∷ (48 + date.year % 100 % 10) ∷ 32 ∷ (48 + date.hour / 10) ∷ (48 + date.hour % 10) ∷ 58 ∷ (48 + date.minute / 10) ∷ (48 + date.minute % 10) ∷ 58 ∷ (48 + date.second / 10) ∷ (48 + date.second % 10) ∷ 32 ∷ sign ∷ (48 + offset / 60 / 10) ∷ (48 + offset / 60 % 10) ∷ (48 + offset % 60 / 10) ∷ (48 + offset % 60 % 10) ∷ [] ≡ imap_text date
imap_written date tens sign offset month t s o = go (month_name date.month) (three_letters date.month month)
  where
    go : (name : List ℕ) → name ≡ get_or name 0 0 ∷ get_or name 1 0 ∷ get_or name 2 0 ∷ [] → tens ∷ (48 + date.day % 10) ∷ 45 ∷ get_or name 0 0 ∷ get_or name 1 0 ∷ get_or name 2 0 ∷ 45 ∷ (48 + date.year / 100 / 10) ∷ (48 + date.year / 100 % 10) ∷ (48 + date.year % 100 / 10) ∷ (48 + date.year % 100 % 10) ∷ 32 ∷ (48 + date.hour / 10) ∷ (48 + date.hour % 10) ∷ 58 ∷ (48 + date.minute / 10) ∷ (48 + date.minute % 10) ∷ 58 ∷ (48 + date.second / 10) ∷ (48 + date.second % 10) ∷ 32 ∷ sign ∷ (48 + offset / 60 / 10) ∷ (48 + offset / 60 % 10) ∷ (48 + offset % 60 / 10) ∷ (48 + offset % 60 % 10) ∷ [] ≡ two_places date.day ++ (45 ∷ []) ++ name ++ (45 ∷ []) ++ four_digits date.year ++ (32 ∷ []) ++ clock_text date ++ (32 ∷ []) ++ zone_text date.zone
    go name e = rw (e, t, s, o) refl
