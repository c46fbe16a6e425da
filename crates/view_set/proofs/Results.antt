-- What holds by a result.
use Rattle.std.specs.Prelude.{◌≡◌, Bool, true, false, Option, Some, None, Result, Ok, Err, IfErr, OnOk, is_some, option_copied}
use Rattle.std.proofs.Common.{Bor, ◌∙◌, sym}

-- What wasn't found isn't there.
pub none-copied : {X : Type 0} (found : Option (Bor X)) (row : Option X) (t : Bool) → t ≡ is_some found → t ≡ false → option_copied found ≡ row → row ≡ None
none-copied None row t test none is = sym is
none-copied (Some x) row t test none is = absurd (let wrong : true ≡ false = sym test ∙ none in cc)

pub on-weaker : {T E : Type 0} (r : Result T E) (P Q : Type 0) → (P → Q) → OnOk r P → OnOk r Q
on-weaker (Ok x) P Q less holds = less holds
on-weaker (Err e) P Q less holds = tt

pub err-weaker : {T E : Type 0} (r : Result T E) (P Q : E → Type 0) → ((e : E) → P e → Q e) → IfErr r P → IfErr r Q
err-weaker (Ok x) P Q less holds = tt
err-weaker (Err e) P Q less holds = less e holds
