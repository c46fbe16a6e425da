-- The magic of an epoch has eight bytes in each form.
use Rattle.std.specs.Prelude.{◌≡◌, ℕ, List, ◌++◌, length, take, drop, refl}
use Rattle.std.proofs.Common.{◌∙◌, sym, ap}
use Rattle.std.proofs.Math.Seq.{take-append_seam, drop-append_seam}
use Rattle.arch_base.specs.declared.ids.Form.{Form}
use Rattle.arch_base.specs.declared.ids.Form.TheVariants.{Sha1, Sha256}
use Rattle.mail_commits.specs.Entries.{magic}

pub magic_length : (form : Form) → length (magic form) ≡ 8
magic_length Sha1 = refl
magic_length Sha256 = refl

-- It is the first eight bytes, and the others follow it.
pub take_magic : (form : Form) (rest : List ℕ) → take 8 (magic form ++ rest) ≡ magic form
take_magic form rest = ap (λ (n : ℕ). take n (magic form ++ rest)) (sym (magic_length form)) ∙ take-append_seam (magic form) rest

pub drop_magic : (form : Form) (rest : List ℕ) → drop 8 (magic form ++ rest) ≡ rest
drop_magic form rest = ap (λ (n : ℕ). drop n (magic form ++ rest)) (sym (magic_length form)) ∙ drop-append_seam (magic form) rest
