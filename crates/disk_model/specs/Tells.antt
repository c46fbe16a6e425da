-- Lemmas for proofs: what a disk tells of its content, carried from one call to the next.
use Rattle.std.specs.Prelude.{◌≡◌, Option, Some, None, refl}
use Rattle.disk_model.specs.Disk.{Content, BothTold, WhereTold}

-- A weaker relation of the contents before and after a call.
pub told_weaker : (P Q : Content → Content → Type 0) (old new : Option Content) → ((k m : Content)
    → old ≡ Some k → new ≡ Some m → P k m → Q k m) → BothTold P old new → BothTold Q old new
told_weaker P Q None None step told = tt
told_weaker P Q None (Some m) step told = absurd told
told_weaker P Q (Some k) None step told = absurd told
told_weaker P Q (Some k) (Some m) step told = step k m refl refl told

-- The relations of two calls, one after the other.
pub told_then : (P Q R : Content → Content → Type 0) (old mid new : Option Content)
    → ((k m o : Content) → old ≡ Some k → mid ≡ Some m → P k m → Q m o → R k o) → BothTold P old mid
    → BothTold Q mid new → BothTold R old new
told_then P Q R None None None step first second = tt
told_then P Q R None None (Some o) step first second = absurd second
told_then P Q R None (Some m) new step first second = absurd first
told_then P Q R (Some k) None new step first second = absurd first
told_then P Q R (Some k) (Some m) None step first second = absurd second
told_then P Q R (Some k) (Some m) (Some o) step first second = step k m o refl refl first second

-- What a call makes of a property of the content.
pub told_where : (P : Content → Content → Type 0) (Q R : Content → Type 0) (old new : Option Content)
    → ((k m : Content) → old ≡ Some k → new ≡ Some m → P k m → Q k → R m) → BothTold P old new
    → WhereTold Q old → WhereTold R new
told_where P Q R None None step told before = tt
told_where P Q R None (Some m) step told before = absurd told
told_where P Q R (Some k) None step told before = absurd told
told_where P Q R (Some k) (Some m) step told before = step k m refl refl told before
