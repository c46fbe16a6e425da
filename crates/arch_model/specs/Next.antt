-- Whether a session continues.
use Rattle.std.specs.Prelude.{Bool, true, false}
use Rattle.arch_model.specs.declared.next.Next.{Next}
use Rattle.arch_model.specs.declared.next.Next.TheVariants.{Go, Close}

-- The session continues.
abbrev pub continues : Next → Bool
continues Go = true
continues Close = false
