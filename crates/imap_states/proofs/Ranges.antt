-- The numbers of mailboxes.
use Rattle.std.proofs.Common.{◌≡◌, ◌+◌, ◌-◌, ◌*◌, ◌/◌, ◌<◌, ◌≤◌, ℕ, min, Bool, true, false, List, [], ◌∷◌, ◌++◌, length, Option, Some, None, nat_le, refl, sym, ap, subst, ◌∙◌, arith, if◌then◌else◌}
use Rattle.std.specs.List.{filter, range_with_len}
use Rattle.std.proofs.lemmas.Bool.Decides.{nat_tests}
use Rattle.std.proofs.Math.Nat.{div-mul-le_self, mul-le-mul_right}
use Rattle.arch_model.specs.Archives.{Archive, live}
use Rattle.arch_model.specs.Shelves.{live_between}
use Rattle.arch_model.specs.Validity.{IsArchive}
use Rattle.known_uids.specs.Told.{passing, is_live, live_in}
use Rattle.arch_model.proofs.Purging.{live_climbs}
use Rattle.known_uids.proofs.Counting.{counted}
use Rattle.shelf_doors.specs.Mailboxes.{last_index, mailbox_at, mailbox_named, mailbox_range, range_if, behind_prefix, decimal_after_dot}
use Rattle.shelf_doors.specs.Numbers.{last_number}
use Rattle.shelf_doors.specs.declared.mailbox.MailboxRange.{MailboxRange}

-- There is a mailbox with the index.
at-there : (a : Archive) (named : Option ℕ) (index : ℕ) → mailbox_at a named ≡ Some index → mailbox_at a (Some index) ≡ Some index
at-there a None index is = absurd (cc is)
at-there a (Some other) index is = by (nat_le other (last_index a)) refl is
  where
    by : (t : Bool) → nat_le other (last_index a) ≡ t → (if t then Some other else None) ≡ Some index → mailbox_at a (Some index) ≡ Some index
    by true e found = let same : other ≡ index = cc found in
        subst (λ k. mailbox_at a (Some k) ≡ Some k) same (ap (λ t. if t then Some other else None) e)
    by false e found = absurd (cc found)

pub named-there : (a : Archive) (name : List ℕ) (index : ℕ) → mailbox_named a name ≡ Some index → mailbox_at a (Some index) ≡ Some index
unfolding mailbox_named
named-there a name index is = at-there a _ index is

at-least : (a : Archive) (index : ℕ) → mailbox_at a (Some index) ≡ Some index → index ≤ last_index a
at-least a index is = by (nat_le index (last_index a)) refl is
  where
    by : (t : Bool) → nat_le index (last_index a) ≡ t → (if t then Some index else None) ≡ Some index → index ≤ last_index a
    by true e found = grind (arith, nat_tests, e)
    by false e found = absurd (cc found)

-- The numbers of a mailbox of a valid archive are its own.
pub range-there : (a : Archive) (index : ℕ) → IsArchive a → mailbox_at a (Some index) ≡ Some index
    → (1 ≤ (mailbox_range a index).first) × ((mailbox_range a index).first ≤ (mailbox_range a index).last + 1) × ((mailbox_range a index).last < 4294967295)
range-there a index valid is =
    let slice = a.config.slice in
    let low = valid.config.slice_low in
    let high = valid.config.slice_high in
    let most = valid.next_most in
    let product : index * slice ≤ (a.next - 2) / slice * slice = mul-le-mul_right slice (at-least a index is) in
    let below = div-mul-le_self (a.next - 2) slice in
    (omega arith, omega (arith, low, high, most, product, below), omega (arith, low, high, most, product, below))

-- A shelf counts the live numbers of a range.
pub range-counted : (a : Archive) (first last : ℕ) → IsArchive a → first ≤ last + 1 → live_between (live a.entries) first last ≡ length (live_in a first last)
unfolding passing
range-counted a first last valid order =
    counted 1 (live a.entries) first (last + 1 - first) last (live_climbs 1 0 a.entries valid.order) (omega (arith, order))
