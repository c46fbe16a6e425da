-- Hosts in the texts of addresses.
use Rattle.std.proofs.Common.{◌≡◌, ◌≢◌, ◌<◌, ℕ, Bool, true, false, ◌==◌, List, [], ◌∷◌, ◌++◌, length, drop, Option, Some, None, refl, sym, ap, ◌∙◌, arith, append_assoc}
use Rattle.std.specs.Prelude.{IfSome, IfNone}
use Rattle.std.proofs.lemmas.Bool.Decides.{nat_tests}
use Rattle.std.proofs.lemmas.Bool.{and_parts, true≢false, false≢true}
use Rattle.std.specs.List.{list_all}
use Rattle.std.specs.Fmt.{decimal}
use Rattle.edge_io.specs.Parsing.{LacksByte, Spells}
use Rattle.edge_io.proofs.Dividing.{same_parts}
use Rattle.peer_replies.specs.PeerAddresses.{is_host_byte, is_v6_byte, are_host_bytes, host_text, address_text, IsPeerAddress}
use Rattle.peer_replies.specs.declared.address.PeerAddress.{PeerAddress}

-- A test that a byte passes tells it from one that doesn't.
other-byte : (test : ℕ → Bool) (b c : ℕ) → test b ≡ true → test c ≡ false → (b == c) ≡ false
other-byte test b c passes fails = by_case (b == c) refl where
  by_case : (same : Bool) → (b == c) ≡ same → same ≡ false
  by_case false e = refl
  by_case true e = let is : b ≡ c = grind (arith, nat_tests, e) in absurd (true≢false (sym passes ∙ ap test is ∙ fails))

-- Bytes that all pass a test lack one that doesn't.
passing-lack : (test : ℕ → Bool) (c : ℕ) (bytes : List ℕ) → test c ≡ false → list_all test bytes ≡ true → LacksByte c bytes
passing-lack test c [] fails h = tt
passing-lack test c (b ∷ bytes) fails h =
    let parts = and_parts (test b) (list_all test bytes) h in (other-byte test b c parts.0 fails, passing-lack test c bytes fails parts.1)

-- A name has no colon.
pub name-lacks : (host : List ℕ) → list_all is_host_byte host ≡ true → LacksByte 58 host
name-lacks host h = passing-lack is_host_byte 58 host refl h

-- An address of version 6 has no closing bracket.
pub v6-lacks : (host : List ℕ) → list_all is_v6_byte host ≡ true → LacksByte 93 host
v6-lacks host h = passing-lack is_v6_byte 93 host refl h

tail-is : (x y : ℕ) (xs ys : List ℕ) → x ∷ xs ≡ y ∷ ys → xs ≡ ys
tail-is x y xs ys e = ap (drop 1) e

head-is : (x y : ℕ) (xs ys : List ℕ) → x ∷ xs ≡ y ∷ ys → x ≡ y
head-is x y xs ys e = cc

-- What follows an opening bracket in the text of an address.
pub bracketed-text : (bracketed : Bool) (host digits rest : List ℕ) → 0 < length host → are_host_bytes bracketed host ≡ true
    → 91 ∷ rest ≡ host_text bracketed host ++ 58 ∷ digits → (bracketed ≡ true) × LacksByte 93 host × (rest ≡ host ++ 93 ∷ 58 ∷ digits)
bracketed-text true host digits rest some bytes e =
    (refl, v6-lacks host bytes, tail-is 91 91 rest (host ++ 93 ∷ [] ++ 58 ∷ digits) e ∙ append_assoc host (93 ∷ []) (58 ∷ digits))
bracketed-text false [] digits rest some bytes e = absurd (omega arith)
bracketed-text false (b ∷ host) digits rest some bytes e =
    let first : 91 ≡ b = head-is 91 b rest (host ++ 58 ∷ digits) e in
    let parts = and_parts (is_host_byte b) (list_all is_host_byte host) bytes in
    let passes : is_host_byte 91 ≡ true = ap is_host_byte first ∙ parts.0 in
    absurd (true≢false (sym passes))

-- The text of an address that has no brackets.
pub plain-text : (bracketed : Bool) (host digits text : List ℕ) → bracketed ≡ false → are_host_bytes bracketed host ≡ true
    → text ≡ host_text bracketed host ++ 58 ∷ digits → LacksByte 58 host × (text ≡ host ++ 58 ∷ digits)
plain-text true host digits text is bytes e = absurd (true≢false is)
plain-text false host digits text is bytes e = (name-lacks host bytes, e)

-- The text of an address that has brackets starts with one.
pub starts-bracketed : (bracketed : Bool) (host digits text : List ℕ) → bracketed ≡ true → text ≡ host_text bracketed host ++ 58 ∷ digits
    → (rest : List ℕ) × (text ≡ 91 ∷ rest)
starts-bracketed true host digits text is e = (host ++ 93 ∷ [] ++ 58 ∷ digits, e)
starts-bracketed false host digits text is e = absurd (false≢true is)

-- An address after an opening bracket, as its parts were read.
pub spells-bracketed : (rest host port : List ℕ) (found : Option PeerAddress) → LacksByte 93 host → rest ≡ host ++ 93 ∷ 58 ∷ port
    → IfSome found (λ a. IsPeerAddress a × (a.host.now ≡ host) × (a.bracketed ≡ true) × (port ≡ decimal a.port))
    → IfNone found ((a : PeerAddress) → IsPeerAddress a → a.bracketed ≡ true → a.host.now ≡ host → port ≢ decimal a.port)
    → Spells IsPeerAddress address_text (91 ∷ rest) found
spells-bracketed rest host port (Some a) lacks e some none =
    let whole : 91 ∷ rest ≡ host_text true host ++ 58 ∷ port = ap (λ t. 91 ∷ t) (e ∙ sym (append_assoc host (93 ∷ []) (58 ∷ port))) in
    let with_port : 91 ∷ rest ≡ host_text true host ++ 58 ∷ decimal a.port = whole ∙ ap (λ p. host_text true host ++ 58 ∷ p) some.3 in
    let with_host : 91 ∷ rest ≡ host_text true a.host.now ++ 58 ∷ decimal a.port = with_port ∙ ap (λ h. host_text true h ++ 58 ∷ decimal a.port) (sym some.1) in
    (some.0, with_host ∙ ap (λ b. host_text b a.host.now ++ 58 ∷ decimal a.port) (sym some.2))
spells-bracketed rest host port None lacks e some none = λ x is same.
    let t = bracketed-text x.bracketed x.host.now (decimal x.port) rest is.some is.host same in
    let parts = same_parts 93 rest host (58 ∷ port) x.host.now (58 ∷ decimal x.port) lacks e t.1 t.2 in
    none x is t.0 (sym parts.0) (tail-is 58 58 port (decimal x.port) parts.1)

-- An address without brackets, as its parts were read.
pub spells-plain : (text host port : List ℕ) (found : Option PeerAddress) → text ≡ host ++ 58 ∷ port
    → IfSome found (λ a. IsPeerAddress a × (a.host.now ≡ host) × (a.bracketed ≡ false) × (port ≡ decimal a.port))
    → IfSome found (λ a. IsPeerAddress a × (text ≡ address_text a))
spells-plain text host port (Some a) e some =
    let with_port : text ≡ host ++ 58 ∷ decimal a.port = e ∙ ap (λ p. host ++ 58 ∷ p) some.3 in
    let with_host : text ≡ host_text false a.host.now ++ 58 ∷ decimal a.port = with_port ∙ ap (λ h. h ++ 58 ∷ decimal a.port) (sym some.1) in
    (some.0, with_host ∙ ap (λ b. host_text b a.host.now ++ 58 ∷ decimal a.port) (sym some.2))
spells-plain text host port None e some = tt

pub lacks-plain : (text host port : List ℕ) (found : Option PeerAddress) → LacksByte 58 host → text ≡ host ++ 58 ∷ port
    → IfNone found ((a : PeerAddress) → IsPeerAddress a → a.bracketed ≡ false → a.host.now ≡ host → port ≢ decimal a.port)
    → IfNone found ((a : PeerAddress) → IsPeerAddress a → a.bracketed ≡ false → text ≢ address_text a)
lacks-plain text host port (Some a) lacks e none = tt
lacks-plain text host port None lacks e none = λ x is plain same.
    let t = plain-text x.bracketed x.host.now (decimal x.port) text plain is.host same in
    let parts = same_parts 58 text host port x.host.now (decimal x.port) lacks e t.0 t.1 in
    none x is plain (sym parts.0) parts.1

-- A text that starts with no bracket is an address by its reading without brackets.
pub spells-either : (text : List ℕ) (found : Option PeerAddress) → ((rest : List ℕ) → text ≢ 91 ∷ rest)
    → IfSome found (λ a. IsPeerAddress a × (text ≡ address_text a))
    → IfNone found ((a : PeerAddress) → IsPeerAddress a → a.bracketed ≡ false → text ≢ address_text a)
    → Spells IsPeerAddress address_text text found
spells-either text (Some a) other some none = some
spells-either text None other some none = λ x is same. by_case x is same x.bracketed refl where
  by_case : (x : PeerAddress) → IsPeerAddress x → text ≡ address_text x → (b : Bool) → x.bracketed ≡ b → ⊥
  by_case x is same true e = let t = starts-bracketed x.bracketed x.host.now (decimal x.port) text e same in other t.0 t.1
  by_case x is same false e = none x is e same
