-- The address of a web server: `HOST:PORT`, or `[V6]:PORT` (RFC 3986, section 3.2).
use Rattle.std.specs.Prelude.{◌≡◌, ◌≢◌, ℕ, ◌<◌, ◌≤◌, Bool, true, false, ◌||◌, ◌==◌, List, [], ◌∷◌, ◌++◌, length, Option, MatchOption}
use Rattle.std.specs.List.{list_all}
use Rattle.std.specs.Char.{is_ascii_alphanumeric, is_ascii_hexdigit}
use Rattle.std.specs.Fmt.{decimal}
use Rattle.peer_replies.specs.declared.address.PeerAddress.{PeerAddress}

-- A byte of a host's name or of its IPv4 address: a letter, a digit, `-`, `.` or `_`.
abbrev pub is_host_byte : ℕ → Bool
is_host_byte b = is_ascii_alphanumeric b || b == 45 || b == 46 || b == 95

-- A byte of an IPv6 address: a hexadecimal digit, `:` or `.`.
abbrev pub is_v6_byte : ℕ → Bool
is_v6_byte b = is_ascii_hexdigit b || b == 58 || b == 46

-- The bytes of a host, in brackets or not.
abbrev pub are_host_bytes : Bool → List ℕ → Bool
are_host_bytes true host = list_all is_v6_byte host
are_host_bytes false host = list_all is_host_byte host

-- The host, in brackets if it is to be.
abbrev pub host_text : Bool → List ℕ → List ℕ
host_text true host = 91 ∷ host ++ 93 ∷ []
host_text false host = host

-- The text of an address.
abbrev pub address_text : PeerAddress → List ℕ
address_text address = host_text address.bracketed address.host.now ++ 58 ∷ decimal address.port

-- A port, from 1 to 65,535.
abbrev pub IsPort : ℕ → Type 0
IsPort port = (1 ≤ port) × (port < 65536)

-- The address has a host, whose bytes are of its kind, and a port.
pub record IsPeerAddress (address : PeerAddress) : Type 0 where
  pub some : 0 < length address.host.now
  pub host : are_host_bytes address.bracketed address.host.now ≡ true
  pub port : IsPort address.port

-- The text is that of the address, or of none.
abbrev pub ReadsAddress : List ℕ → Option PeerAddress → Type 0
ReadsAddress text found = MatchOption found ((a : PeerAddress) → IsPeerAddress a → text ≢ address_text a)
    (λ a. IsPeerAddress a × (text ≡ address_text a))
