-- The requests of a mirror (RFC 9112, sections 2 and 3).
use Rattle.std.specs.Prelude.{◌≡◌, ℕ, ◌&&◌, ◌==◌, Bool, true, List, [], ◌∷◌, ◌++◌, codes, slice_index, map}
use Rattle.std.specs.List.{list_all}
use Rattle.std.specs.Char.{is_ascii_graphic}
use Rattle.httparse.specs.Grammar.{RequestHead, ReadsRequest}
use Rattle.httparse.specs.Spans.{name_and_value}

-- The path starts with a slash, and each byte is a visible one of ASCII.
abbrev pub is_target : List ℕ → Bool
is_target path = slice_index path 0 == 47 && list_all is_ascii_graphic path

-- The request for a path of the server that an authority names.
unfoldable pub request_text : List ℕ → List ℕ → List ℕ
request_text authority path =
    codes "GET " ++ path ++ codes " HTTP/1.1\r\nHost: " ++ authority
    ++ codes "\r\nAccept-Encoding: identity\r\nConnection: keep-alive\r\n\r\n"

-- The head is that of a request for the path, with these fields.
pub record IsRequestFor (authority path : List ℕ) (head : RequestHead) : Type 0 where
  pub method : head.method ≡ codes "GET"
  pub target : head.target ≡ path
  pub minor : head.minor ≡ 1
  pub fields : map name_and_value head.fields ≡ (codes "Host", authority)
      ∷ (codes "Accept-Encoding", codes "identity") ∷ (codes "Connection", codes "keep-alive") ∷ []

-- The bytes of a request are those of such a head, and nothing after it.
abbrev pub AsksTarget : Type 0
AsksTarget = (authority path : List ℕ) → is_target path ≡ true
    → list_all is_ascii_graphic authority ≡ true
    → (head : RequestHead) × ReadsRequest (request_text authority path) head []
    × IsRequestFor authority path head
