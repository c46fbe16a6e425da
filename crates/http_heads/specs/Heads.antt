-- The heads of requests (RFC 9112, section 2).
use Rattle.std.specs.Prelude.{ℕ, ◌≤◌, Bool, not, ◌&&◌, ◌||◌, ◌==◌, List, [], length, map, codes}
use Rattle.std.specs.List.{list_any}
use Rattle.std.specs.Str.{bytes_eq, str_eq_ignore_ascii_case}
use Rattle.httparse.specs.Grammar.{RequestHead, ReadsRequest, trim_ows}
use Rattle.httparse.specs.Spans.{name_and_value}
use Rattle.http_heads.specs.declared.head.Request.{Request}
use Rattle.http_heads.specs.Pieces.{pieces_of}

-- The bytes are a whole head of a request, with at most 128 fields and nothing after it.
pub record IsHead (bytes : List ℕ) (head : RequestHead) : Type 0 where
  pub reads : ReadsRequest bytes head []
  pub few : length head.fields ≤ 128

-- The field, a name and a value, says that a body follows the head (RFC 9112, section 6.3). A length
-- of `0` says that none does.
abbrev pub announces_body : List ℕ × List ℕ → Bool
announces_body field =
    str_eq_ignore_ascii_case field.0 (codes "Transfer-Encoding")
    || (str_eq_ignore_ascii_case field.0 (codes "Content-Length") && not (bytes_eq field.1 (codes "0")))

-- The piece of a field's value is the option `close`.
abbrev pub is_close : List ℕ → Bool
is_close piece = str_eq_ignore_ascii_case (trim_ows piece) (codes "close")

-- The field asks that the connection is closed (RFC 9110, section 7.6.1).
abbrev pub asks_close : List ℕ × List ℕ → Bool
asks_close field =
    str_eq_ignore_ascii_case field.0 (codes "Connection") && list_any is_close (pieces_of 44 field.1)

-- What a head asks: by which method, of which target, whether a body is to follow, and whether the
-- connection ends with the reply.
pub record Asked : Type 0 where
  pub method : List ℕ
  pub target : List ℕ
  pub has_body : Bool
  pub closes : Bool

-- What a request says, by its bytes.
abbrev pub shown : Request → Asked
shown request = record {
  method = request.method.now;
  target = request.target.now;
  has_body = request.has_body;
  closes = request.closes;
}

-- What a head asks. Version 1.0 closes the connection (RFC 9112, section 9.3).
abbrev pub asked_of : RequestHead → Asked
asked_of head = record {
  method = head.method;
  target = head.target;
  has_body = list_any announces_body (map name_and_value head.fields);
  closes = head.minor == 0 || list_any asks_close (map name_and_value head.fields);
}
