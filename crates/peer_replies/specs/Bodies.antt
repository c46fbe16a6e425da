-- The length of the body of a reply (RFC 9112, section 6.3), and whether the connection stays (section
-- 9.3). A field is its name and its value without the white space around it.
use Rattle.std.specs.Prelude.{ℕ, Bool, not, ◌&&◌, ◌||◌, ◌==◌, nat_lt, nat_le, if◌then◌else◌, List, [], ◌∷◌, length, map, codes, Option, Some, None, Result, Ok, Err}
use Rattle.std.specs.List.{list_any}
use Rattle.std.specs.Str.{str_eq_ignore_ascii_case, all_ascii_digits}
use Rattle.arch_base.specs.Decimals.{read_on}
use Rattle.httparse.specs.Grammar.{ResponseHead, status_code}
use Rattle.httparse.specs.Spans.{name_and_value}
use Rattle.peer_replies.specs.declared.reading.Unreadable.{Unreadable}
use Rattle.peer_replies.specs.declared.reading.Unreadable.TheVariants.{Coded, BadLength, LongBody}

-- Replies with the status never have a body.
abbrev pub is_bodiless : ℕ → Bool
is_bodiless status = (nat_le 100 status && nat_lt status 200) || status == 204 || status == 304

-- The field says that the body is in a transfer coding.
abbrev pub is_coding : List ℕ × List ℕ → Bool
is_coding field = str_eq_ignore_ascii_case field.0 (codes "Transfer-Encoding")

-- The field has an option of the connection other than `keep-alive`. `close` is one (RFC 9110, section
-- 7.6.1).
abbrev pub may_close : List ℕ × List ℕ → Bool
may_close field =
    str_eq_ignore_ascii_case field.0 (codes "Connection")
    && not (str_eq_ignore_ascii_case field.1 (codes "keep-alive"))

-- The values of the fields `Content-Length`, in order.
abbrev pub lengths_in : List (List ℕ × List ℕ) → List (List ℕ)
lengths_in [] = []
lengths_in (field ∷ fields) = if str_eq_ignore_ascii_case field.0 (codes "Content-Length")
    then field.1 ∷ lengths_in fields else lengths_in fields

-- The length that a value spells: digits, of at most 268,435,456 (RFC 9110, section 8.6).
abbrev pub length_of : List ℕ → Result ℕ Unreadable
length_of value = if nat_lt 0 (length value) && all_ascii_digits value
    then (if nat_lt 268435456 (read_on 0 value) then Err LongBody else Ok (read_on 0 value))
    else Err BadLength

-- The length, if there is one.
abbrev pub some_length : Result ℕ Unreadable → Result (Option ℕ) Unreadable
some_length (Ok len) = Ok (Some len)
some_length (Err why) = Err why

-- The length that values of `Content-Length` give, or None without one. Several are refused.
abbrev pub length_said : List (List ℕ) → Result (Option ℕ) Unreadable
length_said [] = Ok None
length_said (value ∷ []) = some_length (length_of value)
length_said (value ∷ other ∷ values) = Err BadLength

-- The length of the body after a head with a status and fields. None: it lasts to the end of the
-- connection.
abbrev pub framed : ℕ → List (List ℕ × List ℕ) → Result (Option ℕ) Unreadable
framed status fields = if is_bodiless status then Ok (Some 0)
    else if list_any is_coding fields then Err Coded else length_said (lengths_in fields)

-- The length of the body after a head.
abbrev pub body_length : ResponseHead → Result (Option ℕ) Unreadable
body_length head = framed (status_code head) (map name_and_value head.fields)

-- The connection stays open after a reply with this head, whose body's length is known: it is of
-- HTTP/1.1, and no field has an option other than `keep-alive`.
abbrev pub stays_open : ResponseHead → Bool
stays_open head = head.minor == 1 && not (list_any may_close (map name_and_value head.fields))
