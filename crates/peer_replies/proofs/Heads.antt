-- The head that a parser finds in the first bytes.
use Rattle.std.proofs.Common.{◌≡◌, ◌≢◌, ◌≤◌, ◌-◌, ℕ, Bool, List, ◌++◌, length, take, drop, min, Err, refl, ap, ◌∙◌, arith, length-append, length-take, length-drop}
use Rattle.std.proofs.lemmas.List.{take_min, length-map}
use Rattle.httparse.specs.declared.Error.{Error}
use Rattle.httparse.specs.declared.Error.TheVariants.{HeaderName, HeaderValue, NewLine, Status, Token, TooManyHeaders, Version}
use Rattle.httparse.specs.declared.spans.HeaderSpan.{HeaderSpan}
use Rattle.httparse.specs.declared.spans.ResponseSpans.{ResponseSpans}
use Rattle.httparse.specs.Grammar.{ResponseHead, NeverHasResponse}
use Rattle.httparse.specs.Spans.{ResponseExceeds, ResponseOverflows, IsResponseWithin, IsResponseAt, header_bytes, name_and_value}
use Rattle.peer_replies.specs.Fronts.{Front, Headless, Crowded, HasReplyHead, IsFront}
use Rattle.peer_replies.specs.Readings.{reading_of}
use Rattle.peer_replies.specs.Refusing.{refusal_of}
use Rattle.peer_replies.proofs.FrontLaws.{head-of-front}

-- The first bytes, as the code slices them.
pub first_taken : (n m : ℕ) (bytes : List ℕ) → n ≡ min (length bytes) m → take n bytes ≡ take m bytes
first_taken n m bytes e = let turned : n ≡ min m (length bytes) = omega arith in ap (λ k. take k bytes) turned ∙ take_min m bytes

-- What is found in the first bytes is a head of all bytes.
pub headed-front : (n : ℕ) (bytes : List ℕ) (headers : List HeaderSpan) (spans : ResponseSpans) (head : ResponseHead) → n ≤ 16384 → length headers ≡ 128
    → IsResponseWithin (take n bytes) headers spans → IsResponseAt (take n bytes) headers spans head
    → HasReplyHead bytes head (drop spans.len (take n bytes) ++ drop n bytes)
headed-front n bytes headers spans head most room within at =
    let fits = within.section.len_fits in
    let count = within.section.count_fits in
    let same = ap length at.fields in
    record {
      reads = head-of-front n bytes (drop spans.len (take n bytes)) head at.reads;
      short = omega (arith, fits, at.len, length-take n bytes);
      few = omega (arith, count, same, length-map (take spans.headers headers) (header_bytes (take n bytes)), length-take spans.headers headers, length-map head.fields name_and_value);
    }

-- The number of bytes after a head.
pub after-head : (n start : ℕ) (bytes : List ℕ) → start ≤ length (take n bytes) → length (drop start (take n bytes) ++ drop n bytes) ≡ length bytes - start
after-head n start bytes fits =
    omega (arith, fits, length-append (drop start (take n bytes)) (drop n bytes), length-drop start (take n bytes), length-take n bytes, length-drop n bytes)

-- What an error of the parser says of the first bytes.
pub refused-front : (e : Error) (bytes : List ℕ) (ended : Bool) → (e ≢ TooManyHeaders → NeverHasResponse (take 16384 bytes))
    → ResponseOverflows 128 (take 16384 bytes) → (e ≡ TooManyHeaders → ResponseExceeds 128 (take 16384 bytes))
    → (front : Front) × IsFront bytes front × (Err (refusal_of e) ≡ reading_of front ended)
refused-front TooManyHeaders bytes ended never over many = (Crowded, record { many = many refl; none = over }, refl)
refused-front HeaderName bytes ended never over many = (Headless, never (λ e. absurd (cc)), refl)
refused-front HeaderValue bytes ended never over many = (Headless, never (λ e. absurd (cc)), refl)
refused-front NewLine bytes ended never over many = (Headless, never (λ e. absurd (cc)), refl)
refused-front Status bytes ended never over many = (Headless, never (λ e. absurd (cc)), refl)
refused-front Token bytes ended never over many = (Headless, never (λ e. absurd (cc)), refl)
refused-front Version bytes ended never over many = (Headless, never (λ e. absurd (cc)), refl)
