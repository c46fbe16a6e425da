-- What stands at the front of bytes stays there, and is one thing.
use Rattle.std.proofs.Common.{◌≡◌, ◌≢◌, ◌≤◌, ◌+◌, ◌-◌, ℕ, zero, suc, Bool, true, false, nat_lt, nat_le, List, [], ◌∷◌, ◌++◌, length, take, drop, Option, Some, None, Result, Ok, Err, refl, ap, ◌∙◌, subst, arith, append_assoc, length-append}
use Rattle.std.proofs.lemmas.Bool.Decides.{nat_tests}
use Rattle.std.proofs.lemmas.List.{take-append-drop, take-append-le}
use Rattle.std.proofs.Math.Seq.{take-append-add}
use Rattle.httparse.specs.Grammar.{ResponseHead, print_response, ReadsResponse, NeverHasResponse}
use Rattle.httparse.specs.Spans.{ResponseExceeds, ResponseOverflows}
use Rattle.httparse.proofs.GrammarLemmas.{response_unique, ReadsResponse-append}
use Rattle.peer_replies.specs.Fronts.{Headed, Begun, Headless, Long, Crowded, HasReplyHead, HasLongHead, HasManyFields}
use Rattle.peer_replies.specs.Bodies.{body_length}
use Rattle.peer_replies.specs.Readings.{reading_by, KeepsReading, ReadsOneWay}
use Rattle.peer_replies.specs.declared.reading.Reading.TheVariants.{More}
use Rattle.peer_replies.specs.declared.reading.Unreadable.{Unreadable}

-- The first bytes of longer bytes are those of the bytes, and some more.
take-joined : (n : ℕ) (xs ys : List ℕ) → take n (xs ++ ys) ≡ take n xs ++ take (n - length xs) ys
take-joined zero xs ys = let none : 0 - length xs ≡ 0 = omega arith in rw none refl
take-joined (suc n) [] ys = let all : suc n - 0 ≡ suc n = omega arith in rw all refl
take-joined (suc n) (x ∷ xs) ys = let less : suc n - length (x ∷ xs) ≡ n - length xs = omega arith in rw less (ap (λ l. x ∷ l) (take-joined n xs ys))

never-more : (front tail : List ℕ) → NeverHasResponse front → NeverHasResponse (front ++ tail)
never-more front tail never more head rest reads = never (tail ++ more) head rest (subst (λ (b : List ℕ). ReadsResponse b head rest) (append_assoc front tail more) reads)

overflows-more : (room : ℕ) (front tail : List ℕ) → ResponseOverflows room front → ResponseOverflows room (front ++ tail)
overflows-more room front tail over more head rest reads = over (tail ++ more) head rest (subst (λ (b : List ℕ). ReadsResponse b head rest) (append_assoc front tail more) reads)

exceeds-more : (room : ℕ) (bytes tail : List ℕ) → ResponseExceeds room bytes → ResponseExceeds room (bytes ++ tail)
exceeds-more room bytes tail (front, rest, is, head, reads, many) = (front, rest ++ tail, ap (λ b. b ++ tail) is ∙ append_assoc front rest tail, head, reads, many)

-- A head in all bytes is one after whose bytes the others follow, too.
headed-more : (bytes rest more : List ℕ) (head : ResponseHead) → HasReplyHead bytes head rest → HasReplyHead (bytes ++ more) head (rest ++ more)
headed-more bytes rest more head h = record {
  reads = ReadsResponse-append bytes head rest more h.reads;
  short = h.short;
  few = h.few;
}

headless-more : (bytes more : List ℕ) → NeverHasResponse (take 16384 bytes) → NeverHasResponse (take 16384 (bytes ++ more))
headless-more bytes more never = rw (take-joined 16384 bytes more) (never-more (take 16384 bytes) (take (16384 - length bytes) more) never)

long-more : (bytes more : List ℕ) → HasLongHead bytes → HasLongHead (bytes ++ more)
long-more bytes more h = record {
  long = omega (arith, h.long, length-append bytes more);
  none = rw (take-append-le 16384 bytes more h.long) h.none;
}

crowded-more : (bytes more : List ℕ) → HasManyFields bytes → HasManyFields (bytes ++ more)
crowded-more bytes more h = record {
  many = rw (take-joined 16384 bytes more) (exceeds-more 128 (take 16384 bytes) (take (16384 - length bytes) more) h.many);
  none = rw (take-joined 16384 bytes more) (overflows-more 128 (take 16384 bytes) (take (16384 - length bytes) more) h.none);
}

-- More bytes after a head change nothing once something was read.
sized-kept : (whole : Bool) (head : ResponseHead) (len got more : ℕ) (ended : Bool) → nat_le len got ≡ whole
    → reading_by (Ok (Some len)) head got false ≢ Ok More
    → reading_by (Ok (Some len)) head (got + more) ended ≡ reading_by (Ok (Some len)) head got false
sized-kept true head len got more ended e more_wanted = let later : nat_le len (got + more) ≡ true = grind (arith, nat_tests) in rw (e, later) refl
sized-kept false head len got more ended e more_wanted = absurd (more_wanted (rw e refl))

endless-kept : (long : Bool) (head : ResponseHead) (got more : ℕ) (ended : Bool) → nat_lt 268435456 got ≡ long
    → reading_by (Ok None) head got false ≢ Ok More
    → reading_by (Ok None) head (got + more) ended ≡ reading_by (Ok None) head got false
endless-kept true head got more ended e more_wanted = let later : nat_lt 268435456 (got + more) ≡ true = grind (arith, nat_tests) in rw (e, later) refl
endless-kept false head got more ended e more_wanted = absurd (more_wanted (rw e refl))

reading-kept : (said : Result (Option ℕ) Unreadable) (head : ResponseHead) (got more : ℕ) (ended : Bool) → reading_by said head got false ≢ Ok More
    → reading_by said head (got + more) ended ≡ reading_by said head got false
reading-kept (Err why) head got more ended h = refl
reading-kept (Ok (Some len)) head got more ended h = sized-kept (nat_le len got) head len got more ended refl h
reading-kept (Ok None) head got more ended h = endless-kept (nat_lt 268435456 got) head got more ended refl h

pub keeps_reading : KeepsReading
keeps_reading bytes more (Headed head rest) ended h wanted =
    (Headed head (rest ++ more), headed-more bytes rest more head h, ap (λ n. reading_by (body_length head) head n ended) (length-append rest more) ∙ reading-kept (body_length head) head (length rest) (length more) ended wanted)
keeps_reading bytes more Begun ended h wanted = absurd (wanted refl)
keeps_reading bytes more Headless ended h wanted = (Headless, headless-more bytes more h, refl)
keeps_reading bytes more Long ended h wanted = (Long, long-more bytes more h, refl)
keeps_reading bytes more Crowded ended h wanted = (Crowded, crowded-more bytes more h, refl)

-- A head that fits in the first bytes is one of these, and then of the rest of them.
pub head-in-front : (n : ℕ) (bytes rest : List ℕ) (head : ResponseHead) → length (print_response head) ≤ n → ReadsResponse bytes head rest
    → ReadsResponse (take n bytes) head (take (n - length (print_response head)) rest)
head-in-front n bytes rest head short reads =
    let split : n ≡ length (print_response head) + (n - length (print_response head)) = omega arith in
    (reads.0, ap (take n) reads.1 ∙ ap (λ k. take k (print_response head ++ rest)) split ∙ take-append-add (print_response head) rest (n - length (print_response head)))

-- A head in the first bytes is one of all.
pub head-of-front : (n : ℕ) (bytes rest : List ℕ) (head : ResponseHead) → ReadsResponse (take n bytes) head rest → ReadsResponse bytes head (rest ++ drop n bytes)
head-of-front n bytes rest head reads =
    subst (λ (b : List ℕ). ReadsResponse b head (rest ++ drop n bytes)) (take-append-drop n bytes) (ReadsResponse-append (take n bytes) head rest (drop n bytes) reads)

whole-reads : (bytes rest : List ℕ) (head : ResponseHead) → ReadsResponse bytes head rest → ReadsResponse (take 16384 bytes ++ drop 16384 bytes) head rest
whole-reads bytes rest head reads = rw (take-append-drop 16384 bytes) reads

pub reads_one_way : ReadsOneWay
reads_one_way bytes rest head (Headed other after) h k = let same = response_unique bytes other head after rest k.reads h.reads in rw (same.0, same.1) refl
reads_one_way bytes rest head Begun h k = absurd (k.none head rest h.reads)
reads_one_way bytes rest head Headless h k = absurd (k (drop 16384 bytes) head rest (whole-reads bytes rest head h.reads))
reads_one_way bytes rest head Long h k = absurd (k.none head (take (16384 - length (print_response head)) rest) (head-in-front 16384 bytes rest head h.short h.reads))
reads_one_way bytes rest head Crowded h k = let many = k.none (drop 16384 bytes) head rest (whole-reads bytes rest head h.reads) in let few = h.few in absurd (omega (arith, many, few))
