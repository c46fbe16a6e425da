-- Made ids are ids, differ, and are the own ids of texts that start with them.
use Rattle.std.proofs.Common.{◌≡◌, ◌+◌, ◌*◌, ◌/◌, ◌%◌, ◌^◌, ◌≤◌, ◌<◌, ℕ, suc, true, List, [], ◌∷◌, ◌++◌, length, drop, get_or, codes, decimal, slice_index, Some, refl, ap, arith, length-append}
use Rattle.std.specs.List.{AllPass}
use Rattle.std.proofs.lemmas.Bool.Decides.{nat_tests}
use Rattle.std.proofs.lemmas.List.{append_cancel_left, append_cancel_right}
use Rattle.std.proofs.lemmas.List.Sums.{AllPass-from_list_all}
use Rattle.std.proofs.lemmas.List.Elements.{All-nil, All-cons, All-append}
use Rattle.std.proofs.lemmas.Fmt.{decimal_injective, decimal_by_steps, length-decimal-le}
use Rattle.sha1.specs.Sha1.{sha1}
use Rattle.hex.specs.Hex.{encode_lower, encode_with, lower_digits}
use Rattle.arch_base.specs.Names.{IsArchiveName, is_name_byte}
use Rattle.arch_base.specs.declared.ids.Form.TheVariants as form
use Rattle.mail_reader.specs.Ids.{is_id_byte, own_id}
use Rattle.mail_reader.specs.Laws.{IsMessageId}
use Rattle.mail_reader.proofs.IdLines.{id_in_front, passed_id_byte}
use Rattle.git_objects.proofs.ObjectIds.{IsObjectId-id_of}
use Rattle.arch_model.specs.Candidates.{made_inside, id_with, made_id, with_made}

abbrev pub IdBytes : List ℕ → Type 0
IdBytes bytes = AllPass is_id_byte bytes

digit_at : (n : ℕ) → n < 16 → is_id_byte (slice_index lower_digits n) ≡ true
digit_at n h = AllPass-from_list_all is_id_byte lower_digits refl n 0 h

digits_pass : (xs : List ℕ) → ((k : ℕ) → slice_index xs k < 256) → IdBytes (encode_with lower_digits xs)
unfolding encode_with
digits_pass [] h = All-nil (λ x. is_id_byte x ≡ true)
digits_pass (b ∷ xs) h =
    let byte : b < 256 = h 0 in
    All-cons (λ x. is_id_byte x ≡ true) (slice_index lower_digits (b / 16)) (slice_index lower_digits (b % 16) ∷ encode_with lower_digits xs) (digit_at (b / 16) (omega arith))
    (All-cons (λ x. is_id_byte x ≡ true) (slice_index lower_digits (b % 16)) (encode_with lower_digits xs) (digit_at (b % 16) (omega arith)) (digits_pass xs (λ k. h (suc k))))

digits_length : (xs : List ℕ) → length (encode_with lower_digits xs) ≡ 2 * length xs
unfolding encode_with
digits_length [] = refl
digits_length (b ∷ xs) = omega (arith, digits_length xs)

name_byte : (c : ℕ) → is_name_byte c ≡ true → is_id_byte c ≡ true
name_byte c h = grind (arith, nat_tests, h)

name_passes : (name : List ℕ) → IsArchiveName name → IdBytes name
name_passes name is = λ k d within. name_byte (get_or name k d) (is.bytes k d within)

low_digit : (n : ℕ) → n < 10 → is_id_byte (48 + n) ≡ true
low_digit n h = grind (arith, nat_tests, h)

decimal_passes : (n : ℕ) → n < 2 ^ 64 → IdBytes (decimal n)
decimal_passes = decimal_by_steps (λ n ds. IdBytes ds) (λ n l. All-cons (λ x. is_id_byte x ≡ true) (48 + n) [] (low_digit n l) (All-nil (λ x. is_id_byte x ≡ true)))
    (λ n ds h p. All-append (λ x. is_id_byte x ≡ true) ds ((48 + n % 10) ∷ []) p (All-cons (λ x. is_id_byte x ≡ true) (48 + n % 10) [] (low_digit (n % 10) (omega arith)) (All-nil (λ x. is_id_byte x ≡ true))))

abbrev end_word : List ℕ
end_word = codes ".invalid"

end_passes : IdBytes end_word
end_passes = AllPass-from_list_all is_id_byte end_word refl

inside_length : (digits : List ℕ) (k : ℕ) (name : List ℕ) → length (made_inside digits k name) ≡ length digits + length (decimal k) + length name + 10
inside_length digits k name = omega (arith, length-append digits ((46 ∷ decimal k) ++ ((64 ∷ name) ++ end_word)), length-append (46 ∷ decimal k) ((64 ∷ name) ++ end_word), length-append (64 ∷ name) end_word)

-- A made id without its brackets is short: a SHA-1 has 40 digits, a count at most 20 and a name at
-- most 64 bytes.
inside-short : (name text : List ℕ) (k : ℕ) → IsArchiveName name → k < 2 ^ 64 → length (made_inside (encode_lower (sha1 text)) k name) ≤ 134
inside-short name text k is small =
    let id = IsObjectId-id_of form.Sha1 text in
    let digits : List ℕ = encode_lower (sha1 text) in
    let some : length digits ≡ 2 * length (sha1 text) = digits_length (sha1 text) in
    let twenty : length (sha1 text) ≡ 20 = id.len in
    let short : length (decimal k) ≤ 20 = length-decimal-le 20 k (omega arith) (omega arith) small in
    let name_short : length name ≤ 64 = is.short in
    omega (arith, inside_length digits k name, some, twenty, short, name_short)

-- A made id is short.
pub made-length : (name text : List ℕ) (k : ℕ) → IsArchiveName name → k < 2 ^ 64 → length (made_id name text k) ≤ 136
unfolding id_with
made-length name text k is small = omega (arith, inside-short name text k is small, length-append (made_inside (encode_lower (sha1 text)) k name) (62 ∷ []))

-- A made id is an id.
pub made-IsMessageId : (name text : List ℕ) (k : ℕ) → IsArchiveName name → k < 2 ^ 64 → IsMessageId (made_id name text k)
unfolding id_with
made-IsMessageId name text k is small =
    let P = λ (x : ℕ). is_id_byte x ≡ true in
    let digits : List ℕ = encode_lower (sha1 text) in
    let id = IsObjectId-id_of form.Sha1 text in
    let some : length digits ≡ 2 * length (sha1 text) = digits_length (sha1 text) in
    let twenty : length (sha1 text) ≡ 20 = id.len in
    let whole : length (made_inside digits k name) ≡ length digits + length (decimal k) + length name + 10 = inside_length digits k name in
    let passes : IdBytes (made_inside digits k name) =
    All-append P digits ((46 ∷ decimal k) ++ ((64 ∷ name) ++ end_word)) (digits_pass (sha1 text) id.bytes)
    (All-append P (46 ∷ decimal k) ((64 ∷ name) ++ end_word) (All-cons P 46 (decimal k) refl (decimal_passes k small))
    (All-append P (64 ∷ name) end_word (All-cons P 64 name refl (name_passes name is)) end_passes)) in
    record {
      inside = made_inside digits k name;
      is = refl;
      some = omega (arith, whole, some, twenty);
      short = omega (arith, inside-short name text k is small);
      bytes = λ i d within. passed_id_byte (get_or (made_inside digits k name) i d) (passes i d within);
    }

-- The own id of a text with a made id at the front is that id.
pub made-own : (name text : List ℕ) (k : ℕ) → IsArchiveName name → k < 2 ^ 64 → own_id (with_made name text k) ≡ Some (made_id name text k)
made-own name text k is small = id_in_front text (made_id name text k) (made-IsMessageId name text k is small)

counts_once : (digits rest : List ℕ) (j k : ℕ) → j < 2 ^ 64 → k < 2 ^ 64 → digits ++ ((46 ∷ decimal j) ++ rest) ≡ digits ++ ((46 ∷ decimal k) ++ rest) → j ≡ k
counts_once digits rest j k a b e =
    let tails : (46 ∷ decimal j) ++ rest ≡ (46 ∷ decimal k) ++ rest = append_cancel_left digits ((46 ∷ decimal j) ++ rest) ((46 ∷ decimal k) ++ rest) e in
    let counts : 46 ∷ decimal j ≡ 46 ∷ decimal k = append_cancel_right (46 ∷ decimal j) (46 ∷ decimal k) rest tails in
    decimal_injective j k a b (ap (drop 1) counts)

-- Made ids of different counts differ.
pub made-once : (name text : List ℕ) (j k : ℕ) → j < 2 ^ 64 → k < 2 ^ 64 → made_id name text j ≡ made_id name text k → j ≡ k
unfolding id_with
made-once name text j k a b e = counts_once (encode_lower (sha1 text)) ((64 ∷ name) ++ end_word) j k a b (append_cancel_right (made_inside (encode_lower (sha1 text)) j name) (made_inside (encode_lower (sha1 text)) k name) (62 ∷ []) (ap (drop 1) e))
