-- The lines of a commit's content, one after the other.
use Rattle.std.proofs.Common.{◌≡◌, ◌≢◌, ℕ, List, [], ◌∷◌, ◌++◌, codes, get_or, Option, Some, None, MatchOption, Bor, refl, sym, ap, ◌∙◌, arith}
use Rattle.std.specs.Prelude.{ℤ, pos, negsuc}
use Rattle.std.specs.Fmt.{decimal}
use Rattle.std.specs.Int.RustNames.{unsigned_abs}
use Rattle.std.proofs.lemmas.List.{append_assoc, append_cancel_left}
use Rattle.hex.specs.Hex.{encode_lower}
use Rattle.arch_base.specs.declared.ids.Form.{Form}
use Rattle.arch_base.specs.declared.ids.ObjectId.{ObjectId}
use Rattle.arch_base.specs.Ids.{id_bytes}
use Rattle.git_objects.specs.declared.commits.Commit.{Commit}
use Rattle.git_objects.specs.Fronts.{NoByte}
use Rattle.git_objects.specs.Commits.{IsCommit, commit_content, hex_line, parent_line, number_part, text_part, zone_text, clock}
use Rattle.git_objects.proofs.Splitting.{NoByte-append}
use Rattle.git_objects.proofs.HexLines.{NoByte-hex}
use Rattle.git_objects.proofs.Numbers.{NoByte-decimal}
use Rattle.git_objects.proofs.Texts.{NoByte-clean}

-- The bytes after the moment.
abbrev pub after_moment : Commit → List ℕ
after_moment c = codes "+0000\n\n" ++ text_part 10 c.subject []

-- The moment and what follows it.
abbrev pub number_on : Commit → List ℕ
number_on c = number_part 32 c.committed (after_moment c)

-- The committer's line and what follows it.
abbrev pub committer_on : Commit → List ℕ
committer_on c = codes "committer piv2 <piv2@localhost> " ++ number_on c

-- The author's line after its first word, before what follows it.
abbrev pub person : Commit → List ℕ → List ℕ
person c rest = c.author ++ 32 ∷ 60 ∷ (c.email ++ 62 ∷ 32 ∷ (decimal c.secs ++ 32 ∷ zone_text c.zone rest))

-- The lines after the one of the tree.
abbrev pub after_tree : Commit → List ℕ
after_tree c = parent_line c.parent (codes "author " ++ person c (10 ∷ committer_on c))

-- The line of the tree without its line feed.
abbrev pub tree_text : Commit → List ℕ
tree_text c = codes "tree " ++ encode_lower (id_bytes c.tree)

-- The first line is that of the tree.
pub tree_first : (c : Commit) (content : List ℕ) → content ≡ commit_content c → content ≡ tree_text c ++ 10 ∷ after_tree c
tree_first c content is = is ∙ sym (append_assoc (codes "tree ") (encode_lower (id_bytes c.tree)) (10 ∷ after_tree c))

pub NoByte-tree : (c : Commit) → NoByte 10 (tree_text c)
NoByte-tree c = NoByte-append 10 (codes "tree ") (encode_lower (id_bytes c.tree)) (λ e. omega (arith, e), (λ e. omega (arith, e), (λ e. omega (arith, e), (λ e. omega (arith, e), (λ e. omega (arith, e), tt))))) (NoByte-hex 10 c.tree (omega arith) (omega arith))

-- No byte of a time zone is a line feed.
NoByte-clock : (minutes : ℕ) → NoByte 10 (clock minutes [])
NoByte-clock minutes = (λ e. omega (arith, e), (λ e. omega (arith, e), (λ e. omega (arith, e), (λ e. omega (arith, e), tt))))

NoByte-zone : (zone : ℤ) → NoByte 10 (zone_text zone [])
NoByte-zone (pos n) = (λ e. omega (arith, e), NoByte-clock (unsigned_abs (pos n)))
NoByte-zone (negsuc n) = (λ e. omega (arith, e), NoByte-clock (unsigned_abs (negsuc n)))

-- Nor is one of the author's line.
NoByte-person : {form : Form} (c : Commit) → IsCommit form c → NoByte 10 (person c [])
NoByte-person c valid =
    let zone = zone_text c.zone [] in
    let digits = decimal c.secs ++ 32 ∷ zone in
    let time : NoByte 10 digits = NoByte-append 10 (decimal c.secs) (32 ∷ zone) (NoByte-decimal 10 c.secs (omega arith) valid.secs) (λ e. omega (arith, e), NoByte-zone c.zone) in
    let email : NoByte 10 (c.email ++ 62 ∷ 32 ∷ digits) = NoByte-append 10 c.email (62 ∷ 32 ∷ digits) (NoByte-clean 10 c.email refl valid.email) (λ e. omega (arith, e), (λ e. omega (arith, e), time)) in
    NoByte-append 10 c.author (32 ∷ 60 ∷ (c.email ++ 62 ∷ 32 ∷ digits)) (NoByte-clean 10 c.author refl valid.author) (λ e. omega (arith, e), (λ e. omega (arith, e), email))

-- The author's line without its line feed.
abbrev pub author_text : Commit → List ℕ
author_text c = codes "author " ++ person c []

pub NoByte-author : {form : Form} (c : Commit) → IsCommit form c → NoByte 10 (author_text c)
NoByte-author c valid = NoByte-append 10 (codes "author ") (person c []) (λ e. omega (arith, e), (λ e. omega (arith, e), (λ e. omega (arith, e), (λ e. omega (arith, e), (λ e. omega (arith, e), (λ e. omega (arith, e), (λ e. omega (arith, e), tt))))))) (NoByte-person c valid)

-- The author's line before what follows it.
person_first : (c : Commit) (rest : List ℕ) → person c [] ++ rest ≡ person c rest
person_first c rest =
    let digits = decimal c.secs ++ 32 ∷ zone_text c.zone [] in
    let digits_on = decimal c.secs ++ 32 ∷ zone_text c.zone rest in
    let time : digits ++ rest ≡ digits_on = append_assoc (decimal c.secs) (32 ∷ zone_text c.zone []) rest in
    let email : (c.email ++ 62 ∷ 32 ∷ digits) ++ rest ≡ c.email ++ 62 ∷ 32 ∷ digits_on =
    append_assoc c.email (62 ∷ 32 ∷ digits) rest ∙ ap (λ (l : List ℕ). c.email ++ 62 ∷ 32 ∷ l) time in
    append_assoc c.author (32 ∷ 60 ∷ (c.email ++ 62 ∷ 32 ∷ digits)) rest ∙ ap (λ (l : List ℕ). c.author ++ 32 ∷ 60 ∷ l) email

pub author_first : (c : Commit) (bytes : List ℕ) → bytes ≡ codes "author " ++ person c (10 ∷ committer_on c) → bytes ≡ author_text c ++ 10 ∷ committer_on c
author_first c bytes is =
    is ∙ (ap (λ (l : List ℕ). codes "author " ++ l) (sym (person_first c (10 ∷ committer_on c))) ∙ sym (append_assoc (codes "author ") (person c []) (10 ∷ committer_on c)))

-- The lines of parent and author start with different bytes.
words_apart : (bytes x y : List ℕ) → bytes ≡ codes "parent " ++ x → bytes ≡ codes "author " ++ y → ⊥
words_apart bytes x y parent author =
    let heads : 112 ≡ 97 = ap (λ (l : List ℕ). get_or l 0 0) (sym parent ∙ author) in
    omega (arith, heads)

-- What is found after a line of the parent.
abbrev pub IsLeft : Option (Bor (List ℕ)) → List ℕ → Type 0
IsLeft found rest = MatchOption found ⊥ (λ bytes. bytes.now ≡ rest)

pub parent_there : (bytes id : List ℕ) (found : Option (Bor (List ℕ))) → bytes ≡ codes "parent " ++ id → ((line rest : List ℕ) → NoByte 10 line → id ≡ line ++ 10 ∷ rest → IsLeft found rest)
    → (parent : Option ObjectId) (rest : List ℕ) → bytes ≡ parent_line parent (codes "author " ++ rest) → IsLeft found (codes "author " ++ rest)
parent_there bytes id found here after None rest is = absurd (words_apart bytes id rest here is)
parent_there bytes id found here after (Some parent) rest is =
    after (encode_lower (id_bytes parent)) (codes "author " ++ rest) (NoByte-hex 10 parent (omega arith) (omega arith)) (append_cancel_left (codes "parent ") id (hex_line parent (codes "author " ++ rest)) (sym here ∙ is))

-- Where there is none, the author's line comes first.
pub parent_missing : (bytes : List ℕ) → ((rest : List ℕ) → bytes ≢ codes "parent " ++ rest) → (parent : Option ObjectId) (rest : List ℕ) → bytes ≡ parent_line parent (codes "author " ++ rest)
    → bytes ≡ codes "author " ++ rest
parent_missing bytes none None rest is = is
parent_missing bytes none (Some parent) rest is = absurd (none (hex_line parent (codes "author " ++ rest)) is)

-- The number after the committer's word.
pub number_there : (c : Commit) (bytes rest : List ℕ) → bytes ≡ codes "committer piv2 <piv2@localhost> " ++ rest → bytes ≡ committer_on c → rest ≡ number_on c
number_there c bytes rest here is = append_cancel_left (codes "committer piv2 <piv2@localhost> ") rest (number_on c) (sym here ∙ is)
