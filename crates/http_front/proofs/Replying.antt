-- The parts of a reply with words.
use Rattle.std.proofs.Common.{◌≡◌, ◌+◌, ℕ, Bool, true, List, [], ◌∷◌, ◌++◌, length, codes, refl, sym, ap, ◌∙◌, arith, append_assoc, length-append}
use Rattle.std.proofs.lemmas.List.{append-nil}
use Rattle.std.specs.Fmt.{decimal}
use Rattle.http_heads.specs.Dates.{reply_date}
use Rattle.http_heads.specs.Replies.{status_words, media_type, line_end, status_lines, body_lines, allow_line, close_line}
use Rattle.http_heads.specs.declared.reply.Body.TheVariants.{Words}
use Rattle.http_heads.specs.declared.reply.Status.{Status}
use Rattle.http_heads.specs.declared.reply.Status.TheVariants.{ServerError}
use Rattle.http_front.specs.Replies.{sent_body, word_of, file_line}

-- Parts one after the other.
abbrev pub parts : List ℕ → List ℕ → List ℕ → ℕ → List ℕ → List ℕ → List ℕ → List ℕ
parts code date kind len allow close body =
    codes "HTTP/1.1 " ++ (code ++ (codes "\r\nDate: " ++ (date ++ (codes "\r\nContent-Type: "
    ++ (kind ++ (codes "\r\nContent-Length: " ++ (decimal len ++ (line_end ++ (allow ++ (close
    ++ (line_end ++ (body ++ []))))))))))))

joined : (p code d date e t kind l len allow close body : List ℕ) → ((p ++ code ++ d ++ date ++ e) ++ (t ++ kind ++ l ++ len ++ e) ++ allow ++ close ++ e) ++ body ≡ p ++ (code ++ (d ++ (date ++ ((e ++ t) ++ (kind ++ (l ++ (len ++ (e ++ (allow ++ (close ++ (e ++ (body ++ []))))))))))))
joined p code d date e t kind l len allow close body = simp (append_assoc, append-nil)

parts-joined : (status : Status) (words : List ℕ) (moment : ℕ) (sends closes : Bool) → word_of status words moment sends closes ≡ parts (status_words status) (reply_date moment) (media_type Words) (length words) (allow_line status) (close_line closes) (sent_body sends words)
unfolding word_of status_lines body_lines
parts-joined status words moment sends closes = joined (codes "HTTP/1.1 ") (status_words status) (codes "\r\nDate: ") (reply_date moment) line_end (codes "Content-Type: ") (media_type Words) (codes "\r\nContent-Length: ") (decimal (length words)) (allow_line status) (close_line closes) (sent_body sends words)

-- A reply with words by its parts.
pub word-parts : (status : Status) (words : List ℕ) (moment : ℕ) (sends closes : Bool) (code date kind allow close body : List ℕ) → code ≡ status_words status → date ≡ reply_date moment → kind ≡ media_type Words → allow ≡ allow_line status → close ≡ close_line closes → body ≡ sent_body sends words
    → word_of status words moment sends closes ≡ parts code date kind (length words) allow close body
word-parts status words moment sends closes code date kind allow close body a b c d e f =
    parts-joined status words moment sends closes
    ∙ ap (λ (x : List ℕ). parts x (reply_date moment) (media_type Words) (length words) (allow_line status) (close_line closes) (sent_body sends words)) (sym a)
    ∙ ap (λ (x : List ℕ). parts code x (media_type Words) (length words) (allow_line status) (close_line closes) (sent_body sends words)) (sym b)
    ∙ ap (λ (x : List ℕ). parts code date x (length words) (allow_line status) (close_line closes) (sent_body sends words)) (sym c)
    ∙ ap (λ (x : List ℕ). parts code date kind (length words) x (close_line closes) (sent_body sends words)) (sym d)
    ∙ ap (λ (x : List ℕ). parts code date kind (length words) allow x (sent_body sends words)) (sym e)
    ∙ ap (λ (x : List ℕ). parts code date kind (length words) allow close x) (sym f)

-- The line of a damaged file, after the parts before it.
abbrev pub line_parts : List ℕ → List ℕ → List ℕ → ℕ → List ℕ → List ℕ → List ℕ → List ℕ → List ℕ → List ℕ
line_parts code date kind len allow close name number offset =
    codes "HTTP/1.1 " ++ (code ++ (codes "\r\nDate: " ++ (date ++ (codes "\r\nContent-Type: "
    ++ (kind ++ (codes "\r\nContent-Length: " ++ (decimal len ++ (line_end ++ (allow ++ (close
    ++ (line_end ++ (codes "damaged " ++ (name ++ (number ++ (codes " " ++ (offset ++ (codes "\n" ++ [])))))))))))))))))

line-joined : (d name number s offset e : List ℕ) → ((d ++ (name ++ number) ++ s ++ offset) ++ e) ++ [] ≡ d ++ (name ++ (number ++ (s ++ (offset ++ (e ++ [])))))
line-joined d name number s offset e = simp (append_assoc, append-nil)

lengths : (d name number s offset e : List ℕ) → length ((d ++ (name ++ number) ++ s ++ offset) ++ e) ≡ length d + length name + length number + length s + length offset + length e
lengths d name number s offset e =
    let a = length-append (d ++ (name ++ number) ++ s ++ offset) e in
    let b = length-append (d ++ (name ++ number) ++ s) offset in
    let c = length-append (d ++ (name ++ number)) s in
    let f = length-append d (name ++ number) in
    let g = length-append name number in
    omega (arith, a, b, c, f, g)

line-length : (name number : List ℕ) (at : ℕ) → length (file_line (name ++ number) at) ≡ length name + length number + length (decimal at) + 10
line-length name number at = let a = lengths (codes "damaged ") name number (codes " ") (decimal at) (10 ∷ []) in omega (arith, a)

-- A reply with the line of a damaged file by its parts.
pub file-parts : (moment at len : ℕ) (name number code date kind allow close offset : List ℕ) → code ≡ status_words ServerError → date ≡ reply_date moment → kind ≡ media_type Words → allow ≡ allow_line ServerError → close ≡ close_line true → offset ≡ decimal at
    → len ≡ length name + length number + length offset + 10 → word_of ServerError (file_line (name ++ number) at) moment true true ≡ line_parts code date kind len allow close name number offset
file-parts moment at len name number code date kind allow close offset a b c d e f g =
    word-parts ServerError (file_line (name ++ number) at) moment true true code date kind allow close (file_line (name ++ number) at) a b c d e refl
    ∙ ap (λ (n : ℕ). parts code date kind n allow close (file_line (name ++ number) at)) (line-length name number at ∙ sym (g ∙ ap (λ (o : List ℕ). length name + length number + length o + 10) f))
    ∙ ap (λ (t : List ℕ). codes "HTTP/1.1 " ++ (code ++ (codes "\r\nDate: " ++ (date ++ (codes "\r\nContent-Type: " ++ (kind ++ (codes "\r\nContent-Length: " ++ (decimal len ++ (line_end ++ (allow ++ (close ++ (line_end ++ t)))))))))))) (line-joined (codes "damaged ") name number (codes " ") (decimal at) (10 ∷ []))
    ∙ ap (λ (o : List ℕ). line_parts code date kind len allow close name number o) (sym f)
