-- The tag at the front of a command in two slices.
use Rattle.std.proofs.Common.{◌≡◌, ◌≤◌, ◌<◌, ◌+◌, ◌==◌, ℕ, zero, suc, Bool, true, false, cond, List, [], ◌∷◌, ◌++◌, take, drop, length, eqb, Some, None, Result, is_ok, refl, sym, ap, ◌∙◌, append_assoc, codes, arith}
use Rattle.std.specs.Prelude.{if◌then◌else◌}
use Rattle.std.specs.List.{prefix_len}
use Rattle.std.proofs.lemmas.Bool.Decides.{nat_tests}
use Rattle.std.proofs.lemmas.List.{append-nil, take-append-le, drop-append-le}
use Rattle.std.proofs.Math.Seq.{take-append-add, drop-append-add}
use Rattle.std.proofs.lemmas.List.Folds.{prefix_len-append}
use Rattle.std.proofs.lemmas.List.Sums.{prefix_len-le-length}
use Rattle.arch_model.specs.Archives.{Archive}
use Rattle.edge_io.specs.Phrases.{Says}
use Rattle.edge_io.specs.declared.sink.SinkFault.{SinkFault}
use Rattle.line_door.specs.Acts.{ConnectionState, Memory, Acts, held_if}
use Rattle.line_door.specs.Making.{says, closes}
use Rattle.line_door.proofs.Acting.{acts-by_held, acts-closing}
use Rattle.wire_replies.specs.Blocks.{crlf_line}
use Rattle.imap_words.specs.Kinds.{is_tag_byte}
use Rattle.imap_states.specs.Notices.{bye_memory_line, no_memory_line}
use Rattle.imap_states.specs.declared.state.ImapState.{ImapState}
use Rattle.imap_commands.specs.Laws.{ends_tag, tag_by, readable_tag, memory_reply, MemoryIsTold}
use Rattle.imap_commands.specs.Replies.{command_said}
use Rattle.imap_session.specs.Tags.{is_readable, DividesTag}

not-zero : (n : ℕ) → 0 < n → (n == 0) ≡ false
not-zero n some = grind (arith, nat_tests)

-- The tag of so many octets.
by-len : (len : ℕ) (octets : List ℕ) → len ≤ length octets → tag_by len octets ≡ (if is_readable (take len octets) (drop len octets) then Some (take len octets) else None)
by-len zero octets within = refl
by-len (suc n) [] within = absurd (omega arith)
by-len (suc n) (b ∷ bs) within = ap (λ (t : Bool). if t then None else (if ends_tag (drop (suc n) (b ∷ bs)) then Some (take (suc n) (b ∷ bs)) else None)) (not-zero (suc n) (omega arith))

-- The tag of octets that divide so.
pub tag-divided : (octets tag behind : List ℕ) → DividesTag octets tag behind → readable_tag octets ≡ (if is_readable tag behind then Some tag else None)
tag-divided octets tag behind divides =
    by-len (prefix_len is_tag_byte octets) octets (prefix_len-le-length is_tag_byte octets)
    ∙ sym (ap (λ (x : List ℕ). if is_readable x behind then Some x else None) divides.tag_is
    ∙ ap (λ (x : List ℕ). if is_readable (take (prefix_len is_tag_byte octets) octets) x then Some (take (prefix_len is_tag_byte octets) octets) else None) divides.behind_is)

-- The tag ends in the first slice.
pub divides-first : (held last tag behind : List ℕ) (len : ℕ) → len ≡ prefix_len is_tag_byte held → len < length held → tag ≡ take len held → behind ≡ drop len held → DividesTag (held ++ last) (tag ++ []) (behind ++ last)
divides-first held last tag behind len is less tag_is behind_is =
    let within : len ≤ length held = omega arith in
    let all : prefix_len is_tag_byte (held ++ last) ≡ len = first-len held last len is less in
    record {
      tag_is = append-nil tag ∙ tag_is ∙ sym (take-append-le len held last within) ∙ ap (λ (n : ℕ). take n (held ++ last)) (sym all);
      behind_is = ap (λ (x : List ℕ). x ++ last) behind_is ∙ sym (drop-append-le len held last within) ∙ ap (λ (n : ℕ). drop n (held ++ last)) (sym all);
    }
  where
    first-len : (held last : List ℕ) (len : ℕ) → len ≡ prefix_len is_tag_byte held → len < length held → prefix_len is_tag_byte (held ++ last) ≡ len
    first-len held last len is less =
        let other : eqb (prefix_len is_tag_byte held) (length held) ≡ false = grind (arith, nat_tests) in
        prefix_len-append is_tag_byte held last ∙ ap (λ (t : Bool). cond t (length held + prefix_len is_tag_byte last) (prefix_len is_tag_byte held)) other ∙ sym is

-- All octets of the first slice are of the tag.
pub divides-second : (held last more behind : List ℕ) (len : ℕ) → length held ≤ prefix_len is_tag_byte held → len ≡ prefix_len is_tag_byte last → more ≡ take len last → behind ≡ drop len last → DividesTag (held ++ last) (held ++ more) (behind ++ [])
divides-second held last more behind len full is more_is behind_is =
    let all : prefix_len is_tag_byte (held ++ last) ≡ length held + len = second-len in
    record {
      tag_is = ap (λ (x : List ℕ). held ++ x) more_is ∙ sym (take-append-add held last len) ∙ ap (λ (n : ℕ). take n (held ++ last)) (sym all);
      behind_is = append-nil behind ∙ behind_is ∙ sym (drop-append-add held last len) ∙ ap (λ (n : ℕ). drop n (held ++ last)) (sym all);
    }
  where
    second-len : prefix_len is_tag_byte (held ++ last) ≡ length held + len
    second-len =
        let within = prefix_len-le-length is_tag_byte held in
        let same : eqb (prefix_len is_tag_byte held) (length held) ≡ true = grind (arith, nat_tests) in
        prefix_len-append is_tag_byte held last ∙ ap (λ (t : Bool). cond t (length held + prefix_len is_tag_byte last) (prefix_len is_tag_byte held)) same ∙ ap (λ (n : ℕ). length held + n) (sym is)

-- What is said then.
module _ (memory : MemoryIsTold) (a : Archive) (s : ImapState) (octets tag behind : List ℕ) (i j : ConnectionState) (sent : Result Unit SinkFault) (divides : DividesTag octets tag behind) (kept : j.disk ≡ i.disk) where
  reply-is : (t : Bool) → is_readable tag behind ≡ t → command_said a s octets Memory ≡ memory_reply a s (if t then Some tag else None)
  reply-is t e =
      memory a s octets
      ∙ ap (memory_reply a s) (tag-divided octets tag behind divides)
      ∙ ap (λ (b : Bool). memory_reply a s (if b then Some tag else None)) e

  pub starved-tagged : is_readable tag behind ≡ true → Says (no_memory_line tag) i.out i.lost j.out j.lost sent → Acts (command_said a s octets) i (held_if (is_ok sent) s) a j
  starved-tagged e said =
      acts-by_held (command_said a s octets) Memory (says a s (no_memory_line tag)) i j s a sent (reply-is true e) refl kept (omega (arith, kept)) said refl

  pub starved-untagged : is_readable tag behind ≡ false → Says bye_memory_line i.out i.lost j.out j.lost sent → Acts (command_said a s octets) i None a j
  starved-untagged e said =
      acts-closing (command_said a s octets) Memory (closes a bye_memory_line) i j a sent (reply-is false e) refl kept (omega (arith, kept)) said refl

-- The words after a tag in two slices.
pub starved-words : (tag more : List ℕ) → tag ++ (more ++ (codes " NO " ++ crlf_line (codes "out of memory"))) ≡ no_memory_line (tag ++ more)
starved-words tag more =
    sym (append_assoc (tag ++ more) (codes " NO ") (crlf_line (codes "out of memory")) ∙ append_assoc tag more (codes " NO " ++ crlf_line (codes "out of memory")))
