-- A window over a part of a file, as it grows and advances.
use Rattle.std.proofs.Common.{◌≡◌, ℕ, ◌+◌, ◌-◌, ◌≤◌, List, ◌++◌, length, take, drop, refl, sym, ap, ◌∙◌, arith, length-append, length-take, length-drop}
use Rattle.std.proofs.lemmas.List.{append_assoc, drop-take, drop-drop, drop_at}
use Rattle.std.proofs.Math.Seq.{take-add}
use Rattle.epoch_file.specs.declared.window.Part.{Part}
use Rattle.epoch_file.specs.Steps.{left_of}
use Rattle.epoch_file.specs.Windows.{Shows}

-- The number of bytes left of a part that its file has.
pub left-length : (bytes : List ℕ) (part : Part) → part.end ≤ length bytes → length (left_of bytes part) ≡ part.end - part.offset
left-length bytes part whole = omega (arith, whole, length-drop part.offset (take part.end bytes), length-take part.end bytes)

-- A window is no longer than what is left.
pub window-le : (bytes : List ℕ) (part : Part) (window : List ℕ) → Shows bytes part window → part.offset + length window ≤ part.end
window-le bytes part window s = omega (arith, left-length bytes part s.whole, ap length s.is, length-append window s.rest, s.inside)

-- The bytes after those of a window are the next of the part.
next_bytes : (bytes : List ℕ) (part : Part) (window : List ℕ) (s : Shows bytes part window) (n : ℕ) → part.offset + length window + n ≤ part.end
    → s.rest ≡ take n (drop (part.offset + length window) bytes) ++ take (part.end - (part.offset + length window) - n) (drop n (drop (part.offset + length window) bytes))
next_bytes bytes part window s n room =
    let at = part.offset + length window in
    let left = part.end - at in
    let end : at + left ≡ part.end = omega (arith, room) in
    let split : n + (left - n) ≡ left = omega (arith, room) in
    let after : drop (length window) (drop part.offset (take part.end bytes)) ≡ s.rest = ap (drop (length window)) s.is ∙ drop_at window s.rest (length window) refl in
    let cut : drop at (take part.end bytes) ≡ take left (drop at bytes) = ap (λ (e : ℕ). drop at (take e bytes)) (sym end) ∙ drop-take at left bytes in
    sym after ∙ (drop-drop (length window) part.offset (take part.end bytes) ∙ (cut ∙ (ap (λ (m : ℕ). take m (drop at bytes)) (sym split) ∙ take-add n (left - n) (drop at bytes))))

-- A window with the next bytes of the file.
pub shows-more : (bytes : List ℕ) (part : Part) (window chunk : List ℕ) (n : ℕ) → Shows bytes part window → part.offset + length window + n ≤ part.end
    → chunk ≡ take n (drop (part.offset + length window) bytes) → Shows bytes part (window ++ chunk)
shows-more bytes part window chunk n s room is =
    let at = part.offset + length window in
    let rest = take (part.end - at - n) (drop n (drop at bytes)) in record {
      rest = rest;
      is = s.is ∙ (ap (λ (l : List ℕ). window ++ l) (next_bytes bytes part window s n room ∙ ap (λ (l : List ℕ). l ++ rest) (sym is)) ∙ sym (append_assoc window chunk rest));
      whole = s.whole;
      inside = s.inside;
    }

-- A part without its first bytes.
abbrev pub part_after : Part → ℕ → Part
part_after part n = record { file = part.file; offset = part.offset + n; end = part.end }

-- The bytes left of a part without its first bytes.
pub left-after : (bytes : List ℕ) (part : Part) (n : ℕ) → left_of bytes (part_after part n) ≡ drop n (left_of bytes part)
left-after bytes part n = sym (drop-drop n part.offset (take part.end bytes))

-- A window without its first bytes.
pub shows-skip : (bytes : List ℕ) (part : Part) (window front after : List ℕ) → Shows bytes part window → window ≡ front ++ after → Shows bytes (part_after part (length front)) after
shows-skip bytes part window front after s is =
    let room = window-le bytes part window s in
    let whole : left_of bytes part ≡ front ++ (after ++ s.rest) = s.is ∙ (ap (λ (l : List ℕ). l ++ s.rest) is ∙ append_assoc front after s.rest) in record {
      rest = s.rest;
      is = left-after bytes part (length front) ∙ (ap (drop (length front)) whole ∙ drop_at front (after ++ s.rest) (length front) refl);
      whole = s.whole;
      inside = omega (arith, room, ap length is, length-append front after);
    }
