-- A commit in three writes: what the root file may be during each, and what it is after all.
use Rattle.std.specs.Prelude.{◌≡◌, ◌≢◌, ◌⊎◌, ℕ, ◌+◌, ◌-◌, ◌<◌, ◌≤◌, List, [], ◌∷◌, ◌++◌, length, get_or, take, drop}
use Rattle.std.proofs.Common.{◌∙◌, sym, ap, subst, inl, inr, arith, take_all, length-drop}
use Rattle.std.proofs.lemmas.Bool.{cases_eq, cases_lt}
use Rattle.std.proofs.lemmas.Grind.{common_steps}
use Rattle.disk_model.specs.Disk.{overlay}
use Rattle.disk_model.specs.Laws.{SameOutside, in_or_out, overlay-torn, overlay-size, overlay-inside, overlay_kept}
use Rattle.root_slots.specs.Each.{part_stays}
use Rattle.root_slots.specs.Slots.{gate, body_offset, body_at, sequence_of, Precedes, Current, HasRoot, Ready, with_root, shut_in, IsInCommit}

-- A byte that was written is there.
pub overlay-byte : (at value : ℕ) (old : List ℕ) → at < length old → get_or (overlay at (value ∷ []) old) at 0 ≡ value
overlay-byte at value old below = grind (arith, common_steps)

-- A byte inside a written range.
overlay-there : (at : ℕ) (bytes old : List ℕ) (i : ℕ) → at ≤ length old → at ≤ i → i < at + length bytes → get_or (overlay at bytes old) i 0 ≡ get_or bytes (i - at) 0
overlay-there at bytes old i inside low high = grind (arith, common_steps)

-- A write to files that differ in a range at most keeps it so.
overlay_outside : (at n to : ℕ) (bytes a b : List ℕ) → to + length bytes ≤ length a → SameOutside at n a b → SameOutside at n (overlay to bytes a) (overlay to bytes b)
overlay_outside at n to bytes a b inside same =
    let size = same.size in
    let there : to ≤ length b = omega (arith, size, inside) in
    record {
      size = overlay-size to bytes b (omega (arith, size, inside)) ∙ (size ∙ sym (overlay-size to bytes a inside));
      bytes = λ i apart. elim (in_or_out to (length bytes) i) [
        | inl in_it ↦ overlay-there to bytes b i there in_it.0 in_it.1 ∙ sym (overlay-there to bytes a i (omega (arith, inside)) in_it.0 in_it.1)
        | inr out ↦ overlay_kept to bytes b i there out ∙ (same.bytes i apart ∙ sym (overlay_kept to bytes a i (omega (arith, inside)) out))
      ];
    }

-- A write of the whole range makes them equal.
pub overlay_same : (at : ℕ) (bytes a b : List ℕ) → SameOutside at (length bytes) a b → overlay at bytes b ≡ overlay at bytes a
overlay_same at bytes a b same =
    let front = part_stays at (length bytes) a b 0 at same (inl (omega arith)) in
    let back = part_stays at (length bytes) a b (at + length bytes) (length a) same (inr (omega arith)) in
    let size = same.size in
    let whole : (l : List ℕ) → length l ≡ length a → take (length a) (drop (at + length bytes) l) ≡ drop (at + length bytes) l =
    λ (l : List ℕ) (is : length l ≡ length a). take_all (length a) (drop (at + length bytes) l) (omega (arith, is, length-drop (at + length bytes) l)) in
    λ i. front i ++ bytes ++ (sym (whole b size) ∙ (back ∙ whole a (omega arith))) i

-- Shutting the gate before leaves no trace.
pub shut_between : (slot : ℕ) (body file : List ℕ) → slot < 2 → length body ≡ 1536 → length file ≡ 4096 → with_root slot body (shut_in slot file) ≡ with_root slot body file
shut_between slot body file low whole size =
    overlay_same slot (1 ∷ []) (overlay (body_offset slot) body file) (overlay (body_offset slot) body (shut_in slot file))
    (overlay_outside slot 1 (body_offset slot) body file (shut_in slot file) (omega (arith, size, whole, low)) (overlay-torn slot (0 ∷ []) file (omega (arith, size, low))))

-- A body outside the range of a write stays.
pub body_stays : (at n slot : ℕ) (a b : List ℕ) → SameOutside at n a b → (body_offset slot + 1536 ≤ at) ⊎ (at + n ≤ body_offset slot) → body_at b slot ≡ body_at a slot
unfolding body_at
body_stays at n slot a b same apart = part_stays at n a b (body_offset slot) 1536 same apart

-- A body that was written is there.
pub body_written : (slot : ℕ) (body file : List ℕ) → length body ≡ 1536 → body_offset slot ≤ length file → body_at (overlay (body_offset slot) body file) slot ≡ body
unfolding body_at
body_written slot body file whole inside = ap (λ (n : ℕ). take n (drop (body_offset slot) (overlay (body_offset slot) body file))) (sym whole) ∙ overlay-inside (body_offset slot) body file inside

-- The other slot of the other slot.
back : (slot : ℕ) → slot < 2 → 1 - (1 - slot) ≡ slot
back slot low = omega arith

-- The gates and the bodies of the two slots are apart.
gates_apart : (slot : ℕ) → slot < 2 → (1 - slot < slot) ⊎ (slot + 1 ≤ 1 - slot)
gates_apart slot low = elim (cases_lt slot 1) [ inl first ↦ inr (omega arith) | inr second ↦ inl (omega arith) ]

bodies_apart : (slot : ℕ) → slot < 2 → (body_offset (1 - slot) + 1536 ≤ body_offset slot) ⊎ (body_offset slot + 1536 ≤ body_offset (1 - slot))
bodies_apart slot low = elim (cases_lt slot 1) [ inl first ↦ inr (omega arith) | inr second ↦ inl (omega arith) ]

-- The current root stays while the other slot is written, unless that becomes the newer one.
current_stays : (at n slot : ℕ) (old a b : List ℕ) → slot < 2 → Current (1 - slot) old a → SameOutside at n a b → (1 - slot < at) ⊎ (at + n ≤ 1 - slot) → (body_offset (1 - slot) + 1536 ≤ at) ⊎ (at + n ≤ body_offset (1 - slot))
    → (gate b slot ≡ 1 → Precedes (body_at b slot) old (1 - slot)) → Current (1 - slot) old b
current_stays at n slot old a b low current same gates bodies newest = record {
  in_range = current.in_range;
  size = same.size ∙ current.size;
  opened = same.bytes (1 - slot) gates ∙ current.opened;
  holds = body_stays at n (1 - slot) a b same bodies ∙ current.holds;
  newest = λ opened. rw (back slot low) (newest (rw (back slot low) at opened));
}

-- While a slot is shut the other one has the current root.
record Shut (slot : ℕ) (old file : List ℕ) : Type 0 where
  current : Current (1 - slot) old file
  shut : gate file slot ≢ 1

-- It stays shut while its body is written.
body_torn : (slot : ℕ) (old a b : List ℕ) → slot < 2 → Shut slot old a → SameOutside (body_offset slot) 1536 a b → Shut slot old b
body_torn slot old a b low s same =
    let still = λ (opened : gate b slot ≡ 1). s.shut (sym (same.bytes slot (inl (omega arith))) ∙ opened) in
    record { current = current_stays (body_offset slot) 1536 slot old a b low s.current same (inl (omega arith)) (bodies_apart slot low) (λ opened. absurd (still opened)); shut = still }

-- What holds of its gate whatever is written there.
gate_torn : (slot : ℕ) (old a b : List ℕ) → slot < 2 → Current (1 - slot) old a → SameOutside slot 1 a b → (gate b slot ≡ 1 → Precedes (body_at a slot) old (1 - slot)) → Current (1 - slot) old b
gate_torn slot old a b low current same newest =
    current_stays slot 1 slot old a b low current same (gates_apart slot low) (inr (omega arith)) (λ opened. rw (body_stays slot 1 slot a b same (inr (omega arith))) (newest opened))

-- A gate that is shut.
shut_gate : (slot : ℕ) (old file : List ℕ) → slot < 2 → Current (1 - slot) old file → Shut slot old (shut_in slot file)
shut_gate slot old file low current =
    let size = current.size in
    let shut = λ (opened : gate (shut_in slot file) slot ≡ 1). (let byte = overlay-byte slot 0 file (omega (arith, size, low)) in absurd (omega (arith, byte, opened))) in
    record { current = gate_torn slot old file (shut_in slot file) low current (overlay-torn slot (0 ∷ []) file (omega (arith, size, low))) (λ opened. absurd (shut opened)); shut = shut }

-- A gate that opens a newer body.
pub raised : (slot : ℕ) (body a b : List ℕ) → slot < 2 → length a ≡ 4096 → body_at a slot ≡ body → (gate a (1 - slot) ≡ 1 → sequence_of (body_at a (1 - slot)) < sequence_of body) → SameOutside slot 1 a b → gate b slot ≡ 1 → Current slot body b
raised slot body a b low size holds older same opened = record {
  in_range = low;
  size = same.size ∙ size;
  opened = opened;
  holds = body_stays slot 1 slot a b same (inr (omega arith)) ∙ holds;
  newest = λ other. inl (rw (body_stays slot 1 (1 - slot) a b same (inr (omega arith))) (older (sym (same.bytes (1 - slot) (gates_apart slot low)) ∙ other)));
}

-- Any byte in the gate of a slot that is ready.
ready_torn : (slot : ℕ) (old a b : List ℕ) → slot < 2 → Ready slot old a → SameOutside slot 1 a b → HasRoot old b
ready_torn slot old a b low ready same = elim (cases_eq (gate b slot) 1) [
  | inl opened ↦ elim ready.other [
    | inl was ↦ keep (λ _. rw (back slot low) at (ready.current.newest (rw (back slot low) was)))
    | inr rest ↦ elim rest [ inl twin ↦ of_twin opened twin | inr lesser ↦ keep (λ _. inl lesser) ]
  ]
  | inr shut ↦ keep (λ opened. absurd (shut opened))
] where
  keep : (gate b slot ≡ 1 → Precedes (body_at a slot) old (1 - slot)) → HasRoot old b
  keep newest = (1 - slot, gate_torn slot old a b low ready.current same newest)

  of_twin : gate b slot ≡ 1 → body_at a slot ≡ old → HasRoot old b
  of_twin opened twin = elim (cases_lt slot 1) [
    | inl first ↦ (
      slot,
      record {
        in_range = low;
        size = same.size ∙ ready.current.size;
        opened = opened;
        holds = body_stays slot 1 slot a b same (inr (omega arith)) ∙ twin;
        newest = λ _. inr (ap sequence_of (body_stays slot 1 (1 - slot) a b same (inr (omega arith)) ∙ ready.current.holds), omega arith);
      },
    )
    | inr second ↦ keep (λ _. inr (ap sequence_of twin, omega arith))
  ]

-- A slot that is shut, and its body is written.
shut_filled : (slot : ℕ) (old body a : List ℕ) → slot < 2 → length body ≡ 1536 → Shut slot old a → Shut slot old (overlay (body_offset slot) body a)
shut_filled slot old body a low whole s =
    let size = s.current.size in
    body_torn slot old a (overlay (body_offset slot) body a) low s
    (subst (λ (n : ℕ). SameOutside (body_offset slot) n a (overlay (body_offset slot) body a)) whole (overlay-torn (body_offset slot) body a (omega (arith, size, whole, low))))

module _ (slot : ℕ) (old body : List ℕ) (low : slot < 2) (newer : sequence_of old < sequence_of body) where
  -- A gate that is opened after the body was written, while the current root was in the other slot.
  opens : (a b : List ℕ) → length body ≡ 1536 → Current (1 - slot) old a → SameOutside slot 1 (overlay (body_offset slot) body a) b → gate b slot ≡ 1 → Current slot body b
  opens a b whole current same opened =
      let size = current.size in
      let filled = overlay (body_offset slot) body a in
      let torn = overlay-torn (body_offset slot) body a (omega (arith, size, whole, low)) in
      let holds : body_at filled (1 - slot) ≡ old = body_stays (body_offset slot) (length body) (1 - slot) a filled torn (rw whole (bodies_apart slot low)) ∙ current.holds in
      raised slot body filled b low (torn.size ∙ size) (body_written slot body a whole (omega (arith, size, low))) (λ _. rw holds newer) same opened

  -- At each moment of a commit the old root or the new one is current.
  pub old_or_new : (a b : List ℕ) → Ready slot old a → IsInCommit slot body a b → HasRoot old b ⊎ HasRoot body b
  old_or_new a b ready (inl first) = inl (ready_torn slot old a b low ready first)
  old_or_new a b ready (inr (inl second)) = inl (1 - slot, (body_torn slot old (shut_in slot a) b low (shut_gate slot old a low ready.current) second.1).current)
  old_or_new a b ready (inr (inr third)) =
      let shut = shut_gate slot old a low ready.current in
      let filled = shut_filled slot old body (shut_in slot a) low third.1 shut in
      elim (cases_eq (gate b slot) 1) [
        | inl opened ↦ inr (slot, opens (shut_in slot a) b third.1 shut.current third.2 opened)
        | inr closed ↦ inl (1 - slot, gate_torn slot old (overlay (body_offset slot) body (shut_in slot a)) b low filled.current third.2 (λ opened. absurd (closed opened)))
      ]

  -- After the commit the new root is current, and the other slot is ready for the next one.
  pub new_current : (a : List ℕ) → length body ≡ 1536 → Ready slot old a → Current slot body (with_root slot body a)
  new_current a whole ready =
      let size = ready.current.size in
      let filled = overlay (body_offset slot) body a in
      let long = overlay-size (body_offset slot) body a (omega (arith, size, whole, low)) in
      opens a (with_root slot body a) whole ready.current (overlay-torn slot (1 ∷ []) filled (omega (arith, long, size, low))) (overlay-byte slot 1 filled (omega (arith, long, size, low)))

  pub other_ready : (a : List ℕ) → length body ≡ 1536 → Ready slot old a → Ready (1 - slot) body (with_root slot body a)
  other_ready a whole ready =
      let size = ready.current.size in
      let long = overlay-size (body_offset slot) body a (omega (arith, size, whole, low)) in
      record {
        current = rw (back slot low) (new_current a whole ready);
        other = inl (overlay_kept slot (1 ∷ []) (overlay (body_offset slot) body a) (1 - slot) (omega (arith, long, size, low)) (gates_apart slot low)
            ∙ (overlay_kept (body_offset slot) body a (1 - slot) (omega (arith, size, low)) (inl (omega arith)) ∙ ready.current.opened));
      }
