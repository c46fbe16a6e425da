-- The replies that a peer will still give, and the paths that it was asked for, if they are told.
use Rattle.std.specs.Prelude.{◌≡◌, ◌⊎◌, ℕ, List, [], ◌∷◌, ◌++◌, Option, Some, None, Result, MatchResult}
use Rattle.edge_io.specs.declared.peer.Reply.{Reply}

-- The reply, followed by those to come. None stays None.
abbrev pub reply_before : Reply → Option (List Reply) → Option (List Reply)
reply_before reply None = None
reply_before reply (Some left) = Some (reply ∷ left)

-- The paths that were asked for, followed by this one. None stays None.
abbrev pub with_path : Option (List (List ℕ)) → List ℕ → Option (List (List ℕ))
with_path None path = None
with_path (Some asked) path = Some (asked ++ path ∷ [])

-- The path was asked for. If the call failed, it was or it wasn't.
abbrev pub AsksPath : {T E : Type 0} → Result T E → List ℕ → Option (List (List ℕ))
    → Option (List (List ℕ)) → Type 0
AsksPath result path old new = MatchResult result (λ _. new ≡ with_path old path)
    (λ _. (new ≡ with_path old path) ⊎ (new ≡ old))
