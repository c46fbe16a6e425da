-- The messages of a range, one after another.
use Rattle.std.proofs.Common.{◌≡◌, ◌+◌, ℕ, List, [], ◌∷◌, ◌++◌, map, Some, None, sym, ap, ◌∙◌, append_assoc, append-nil}
use Rattle.arch_model.specs.Archives.{Archive, live}
use Rattle.shelf_doors.specs.Numbers.{live_in, first_of}
use Rattle.shelf_doors.proofs.Walking.{range-rest, first-none}
use Rattle.pop3_reader.specs.Maildrops.{size_of, sizes_within}
use Rattle.pop3_reader.specs.declared.maildrop.MailSize.{MailSize}

pub sizes-rest : (a : Archive) (at last n : ℕ) (old new all : List MailSize) → first_of (live_in (live a.entries) at last) ≡ Some n → new ≡ old ++ size_of a n ∷ [] → old ++ sizes_within a at last ≡ all → new ++ sizes_within a (n + 1) last ≡ all
unfolding sizes_within
sizes-rest a at last n old new all next pushed so_far =
    ap (λ (x : List MailSize). x ++ sizes_within a (n + 1) last) pushed
    ∙ append_assoc old (size_of a n ∷ []) (sizes_within a (n + 1) last)
    ∙ ap (λ (x : List MailSize). old ++ x) (sym (ap (map (size_of a)) (range-rest (live a.entries) at last n next)))
    ∙ so_far

pub sizes-none : (a : Archive) (at last : ℕ) (new all : List MailSize) → first_of (live_in (live a.entries) at last) ≡ None → new ++ sizes_within a at last ≡ all → new ≡ all
unfolding sizes_within
sizes-none a at last new all none so_far =
    sym (append-nil new) ∙ ap (λ (x : List MailSize). new ++ x) (sym (ap (map (size_of a)) (first-none (live_in (live a.entries) at last) none))) ∙ so_far
