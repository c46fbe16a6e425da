-- One part after the other.
use Rattle.std.proofs.Common.{◌≡◌, ◌∙◌, ◌∷◌, [], ap, refl, Some, List, ℕ, nat_eq, get_or, arith}
use Rattle.arch_base.specs.declared.config.Config.{Config}
use Rattle.disk_model.specs.BigEndian.{rest_is}
use Rattle.root_slots.specs.Spelling.{flag, format_byte}
use Rattle.root_slots.proofs.Reading.{config_parts, config_is, first_byte, second_byte, flag_read, some_is, none_isnt}
use Rattle.root_slots.proofs.parts.config.Goals as goal

pub returns-in-Some-clause-read : goal.returns-in-Some-clause-read
returns-in-Some-clause-read c = λ s rest named valid is.
    let bytes = c.args.bytes.now in
    let parts = config_parts bytes rest s is in
    let high = valid.limit_high in
    let mirror : nat_eq (get_or c.split_at.result.0.now 1 0) 1 ≡ s.mirror = ap (λ (l : List ℕ). nat_eq (get_or l 1 0) 1) c.split_at.ensures.front ∙ (ap (λ (n : ℕ). nat_eq n 1) (second_byte bytes _ (format_byte s.form) (flag s.mirror) parts) ∙ flag_read s.mirror) in
    let form = c.form_by-form.ensures s.form (ap (λ (l : List ℕ). get_or l 0 0) c.split_at.ensures.front ∙ first_byte bytes _ (format_byte s.form) (flag s.mirror) parts) in
    let text = c.name-name.ensures.read s.name _ named (c.split_at.ensures.back ∙ rest_is 2 bytes (format_byte s.form ∷ flag s.mirror ∷ []) _ refl parts) in
    let limit = c.number64-limit.ensures.read s.limit _ (omega (arith, valid.limit_high)) text.1 in
    let slice = c.number32-slice.ensures.read s.slice _ (omega (arith, valid.slice_high)) limit.1 in
    let most = c.number32-max.ensures.read s.max _ (omega (arith, valid.max_high)) slice.1 in
    let born = c.number32-born.ensures.read s.born rest (omega (arith, valid.born_high)) most.1 in
    (ap (λ (x : Config). Some x) (config_is _ s (some_is c.name-name.result.0 c.in-Some.name s.name c.in-Some.is text.0) limit.0 slice.0 most.0 mirror born.0 form), born.1)

pub returns-in-None-clause-read : goal.returns-in-None-clause-read
returns-in-None-clause-read c = λ s rest named valid is.
    let bytes = c.args.bytes.now in
    let parts = config_parts bytes rest s is in
    let text = c.name-name.ensures.read s.name _ named (c.split_at.ensures.back ∙ rest_is 2 bytes (format_byte s.form ∷ flag s.mirror ∷ []) _ refl parts) in
    absurd (none_isnt c.name-name.result.0 s.name c.in-None.is text.0)
