-- The search finds the record of the number, and its message is at the same index of the places.
use Rattle.std.proofs.Common.{◌≡◌, ◌∙◌, ℕ, List, Some, length, arith, rules, sym, ap, subst}
use Rattle.std.specs.Prelude.{nat_lt, slice_get}
use Rattle.std.proofs.lemmas.List.Sorted.{IsPartitionPoint-from_clause}
use Rattle.std.proofs.lemmas.Option.{slice_get-get_or}
use Rattle.number_map.specs.declared.line.Record.{Record}
use Rattle.store_finding.specs.declared.entries.StoredEntry.{StoredEntry}
use Rattle.store_finding.specs.Joined.{IsMessageOf, IsRecorded, JoinedEntries, NumbersRise}
use Rattle.store_finding.proofs.Recorded.{IsPoint, found_blob, found_message, parted, place_within, point_within}
use Rattle.store_finding.proofs.joining.Joining.message.Goals as goal

pub index-place-requires : goal.index-place-requires
index-place-requires c =
    let v : JoinedEntries = record { records = c.self.inside.records.items; entries = c.self.inside.entries.items } in
    let joining = c.self.invariant.3 in
    let of = subst (λ (w : JoinedEntries). (line : Record) × IsRecorded w c.args.number line) (sym c.self.view_is) c.requires in
    let rise : NumbersRise c.deref.result.now = subst NumbersRise (sym c.deref.ensures.value) joining.rise in
    let point : IsPoint c.deref.result.now c.args.number c.partition_point-at.result =
    IsPartitionPoint-from_clause (λ (r : Record). nat_lt r.number c.args.number) _ _ c.partition_point-at.ensures.partitioned (parted c.deref.result.now c.args.number rise) (λ a r q k. search rules) in
    let within = point_within v c.self.inside.places.items c.self.inside.index c.args.number c.partition_point-at.result of.0 joining c.self.invariant.2 of.1 (subst (λ (l : List Record). IsPoint l c.args.number c.partition_point-at.result) c.deref.ensures.value point) in
    let long : c.self.inside.places.len ≡ length c.self.inside.places.items = search rules in
    omega (arith, within, long)

pub index-requires : goal.index-requires
index-requires c =
    let v : JoinedEntries = record { records = c.self.inside.records.items; entries = c.self.inside.entries.items } in
    let joining = c.self.invariant.3 in
    let places = c.self.inside.places.items in
    let at = c.partition_point-at.result in
    let of = subst (λ (w : JoinedEntries). (line : Record) × IsRecorded w c.args.number line) (sym c.self.view_is) c.requires in
    let rise : NumbersRise c.deref.result.now = subst NumbersRise (sym c.deref.ensures.value) joining.rise in
    let point : IsPoint c.deref.result.now c.args.number at =
    IsPartitionPoint-from_clause (λ (r : Record). nat_lt r.number c.args.number) _ _ c.partition_point-at.ensures.partitioned (parted c.deref.result.now c.args.number rise) (λ a r q k. search rules) in
    let so = subst (λ (l : List Record). IsPoint l c.args.number at) c.deref.ensures.value point in
    let within = point_within v places c.self.inside.index c.args.number at of.0 joining c.self.invariant.2 of.1 so in
    let place = c.index-place.result.now in
    let at_is : slice_get places at ≡ Some place = slice_get-get_or places at place within ∙ ap (λ (n : ℕ). Some n) (sym c.index-place.ensures) in
    let inside = place_within v places c.self.inside.index c.args.number at of.0 joining c.self.invariant.2 of.1 so place at_is in
    let long : c.self.inside.entries.len ≡ length c.self.inside.entries.items = search rules in
    omega (arith, inside, long)

pub returns-clause-of : goal.returns-clause-of
returns-clause-of c =
    let v : JoinedEntries = record { records = c.self.inside.records.items; entries = c.self.inside.entries.items } in
    let joining = c.self.invariant.3 in
    let places = c.self.inside.places.items in
    let at = c.partition_point-at.result in
    let of = subst (λ (w : JoinedEntries). (line : Record) × IsRecorded w c.args.number line) (sym c.self.view_is) c.requires in
    let rise : NumbersRise c.deref.result.now = subst NumbersRise (sym c.deref.ensures.value) joining.rise in
    let point : IsPoint c.deref.result.now c.args.number at =
    IsPartitionPoint-from_clause (λ (r : Record). nat_lt r.number c.args.number) _ _ c.partition_point-at.ensures.partitioned (parted c.deref.result.now c.args.number rise) (λ a r q k. search rules) in
    let so = subst (λ (l : List Record). IsPoint l c.args.number at) c.deref.ensures.value point in
    let within = point_within v places c.self.inside.index c.args.number at of.0 joining c.self.invariant.2 of.1 so in
    let place = c.index-place.result.now in
    let at_is : slice_get places at ≡ Some place = slice_get-get_or places at place within ∙ ap (λ (n : ℕ). Some n) (sym c.index-place.ensures) in
    let inside = place_within v places c.self.inside.index c.args.number at of.0 joining c.self.invariant.2 of.1 so place at_is in
    let e = c.index.result.now in
    let here : slice_get v.entries place ≡ Some e = slice_get-get_or v.entries place e inside ∙ ap (λ (f : StoredEntry). Some f) (sym c.index.ensures) in
    subst (λ (w : JoinedEntries). IsMessageOf w.entries c.args.number e) c.self.view_is (found_message v places c.self.inside.index c.args.number at of.0 joining c.self.invariant.2 of.1 so place at_is e here)

pub returns-clause-blob : goal.returns-clause-blob
returns-clause-blob c = λ line also.
    let v : JoinedEntries = record { records = c.self.inside.records.items; entries = c.self.inside.entries.items } in
    let joining = c.self.invariant.3 in
    let places = c.self.inside.places.items in
    let at = c.partition_point-at.result in
    let of = subst (λ (w : JoinedEntries). IsRecorded w c.args.number line) (sym c.self.view_is) also in
    let rise : NumbersRise c.deref.result.now = subst NumbersRise (sym c.deref.ensures.value) joining.rise in
    let point : IsPoint c.deref.result.now c.args.number at =
    IsPartitionPoint-from_clause (λ (r : Record). nat_lt r.number c.args.number) _ _ c.partition_point-at.ensures.partitioned (parted c.deref.result.now c.args.number rise) (λ a r q k. search rules) in
    let so = subst (λ (l : List Record). IsPoint l c.args.number at) c.deref.ensures.value point in
    let within = point_within v places c.self.inside.index c.args.number at line joining c.self.invariant.2 of so in
    let place = c.index-place.result.now in
    let at_is : slice_get places at ≡ Some place = slice_get-get_or places at place within ∙ ap (λ (n : ℕ). Some n) (sym c.index-place.ensures) in
    let inside = place_within v places c.self.inside.index c.args.number at line joining c.self.invariant.2 of so place at_is in
    let e = c.index.result.now in
    let here : slice_get v.entries place ≡ Some e = slice_get-get_or v.entries place e inside ∙ ap (λ (f : StoredEntry). Some f) (sym c.index.ensures) in
    found_blob v places c.self.inside.index c.args.number at line joining c.self.invariant.2 of so place at_is e here line of
