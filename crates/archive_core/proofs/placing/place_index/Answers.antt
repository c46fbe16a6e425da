use Rattle.std.proofs.Common.{◌≡◌, ◌≢◌, length, slice_get, ltb, Some, refl, rules}
use Rattle.std.proofs.lemmas.List.Sorted.{IsPartitionPoint-from_clause, IsPartitionedBy-ltb}
use Rattle.std.proofs.lemmas.Option.{slice_get_read}
use Rattle.archive_core.specs.Placing.{PlacesRise}
use Rattle.archive_core.specs.declared.placing.MessagePlace.{MessagePlace}
use Rattle.archive_core.proofs.Places.{places-sorted}
use Rattle.archive_core.proofs.ByNumber.{IsCountBelow, count-is, none-past, none-other}
use Rattle.archive_core.proofs.placing.place_index.Goals as goal

pub returns-then-place-number : goal.returns-then-place-number
returns-then-place-number c =
    let xs = c.args.places.now in
    let index = c.partition_point-index.result in
    let counted : PlacesRise xs → IsCountBelow xs c.args.number index = λ rise.
    count-is xs c.args.number index
    (IsPartitionPoint-from_clause (λ (p : MessagePlace). ltb p.number c.args.number) xs index c.partition_point-index.ensures.partitioned (IsPartitionedBy-ltb (λ (p : MessagePlace). p.number) xs c.args.number (places-sorted xs rise)) (λ a r q k. search rules)) in
    let here : slice_get xs index ≡ Some c.in-Some.place.now = slice_get_read xs (length xs) index c.in-Some.place.now refl c.in-Some.ensures.lookup.3.0 c.in-Some.ensures.lookup.1 in
    let other : c.in-Some.place.now.number ≢ c.args.number = search rules in
    none-other xs c.args.number index c.in-Some.place.now counted here other

pub returns-in-None : goal.returns-in-None
returns-in-None c =
    let xs = c.args.places.now in
    let index = c.partition_point-index.result in
    let counted : PlacesRise xs → IsCountBelow xs c.args.number index = λ rise.
    count-is xs c.args.number index
    (IsPartitionPoint-from_clause (λ (p : MessagePlace). ltb p.number c.args.number) xs index c.partition_point-index.ensures.partitioned (IsPartitionedBy-ltb (λ (p : MessagePlace). p.number) xs c.args.number (places-sorted xs rise)) (λ a r q k. search rules)) in
    none-past xs c.args.number index counted c.in-None.ensures.lookup.3

pub returns-else-place-number : goal.returns-else-place-number
returns-else-place-number c =
    let xs = c.args.places.now in
    let index = c.partition_point-index.result in
    let here : slice_get xs index ≡ Some c.in-Some.place.now = slice_get_read xs (length xs) index c.in-Some.place.now refl c.in-Some.ensures.lookup.3.0 c.in-Some.ensures.lookup.1 in
    (c.in-Some.place.now, here, search rules)
