use Rattle.std.proofs.Common.{◌≡◌, ◌∙◌, ap, List, slice_get, Some, sym, subst}
use Rattle.store_finding.specs.Kept.{StoreState}
use Rattle.archive_core.specs.Placing.{message_places, PlacesRise}
use Rattle.archive_core.specs.declared.placing.MessagePlace.{MessagePlace}
use Rattle.archive_core.proofs.ByNumber.{place-is, live-found, unfound, unlive, shown-live, unfound-kept, found-kept, unlive-kept}
use Rattle.archive_core.proofs.archive.DiskArchive.live_index.Goals as goal

pub returns-in-None-clause-live : goal.returns-in-None-clause-live
returns-in-None-clause-live c =
    let v : StoreState = c.args.self.now in
    let seen : List MessagePlace = c.as_slice.result.now in
    let placed : seen ≡ message_places 0 v.entries = c.as_slice.ensures.value ∙ c.self.invariant.1 ∙ ap (λ (u : StoreState). message_places 0 u.entries) c.self.view_is in
    λ a keeps. unfound v seen placed a keeps c.args.n c.in-None.ensures

pub returns-then-place-clause-known : goal.returns-then-place-clause-known
returns-then-place-clause-known c =
    let v : StoreState = c.args.self.now in
    let seen : List MessagePlace = c.as_slice.result.now in
    let placed : seen ≡ message_places 0 v.entries = c.as_slice.ensures.value ∙ c.self.invariant.1 ∙ ap (λ (u : StoreState). message_places 0 u.entries) c.self.view_is in
    let r : MessagePlace = c.index-place.result.now in
    let is : r ≡ c.in-Some.ensures.0 = place-is c.self.inside.places.items seen c.in-Some.at c.in-Some.ensures.0 r c.as_slice.ensures.value c.in-Some.ensures.1 c.index-place.ensures in
    let there : slice_get seen c.in-Some.at ≡ Some r = c.in-Some.ensures.1 ∙ ap Some (sym is) in
    let number : r.number ≡ c.args.n = ap (λ (p : MessagePlace). p.number) is ∙ c.in-Some.ensures.2 in
    live-found v seen placed c.in-Some.at c.args.n r there number c.if-place.true

pub returns-then-place-clause-live : goal.returns-then-place-clause-live
returns-then-place-clause-live c =
    let v : StoreState = c.args.self.now in
    let seen : List MessagePlace = c.as_slice.result.now in
    let placed : seen ≡ message_places 0 v.entries = c.as_slice.ensures.value ∙ c.self.invariant.1 ∙ ap (λ (u : StoreState). message_places 0 u.entries) c.self.view_is in
    let r : MessagePlace = c.index-place.result.now in
    let is : r ≡ c.in-Some.ensures.0 = place-is c.self.inside.places.items seen c.in-Some.at c.in-Some.ensures.0 r c.as_slice.ensures.value c.in-Some.ensures.1 c.index-place.ensures in
    let there : slice_get seen c.in-Some.at ≡ Some r = c.in-Some.ensures.1 ∙ ap Some (sym is) in
    let number : r.number ≡ c.args.n = ap (λ (p : MessagePlace). p.number) is ∙ c.in-Some.ensures.2 in
    λ a keeps. shown-live v seen placed a keeps c.in-Some.at c.args.n r there number c.if-place.true

pub returns-else-place-clause-live : goal.returns-else-place-clause-live
returns-else-place-clause-live c =
    let v : StoreState = c.args.self.now in
    let seen : List MessagePlace = c.as_slice.result.now in
    let placed : seen ≡ message_places 0 v.entries = c.as_slice.ensures.value ∙ c.self.invariant.1 ∙ ap (λ (u : StoreState). message_places 0 u.entries) c.self.view_is in
    let r : MessagePlace = c.index-place.result.now in
    let is : r ≡ c.in-Some.ensures.0 = place-is c.self.inside.places.items seen c.in-Some.at c.in-Some.ensures.0 r c.as_slice.ensures.value c.in-Some.ensures.1 c.index-place.ensures in
    let there : slice_get seen c.in-Some.at ≡ Some r = c.in-Some.ensures.1 ∙ ap Some (sym is) in
    let number : r.number ≡ c.args.n = ap (λ (p : MessagePlace). p.number) is ∙ c.in-Some.ensures.2 in
    λ a keeps. unlive v seen placed a keeps c.in-Some.at c.args.n r there number c.if-place.false

pub returns-in-None-clause-found : goal.returns-in-None-clause-found
returns-in-None-clause-found c =
    let v : StoreState = c.args.self.now in
    let seen : List MessagePlace = c.as_slice.result.now in
    let placed : seen ≡ message_places 0 v.entries = c.as_slice.ensures.value ∙ c.self.invariant.1 ∙ ap (λ (u : StoreState). message_places 0 u.entries) c.self.view_is in
    let rise : PlacesRise seen = subst PlacesRise (sym c.as_slice.ensures.value) c.self.invariant.2 in
    sym (unfound-kept v seen placed rise c.args.n c.in-None.ensures)

pub returns-then-place-clause-found : goal.returns-then-place-clause-found
returns-then-place-clause-found c =
    let v : StoreState = c.args.self.now in
    let seen : List MessagePlace = c.as_slice.result.now in
    let placed : seen ≡ message_places 0 v.entries = c.as_slice.ensures.value ∙ c.self.invariant.1 ∙ ap (λ (u : StoreState). message_places 0 u.entries) c.self.view_is in
    let r : MessagePlace = c.index-place.result.now in
    let is : r ≡ c.in-Some.ensures.0 = place-is c.self.inside.places.items seen c.in-Some.at c.in-Some.ensures.0 r c.as_slice.ensures.value c.in-Some.ensures.1 c.index-place.ensures in
    let there : slice_get seen c.in-Some.at ≡ Some r = c.in-Some.ensures.1 ∙ ap Some (sym is) in
    let number : r.number ≡ c.args.n = ap (λ (p : MessagePlace). p.number) is ∙ c.in-Some.ensures.2 in
    sym (found-kept v seen placed c.in-Some.at c.args.n r there number c.if-place.true)

pub returns-else-place-clause-found : goal.returns-else-place-clause-found
returns-else-place-clause-found c =
    let v : StoreState = c.args.self.now in
    let seen : List MessagePlace = c.as_slice.result.now in
    let placed : seen ≡ message_places 0 v.entries = c.as_slice.ensures.value ∙ c.self.invariant.1 ∙ ap (λ (u : StoreState). message_places 0 u.entries) c.self.view_is in
    let rise : PlacesRise seen = subst PlacesRise (sym c.as_slice.ensures.value) c.self.invariant.2 in
    let r : MessagePlace = c.index-place.result.now in
    let is : r ≡ c.in-Some.ensures.0 = place-is c.self.inside.places.items seen c.in-Some.at c.in-Some.ensures.0 r c.as_slice.ensures.value c.in-Some.ensures.1 c.index-place.ensures in
    let there : slice_get seen c.in-Some.at ≡ Some r = c.in-Some.ensures.1 ∙ ap Some (sym is) in
    let number : r.number ≡ c.args.n = ap (λ (p : MessagePlace). p.number) is ∙ c.in-Some.ensures.2 in
    sym (unlive-kept v seen placed rise c.in-Some.at c.args.n r there number c.if-place.false)
