use Rattle.std.proofs.Common.{◌≡◌, ◌∙◌, ap, List, slice_get, Some, sym}
use Rattle.store_finding.specs.Kept.{StoreState}
use Rattle.archive_core.specs.Placing.{message_places}
use Rattle.archive_core.specs.declared.placing.MessagePlace.{MessagePlace}
use Rattle.archive_core.proofs.ByNumber.{place-is, message-found, said, unsaid}
use Rattle.archive_core.proofs.archive.DiskArchive.message_index.Goals as goal

pub returns-in-Some-clause-known : goal.returns-in-Some-clause-known
returns-in-Some-clause-known c =
    let v : StoreState = c.args.self.now in
    let seen : List MessagePlace = c.as_slice.result.now in
    let placed : seen ≡ message_places 0 v.entries = c.as_slice.ensures.value ∙ c.self.invariant.1 ∙ ap (λ (u : StoreState). message_places 0 u.entries) c.self.view_is in
    let r : MessagePlace = c.index.result.now in
    let is : r ≡ c.in-Some.ensures.0 = place-is c.self.inside.places.items seen c.in-Some.at c.in-Some.ensures.0 r c.as_slice.ensures.value c.in-Some.ensures.1 c.index.ensures in
    let there : slice_get seen c.in-Some.at ≡ Some r = c.in-Some.ensures.1 ∙ ap Some (sym is) in
    message-found v seen placed c.in-Some.at c.args.n r there (ap (λ (p : MessagePlace). p.number) is ∙ c.in-Some.ensures.2)

pub returns-in-Some-clause-message : goal.returns-in-Some-clause-message
returns-in-Some-clause-message c =
    let v : StoreState = c.args.self.now in
    let seen : List MessagePlace = c.as_slice.result.now in
    let placed : seen ≡ message_places 0 v.entries = c.as_slice.ensures.value ∙ c.self.invariant.1 ∙ ap (λ (u : StoreState). message_places 0 u.entries) c.self.view_is in
    let r : MessagePlace = c.index.result.now in
    let is : r ≡ c.in-Some.ensures.0 = place-is c.self.inside.places.items seen c.in-Some.at c.in-Some.ensures.0 r c.as_slice.ensures.value c.in-Some.ensures.1 c.index.ensures in
    let there : slice_get seen c.in-Some.at ≡ Some r = c.in-Some.ensures.1 ∙ ap Some (sym is) in
    λ a keeps. said v seen placed a keeps c.args.n r.entry (message-found v seen placed c.in-Some.at c.args.n r there (ap (λ (p : MessagePlace). p.number) is ∙ c.in-Some.ensures.2))

pub returns-in-None-clause-message : goal.returns-in-None-clause-message
returns-in-None-clause-message c =
    let v : StoreState = c.args.self.now in
    let seen : List MessagePlace = c.as_slice.result.now in
    let placed : seen ≡ message_places 0 v.entries = c.as_slice.ensures.value ∙ c.self.invariant.1 ∙ ap (λ (u : StoreState). message_places 0 u.entries) c.self.view_is in
    λ a keeps. unsaid v seen placed a keeps c.args.n c.in-None.ensures
