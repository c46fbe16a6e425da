-- Events of a host that tells nothing.
use Rattle.std.proofs.Common.{ℕ, List, None, refl}
use Rattle.std.proofs.lemmas.List.{length-take-le}
use Rattle.arch_base.specs.Moments.{IsMoment}
use Rattle.edge_io.specs.Events.{piece_len}
use Rattle.edge_io.specs.Hosts.{GaveOne}
use Rattle.edge_io.specs.declared.events.Event.{Event}
use Rattle.real_edges.specs.Sockets.{MayHappen}

-- What may happen, at a moment, is an event that was given.
pub gave_untold : (event : Event) (into : List ℕ) → IsMoment event.moment → MayHappen into event.what → GaveOne event into None None None None
gave_untold event into moment is = record {
  within = is.1;
  arrival = record {
    in_range = record { moment = moment; what = is.0 };
    whole = length-take-le (piece_len event.what) into is.1;
  };
  first = refl;
  last = refl;
}
