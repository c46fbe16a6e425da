-- Lemmas for `impl Sink`: what the calls on one connection of a host leave alone.
use Rattle.std.specs.Prelude.{◌≡◌, ℕ, List, Option, refl}
use Rattle.std.proofs.Common.{◌∙◌}
use Rattle.edge_io.specs.Frames.{Outputs}
use Rattle.edge_io.specs.Hosts.{ToldEvents, SameEvents, SameElsewhere}

module _ {H : Type 0} (left given : H → ToldEvents) (recorded : H → List Outputs → Type 0)
    (faults : H → ℕ) where
  -- A host has the same events as itself.
  pub SameEvents-same : (h : H) → SameEvents left given recorded faults h h
  SameEvents-same h = record {
    left_same = refl;
    given_same = refl;
    recorded_same = λ past is. is;
    faults_same = refl;
  }

  -- Two calls after each of which the events are the same leave them.
  pub SameEvents-joined : (h i j : H) → SameEvents left given recorded faults h i
      → SameEvents left given recorded faults i j → SameEvents left given recorded faults h j
  SameEvents-joined h i j p q = record {
    left_same = q.left_same ∙ p.left_same;
    given_same = q.given_same ∙ p.given_same;
    recorded_same = λ past is. q.recorded_same past (p.recorded_same past is);
    faults_same = q.faults_same ∙ p.faults_same;
  }

  module _ (taken : H → ℕ → Option (List ℕ)) (closings : H → ℕ → Option ℕ)
      (closed_at : H → ℕ → Option (List ℕ)) where
    pub SameElsewhere-same : (conn : ℕ) (h : H)
        → SameElsewhere left given recorded faults taken closings closed_at conn h h
    SameElsewhere-same conn h = record {
      events = SameEvents-same h;
      others = λ other apart. refl;
      closings_same = λ other. refl;
      closed_at_same = λ other. refl;
    }

    -- The second step is one on the same connection.
    pub SameElsewhere-joined : (conn next : ℕ) (h i j : H) → next ≡ conn
        → SameElsewhere left given recorded faults taken closings closed_at conn h i
        → SameElsewhere left given recorded faults taken closings closed_at next i j
        → SameElsewhere left given recorded faults taken closings closed_at conn h j
    SameElsewhere-joined conn next h i j e p q = record {
      events = SameEvents-joined h i j p.events q.events;
      others = λ other apart. q.others other (λ same. apart (same ∙ e)) ∙ p.others other apart;
      closings_same = λ other. q.closings_same other ∙ p.closings_same other;
      closed_at_same = λ other. q.closed_at_same other ∙ p.closed_at_same other;
    }
