-- Words that are written in parts.
use Rattle.std.proofs.Common.{◌≡◌, ◌∙◌, ℕ, Bool, List, [], ◌++◌, length, Option, Ok, Err, refl, sym, ap, subst, append_assoc}
use Rattle.std.proofs.lemmas.List.{append-nil, nil_from_length}
use Rattle.edge_io.specs.Phrases.{Says}
use Rattle.edge_io.specs.declared.sink.SinkFault.{SinkFault}
use Rattle.edge_io.proofs.Wording.{plus-none, Says-then, Says-lost}
use Rattle.http_heads.specs.Replies.{reply_head}
use Rattle.http_heads.specs.declared.reply.Body.{Body}
use Rattle.http_heads.specs.declared.reply.Status.TheVariants.{Done}
use Rattle.http_front.specs.Replies.{reply, sent_body}

-- All words but these last ones were written.
pub record WrittenUpTo (words rest : List ℕ) (out : Option (List ℕ)) (lost : ℕ) (out' : Option (List ℕ)) (lost' : ℕ) : Type 0 where
  pub front : List ℕ
  pub joined : front ++ rest ≡ words
  pub says : Says front out lost out' lost' (Ok tt)

-- None were written yet.
pub written-none : (words : List ℕ) (out : Option (List ℕ)) (lost : ℕ) → WrittenUpTo words words out lost out lost
written-none words out lost = record { front = []; joined = refl; says = (refl, plus-none out) }

module _ (words rest : List ℕ) (out : Option (List ℕ)) (lost : ℕ) (out' : Option (List ℕ)) (lost' : ℕ) (before : WrittenUpTo words rest out lost out' lost') where
  -- All were written.
  pub written-all : length rest ≡ 0 → Says words out lost out' lost' (Ok tt)
  written-all none =
      let all : before.front ≡ words = sym (append-nil before.front) ∙ ap (λ (r : List ℕ). before.front ++ r) (sym (nil_from_length rest none)) ∙ before.joined in
      subst (λ (w : List ℕ). Says w out lost out' lost' (Ok tt)) all before.says

  module _ (part after : List ℕ) (cut : part ++ after ≡ rest) (out'' : Option (List ℕ)) (lost'' : ℕ) where
    joined-on : (before.front ++ part) ++ after ≡ words
    joined-on = append_assoc before.front part after ∙ ap (λ (r : List ℕ). before.front ++ r) cut ∙ before.joined

    -- One more part was written.
    pub written-more : Says part out' lost' out'' lost'' (Ok tt) → WrittenUpTo words after out lost out'' lost''
    written-more said = record { front = before.front ++ part; joined = joined-on; says = Says-then before.front part out out' out'' lost lost' lost'' tt (Ok tt) before.says said }

    -- The write of one more part failed.
    pub written-lost : (fault : SinkFault) → Says part out' lost' out'' lost'' (Err fault) → Says words out lost out'' lost'' (Err fault)
    written-lost fault said =
        subst (λ (w : List ℕ). Says w out lost out'' lost'' (Err fault)) joined-on
        (Says-lost (before.front ++ part) after out out'' lost lost'' fault (Err fault) refl (Says-then before.front part out out' out'' lost lost' lost'' tt (Err fault) before.says said))

-- A reply by its front and what follows it.
pub reply-parts : (moment len : ℕ) (body : Body) (bytes words first rest made front : List ℕ) (sends closes : Bool) → len ≡ length bytes → words ≡ sent_body sends bytes → first ++ rest ≡ words → made ≡ [] → front ≡ made ++ reply_head Done moment body len closes ++ first
    → front ++ rest ≡ reply Done moment body bytes sends closes
reply-parts moment len body bytes words first rest made front sends closes size sent cut empty is =
    ap (λ (f : List ℕ). f ++ rest) (is ∙ ap (λ (m : List ℕ). m ++ reply_head Done moment body len closes ++ first) empty)
    ∙ append_assoc (reply_head Done moment body len closes) first rest
    ∙ ap (λ (w : List ℕ). reply_head Done moment body len closes ++ w) (cut ∙ sent)
    ∙ ap (λ (n : ℕ). reply_head Done moment body n closes ++ sent_body sends bytes) size
