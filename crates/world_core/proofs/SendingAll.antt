-- Packets are sent one after the other.
use Rattle.std.proofs.Common.{◌≡◌, ◌+◌, ◌∙◌, ℕ, suc, List, [], ◌∷◌, ◌++◌, take, ap, sym, subst, refl, arith, length, append-nil, append_assoc}
use Rattle.std.proofs.lemmas.List.{length_push}
use Rattle.net_rules.specs.Asked.{packet_asked}
use Rattle.net_rules.specs.Flights.{copies, joined}
use Rattle.net_rules.specs.declared.asked.Asked.{Asked}
use Rattle.net_rules.specs.declared.fate.Fate.{Fate}
use Rattle.net_rules.specs.declared.flight.Flight.{Flight}
use Rattle.world_core.specs.Closing.{asked_all, sent_all}
use Rattle.letter_bytes.specs.declared.letters.Outgoing.{Outgoing}
use Rattle.world_core.proofs.Numbering.{UpTo, sent_low}

sent_push : (sent last : ℕ) (done : List Outgoing) (fates : List Fate) (one : Outgoing) (given : Fate) (flights : List (Flight (List ℕ))) → length fates ≡ length done → last ≡ sent + length done
    → sent_all sent (done ++ one ∷ []) (fates ++ given ∷ []) flights ≡ joined (suc last) (copies take (suc last) one.from one.to one.bytes given) (sent_all sent done fates flights)
sent_push sent last [] [] one given flights same is =
    let e : sent ≡ last = omega (arith, is) in ap (λ (n : ℕ). joined (suc n) (copies take (suc n) one.from one.to one.bytes given) flights) e
sent_push sent last (first ∷ done) (fate ∷ fates) one given flights same is =
    sent_push (suc sent) last done fates one given (joined (suc sent) (copies take (suc sent) first.from first.to first.bytes fate) flights) (omega (arith, same)) (omega (arith, is))
sent_push sent last [] (fate ∷ fates) one given flights same is = absurd (omega (arith, same))
sent_push sent last (first ∷ done) [] one given flights same is = absurd (omega (arith, same))

asked_push : (sent last : ℕ) (done : List Outgoing) (fates : List Fate) (one : Outgoing) (given : Fate) → length fates ≡ length done → last ≡ sent + length done
    → asked_all sent (done ++ one ∷ []) (fates ++ given ∷ []) ≡ asked_all sent done fates ++ packet_asked (suc last) one.kind one.from one.to one.length given ∷ []
asked_push sent last [] [] one given same is =
    let e : sent ≡ last = omega (arith, is) in ap (λ (n : ℕ). packet_asked (suc n) one.kind one.from one.to one.length given ∷ []) e
asked_push sent last (first ∷ done) (fate ∷ fates) one given same is =
    ap (λ (l : List Asked). packet_asked (suc sent) first.kind first.from first.to first.length fate ∷ l) (asked_push (suc sent) last done fates one given (omega (arith, same)) (omega (arith, is)))
asked_push sent last [] (fate ∷ fates) one given same is = absurd (omega (arith, same))
asked_push sent last (first ∷ done) [] one given same is = absurd (omega (arith, same))

-- what the loop knows: these were sent, and those are left
pub record SentTo (sent number : ℕ) (all rest : List Outgoing) (fates : List Fate) (old now : List (Flight (List ℕ))) (before told : List Asked) : Type 0 where
  pub done : List Outgoing
  pub split : all ≡ done ++ rest
  pub count : length fates ≡ length done
  pub last : number ≡ sent + length done
  pub flights : now ≡ sent_all sent done fates old
  pub asked : told ≡ before ++ asked_all sent done fates
  pub low : UpTo number now

pub sent_first : (sent : ℕ) (all rest : List Outgoing) (fates : List Fate) (old : List (Flight (List ℕ))) (before : List Asked) → rest ≡ all → fates ≡ [] → UpTo sent old
    → SentTo sent sent all rest fates old old before before
sent_first sent all rest fates old before is none low =
    subst (λ (l : List Fate). SentTo sent sent all rest l old old before before) (sym none)
    (record { done = []; split = sym is; count = refl; last = omega arith; flights = refl; asked = sym (append-nil before); low = low })

pub sent_next : (sent number next : ℕ) (all rest left : List Outgoing) (one : Outgoing) (given : Fate) (fates more : List Fate) (old now new : List (Flight (List ℕ))) (before told after : List Asked)
    → suc number ≡ next → rest ≡ one ∷ left → more ≡ fates ++ given ∷ [] → new ≡ joined next (copies take next one.from one.to one.bytes given) now
    → after ≡ told ++ packet_asked next one.kind one.from one.to one.length given ∷ [] → SentTo sent number all rest fates old now before told → SentTo sent next all left more old new before after
sent_next sent number next all rest left one given fates more old now new before told after up first pushed joins asks h =
    go next up joins asks
  where
    many : length (h.done ++ one ∷ []) ≡ suc (length h.done)
    many = omega (arith, length_push h.done one)

    go : (n : ℕ) → suc number ≡ n → new ≡ joined n (copies take n one.from one.to one.bytes given) now → after ≡ told ++ packet_asked n one.kind one.from one.to one.length given ∷ []
        → SentTo sent n all left more old new before after
    go n is joins asks =
        subst (λ (k : ℕ). SentTo sent k all left more old new before after) is
        (subst (λ (l : List Fate). SentTo sent (suc number) all left l old new before after) (sym pushed) (record {
          done = h.done ++ one ∷ [];
          split = h.split ∙ ap (λ (l : List Outgoing). h.done ++ l) first ∙ sym (append_assoc h.done (one ∷ []) left);
          count = omega (arith, length_push fates given, h.count, many);
          last = omega (arith, h.last, many);
          flights = joins ∙ sym (ap (λ (k : ℕ). joined k (copies take k one.from one.to one.bytes given) now) is)
              ∙ ap (λ (l : List (Flight (List ℕ))). joined (suc number) (copies take (suc number) one.from one.to one.bytes given) l) h.flights
              ∙ sym (sent_push sent number h.done fates one given old h.count h.last);
          asked = asks ∙ sym (ap (λ (k : ℕ). told ++ packet_asked k one.kind one.from one.to one.length given ∷ []) is)
              ∙ ap (λ (l : List Asked). l ++ packet_asked (suc number) one.kind one.from one.to one.length given ∷ []) h.asked
              ∙ append_assoc before (asked_all sent h.done fates) _
              ∙ ap (λ (l : List Asked). before ++ l) (sym (asked_push sent number h.done fates one given h.count h.last));
          low = subst (UpTo (suc number)) (sym (joins ∙ sym (ap (λ (k : ℕ). joined k (copies take k one.from one.to one.bytes given) now) is)))
              (sent_low take number one.from one.to one.bytes given now h.low);
        }))

-- once none is left, all were sent
pub record SentAll (sent : ℕ) (all : List Outgoing) (fates : List Fate) (old now : List (Flight (List ℕ))) (before told : List Asked) : Type 0 where
  pub count : length fates ≡ length all
  pub flights : now ≡ sent_all sent all fates old
  pub asked : told ≡ before ++ asked_all sent all fates

pub sent_over : (sent number : ℕ) (all rest : List Outgoing) (fates : List Fate) (old now : List (Flight (List ℕ))) (before told : List Asked) → rest ≡ []
    → SentTo sent number all rest fates old now before told → SentAll sent all fates old now before told
sent_over sent number all rest fates old now before told none h =
    let whole : h.done ≡ all = sym (h.split ∙ ap (λ (l : List Outgoing). h.done ++ l) none ∙ append-nil h.done) in
    subst (λ (l : List Outgoing). SentAll sent l fates old now before told) whole (record { count = h.count; flights = h.flights; asked = h.asked })
