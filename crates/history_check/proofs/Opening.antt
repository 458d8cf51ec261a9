-- Before the first line.
use Rattle.std.proofs.Common.{◌≡◌, ℕ, zero, suc, ◌<◌, ◌≤◌, Option, Some, List, [], ◌∷◌, ◌++◌, length, refl, sym, ap, ◌∙◌, arith, subst}
use Rattle.std.specs.Prelude.{slice_get}
use Rattle.orca_base.specs.declared.ids.TextNo.{TextNo}
use Rattle.value_core.specs.Datum.{Data, list_of}
use Rattle.value_core.specs.Datum as datum
use Rattle.value_core.specs.Meaning.{Performs, Computes}
use Rattle.value_core.specs.History.{Objects, Process, opening, output_kind, output_object, with_object}
use Rattle.history_check.specs.Players.{ArePlayed, Follows, IsPlayer, Stood}
use Rattle.history_check.specs.declared.player.Player.{Player}
use Rattle.history_check.specs.declared.replayed.Replayed.{Replayed}

pub no_values : (d : Data) → list_of d ≡ [] → d ≡ datum.none
no_values datum.none is = refl
no_values (datum.more v vs) is = absurd (cc is)

-- the first process is kept
first_played : (S : Type 0) (stands : Stood S) (main : TextNo) (player : Player S) → player.calls ≡ 0 → stands player.state main (record { 0 = 0 }) datum.none [] 0 → ArePlayed stands (Some player ∷ []) (record { text = main; args = datum.none; replies = [] } ∷ []) 0
first_played S stands main player none at = record {
  kept = omega arith;
  within = omega arith;
  all = λ lt. omega arith;
  each = each;
  few = few;
}
  where
    begun : Process
    begun = record { text = main; args = datum.none; replies = [] }

    each : (j : ℕ) (x : Process) → j < length (Some player ∷ []) → slice_get (begun ∷ []) j ≡ Some x → (kept : Player S) × (slice_get (Some player ∷ []) j ≡ Some (Some kept)) × IsPlayer stands j kept x
    each zero x lt is =
        let same : begun ≡ x = cc in
        (player, refl, subst (λ (y : Process). IsPlayer stands 0 player y) same (record { turns = 0; state = at; some = omega arith; calls = none }))
    each (suc j) x lt is = absurd (cc is)

    few : (j : ℕ) (x : Process) → slice_get (begun ∷ []) j ≡ Some x → length x.replies ≤ 0
    few zero x is = let same : begun ≡ x = cc in subst (λ (y : Process). length y.replies ≤ 0) same (omega arith)
    few (suc j) x is = absurd (cc is)

pub opens : (S : Type 0) (stands : Stood S) (p : Performs) (q : Computes) (r : Replayed S) (text : TextNo) (state : Data) (player : Player S) (players : List (Option (Player S))) (objects : Objects) → text ≡ q.main → state ≡ datum.none → player.calls ≡ 0 → stands player.state text (record { 0 = 0 }) state [] 0
    → objects ≡ [] → r.objects ≡ with_object objects output_object (record { kind = output_kind; state = state }) → players ≡ [] → r.players.items ≡ players ++ Some player ∷ [] → Follows p q stands r []
opens S stands p q r text state player players objects main none calls at no_objects is_objects no_players is_players = record {
  legal = tt;
  objects = is_objects ∙ ap (λ (os : Objects). with_object os output_object (record { kind = output_kind; state = state })) no_objects ∙ ap (λ (d : Data). with_object [] output_object (record { kind = output_kind; state = d })) none;
  players = subst (λ (ps : List (Option (Player S))). ArePlayed stands ps (opening q).processes 0) (sym (is_players ∙ ap (λ (ps : List (Option (Player S))). ps ++ Some player ∷ []) no_players))
      (first_played S stands q.main player calls (subst (λ (t : TextNo). stands player.state t (record { 0 = 0 }) datum.none [] 0) main (subst (λ (d : Data). stands player.state text (record { 0 = 0 }) d [] 0) none at)));
}
