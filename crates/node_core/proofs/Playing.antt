-- A process here, as it stands for one of the world.
use Rattle.std.proofs.Common.{◌≡◌, ◌+◌, ◌++◌, ◌∷◌, ℕ, [], length-append, Some, sym, ap, ◌∙◌, subst}
use Rattle.value_core.specs.declared.action.Action.{Action}
use Rattle.value_core.specs.declared.action.Reply.{Reply}
use Rattle.world_rules.specs.Played.{Played, Stage, receives}
use Rattle.world_rules.specs.Played.Stage.{Computing, Acting, Submitted, Reading, Asking, Over}
use Rattle.node_rules.specs.Handing.{waits_with}
use Rattle.node_parts.specs.Shown.{IsPlayed, Left, LeftAt, Stood, on_stage}
use Rattle.node_parts.specs.declared.resident.Resident.{Resident}
use Rattle.node_parts.specs.declared.resident.Stage.TheVariants as at_stage

some_same : {A : Type 0} (x y : A) → Some x ≡ Some y → x ≡ y
some_same x y is = cc is

-- who waits with an action was left at it
pub left_waiting : {S : Type 0} (left : Left S) (state : S) (stage : Stage) (act : Action) → waits_with stage ≡ Some act → LeftAt left state stage → left state act
left_waiting left state Computing act is at = absurd (cc is)
left_waiting left state (Acting a) act is at = absurd (cc is)
left_waiting left state (Submitted a) act is at = subst (left state) (some_same a act is) at
left_waiting left state (Reading a) act is at = subst (left state) (some_same a act is) at
left_waiting left state (Asking a) act is at = subst (left state) (some_same a act is) at
left_waiting left state (Over a) act is at = absurd (cc is)

-- one whose state stands for one reply more
pub received : {S : Type 0} (stood : Stood S) (left : Left S) (place i : ℕ) (reply : Reply) (old new : Resident S) (r : Played)
    → IsPlayed stood left i old r → stood new.state r.text (record { 0 = i }) r.args (r.replies ++ reply ∷ []) r.turns
    → new.turns ≡ old.turns → new.place ≡ place → new.calls ≡ old.calls + 1 → new.stage ≡ at_stage.Computing
    → IsPlayed stood left i new (receives place reply r)
received stood left place i reply old new r is state turns at calls stage = record {
  state = state;
  halts = tt;
  turns = turns ∙ is.turns;
  place = at;
  calls = calls ∙ ap (λ (n : ℕ). n + 1) is.calls ∙ sym (length-append r.replies (reply ∷ []));
  stage = ap on_stage stage;
}
