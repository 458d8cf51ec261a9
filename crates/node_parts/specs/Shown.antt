-- What a member's code keeps, as the definitions of the world have it.
use Rattle.std.specs.Prelude.{◌≡◌, ℕ, List, length, Option, None, Some}
use Rattle.orca_base.specs.declared.ids.ProcessNo.{ProcessNo}
use Rattle.orca_base.specs.declared.ids.TextNo.{TextNo}
use Rattle.value_core.specs.Datum.{Data}
use Rattle.value_core.specs.declared.action.Action.{Action}
use Rattle.value_core.specs.declared.action.Reply.{Reply}
use Rattle.world_rules.specs.Mail as mail
use Rattle.world_rules.specs.Nodes as nodes
use Rattle.world_rules.specs.Played as played
use Rattle.world_rules.specs.Played.{Played, Stage as stage}
use Rattle.node_parts.specs.declared.errand.Errand.{Errand}
use Rattle.node_parts.specs.declared.errand.Errand.TheVariants as errand
use Rattle.node_parts.specs.declared.errand.Given.{Given}
use Rattle.node_parts.specs.declared.resident.Resident.{Resident}
use Rattle.node_parts.specs.declared.resident.Stage.{Stage}
use Rattle.node_parts.specs.declared.resident.Stage.TheVariants as stood

abbrev pub on_errand : Errand → mail.Errand
on_errand (errand.Ask place message) = mail.Errand.Ask place message
on_errand (errand.Answer place process call reply) = mail.Errand.Answer place process call reply

abbrev pub on_given : Option Given → Option nodes.Given
on_given None = None
on_given (Some given) = Some (record { place = given.place; call = given.call; reply = given.reply })

abbrev pub on_stage : Stage → played.Stage
on_stage stood.Computing = stage.Computing
on_stage (stood.Acting act) = stage.Acting act
on_stage (stood.Submitted act) = stage.Submitted act
on_stage (stood.Reading act) = stage.Reading act
on_stage (stood.Asking act) = stage.Asking act
on_stage (stood.Over act) = stage.Over act

-- a state stands for a text, number, arguments, replies and turns; and it was left at an action
abbrev pub Stood : Type 0 → Type 1
Stood S = S → TextNo → ProcessNo → Data → List Reply → ℕ → Type 0

abbrev pub Left : Type 0 → Type 1
Left S = S → Action → Type 0

-- the state was left at the action to which its process waits for the reply, or which isn't carried out
abbrev pub LeftAt : {S : Type 0} → Left S → S → played.Stage → Type 0
LeftAt left state stage.Computing = Unit {0}
LeftAt left state (stage.Acting act) = left state act
LeftAt left state (stage.Submitted act) = left state act
LeftAt left state (stage.Reading act) = left state act
LeftAt left state (stage.Asking act) = left state act
LeftAt left state (stage.Over act) = Unit {0}

-- the resident is this process, whose number is i
pub record IsPlayed {S : Type 0} (stood : Stood S) (left : Left S) (i : ℕ) (s : Resident S) (r : Played) : Type 0 where
  pub state : stood s.state r.text (record { 0 = i }) r.args r.replies r.turns
  pub halts : LeftAt left s.state r.stage
  pub turns : s.turns ≡ r.turns
  pub place : s.place ≡ r.place
  pub calls : s.calls ≡ length r.replies
  pub stage : on_stage s.stage ≡ r.stage

-- where there is one
abbrev pub IsPlayedIf : {S : Type 0} → Stood S → Left S → ℕ → Option (Resident S) → Option Played → Type 0
IsPlayedIf stood left i None None = Unit {0}
IsPlayedIf stood left i None (Some r) = ⊥
IsPlayedIf stood left i (Some s) None = ⊥
IsPlayedIf stood left i (Some s) (Some r) = IsPlayed stood left i s r
