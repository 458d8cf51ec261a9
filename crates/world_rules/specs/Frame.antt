-- What a run is given: what its program means, and its settings.
use Rattle.std.specs.Prelude.{◌≡◌, ◌<◌, ◌≤◌, ◌*◌, ℕ, Bool, true, false, List, Option, None, Some, slice_get}
use Rattle.orca_base.specs.declared.ids.MessageId.{MessageId}
use Rattle.orca_base.specs.declared.ids.TextNo.{TextNo}
use Rattle.orca_base.specs.declared.limits.TheConstants.{EVENTS, NODES, TURNS}
use Rattle.orca_base.specs.declared.what.Choice.{Choice}
use Rattle.orca_base.specs.declared.what.Choice.TheVariants.{Replicated, Single}
use Rattle.value_core.specs.Lengths.{message_length, told_length}
use Rattle.value_core.specs.Meaning.{Computes, Performs}
use Rattle.value_core.specs.declared.message.Message.{Message}
use Rattle.group_rules.specs.Messages.{Group, group_of}
use Rattle.group_rules.specs.Sets.{entry_at}
use Rattle.world_rules.specs.declared.settings.Settings.{Settings}

-- what its operations and its processes mean, and its settings
pub record Frame : Type 0 where
  pub performs : Performs
  pub computes : Computes
  pub settings : Settings

-- a message's name, and its length in bytes
abbrev pub name_of : Message → MessageId
name_of x = record { process = x.process; call = x.call }

abbrev pub bytes_of : Message → ℕ
bytes_of x = told_length (message_length x)

-- the group of its members
abbrev pub group : Frame → Group Message
group f = group_of name_of bytes_of f.settings.nodes f.settings.resilience

-- ---- which objects are single

abbrev pub is_single : Option Choice → Bool
is_single None = false
is_single (Some Replicated) = false
is_single (Some Single) = true

abbrev pub choice_in : Option (List Choice) → ℕ → Option Choice
choice_in None number = None
choice_in (Some choices) number = entry_at choices number

-- the object is single that a process of this text makes with this number, from 1; what isn't chosen is replicated, and so is the
-- output object, whose number is 0
abbrev pub chooses_single : List (List Choice) → TextNo → ℕ → Bool
chooses_single choices text number = is_single (choice_in (slice_get choices text.0) number)

-- ---- the settings that a run may have

pub record AreSettings (s : Settings) : Type 0 where
  pub some : 1 ≤ s.nodes
  pub few : s.nodes ≤ NODES
  pub resilience : 2 * s.resilience < s.nodes
  pub a_turn : 1 ≤ s.turns
  pub turns : s.turns ≤ TURNS
  pub an_event : 1 ≤ s.events
  pub events : s.events ≤ EVENTS
  pub a_wire : 1 ≤ s.wires
  pub wires : s.wires ≤ 1000
  pub single : (text : TextNo) (number : ℕ) → chooses_single s.choices text number ≡ true → s.resilience ≡ 0
