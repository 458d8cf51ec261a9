-- What a script says: the fate of a packet, and what the wire does next. `asked` is what was asked so far, latest first: docs/RUNTIME.md,
-- Fault scripts.
use Rattle.std.specs.Prelude.{ℕ, ◌+◌, Bool, true, false, ◌&&◌, ◌==◌, nat_le, List, [], ◌∷◌, Option, Some, None, is_none, option_and_then, if◌then◌else◌}
use Rattle.std.specs.List.{filter, find}
use Rattle.std.specs.Option.{option_map_or}
use Rattle.group_packets.specs.declared.packet.PacketKind.{PacketKind}
use Rattle.net_rules.specs.declared.fate.Fate.{Fate}
use Rattle.net_rules.specs.declared.fate.Fate.TheVariants.{Pass, Drop}
use Rattle.net_rules.specs.declared.fate.WireAct.{WireAct}
use Rattle.net_rules.specs.declared.asked.Asked.{Asked}
use Rattle.net_rules.specs.declared.asked.Asked.TheVariants as was
use Rattle.net_rules.specs.declared.line.Kinds.TheVariants.{Any}
use Rattle.net_rules.specs.declared.line.Which.{Which}
use Rattle.net_rules.specs.declared.line.Which.TheVariants.{All, Nth}
use Rattle.net_rules.specs.declared.line.ScriptLine.{ScriptLine}
use Rattle.net_rules.specs.declared.line.ScriptLine.TheVariants as says
use Rattle.net_rules.specs.Asked.{is_of, count}
use Rattle.net_rules.specs.Words.{word, is_lost}

-- the packet with this number among those that a line counts is one of which it speaks
abbrev pub is_one : Which → ℕ → Bool
is_one All n = true
is_one (Nth number) n = number == n

-- the line says the fate of a packet of this kind
abbrev pub decides : List Asked → PacketKind → ScriptLine → Bool
decides asked kind (says.Fate kinds which fate) = is_of kinds kind && is_one which (count kinds asked + 1)
decides asked kind (says.Act kinds number act) = false
decides asked kind (says.Seed seed percent) = false

-- that fate
abbrev pub fate_of : ScriptLine → Fate
fate_of (says.Fate kinds which fate) = fate
fate_of (says.Act kinds number act) = Pass
fate_of (says.Seed seed percent) = Pass

-- the first line that says it
abbrev pub deciding : List ScriptLine → List Asked → PacketKind → Option ScriptLine
deciding lines asked kind = find (decides asked kind) lines

-- how many random words were drawn: one for each packet whose fate no line says
abbrev pub drawn : List ScriptLine → List Asked → ℕ
drawn lines [] = 0
drawn lines (was.Packet question fate ∷ asked) = (if is_none (deciding lines asked question.kind) then 1 else 0) + drawn lines asked
drawn lines (was.Act event_number act ∷ asked) = drawn lines asked

-- seed and percent of the first line that has them
abbrev pub seed_of : List ScriptLine → Option (ℕ × ℕ)
seed_of [] = None
seed_of (says.Fate kinds which fate ∷ lines) = seed_of lines
seed_of (says.Act kinds number act ∷ lines) = seed_of lines
seed_of (says.Seed seed percent ∷ lines) = Some (seed, percent)

-- dropped where the word is low enough
abbrev pub lost_or_passed : ℕ → ℕ → Fate
lost_or_passed percent word = if is_lost percent word then Drop else Pass

-- the fate of a packet whose fate no line says, where so many words were drawn
abbrev pub fate_by_chance : Option (ℕ × ℕ) → ℕ → Fate
fate_by_chance None n = Pass
fate_by_chance (Some (seed, percent)) n = lost_or_passed percent (word seed n)

-- the fate of a packet of this kind: by the first line that says it, else by chance
abbrev pub script_fate : List ScriptLine → List Asked → PacketKind → Fate
script_fate lines asked kind = option_map_or fate_of (deciding lines asked kind) (fate_by_chance (seed_of lines) (drawn lines asked))

-- the line is an act
abbrev pub is_act : ScriptLine → Bool
is_act (says.Fate kinds which fate) = false
is_act (says.Act kinds number act) = true
is_act (says.Seed seed percent) = false

-- the line is an act, for which enough packets were asked about
abbrev pub is_due : List Asked → ScriptLine → Bool
is_due asked (says.Fate kinds which fate) = false
is_due asked (says.Act kinds number act) = nat_le number (count kinds asked)
is_due asked (says.Seed seed percent) = false

-- a list without its first element that passes
abbrev pub without_first : {A : Type 0} → (A → Bool) → List A → List A
without_first p [] = []
without_first p (x ∷ xs) = if p x then xs else x ∷ without_first p xs

-- the acts that weren't given yet: each time that the wire was asked what it does, the first one that was due then was given
abbrev pub left : List ScriptLine → List Asked → List ScriptLine
left lines [] = filter is_act lines
left lines (was.Packet question fate ∷ asked) = left lines asked
left lines (was.Act event_number act ∷ asked) = without_first (is_due asked) (left lines asked)

-- the act of a line
abbrev pub act_of : ScriptLine → Option WireAct
act_of (says.Fate kinds which fate) = None
act_of (says.Act kinds number act) = Some act
act_of (says.Seed seed percent) = None

-- what the wire does next: the first act that is due and wasn't given yet
abbrev pub script_act : List ScriptLine → List Asked → Option WireAct
script_act lines asked = option_and_then act_of (find (is_due asked) (left lines asked))

-- the fate of a packet by chance alone: each packet draws a word
abbrev pub seeded_fate : ℕ → ℕ → List Asked → Fate
seeded_fate seed percent asked = lost_or_passed percent (word seed (count Any asked))
