-- What a process computes by itself, from one event of its own to the next: a burst. It goes on up to an action that isn't a read which
-- its view answers, or until the last turn of its budget is begun.
use Rattle.std.specs.Prelude.{◌≡◌, ℕ, ◌+◌, ◌-◌, min, Bool, true, not, IsTrue, List, [], ◌∷◌}
use Rattle.orca_base.specs.declared.ids.ProcessNo.{ProcessNo}
use Rattle.orca_base.specs.declared.limits.TheConstants.{BURST_TURNS}
use Rattle.value_core.specs.declared.action.Action.{Action}
use Rattle.value_core.specs.declared.action.Action.TheVariants as action
use Rattle.value_core.specs.declared.action.Class.{Class}
use Rattle.value_core.specs.declared.action.Class.TheVariants.{Reads, Writes}
use Rattle.value_core.specs.declared.action.Line.{Line}
use Rattle.value_core.specs.declared.meaning.Tried.{Tried}
use Rattle.value_core.specs.declared.meaning.Tried.TheVariants as tried
use Rattle.value_core.specs.declared.processor.Halt.{Halt}
use Rattle.value_core.specs.declared.processor.Halt.TheVariants as halt
use Rattle.value_core.specs.Goes.{Goes}
use Rattle.value_core.specs.History.{Objects}
use Rattle.value_core.specs.Meaning.{Performs}
use Rattle.guard_queue.specs.Settles.{guard_of, is_blocked, reply_of, tried_on}
use Rattle.world_rules.specs.Frame.{Frame}
use Rattle.world_rules.specs.Played.{Played, halted, next_call, receives}

-- ---- reads

abbrev pub if_reads : Class → Tried → Tried
if_reads Reads t = t
if_reads Writes t = tried.Blocked

-- a try of a read on replicated objects; what is no read of one of these is blocked
abbrev pub read_on : Performs → Objects → Action → Tried
read_on p objects (action.Call kind op object args) = if_reads (p.class_of kind op) (tried_on p objects kind op object args)
read_on p objects (action.Make kind object) = tried.Blocked
read_on p objects (action.Fork text args place_on) = tried.Blocked
read_on p objects action.Ended = tried.Blocked
read_on p objects (action.Faulted fault) = tried.Blocked

-- its line
abbrev pub read_line : ProcessNo → Played → Action → Tried → Line
read_line i r act t = record { process = i; call = next_call r; action = act; guard = guard_of t; reply = reply_of t }

-- ---- bursts

-- the turns at which a burst ends at the latest: it takes 10,000 at most, and no more than the process has left
abbrev pub last_turn : Frame → Played → ℕ
last_turn f r = r.turns + min BURST_TURNS (f.settings.turns - r.turns)

-- from r on the process computes up to here, and has then used so many turns in all
abbrev pub Halts : Frame → ProcessNo → Played → ℕ → ℕ → Halt → Type 0
Halts f i r last used at_halt = Goes (f.computes.doing r.text i r.args r.replies) (λ n. n ≡ used) r.turns (last - r.turns) at_halt

-- the objects answer the read at which it halts
abbrev pub is_answered : Frame → Objects → Action → Bool
is_answered f objects act = not (is_blocked (read_on f.performs objects act))

-- the burst ends where it halts
abbrev pub is_end : Frame → Objects → Halt → Bool
is_end f objects (halt.At act) = not (is_answered f objects act)
is_end f objects halt.Paused = true

-- the process with the reply to a read at this place, after so many turns
abbrev pub reads_on : ℕ → ℕ → Line → Played → Played
reads_on place used line r = record (receives place line.reply r) { turns = used }

-- it computes from r on, on the objects after so many entries, until these turns; it performs these reads, and stands so at the end
abbrev pub Ran : Frame → Objects → ℕ → ProcessNo → ℕ → Played → List Line → Played → Type 0
Ran f objects place i last r [] end =
    (at_halt : Halt) × (used : ℕ) × Halts f i r last used at_halt × IsTrue (is_end f objects at_halt) × (end ≡ halted used at_halt r)
Ran f objects place i last r (line ∷ lines) end =
    (act : Action) × (used : ℕ) × Halts f i r last used (halt.At act) × IsTrue (is_answered f objects act)
    × (line ≡ read_line i r act (read_on f.performs objects act)) × Ran f objects place i last (reads_on place used line r) lines end
