-- The processes and the objects behind lines, as code keeps them.
use Rattle.std.specs.Prelude.{◌≡◌, ◌⊎◌, ◌+◌, ◌<◌, ◌≤◌, ◌^◌, ℕ, List, [], ◌∷◌, ◌++◌, Option, None, Some, IsTrue, length, slice_get, slice_set}
use Rattle.orca_base.specs.declared.ids.ProcessNo.{ProcessNo}
use Rattle.orca_base.specs.declared.ids.TextNo.{TextNo}
use Rattle.value_core.specs.Datum.{Data}
use Rattle.value_core.specs.Fits.{Kinds}
use Rattle.value_core.specs.Goes.{ForEach, ForSome, HasReplied}
use Rattle.value_core.specs.Lawful.{FitsAction, next_of}
use Rattle.value_core.specs.Performable.{is_performable}
use Rattle.value_core.specs.declared.action.Action.{Action}
use Rattle.value_core.specs.declared.action.Action.TheVariants as action
use Rattle.value_core.specs.declared.action.Line.{Line}
use Rattle.value_core.specs.declared.action.Reply.{Reply}
use Rattle.value_core.specs.declared.meaning.Doing.TheVariants as doing
use Rattle.value_core.specs.Meaning.{Performs, Computes}
use Rattle.value_core.specs.History.{Legal, Process, after_lines, most_turns, objects_of, opening, processes_of}
use Rattle.book_law.specs.Fitness.{ReplyFits, TextFits}
use Rattle.history_check.specs.Verdicts.{Breaks}
use Rattle.history_check.specs.declared.player.Player.{Player}
use Rattle.history_check.specs.declared.replayed.Replayed.{Replayed}
use Rattle.history_check.specs.declared.verdict.BreachRule.{BreachRule}

-- a machine's state stands for a text, number, arguments, replies and turns; and it was left at an action
abbrev pub Stood : Type 0 → Type 1
Stood S = S → TextNo → ProcessNo → Data → List Reply → ℕ → Type 0

abbrev pub Left : Type 0 → Type 1
Left S = S → Action → Type 0

-- how many processes have a number that a line can bear
abbrev pub most_kept : ℕ
most_kept = 2 ^ 16

-- ---- what stands for lines

-- the state stands for this process, which has turns left, and it had as many lines as replies
pub record IsPlayer {S : Type 0} (stands : Stood S) (number : ℕ) (player : Player S) (x : Process) : Type 0 where
  pub turns : ℕ
  pub state : stands player.state x.text (record { 0 = number }) x.args x.replies turns
  pub some : turns < most_turns
  pub calls : player.calls ≡ length x.replies

-- the first processes are kept, as many as have numbers, and each had no more lines than there are
pub record ArePlayed {S : Type 0} (stands : Stood S) (players : List (Option (Player S))) (processes : List Process) (most : ℕ) :
    Type 0 where
  pub kept : length players ≤ length processes
  pub within : length players ≤ most_kept
  pub all : length players < most_kept → length processes ≤ length players
  pub each :
      (j : ℕ) (x : Process) → j < length players → slice_get processes j ≡ Some x →
      (player : Player S) × (slice_get players j ≡ Some (Some player)) × IsPlayer stands j player x
  pub few : (j : ℕ) (x : Process) → slice_get processes j ≡ Some x → length x.replies ≤ most

-- the lines are a history, and what is kept stands for the configuration behind them
pub record Follows {S : Type 0} (p : Performs) (q : Computes) (stands : Stood S) (r : Replayed S) (lines : List Line) : Type 0 where
  pub legal : Legal p q lines
  pub objects : r.objects ≡ objects_of p q lines
  pub players : ArePlayed stands r.players.items (processes_of p q lines) (length lines)

-- the line was taken, or this is the first part of it that differs
abbrev pub IsTaken : {S : Type 0} → Performs → Computes → Stood S → List Line → Line → Replayed S → Option BreachRule → Type 0
IsTaken p q stands lines line r None = Follows p q stands r (lines ++ line ∷ [])
IsTaken p q stands lines line r (Some rule) = Breaks p q (after_lines p (opening q) lines) line rule

-- ---- a process

-- it stands for a process that has turns left
abbrev pub HasTurns : (TextNo → ProcessNo → Data → List Reply → ℕ → Type 0) → Type 0
HasTurns stands = ForSome (λ text number args replies turns. stands text number args replies turns × (turns < most_turns))

-- the next action of the process is this one, and no end
abbrev pub IsNext : Computes → TextNo → ProcessNo → Data → List Reply → Action → Type 0
IsNext q text number args replies act = (next_of q text number args replies ≡ doing.At act) × IsTrue (is_performable act)

-- whichever process the state stands for: it comes to this action, and the other state stands for it there; or it comes to none or another
abbrev pub ComesTo : {S : Type 0} → Computes → Stood S → S → Action → Option S → Type 0
ComesTo q stands state act (Some at) =
    ForEach (stands state)
    (λ text number args replies turns. IsNext q text number args replies act
    × (used : ℕ) × (used < most_turns) × stands at text number args replies used)
ComesTo q stands state act None = ForEach (stands state) (λ text number args replies turns. IsNext q text number args replies act → ⊥)

-- a fork's arguments fit its text
abbrev pub MayBegin : TextFits → Action → Type 0
MayBegin fits_text (action.Fork text args place_on) = (kinds : Kinds) × fits_text kinds text args
MayBegin fits_text (action.Make kind object) = Unit {0}
MayBegin fits_text (action.Call kind op object args) = Unit {0}
MayBegin fits_text action.Ended = Unit {0}
MayBegin fits_text (action.Faulted fault) = Unit {0}

-- a process that begins, with no line yet
pub record IsNewborn {S : Type 0} (stands : Stood S) (number : ℕ) (text : TextNo) (args : Data) (player : Player S) : Type 0 where
  pub state : stands player.state text (record { 0 = number }) args [] 0
  pub calls : player.calls ≡ 0

-- a fork's process comes behind the others, where it has a number that a line can bear
abbrev pub Begins : {S : Type 0} → Stood S → Action → List (Option (Player S)) → List (Option (Player S)) → Type 0
Begins {S} stands (action.Fork text args place_on) old new =
    ((length old < most_kept) × (player : Player S) × (new ≡ old ++ Some player ∷ []) × IsNewborn stands (length old) text args player)
    ⊎ ((most_kept ≤ length old) × (new ≡ old))
Begins stands (action.Make kind object) old new = new ≡ old
Begins stands (action.Call kind op object args) old new = new ≡ old
Begins stands action.Ended old new = new ≡ old
Begins stands (action.Faulted fault) old new = new ≡ old

-- ---- a line that is taken

-- the line's process was taken out, in a state that was left at its action; the reply is one that it can get, and a fork may begin
pub record MayTake {S : Type 0} (stands : Stood S) (left : Left S) (fits_text : TextFits) (fits_reply : ReplyFits) (r : Replayed S)
    (line : Line) (state : S) (reply : Reply) : Type 0 where
  pub place : line.process.0 < length r.players.items
  pub calls : line.call.0 < 2 ^ 32
  pub some : ForSome (stands state)
  pub at : left state line.action
  pub fits : FitsAction fits_reply (doing.At line.action) reply
  pub begins : MayBegin fits_text line.action

-- its process has one line and one reply more, and a fork's process comes behind the others
pub record Plays {S : Type 0} (stands : Stood S) (line : Line) (state : S) (reply : Reply) (old new : List (Option (Player S))) :
    Type 0 where
  pub player : Player S
  pub calls : player.calls ≡ line.call.0 + 1
  pub state_after : ForEach (stands state) (HasReplied reply (stands player.state))
  pub begins : Begins stands line.action (slice_set old line.process.0 (Some player)) new
