-- A process comes to its next action, and a fork's process begins.
use Rattle.std.proofs.Common.{◌≡◌, ℕ, ◌+◌, ◌-◌, ◌<◌, ◌≤◌, ◌⊎◌, inl, inr, Option, None, Some, List, [], ◌∷◌, ◌++◌, length, refl, sym, ap, ◌∙◌, arith, subst}
use Rattle.std.specs.Prelude.{IsTrue, ℤ}
use Rattle.orca_base.specs.declared.ids.ProcessNo.{ProcessNo}
use Rattle.orca_base.specs.declared.ids.TextNo.{TextNo}
use Rattle.value_core.specs.Datum.{Data}
use Rattle.value_core.specs.Goes.{ForEach, GoesOn, IfAt}
use Rattle.value_core.specs.Lawful.{next_of}
use Rattle.value_core.specs.Performable.{is_performable}
use Rattle.value_core.specs.declared.action.Action.{Action}
use Rattle.value_core.specs.declared.action.Action.TheVariants as action
use Rattle.value_core.specs.declared.action.Reply.{Reply}
use Rattle.value_core.specs.declared.meaning.Doing.TheVariants as doing
use Rattle.value_core.specs.declared.processor.Halt.{Halt}
use Rattle.value_core.specs.declared.processor.Halt.TheVariants as halt
use Rattle.value_core.specs.Meaning.{Computes}
use Rattle.value_core.specs.History.{Process, forked, most_turns}
use Rattle.history_check.specs.Players.{Begins, ComesTo, HasTurns, IsNewborn, Left, Stood, most_kept}
use Rattle.history_check.specs.declared.player.Player.{Player}

-- what a process does next, once it isn't busy, is the same for every greater number of turns
abbrev pub Settles : Computes → Type 0
Settles q = (text : TextNo) (number : ProcessNo) (args : Data) (replies : List Reply) (n k : ℕ) → (q.doing text number args replies n ≡ doing.Busy → ⊥) → q.doing text number args replies (n + k) ≡ q.doing text number args replies n

-- so an action that is reached by fewer turns than a run may allow is the next one
reached : (q : Computes) (text : TextNo) (number : ProcessNo) (args : Data) (replies : List Reply) (used : ℕ) (act : Action) → Settles q → used < most_turns → q.doing text number args replies (used + 1) ≡ doing.At act → next_of q text number args replies ≡ doing.At act
reached q text number args replies used act settles lt is =
    let all : used + 1 + (most_turns - (used + 1)) ≡ most_turns = omega arith in
    subst (λ (n : ℕ). q.doing text number args replies n ≡ doing.At act) all
    (settles text number args replies (used + 1) (most_turns - (used + 1)) (λ busy. absurd (let f : doing.At act ≡ doing.Busy = sym is ∙ busy in cc f)) ∙ is)

-- the budget is all turns that are left
abbrev pub IsLeft : {S : Type 0} → Stood S → S → ℕ → Type 0
IsLeft stands state budget = ForEach (stands state) (λ text number args replies turns. turns + budget ≡ most_turns)

pub comes_there : (S : Type 0) (stands : Stood S) (q : Computes) (state after : S) (budget : ℕ) (act : Action) → Settles q → IsLeft stands state budget → ForEach (stands state) (GoesOn q (stands after) budget (halt.At act)) → IsTrue (is_performable act) → ComesTo q stands state act (Some after)
comes_there S stands q state after budget act settles left goes performable = λ text number args replies turns at.
    let g = goes text number args replies turns at in
    let all = left text number args replies turns at in
    let less = g.2 in
    let some : g.0 < most_turns = omega (arith, all, less) in
    ((reached q text number args replies g.0 act settles some g.3.0, performable), g.0, some, g.4)

other_action : (q : Computes) (text : TextNo) (number : ProcessNo) (args : Data) (replies : List Reply) (a b : Action) → next_of q text number args replies ≡ doing.At a → next_of q text number args replies ≡ doing.At b → a ≡ b
other_action q text number args replies a b is other = let e : doing.At a ≡ doing.At b = sym is ∙ other in cc e

pub comes_elsewhere : (S : Type 0) (stands : Stood S) (q : Computes) (state after : S) (budget : ℕ) (act : Action) (h : Halt) → Settles q → IsLeft stands state budget → ForEach (stands state) (GoesOn q (stands after) budget h) → ((h ≡ halt.At act) × IsTrue (is_performable act) → ⊥) → ComesTo q stands state act None
comes_elsewhere S stands q state after budget act halt.Paused settles left goes not = λ text number args replies turns at next.
    let g = goes text number args replies turns at in
    let busy : next_of q text number args replies ≡ doing.Busy = subst (λ (n : ℕ). q.doing text number args replies n ≡ doing.Busy) (left text number args replies turns at) g.0 in
    absurd (let f : doing.At act ≡ doing.Busy = sym next.0 ∙ busy in cc f)
comes_elsewhere S stands q state after budget act (halt.At other) settles left goes not = λ text number args replies turns at next.
    let g = goes text number args replies turns at in
    let all = left text number args replies turns at in
    let less = g.2 in
    let some : g.0 < most_turns = omega (arith, all, less) in
    let same : other ≡ act = other_action q text number args replies other act (reached q text number args replies g.0 other settles some g.3.0) next.0 in
    not (ap (λ (a : Action). halt.At a) same, next.1)

-- ---- forks

-- the process that begins, and that it is kept
pub record Begun {S : Type 0} (stands : Stood S) (old new : List (Option (Player S))) (x : Process) : Type 0 where
  pub early : length old < most_kept
  pub player : Player S
  pub behind : new ≡ old ++ Some player ∷ []
  pub newborn : IsNewborn stands (length old) x.text x.args player
  pub none : x.replies ≡ []

-- an action forks nothing, or a process that isn't kept, or one that is
pub begins_cases : (S : Type 0) (stands : Stood S) (a : Action) (old new : List (Option (Player S))) → Begins stands a old new
    → ((new ≡ old) × (forked a ≡ [])) ⊎ ((x : Process) × (forked a ≡ x ∷ []) × (((new ≡ old) × (most_kept ≤ length old) × (x.replies ≡ [])) ⊎ Begun stands old new x))
begins_cases S stands (action.Fork text args place_on) old new (inl h) = inr (_, refl, inr (record { early = h.0; player = h.1; behind = h.2; newborn = h.3; none = refl }))
begins_cases S stands (action.Fork text args place_on) old new (inr h) = inr (_, refl, inl (h.1, h.0, refl))
begins_cases S stands (action.Make kind object) old new h = inl (h, refl)
begins_cases S stands (action.Call kind op object args) old new h = inl (h, refl)
begins_cases S stands action.Ended old new h = inl (h, refl)
begins_cases S stands (action.Faulted fault) old new h = inl (h, refl)

-- a fork's process that begins behind the others
pub begun_fork : (S : Type 0) (stands : Stood S) (act : Action) (text : TextNo) (args : Data) (place_on : Option ℤ) (old new : List (Option (Player S))) (state : S) (number : ℕ) → act ≡ action.Fork text args place_on → number ≡ length old → number < most_kept → stands state text (record { 0 = number }) args [] 0
    → new ≡ old ++ Some (record { state = state; calls = 0 }) ∷ [] → Begins stands act old new
begun_fork S stands act text args place_on old new state number is long lt there behind = subst (λ (a : Action). Begins stands a old new) (sym is)
    (inl (omega (arith, lt, long), record { state = state; calls = 0 }, behind, record { state = subst (λ (n : ℕ). stands state text (record { 0 = n }) args [] 0) long there; calls = refl }))

-- ---- how many turns are left

pub turns_left : (S : Type 0) (stands : Stood S) (state : S) (result : ℕ) → HasTurns (stands state) → ForEach (stands state) (λ text number args replies turns. result ≡ turns) → result < most_turns
turns_left S stands state result some each =
    let is = each some.0 some.1 some.2 some.3 some.4 some.5.0 in
    let lt = some.5.1 in
    omega (arith, is, lt)

pub all_left : (S : Type 0) (stands : Stood S) (state : S) (result budget : ℕ) → HasTurns (stands state) → ForEach (stands state) (λ text number args replies turns. result ≡ turns) → budget ≡ most_turns - result → IsLeft stands state budget
all_left S stands state result budget some each is = λ text number args replies turns at.
    let lt = turns_left S stands state result some each in
    let e = each text number args replies turns at in
    omega (arith, lt, e, is)

-- where it halted at the action
pub comes_by : (S : Type 0) (stands : Stood S) (q : Computes) (state after : S) (budget : ℕ) (act : Action) (h : Halt) → Settles q → IsLeft stands state budget → ForEach (stands state) (GoesOn q (stands after) budget h) → (h ≡ halt.At act) × IsTrue (is_performable act) → ComesTo q stands state act (Some after)
comes_by S stands q state after budget act h settles left goes is = comes_there S stands q state after budget act settles left (subst (λ (k : Halt). ForEach (stands state) (GoesOn q (stands after) budget k)) is.0 goes) is.1

pub left_by : (S : Type 0) (halted : Left S) (after : S) (h : Halt) (act : Action) → h ≡ halt.At act → IfAt h (halted after) → halted after act
left_by S halted after h act is left = subst (λ (k : Halt). IfAt k (halted after)) is left
