-- Runs of code: where one halts, and what is given of it.
use Rattle.std.specs.Prelude.{◌≡◌, ◌<◌, ◌^◌, ℕ, suc, []}
use Rattle.value_core.specs.declared.meaning.Tried.{Tried}
use Rattle.value_core.specs.declared.meaning.Tried.TheVariants as tried
use Rattle.code_rules.specs.Machine.{Code, Config, Effect, Steps, Turns, step, RunResult, Lost, react}
use Rattle.code_rules.specs.Performing.{Attempt, Came, To, NotYet, GotStuck, tried_by}
use Rattle.code_steps.specs.Moves.{HasRoomAt}

-- wherever a run may stand, reached or not, an object that the instruction there makes has a number of 32 bits
abbrev pub HasRoomThroughout : Code → Type 0
HasRoomThroughout code = (c : Config) → HasRoomAt code c

-- what an instruction does that ends a run: all but a step, and a turn with which another one is left
abbrev pub IsHalt : Effect → ℕ → Type 0
IsHalt (Steps c) left = ⊥
IsHalt (Turns c) (suc (suc n)) = ⊥
IsHalt _ left = Unit {0}

-- from a configuration, with so many turns left, a run halts so, with so many turns left
pub data HaltsSo (code : Code) : Config → ℕ → Effect → ℕ → Type 0 where
  halts : {c : Config} {left : ℕ} {e : Effect} → step code c ≡ e → IsHalt e left → HaltsSo code c left e left
  steps : {c d : Config} {left left' : ℕ} {e : Effect} → step code c ≡ Steps d → HaltsSo code d left e left' →
      HaltsSo code c left e left'
  turns : {c d : Config} {n left' : ℕ} {e : Effect} → step code c ≡ Turns d → HaltsSo code d (suc n) e left' →
      HaltsSo code c (suc (suc n)) e left'

-- what a run comes to that halts so, after so many turns; what doesn't halt is lost
abbrev pub come_to : Effect → ℕ → RunResult
come_to e taken = react e (λ c replies taken' left. Lost) [] taken 1

-- what a guard or its body comes to that halts so; after a test a try goes on
abbrev pub ends_with : Attempt → ℕ → Effect → Came Tried
ends_with a guard e = tried_by a guard (λ guard' c left. GotStuck) e 1

-- it came to this, or it got stuck, and then nothing is said
abbrev pub IsCame : {A : Type 0} → Came A → A → Type 0
IsCame (To x) y = y ≡ x
IsCame NotYet y = ⊥
IsCame GotStuck y = Unit {0}

-- with some number of instructions it did
abbrev pub Gives : {A : Type 0} → (ℕ → Came A) → A → Type 0
Gives run y = (k : ℕ) × IsCame (run k) y

-- the number of a guard has 16 bits
abbrev pub HasSmallGuard : Tried → Type 0
HasSmallGuard tried.Blocked = Unit {0}
HasSmallGuard (tried.Did guard state reply) = guard < 2 ^ 16
HasSmallGuard (tried.Broke guard fault) = guard < 2 ^ 16

-- whatever a try comes to
abbrev pub HasSmallGuards : (ℕ → Came Tried) → Type 0
HasSmallGuards run = (k : ℕ) (t : Tried) → run k ≡ To t → HasSmallGuard t
