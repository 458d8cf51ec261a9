-- Runs, tries and makings, instruction by instruction: what is left of one comes to what it gives, in a number of instructions that falls.
-- A machine that runs one keeps that, and so gives what the meaning says.
use Rattle.std.specs.Prelude.{◌≡◌, ◌==◌, if◌then◌else◌, ℕ, zero, suc, ◌+◌, List, [], length, drop, take, Some, None}
use Rattle.orca_base.specs.declared.fault.FaultKind.TheVariants.{TooLong}
use Rattle.orca_base.specs.declared.ids.KindNo.{KindNo}
use Rattle.orca_base.specs.declared.ids.OpNo.{OpNo}
use Rattle.orca_base.specs.declared.limits.TheConstants.{OPERATION_TURNS}
use Rattle.link_rules.specs.Units.{Source}
use Rattle.value_core.specs.Datum.{Data, data_of}
use Rattle.value_core.specs.Datum as datum
use Rattle.value_core.specs.Goes as budgets
use Rattle.value_core.specs.Goes.{ForEach, ForSome, IfAt}
use Rattle.value_core.specs.declared.action.Action.TheVariants as action
use Rattle.value_core.specs.declared.action.Reply.TheVariants as reply
use Rattle.value_core.specs.declared.meaning.Making.{Making}
use Rattle.value_core.specs.declared.meaning.Making.TheVariants as making
use Rattle.value_core.specs.declared.meaning.Tried.{Tried}
use Rattle.value_core.specs.declared.meaning.Tried.TheVariants as tried
use Rattle.value_core.specs.declared.processor.Halt.{Halt}
use Rattle.value_core.specs.declared.processor.Halt.TheVariants as halt
use Rattle.meaning_rules.specs.Meanings.{computes_of, performs_of}
use Rattle.meaning_rules.specs.Operations.{reply_of}
use Rattle.code_rules.specs.Machine.{Body, OfMaking, OfOperation, OperationCode, Code, Config, Effect, Steps, Turns, Asks, Fails, Ends, Tests, Blocks, Stuck, with_spare, body_of, operation_of, step, exec, Running, Asking, Finished, ProcessState, in_phase}
use Rattle.code_rules.specs.Performing.{To, Attempt, attempt_of, next_guard, part_of, trying, made_by, begun, nobody}
use Rattle.code_rules.specs.Correct.{IsTry}
use Rattle.code_rules.specs.Resuming.{halted, stands, halt_by}

-- the number is at least one, and this holds of one less
abbrev pub WithOneLess : ℕ → (ℕ → Type 0) → Type 0
WithOneLess k P = (n : ℕ) × (k ≡ suc n) × P n

-- ---- processes

module _ (code : Code) (outcome : ProcessState × Halt) where
  -- after so many turns, and with this budget, it comes from this configuration to the halt in at most so many instructions
  pub record IsRunning (c : Config) (turns budget k : ℕ) : Type 0 where
    pub comes : halt_by (exec code k c [] turns budget) ≡ To outcome

  -- a turn is begun: with the last one of the budget the process is paused
  abbrev pub RunTurns : Config → ℕ → ℕ → ℕ → Type 0
  RunTurns c turns zero k = outcome ≡ (in_phase (Running c) (turns + 1), halt.Paused)
  RunTurns c turns (suc zero) k = outcome ≡ (in_phase (Running c) (turns + 1), halt.Paused)
  RunTurns c turns (suc (suc n)) k = IsRunning c (turns + 1) (suc n) k

  abbrev pub RunFollows : Effect → ℕ → ℕ → ℕ → Type 0
  RunFollows (Steps c) turns budget k = IsRunning c turns budget k
  RunFollows (Turns c) turns budget k = RunTurns c turns budget k
  RunFollows (Asks a c) turns budget k = outcome ≡ (in_phase (Asking a c) turns, halt.At a)
  RunFollows (Fails fault) turns budget k = outcome ≡ (in_phase (Finished (action.Faulted fault)) turns, halt.At (action.Faulted fault))
  RunFollows (Ends x locals) turns budget k = outcome ≡ (in_phase (Finished action.Ended) turns, halt.At action.Ended)
  RunFollows (Tests t address) turns budget k = ⊥
  RunFollows Blocks turns budget k = ⊥
  RunFollows Stuck turns budget k = ⊥

-- ---- tries

module _ (code : Code) (a : Attempt) (outcome : Tried) where
  -- at this guard or in its body, with so many turns left, it comes from this configuration to the outcome in at most so many instructions
  pub record IsTrying (guard : ℕ) (c : Config) (left k : ℕ) : Type 0 where
    pub comes : trying code a k guard c left ≡ To outcome

  -- the last turn may not be begun
  abbrev pub TryTurns : ℕ → Config → ℕ → ℕ → Type 0
  TryTurns guard c zero k = outcome ≡ tried.Broke guard TooLong
  TryTurns guard c (suc zero) k = outcome ≡ tried.Broke guard TooLong
  TryTurns guard c (suc (suc n)) k = IsTrying guard c (suc n) k

  abbrev pub TryFollows : ℕ → Effect → ℕ → ℕ → Type 0
  TryFollows guard (Steps c) left k = IsTrying guard c left k
  TryFollows guard (Turns c) left k = TryTurns guard c left k
  TryFollows guard (Asks act c) left k = outcome ≡ tried.Broke guard TooLong
  TryFollows guard (Fails fault) left k = outcome ≡ tried.Broke guard fault
  TryFollows guard (Ends x locals) left k = outcome ≡ tried.Did guard (data_of (drop a.own (take a.names locals))) (reply_of x)
  TryFollows guard (Tests t address) left k = IsTrying (next_guard t guard) (part_of a address) (OPERATION_TURNS + 1) k
  TryFollows guard Blocks left k = outcome ≡ tried.Blocked
  TryFollows guard Stuck left k = ⊥

-- ---- makings

module _ (code : Code) (fields : ℕ) (outcome : Making) where
  -- with so many turns left, whatever number it took, it comes from this configuration to the outcome in at most so many instructions
  pub record IsMaking (c : Config) (left k : ℕ) : Type 0 where
    pub turns : ℕ
    pub comes : made_by fields (exec code k c [] turns left) ≡ To outcome

  abbrev pub MakeTurns : Config → ℕ → ℕ → Type 0
  MakeTurns c zero k = outcome ≡ making.Broke TooLong
  MakeTurns c (suc zero) k = outcome ≡ making.Broke TooLong
  MakeTurns c (suc (suc n)) k = IsMaking c (suc n) k

  abbrev pub MakeFollows : Effect → ℕ → ℕ → Type 0
  MakeFollows (Steps c) left k = IsMaking c left k
  MakeFollows (Turns c) left k = MakeTurns c left k
  MakeFollows (Asks act c) left k = outcome ≡ making.Broke TooLong
  MakeFollows (Fails fault) left k = outcome ≡ making.Broke fault
  MakeFollows (Ends x locals) left k = outcome ≡ making.Made (data_of (take fields locals))
  MakeFollows (Tests t address) left k = ⊥
  MakeFollows Blocks left k = ⊥
  MakeFollows Stuck left k = ⊥

-- ---- of any code

-- one instruction of what comes to an outcome leads on to it, in a number of instructions less by one
pub record StepsSo (code : Code) : Type 0 where
  pub run_follows : (outcome : ProcessState × Halt) (c : Config) (turns budget k : ℕ) → IsRunning code outcome c turns budget k →
      WithOneLess k (RunFollows code outcome (step code c) turns budget)
  pub try_follows : (a : Attempt) (outcome : Tried) (guard : ℕ) (c : Config) (left k : ℕ) → IsTrying code a outcome guard c left k →
      WithOneLess k (TryFollows code a outcome guard (step code c) left)
  pub make_follows : (fields : ℕ) (outcome : Making) (c : Config) (left k : ℕ) → IsMaking code fields outcome c left k →
      WithOneLess k (MakeFollows code fields outcome (step code c) left)

-- ---- of code that means a program

pub record BeginsSo (us : List Source) (code : Code) : Type 0 where
  -- a process that runs comes to a halt, with a budget of at least one turn
  pub runs : (c : Config) (turns n : ℕ) → ForSome (stands us code (in_phase (Running c) turns)) →
      (outcome : ProcessState × Halt) × ((k : ℕ) × IsRunning code outcome c turns (suc n) k)
  -- that is what the meaning comes to with that budget, and at an action it is left there
  pub arrives : (outcome : ProcessState × Halt) (c : Config) (turns n k : ℕ) → IsRunning code outcome c turns (suc n) k →
      ForEach (stands us code (in_phase (Running c) turns))
      (budgets.GoesOn (computes_of us) (stands us code outcome.0) (suc n) outcome.1) × IfAt outcome.1 (halted outcome.0)
  -- a try of an operation that there is begins at its first guard or body
  pub tries : (kind : KindNo) (op : OpNo) (state args : Data) (o : OperationCode) → IsTry us kind op state args →
      operation_of code kind.0 op.0 ≡ Some o →
      let a : Attempt = attempt_of (OfOperation kind.0 op.0) o.body state args in
      (k : ℕ) × IsTrying code a ((performs_of us).tries kind op state args) o.first (part_of a 0) (OPERATION_TURNS + 1) k
  -- and a making at its first instruction
  pub makes : (kind : KindNo) (part : Body) → body_of code (OfMaking kind.0) ≡ Some part →
      (k : ℕ) × IsMaking code (length part.opens) ((performs_of us).made kind)
      (begun nobody (OfMaking kind.0) 0 (with_spare part part.opens)) (OPERATION_TURNS + 1) k
  -- where there is no such code, it is at once what it gives: the output object takes each line, and keeps its state
  pub tries_nothing : (kind : KindNo) (op : OpNo) (state args : Data) → IsTry us kind op state args →
      operation_of code kind.0 op.0 ≡ None →
      (performs_of us).tries kind op state args ≡ (if kind.0 == 0 then tried.Did 0 state reply.Done else tried.Blocked)
  pub makes_nothing : (kind : KindNo) → body_of code (OfMaking kind.0) ≡ None → (performs_of us).made kind ≡ making.Made datum.none
