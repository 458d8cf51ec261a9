-- What the code of a program comes to is what is meant: of tries, makings and processes, where a run was given.
use Rattle.std.proofs.Common.{◌≡◌, ◌⊎◌, inl, inr, ℕ, zero, suc, ◌+◌, ◌<◌, ◌≤◌, ◌^◌, List, Some, Result, Ok, Err, slice_get, sym, ap, subst, ◌∙◌, arith}
use Rattle.std.specs.Prelude.{IfOk}
use Rattle.orca_base.specs.declared.fault.FaultKind.{FaultKind}
use Rattle.orca_base.specs.declared.ids.KindNo.{KindNo}
use Rattle.orca_base.specs.declared.ids.OpNo.{OpNo}
use Rattle.link_rules.specs.Units.{Source}
use Rattle.value_core.specs.Datum.{Data}
use Rattle.value_core.specs.Goes.{ForEach, GoesOn}
use Rattle.value_core.specs.History.{most_turns}
use Rattle.value_core.specs.declared.action.Reply.{Reply}
use Rattle.value_core.specs.declared.meaning.Tried.{Tried}
use Rattle.value_core.specs.declared.meaning.Tried.TheVariants as tried
use Rattle.value_core.specs.declared.processor.Halt.{Halt}
use Rattle.meaning_rules.specs.Meanings.{computes_of}
use Rattle.meaning_rules.specs.Operations.{tries_of}
use Rattle.code_rules.specs.Instructions.{Instr, Make}
use Rattle.code_rules.specs.Machine.{BodyNo, Code, ProcessState, body_at}
use Rattle.code_rules.specs.Performing.{Came, ComesTo, NotYet, To}
use Rattle.code_rules.specs.Program.{program_code}
use Rattle.code_rules.specs.Resuming.{Resumes, go, stands}
use Rattle.code_steps.specs.Moves.{HasRoom}
use Rattle.code_runs.specs.Runs.{Gives, HasRoomThroughout, HasSmallGuard, HasSmallGuards, IsCame}

-- ---- what was given

module _ {A : Type 0} (run : ℕ → Came A) (x : A) (comes : ComesTo run x) where
  -- is what a run comes to
  pub given_is : (y : A) → Gives run y → y ≡ x
  given_is y given = settled (comes.only given.0)
    where
      settled : (run given.0 ≡ NotYet) ⊎ (run given.0 ≡ To x) → y ≡ x
      settled (inl still) = absurd (subst (λ (r : Came A). IsCame r y) still given.1)
      settled (inr there) = subst (λ (r : Came A). IsCame r y) there given.1

  -- and came with so many instructions
  pub given_at : (y : A) (given : Gives run y) → run given.0 ≡ To y
  given_at y given = settled (comes.only given.0)
    where
      settled : (run given.0 ≡ NotYet) ⊎ (run given.0 ≡ To x) → run given.0 ≡ To y
      settled (inl still) = absurd (subst (λ (r : Came A). IsCame r y) still given.1)
      settled (inr there) = there ∙ ap To (sym (given_is y given))

  -- nothing else does
  pub came_alone : (k : ℕ) (y : A) → run k ≡ To y → x ≡ y
  came_alone k y came = settled (comes.only k)
    where
      settled : (run k ≡ NotYet) ⊎ (run k ≡ To x) → x ≡ y
      settled (inl still) = absurd (let gone : NotYet ≡ To y = sym still ∙ came in cc)
      settled (inr there) = let both : To x ≡ To y = sym there ∙ came in cc

-- ---- numbers

-- an object that a program's code makes has a number of 32 bits, wherever a run stands
pub has_room : (us : List Source) → ((body : BodyNo) (pc : ℕ) (kind : KindNo) (count slot : ℕ) → slice_get (body_at (program_code us) body) pc ≡ Some (Make kind count slot) → count < 2 ^ 32) →
    HasRoomThroughout (program_code us)
has_room us objects c i is = by_instr i is
  where
    by_instr : (j : Instr) → slice_get (body_at (program_code us) c.body) c.pc ≡ Some j → HasRoom j
    by_instr (Make kind count slot) there = objects c.body c.pc kind count slot there
    by_instr _ there = tt

-- a guard that decides a try has a number of 16 bits
module _ (us : List Source) (kind : KindNo) (op : OpNo) (state args : Data)
    (done : (after : Data) (guard : ℕ) (reply : Reply) → tries_of us kind op state args ≡ tried.Did guard after reply → guard < 2 ^ 16)
    (broken : (guard : ℕ) (fault : FaultKind) → tries_of us kind op state args ≡ tried.Broke guard fault → guard < 2 ^ 16) where
  small : (t : Tried) → tries_of us kind op state args ≡ t → HasSmallGuard t
  small tried.Blocked is = tt
  small (tried.Did guard after reply) is = done after guard reply is
  small (tried.Broke guard fault) is = broken guard fault is

  pub small_guards : (run : ℕ → Came Tried) → ComesTo run (tries_of us kind op state args) → HasSmallGuards run
  small_guards run comes k t came = small t (came_alone run (tries_of us kind op state args) comes k t came)

-- ---- processes

module _ (us : List Source) (code : Code) (resumes : Resumes us code) (s : ProcessState) where
  went_on : (budget : ℕ) (r : ProcessState × Halt) → 1 ≤ budget → Gives (go code s budget) r → ForEach (stands us code s) (GoesOn (computes_of us) (stands us code r.0) budget r.1)
  went_on zero r some given = absurd (omega (arith, some))
  went_on (suc n) r some given = λ text number args replies turns stood.
      let halts = resumes.halts s n (text, number, args, replies, turns, stood) in
      resumes.goes s n given.0 r (given_at (go code s (suc n)) halts.0 halts.1 r given) text number args replies turns stood

  -- what a run was given is what each process comes to for which the state stands
  pub goes_on : {E : Type 0} (budget : ℕ) (result : Result (ProcessState × Halt) E) → 1 ≤ budget →
      ForEach (stands us code s) (λ text number args replies turns. turns + budget ≤ most_turns) →
      (s.turns + budget < 2 ^ 64 → IfOk result (λ r. Gives (go code s budget) (r.0, r.1))) →
      IfOk result (λ r. ForEach (stands us code s) (GoesOn (computes_of us) (stands us code r.0) budget r.1))
  goes_on budget (Err e) some room came = tt
  goes_on budget (Ok r) some room came = λ text number args replies turns stood.
      let count : s.turns ≡ turns = stood.count in
      let few : turns + budget ≤ 10000000 = room text number args replies turns stood in
      went_on budget r some (came (omega (arith, count, few))) text number args replies turns stood
