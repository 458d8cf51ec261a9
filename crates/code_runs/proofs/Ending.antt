-- What is made, and where a process then stands, by how a run halted.
use Rattle.std.proofs.Common.{◌≡◌, ◌+◌, ◌-◌, ℕ, [], Option, refl, sym, ap, ◌∙◌, subst, arith}
use Rattle.orca_base.specs.declared.fault.FaultKind.{FaultKind}
use Rattle.orca_base.specs.declared.fault.FaultKind.TheVariants.{TooLong}
use Rattle.value_core.specs.Goes.{IfAt}
use Rattle.value_core.specs.declared.action.Action.{Action}
use Rattle.value_core.specs.declared.meaning.Making.{Making}
use Rattle.value_core.specs.declared.meaning.Making.TheVariants as making
use Rattle.value_core.specs.declared.processor.Halt.{Halt}
use Rattle.value_core.specs.declared.processor.Halt.TheVariants as halt
use Rattle.value_core.specs.declared.value.Value.{Value}
use Rattle.code_rules.specs.Machine.{Code, Config, Effect, Steps, Turns, Asks, Fails, Ends, Tests, Blocks, Stuck, Phase, Running, Asking, Finished, ProcessState, exec, in_phase}
use Rattle.code_rules.specs.Performing.{Came, To, made_by}
use Rattle.code_rules.specs.Resuming.{goes_from, halt_by, halted}
use Rattle.code_steps.specs.Bodies.{effect_in}
use Rattle.code_steps.specs.declared.config.Effect.{Effect as Done}
use Rattle.code_steps.specs.declared.config.Effect.TheVariants as done
use Rattle.code_runs.specs.Runs.{Gives, HaltsSo, IsCame, come_to}
use Rattle.code_runs.proofs.Coming.{came_as, gives_as}
use Rattle.code_runs.proofs.Halting.{exec_halts, no_more}

-- what neither ended nor faulted is too long, or nothing is said of it
pub made_else : (fields : ℕ) (e : Done) (c : Config) → ((x : Option Value) → e ≡ done.Ends x → ⊥) → ((f : FaultKind) → e ≡ done.Fails f → ⊥) →
    IsCame (made_by fields (come_to (effect_in e c) 0)) (making.Broke TooLong)
made_else fields done.Steps c ends fails = tt
made_else fields done.Turns c ends fails = refl
made_else fields (done.Asks act) c ends fails = refl
made_else fields (done.Fails f) c ends fails = absurd (fails f refl)
made_else fields (done.Ends x) c ends fails = absurd (ends x refl)
made_else fields (done.Tests t address) c ends fails = tt
made_else fields done.Blocks c ends fails = tt
made_else fields done.Stuck c ends fails = tt

made_turns : (fields : ℕ) (e : Effect) (t t' : ℕ) → made_by fields (come_to e t) ≡ made_by fields (come_to e t')
made_turns fields (Steps c) t t' = refl
made_turns fields (Turns c) t t' = refl
made_turns fields (Asks act c) t t' = refl
made_turns fields (Fails fault) t t' = refl
made_turns fields (Ends x locals) t t' = refl
made_turns fields (Tests b address) t t' = refl
made_turns fields Blocks t t' = refl
made_turns fields Stuck t t' = refl

-- a making comes to what is made
pub makes_come : (code : Code) (fields : ℕ) (c : Config) (left left' : ℕ) (e : Effect) (m : Making) → HaltsSo code c left e left' → IsCame (made_by fields (come_to e 0)) m →
    Gives (λ k. made_by fields (exec code k c [] 0 left)) m
makes_come code fields c left left' e m h came =
    let most = no_more code c left left' e h in
    let r = exec_halts code c left left' e h 0 (left - left') (omega (arith, most)) in
    (r.0, came_as (made_by fields (exec code r.0 c [] 0 left)) (made_by fields (come_to e 0)) m (ap (made_by fields) r.1 ∙ made_turns fields e (left - left') 0) came)

-- ---- processes

pair_is : (s s' : ProcessState) (h h' : Halt) → s ≡ s' → h ≡ h' → ◌≡◌ {A = ProcessState × Halt} (s, h) (s', h')
pair_is s s' h h' es eh = ap (λ (x : ProcessState). let p : ProcessState × Halt = (x, h) in p) es ∙ ap (λ (x : Halt). let p : ProcessState × Halt = (s', x) in p) eh

came_to : (x : Came (ProcessState × Halt)) (s s' : ProcessState) (h h' : Halt) → x ≡ To (s', h') → s ≡ s' → h ≡ h' → IsCame x (s, h)
came_to x s s' h h' is es eh = came_as x (To (s', h')) (s, h) is (pair_is s s' h h' es eh)

-- it is left at the action to which it comes
pub left_asking : (s : ProcessState) (h : Halt) (act : Action) (c : Config) (t : ℕ) → s ≡ in_phase (Asking act c) t → h ≡ halt.At act → IfAt h (halted s)
left_asking s h act c t es eh = subst (λ (x : ProcessState). IfAt h (halted x)) (sym es) (subst (λ (x : Halt). IfAt x (halted (in_phase (Asking act c) t))) (sym eh) refl)

pub left_over : (s : ProcessState) (h : Halt) (act : Action) (t : ℕ) → s ≡ in_phase (Finished act) t → h ≡ halt.At act → IfAt h (halted s)
left_over s h act t es eh = subst (λ (x : ProcessState). IfAt h (halted x)) (sym es) (subst (λ (x : Halt). IfAt x (halted (in_phase (Finished act) t))) (sym eh) refl)

-- a run comes to where its process then stands
pub goes_come : (code : Code) (c : Config) (turns left left' : ℕ) (e : Effect) (t' : ℕ) (r : ProcessState × Halt) → HaltsSo code c left e left' → t' + left' ≡ turns + left →
    IsCame (halt_by (come_to e t')) r → Gives (λ k. halt_by (exec code k c [] turns left)) r
goes_come code c turns left left' e t' r h taken came =
    let s = exec_halts code c left left' e h turns t' taken in
    (s.0, came_as (halt_by (exec code s.0 c [] turns left)) (halt_by (come_to e t')) r (ap halt_by s.1) came)

-- ---- how far a process goes

-- a process that runs goes on behind the reply that was pushed
pub gone_on : (code : Code) (p : Phase) (c d : Config) (turns budget budget' : ℕ) (r : ProcessState × Halt) → p ≡ Running c → d ≡ c → budget' ≡ budget →
    Gives (goes_from code (Running d) turns budget') r → Gives (goes_from code p turns budget) r
gone_on code p c d turns budget budget' r is pushed same g =
    gives_as (goes_from code p turns budget) (goes_from code (Running d) turns budget') r
    (λ k. ap (λ (q : Phase). goes_from code q turns budget k) (is ∙ ap Running (sym pushed)) ∙ ap (λ (n : ℕ). goes_from code (Running d) turns n k) (sym same)) g

-- one that asks, or is over, stays where it is
pub stays_asking : (code : Code) (p : Phase) (act : Action) (c : Config) (turns budget : ℕ) (s : ProcessState) (h : Halt) → p ≡ Asking act c → s ≡ in_phase (Asking act c) turns →
    h ≡ halt.At act → Gives (goes_from code p turns budget) (s, h)
stays_asking code p act c turns budget s h is es eh =
    (0, came_to (goes_from code p turns budget 0) s (in_phase (Asking act c) turns) h (halt.At act) (ap (λ (q : Phase). goes_from code q turns budget 0) is) es eh)

pub stays_over : (code : Code) (p : Phase) (act : Action) (turns budget : ℕ) (s : ProcessState) (h : Halt) → p ≡ Finished act → s ≡ in_phase (Finished act) turns →
    h ≡ halt.At act → Gives (goes_from code p turns budget) (s, h)
stays_over code p act turns budget s h is es eh =
    (0, came_to (goes_from code p turns budget 0) s (in_phase (Finished act) turns) h (halt.At act) (ap (λ (q : Phase). goes_from code q turns budget 0) is) es eh)
