-- Where a run halts, what it comes to.
use Rattle.std.proofs.Common.{Bool, ◌^◌, ◌≡◌, ◌+◌, ◌≤◌, ◌<◌, ℕ, zero, suc, [], Option, take, drop, refl, sym, ap, ◌∙◌, subst, arith}
use Rattle.std.specs.Prelude.{option_map}
use Rattle.orca_base.specs.declared.fault.FaultKind.{FaultKind}
use Rattle.orca_base.specs.declared.fault.FaultKind.TheVariants.{TooLong}
use Rattle.orca_base.specs.declared.limits.TheConstants.{OPERATION_TURNS}
use Rattle.value_core.specs.Datum.{Data, data_of}
use Rattle.value_core.specs.View.{datum_of}
use Rattle.value_core.specs.declared.action.Reply.{Reply}
use Rattle.value_core.specs.declared.meaning.Tried.{Tried}
use Rattle.value_core.specs.declared.meaning.Tried.TheVariants as tried
use Rattle.value_core.specs.declared.value.Value.{Value}
use Rattle.meaning_rules.specs.Operations.{reply_of}
use Rattle.code_rules.specs.Machine.{Code, Config, Effect, Steps, Turns, Asks, Fails, Ends, Tests, Blocks, Stuck, Continuation, exec, react, step}
use Rattle.code_rules.specs.Performing.{Attempt, Came, To, attempted, next_guard, part_of, tried_by, trying}
use Rattle.code_steps.specs.Bodies.{effect_in}
use Rattle.code_steps.specs.declared.config.Effect.{Effect as Done}
use Rattle.code_steps.specs.declared.config.Effect.TheVariants as done
use Rattle.code_runs.specs.Runs.{HaltsSo, halts, steps, turns, HasSmallGuard, IsCame, IsHalt, come_to, ends_with}
use Rattle.code_runs.proofs.Coming.{came_as}

-- a halt comes to the same, whatever would go on behind it
react_halts : (e : Effect) (left : ℕ) → IsHalt e left → (go : Continuation) (t : ℕ) → react e go [] t left ≡ come_to e t
react_halts (Steps c) left h go t = absurd h
react_halts (Turns c) zero h go t = refl
react_halts (Turns c) (suc zero) h go t = refl
react_halts (Turns c) (suc (suc n)) h go t = absurd h
react_halts (Asks a c) left h go t = refl
react_halts (Fails fault) left h go t = refl
react_halts (Ends x locals) left h go t = refl
react_halts (Tests b address) left h go t = refl
react_halts Blocks left h go t = refl
react_halts Stuck left h go t = refl

-- a run's instructions, counted
pub exec_halts : (code : Code) (c : Config) (left left' : ℕ) (e : Effect) → HaltsSo code c left e left' → (t t' : ℕ) → t' + left' ≡ t + left → (k : ℕ) × (exec code k c [] t left ≡ come_to e t')
exec_halts code c left left' e (halts is h) t t' taken =
    let same : t ≡ t' = omega arith in
    (1, ap (λ x. react x (exec code 0) [] t left) is ∙ react_halts e left h (exec code 0) t ∙ ap (come_to e) same)
exec_halts code c left left' e (steps {d = d} is rest) t t' taken =
    let r = exec_halts code d left left' e rest t t' taken in
    (suc r.0, ap (λ x. react x (exec code r.0) [] t left) is ∙ r.1)
exec_halts code c left left' e (turns {d = d} {n = n} is rest) t t' taken =
    let r = exec_halts code d (suc n) left' e rest (t + 1) t' (omega (arith, taken)) in
    (suc r.0, ap (λ x. react x (exec code r.0) [] t (suc (suc n))) is ∙ r.1)

-- the same of a try
trying_halts : (code : Code) (a : Attempt) (guard j : ℕ) (c : Config) (left left' : ℕ) (e : Effect) → HaltsSo code c left e left' →
    (k : ℕ) × (trying code a k guard c left ≡ tried_by a guard (trying code a j) e left')
trying_halts code a guard j c left left' e (halts is h) = (suc j, ap (λ x. tried_by a guard (trying code a j) x left) is)
trying_halts code a guard j c left left' e (steps {d = d} is rest) =
    let r = trying_halts code a guard j d left left' e rest in
    (suc r.0, ap (λ x. tried_by a guard (trying code a r.0) x left) is ∙ r.1)
trying_halts code a guard j c left left' e (turns {d = d} {n = n} is rest) =
    let r = trying_halts code a guard j d (suc n) left' e rest in
    (suc r.0, ap (λ x. tried_by a guard (trying code a r.0) x (suc (suc n))) is ∙ r.1)

-- turns are left or taken
pub no_more : (code : Code) (c : Config) (left left' : ℕ) (e : Effect) → HaltsSo code c left e left' → left' ≤ left
no_more code c left left' e (halts is h) = omega arith
no_more code c left left' e (steps {d = d} is rest) = no_more code d left left' e rest
no_more code c left left' e (turns {d = d} {n = n} is rest) = let r = no_more code d (suc n) left' e rest in omega (arith, r)

-- and one is left of some
pub some_left : (code : Code) (c : Config) (left left' : ℕ) (e : Effect) → HaltsSo code c left e left' → 1 ≤ left → 1 ≤ left'
some_left code c left left' e (halts is h) some = some
some_left code c left left' e (steps {d = d} is rest) some = some_left code d left left' e rest some
some_left code c left left' e (turns {d = d} {n = n} is rest) some = some_left code d (suc n) left' e rest (omega arith)

-- a number of turns that is the same
pub halts_with : (code : Code) (c : Config) (left other left' : ℕ) (e : Effect) → left ≡ other → HaltsSo code c left e left' → HaltsSo code c other e left'
halts_with code c left other left' e same h = subst (λ (n : ℕ). HaltsSo code c n e left') same h

-- how it halted
halt_of : (code : Code) (c : Config) (left left' : ℕ) (e : Effect) → HaltsSo code c left e left' → IsHalt e left'
halt_of code c left left' e (halts is h) = h
halt_of code c left left' e (steps {d = d} is rest) = halt_of code d left left' e rest
halt_of code c left left' e (turns {d = d} {n = n} is rest) = halt_of code d (suc n) left' e rest

-- a turn with which another one is left
pub turn_more : (code : Code) (c d : Config) (e : Effect) (left left' less : ℕ) → 1 < left → less + 1 ≡ left → step code c ≡ Turns d → HaltsSo code d less e left' → HaltsSo code c left e left'
turn_more code c d e zero left' less many one is rest = absurd (omega (arith, many))
turn_more code c d e (suc zero) left' less many one is rest = absurd (omega (arith, many))
turn_more code c d e (suc (suc n)) left' less many one is rest =
    let same : less ≡ suc n = omega (arith, one) in
    turns is (subst (λ k. HaltsSo code d k e left') same rest)

-- ---- tries

abbrev pub IsNoTest : Effect → Type 0
IsNoTest (Tests t address) = ⊥
IsNoTest _ = Unit {0}

tried_halts : (a : Attempt) (guard : ℕ) (e : Effect) (left : ℕ) → IsHalt e left → IsNoTest e → (on : ℕ → Config → ℕ → Came Tried) → tried_by a guard on e left ≡ ends_with a guard e
tried_halts a guard (Steps c) left h n on = absurd h
tried_halts a guard (Turns c) zero h n on = refl
tried_halts a guard (Turns c) (suc zero) h n on = refl
tried_halts a guard (Turns c) (suc (suc k)) h n on = absurd h
tried_halts a guard (Asks act c) left h n on = refl
tried_halts a guard (Fails fault) left h n on = refl
tried_halts a guard (Ends x locals) left h n on = refl
tried_halts a guard (Tests t address) left h n on = absurd n
tried_halts a guard Blocks left h n on = refl
tried_halts a guard Stuck left h n on = refl

-- whatever is tried from here was tried from the beginning
abbrev pub TriesOn : Code → Attempt → ℕ → ℕ → Config → ℕ → Type 0
TriesOn code a first guard c left = (k : ℕ) → (j : ℕ) × (attempted code a first j ≡ trying code a k guard c left)

pub begun_try : (code : Code) (a : Attempt) (first guard left : ℕ) (c : Config) → guard ≡ first → left ≡ OPERATION_TURNS + 1 → c ≡ part_of a 0 → TriesOn code a first guard c left
begun_try code a first guard left c same all is k =
    (k, ap (λ g. trying code a k g (part_of a 0) (OPERATION_TURNS + 1)) (sym same) ∙ ap (λ l. trying code a k guard (part_of a 0) l) (sym all) ∙ ap (λ d. trying code a k guard d left) (sym is))

-- a test leads on
pub tested : (code : Code) (a : Attempt) (first guard guard' : ℕ) (c d : Config) (t : Bool) (address left left' : ℕ) → TriesOn code a first guard c left →
    HaltsSo code c left (Tests t address) left' → guard' ≡ next_guard t guard → d ≡ part_of a address → TriesOn code a first guard' d (OPERATION_TURNS + 1)
tested code a first guard guard' c d t address left left' on halted next is k =
    let r = trying_halts code a guard k c left left' (Tests t address) halted in
    let s = on r.0 in
    (s.0, s.1 ∙ r.1 ∙ ap (λ g. trying code a k g (part_of a address) (OPERATION_TURNS + 1)) (sym next) ∙ ap (λ x. trying code a k guard' x (OPERATION_TURNS + 1)) (sym is))

-- what else halts ends the try
pub ended : (code : Code) (a : Attempt) (first guard : ℕ) (c : Config) (e : Effect) (left left' : ℕ) → TriesOn code a first guard c left →
    HaltsSo code c left e left' → IsNoTest e → (j : ℕ) × (attempted code a first j ≡ ends_with a guard e)
ended code a first guard c e left left' on halted none =
    let r = trying_halts code a guard 0 c left left' e halted in
    let s = on r.0 in
    (s.0, s.1 ∙ r.1 ∙ tried_halts a guard e left' (halt_of code c left left' e halted) none (trying code a 0))

pub no_test : (e : Done) (c : Config) → ((t : Bool) (address : ℕ) → e ≡ done.Tests t address → ⊥) → IsNoTest (effect_in e c)
no_test done.Steps c h = tt
no_test done.Turns c h = tt
no_test (done.Asks a) c h = tt
no_test (done.Fails f) c h = tt
no_test (done.Ends x) c h = tt
no_test (done.Tests t address) c h = h t address refl
no_test done.Blocks c h = tt
no_test done.Stuck c h = tt

-- an end gives what it leaves
pub tried_ended : (a : Attempt) (guard number : ℕ) (e : Done) (c : Config) (x : Option Value) (state : Data) (r : Reply) → e ≡ done.Ends x → (guard < 2 ^ 16 → number ≡ guard) →
    ((t : Tried) → ends_with a guard (effect_in e c) ≡ To t → HasSmallGuard t) → state ≡ data_of (drop a.own (take a.names c.locals)) → r ≡ reply_of (option_map datum_of x) →
    IsCame (ends_with a guard (effect_in e c)) (tried.Did number state r)
tried_ended a guard number e c x state r is same small left gives =
    let whole : Tried = tried.Did guard (data_of (drop a.own (take a.names c.locals))) (reply_of (option_map datum_of x)) in
    let came : ends_with a guard (effect_in e c) ≡ To whole = ap (λ (d : Done). ends_with a guard (effect_in d c)) is in
    let n : number ≡ guard = same (small whole came) in
    came_as (ends_with a guard (effect_in e c)) (To whole) (tried.Did number state r) came (cc)

-- what is neither a fault nor an end, nor that all guards were false, is too long, or nothing is said of it
pub tried_else : (a : Attempt) (guard number : ℕ) (e : Done) (c : Config) → ((x : Option Value) → e ≡ done.Ends x → ⊥) → ((f : FaultKind) → e ≡ done.Fails f → ⊥) → (e ≡ done.Blocks → ⊥) →
    (guard < 2 ^ 16 → number ≡ guard) → ((x : Tried) → ends_with a guard (effect_in e c) ≡ To x → HasSmallGuard x) → IsCame (ends_with a guard (effect_in e c)) (tried.Broke number TooLong)
tried_else a guard number done.Steps c ends fails blocks is small = tt
tried_else a guard number done.Turns c ends fails blocks is small = ap (λ g. tried.Broke g TooLong) (is (small (tried.Broke guard TooLong) refl))
tried_else a guard number (done.Asks act) c ends fails blocks is small = ap (λ g. tried.Broke g TooLong) (is (small (tried.Broke guard TooLong) refl))
tried_else a guard number (done.Fails f) c ends fails blocks is small = absurd (fails f refl)
tried_else a guard number (done.Ends x) c ends fails blocks is small = absurd (ends x refl)
tried_else a guard number (done.Tests t address) c ends fails blocks is small = tt
tried_else a guard number done.Blocks c ends fails blocks is small = absurd (blocks refl)
tried_else a guard number done.Stuck c ends fails blocks is small = tt
