-- Results, faults, and stops of what comes first.
use Rattle.std.proofs.Common.{◌≡◌, Result, Ok, Err, refl, ap, sym, subst}
use Rattle.orca_base.specs.declared.fault.FaultKind.{FaultKind}
use Rattle.meaning_rules.specs.States.{State, Out, Goes, Stops, Faults, after, gives}
use Rattle.meaning_rules.specs.Operators.{and_then}
use Rattle.frame_variables.specs.declared.stop.Stop.{Stop}
use Rattle.frame_variables.specs.declared.stop.Stop.TheVariants as stop
use Rattle.frame_variables.specs.Gives.{Fails}

-- what goes on doesn't stop, but for want of memory
pub goes_not : {X Y : Type 0} (why : Stop) (x : X) (s : State) → Fails why (Goes x s) → (out : Out Y) → Fails why out
goes_not stop.NoMemory x s h out = tt
goes_not (stop.Needs action) x s h out = absurd cc
goes_not (stop.Faults fault) x s h out = absurd cc
goes_not stop.Busy x s h out = absurd cc

-- a fault is a fault of whatever result
pub same_fault : (X Y : Type 0) (why : Stop) (fault : FaultKind) → Fails {Y = X} why (Stops (Faults fault)) → Fails {Y = Y} why (Stops (Faults fault))
same_fault X Y stop.NoMemory fault h = tt
same_fault X Y (stop.Needs action) fault h = absurd cc
same_fault X Y (stop.Faults other) fault h = let same : fault ≡ other = cc in ap (λ f. Stops (Faults f)) same
same_fault X Y stop.Busy fault h = absurd cc

-- what stops first
pub fails_then : {A B : Type 0} (why : Stop) (o : Out A) (next : A → State → Out B) → Fails why o → Fails why (after o next)
fails_then stop.NoMemory o next h = tt
fails_then (stop.Needs action) o next h = ap (λ q. after q next) h
fails_then (stop.Faults fault) o next h = ap (λ q. after q next) h
fails_then stop.Busy o next h = ap (λ q. after q next) h

pub fails_first : {A B : Type 0} (why : Stop) (q : Result A FaultKind) (next : A → Result B FaultKind) (s : State) → Fails why (gives q s) → Fails why (gives (and_then q next) s)
fails_first {A} {B} why (Ok x) next s h = goes_not why x s h (gives (next x) s)
fails_first {A} {B} why (Err fault) next s h = same_fault A B why fault h

-- what goes on lacks nothing but memory where it stops
pub lacks : {X : Type 0} (why : Stop) (x : X) (s : State) → Fails why (Goes x s) → why ≡ stop.NoMemory
lacks stop.NoMemory x s h = refl
lacks (stop.Needs action) x s h = absurd cc
lacks (stop.Faults fault) x s h = absurd cc
lacks stop.Busy x s h = absurd cc

pub fails_without : {X : Type 0} (why : Stop) (out : Out X) → why ≡ stop.NoMemory → Fails why out
fails_without why out is = subst (λ w. Fails w out) (sym is) tt

pub gives_ok : {X : Type 0} (q : Result X FaultKind) (s : State) (x : X) → gives q s ≡ Goes x s → q ≡ Ok x
gives_ok (Ok y) s x h = let same : y ≡ x = cc in ap Ok same
gives_ok (Err fault) s x h = absurd cc
