-- Variables that are changed where they stand.
use Rattle.std.proofs.Common.{◌≡◌, ℕ, ℤ, zero, suc, Some, List, [], ◌∷◌, Result, Ok, Err, refl, ap, sym, ◌∙◌, subst}
use Rattle.std.specs.Prelude.{ok_or, slice_get, slice_set}
use Rattle.orca_base.specs.declared.fault.FaultKind.{FaultKind}
use Rattle.orca_base.specs.declared.fault.FaultKind.TheVariants.{IndexOutside}
use Rattle.value_core.specs.Datum.{Datum}
use Rattle.value_core.specs.Datum as datum
use Rattle.graph_values.specs.Graphs as graphs
use Rattle.value_core.specs.View.{datum_of}
use Rattle.value_core.specs.declared.value.Value.{Value}
use Rattle.value_paths.specs.declared.step.Step.{Step as ValueStep}
use Rattle.value_paths.specs.Paths.{part_at, with_part}
use Rattle.meaning_rules.specs.States.{State, Goes, after, gives}
use Rattle.meaning_rules.specs.Operators.{and_then, fitting}
use Rattle.meaning_rules.specs.Variables.{Target, add_node, change, changed_at, changed_whole, enlarge, held, store, stored, whole_at}
use Rattle.frame_variables.specs.declared.stop.Stop.{Stop}
use Rattle.frame_variables.specs.declared.stop.Stop.TheVariants as stop
use Rattle.frame_variables.specs.Exchanges.{Exchanges, IsPut, PutsBack, PutsPart}
use Rattle.frame_variables.specs.Gives.{Fails, Gives}
use Rattle.frame_variables.proofs.Stopping.{fails_first, fails_then, fails_without, goes_not, lacks, same_fault}

-- ---- where something stands, and by gives what is put

changed_is : (to : Target) (by : Datum → Result Datum FaultKind) (old new : Datum) (s s1 : State) (p : IsPut to old new s s1) → by old ≡ Ok new →
    changed_whole to by s ≡ Ok (with_part to.path p.whole new)
changed_is to by old new s s1 p given =
    ap (λ q. and_then q (changed_at to.path by)) p.is
    ∙ ap (λ q. and_then q (λ x. and_then (by x) (λ y. Ok (with_part to.path p.whole y)))) p.stood
    ∙ ap (λ q. and_then q (λ y. Ok (with_part to.path p.whole y))) given

pub changes : (to : Target) (by : Datum → Result Datum FaultKind) (old new : Datum) (s s1 : State) → IsPut to old new s s1 → by old ≡ Ok new → change to by s ≡ Goes tt s1
changes to by old new s s1 p given =
    ap (λ q. after (gives q s) (λ whole s2. Goes tt (stored to.slot whole s2))) (changed_is to by old new s s1 p given) ∙ ap (Goes tt) (sym p.stands)

-- and the variable is then no larger than one may be
sized : (whole : Datum) (slot : ℕ) (s s1 : State) → s1 ≡ stored slot whole s → (q : Result Datum FaultKind) (r : Result (Unit {0}) Stop) → Gives (λ u. whole) r s1 (gives q s1) →
    Gives (λ u. u) r s1 (after (gives q s) (λ w s2. Goes tt (stored slot w s2)))
sized whole slot s s1 stands (Ok w) (Ok u) h = let same : w ≡ whole = cc in ap (λ v. Goes tt (stored slot v s)) same ∙ ap (Goes tt) (sym stands)
sized whole slot s s1 stands (Err fault) (Ok u) h = absurd cc
sized whole slot s s1 stands (Ok w) (Err why) h = goes_not why w s1 h (Goes tt (stored slot w s))
sized whole slot s s1 stands (Err fault) (Err why) h = same_fault Datum (Unit {0}) why fault h

pub enlarges : (to : Target) (by : Datum → Result Datum FaultKind) (old new : Datum) (s s1 : State) (r : Result (Unit {0}) Stop) (p : IsPut to old new s s1) → by old ≡ Ok new →
    Gives (λ u. with_part to.path p.whole new) r s1 (gives (fitting (with_part to.path p.whole new)) s1) → Gives (λ u. u) r s1 (enlarge to by s)
enlarges to by old new s s1 r p given fits =
    subst (Gives (λ u. u) r s1) (sym (ap (λ q. after (gives (and_then q fitting) s) (λ whole s2. Goes tt (stored to.slot whole s2))) (changed_is to by old new s s1 p given)))
    (sized (with_part to.path p.whole new) to.slot s s1 p.stands (fitting (with_part to.path p.whole new)) r fits)

-- ---- the variable of a target

set_there : (xs : List Datum) (i : ℕ) (v w : Datum) → ok_or (slice_get xs i) IndexOutside ≡ Ok v → ok_or (slice_get (slice_set xs i w) i) IndexOutside ≡ Ok w
set_there [] i v w h = absurd cc
set_there (x ∷ xs) zero v w h = refl
set_there (x ∷ xs) (suc i) v w h = set_there xs i v w h

set_twice : (xs : List Datum) (i : ℕ) (v w : Datum) → slice_set (slice_set xs i v) i w ≡ slice_set xs i w
set_twice [] i v w = refl
set_twice (x ∷ xs) zero v w = refl
set_twice (x ∷ xs) (suc i) v w = ap (λ ys. x ∷ ys) (set_twice xs i v w)

pub whole_put : (to : Target) (old new : Datum) (s s1 : State) (p : IsPut to old new s s1) → whole_at to s1 ≡ Ok (with_part to.path p.whole new)
whole_put to old new s s1 p = ap (whole_at to) p.stands ∙ set_there s.frame to.slot p.whole (with_part to.path p.whole new) p.is

-- ---- what was taken out for a while, with zero in its place

-- the laws of paths that this takes
pub record Walks : Type 0 where
  pub stands : (path : List ValueStep) (v p x : Datum) → part_at path v ≡ Ok p → part_at path (with_part path v x) ≡ Ok x
  pub again : (path : List ValueStep) (v p x y : Datum) → part_at path v ≡ Ok p → with_part path (with_part path v x) y ≡ with_part path v y

pub put_again : Walks → (to : Target) (old other x y : Datum) (s s1 s2 : State) → IsPut to old x s s1 → IsPut to other y s1 s2 → IsPut to old y s s2
put_again laws to old other x y s s1 s2 p q =
    let whole_is = sym q.is ∙ whole_put to old x s s1 p in
    let same : q.whole ≡ with_part to.path p.whole x = cc in
    record {
      whole = p.whole;
      is = p.is;
      stood = p.stood;
      stands = q.stands
          ∙ ap (λ w. stored to.slot (with_part to.path w y) s1) same
          ∙ ap (λ w. stored to.slot w s1) (laws.again to.path p.whole old x y p.stood)
          ∙ ap (λ t. stored to.slot (with_part to.path p.whole y) t) p.stands
          ∙ ap (λ xs. record s { frame = xs }) (set_twice s.frame to.slot (with_part to.path p.whole x) (with_part to.path p.whole y));
    }

held_put : Walks → (to : Target) (old x : Datum) (s s1 : State) → IsPut to old x s s1 → held to s1 ≡ Goes x s1
held_put laws to old x s s1 p =
    ap (λ q. gives (and_then q (part_at to.path)) s1) (whole_put to old x s s1 p)
    ∙ ap (λ q. gives q s1) (laws.stands to.path p.whole old x p.stood)

pub lacks_only : Walks → (to : Target) (old x : Datum) (s s1 : State) (why : Stop) → IsPut to old x s s1 → Fails why (held to s1) → why ≡ stop.NoMemory
lacks_only laws to old x s s1 why p h = lacks why x s1 (subst (Fails why) (held_put laws to old x s s1 p) h)

-- ---- what code does to a variable

pub exchanges : (to to' : Target) (x : Datum) (s : State) (frame : List Datum) (old new : Datum) (r : Result Value Stop) → to' ≡ to → slice_get s.frame to.slot ≡ Some old → PutsPart to'.path x old r new → frame ≡ slice_set s.frame to.slot new →
    Exchanges to x s r (record s { frame = frame })
exchanges to to' x s frame old new (Ok part) same stands put is = record {
  whole = old;
  is = ap (λ o. ok_or o IndexOutside) stands;
  stood = subst (λ t. part_at t.path old ≡ Ok (datum_of part)) same put.0;
  stands = ap (λ xs. record s { frame = xs }) (is ∙ ap (slice_set s.frame to.slot) (put.1 ∙ ap (λ t. with_part t.path old x) same));
}
exchanges to to' x s frame old new (Err why) same stands put is =
    subst (λ q. Fails why (gives (and_then q (part_at to.path)) s)) (sym (ap (λ o. ok_or o IndexOutside) stands)) (subst (λ t. Fails why (gives (part_at t.path old) s)) same (put s))

held_is : (to : Target) (old x : Datum) (s s1 : State) → IsPut to old x s s1 → held to s ≡ Goes old s
held_is to old x s s1 p = ap (λ q. gives (and_then q (part_at to.path)) s) p.is ∙ ap (λ q. gives q s) p.stood

pub lowered_changes : (to : Target) (by : Datum → Result Datum FaultKind) (old new : Datum) (s s1 : State) (r : Result (Unit {0}) Stop) → PutsBack to old new s r s1 → by old ≡ Ok new → Gives (λ u. u) r s1 (change to by s)
lowered_changes to by old new s s1 (Ok u) p given = changes to by old new s s1 p given
lowered_changes to by old new s s1 (Err why) p given = fails_without why (change to by s) p

pub checked_enlarges : (to : Target) (by : Datum → Result Datum FaultKind) (old new : Datum) (s s1 : State) (r : Result (Unit {0}) Stop) → IsPut to old new s s1 → by old ≡ Ok new →
    ((whole : Datum) → whole_at to s1 ≡ Ok whole → Gives (λ u. whole) r s1 (gives (fitting whole) s1)) → Gives (λ u. u) r s1 (enlarge to by s)
checked_enlarges to by old new s s1 r p given check = enlarges to by old new s s1 r p given (check (with_part to.path p.whole new) (whole_put to old new s s1 p))

by_fails : (to : Target) (by : Datum → Result Datum FaultKind) (old x : Datum) (s s1 : State) (why : Stop) (p : IsPut to old x s s1) → Fails why (gives (by old) s) → Fails why (gives (changed_whole to by s) s)
by_fails to by old x s s1 why p h =
    subst (λ q. Fails why (gives q s))
    (sym (ap (λ q. and_then q (changed_at to.path by)) p.is ∙ ap (λ q. and_then q (λ y. and_then (by y) (λ z. Ok (with_part to.path p.whole z)))) p.stood))
    (fails_first why (by old) (λ z. Ok (with_part to.path p.whole z)) s h)

pub change_by_fails : (to : Target) (by : Datum → Result Datum FaultKind) (old x : Datum) (s s1 : State) (why : Stop) → IsPut to old x s s1 → Fails why (gives (by old) s) → Fails why (change to by s)
change_by_fails to by old x s s1 why p h = fails_then why (gives (changed_whole to by s) s) (λ whole s2. Goes tt (stored to.slot whole s2)) (by_fails to by old x s s1 why p h)

-- ---- nodes

pub node_added : (to : Target) (fresh old graph : Datum) (name : ℤ) (s s1 : State) → IsPut to old graph s s1 → gives (graphs.added fresh old) s ≡ Goes (name, graph) s →
    add_node to fresh s ≡ after (store to graph s) (λ u s2. Goes (Some (datum.int name)) s2)
node_added to fresh old graph name s s1 p given =
    ap (λ o. after o (λ g t. after (gives (graphs.added fresh g) t) (λ new t2. after (store to new.1 t2) (λ u t3. Goes (Some (datum.int new.0)) t3)))) (held_is to old graph s s1 p)
    ∙ ap (λ o. after o (λ new t2. after (store to new.1 t2) (λ u t3. Goes (Some (datum.int new.0)) t3))) given

pub added_fails : (to : Target) (fresh old graph : Datum) (name : ℤ) (s s1 : State) (why : Stop) → IsPut to old graph s s1 → gives (graphs.added fresh old) s ≡ Goes (name, graph) s → Fails why (store to graph s) → Fails why (add_node to fresh s)
added_fails to fresh old graph name s s1 why p given h =
    subst (Fails why) (sym (node_added to fresh old graph name s s1 p given)) (fails_then why (store to graph s) (λ u s2. Goes (Some (datum.int name)) s2) h)

pub added_goes : (to : Target) (fresh old graph : Datum) (name : ℤ) (s s1 : State) → IsPut to old graph s s1 → gives (graphs.added fresh old) s ≡ Goes (name, graph) s → store to graph s ≡ Goes tt s1 →
    add_node to fresh s ≡ Goes (Some (datum.int name)) s1
added_goes to fresh old graph name s s1 p given h = node_added to fresh old graph name s s1 p given ∙ ap (λ o. after o (λ u s2. Goes (Some (datum.int name)) s2)) h
