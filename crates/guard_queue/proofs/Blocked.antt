-- Calls that are blocked: after settling all are, and one that isn't on an object that was put in stays so.
use Rattle.std.proofs.Common.{◌≡◌, ℕ, ◌+◌, ◌<◌, ◌≤◌, Bool, true, false, not, cond, List, [], ◌∷◌, ◌++◌, length, Option, Some, None, ap, ◌∙◌, sym, refl, subst, zero, suc, arith, remove}
use Rattle.std.specs.Prelude.{slice_get, get_or, slice_index_or}
use Rattle.std.specs.Cmp.{tied_itself}
use Rattle.std.specs.Ordering.{is_eq}
use Rattle.std.specs.List.{position_from}
use Rattle.std.specs.BTreeMap.{is_at}
use Rattle.orca_base.specs.declared.ids.ObjectId.{ObjectId}
use Rattle.value_core.specs.declared.action.Instance.{Instance}
use Rattle.value_core.specs.declared.meaning.Tried.{Tried}
use Rattle.value_core.specs.declared.meaning.Tried.TheVariants as tried
use Rattle.value_core.specs.Meaning.{Performs}
use Rattle.value_core.specs.History.{Objects, after_try, object_cmp, object_at, with_object}
use Rattle.guard_queue.specs.declared.queue.Suspended.{Suspended}
use Rattle.guard_queue.specs.Settles.{AllBlocked, Settling, is_blocked, is_ready, next_ready, objects_if, objects_with, performed, settle_up_to, settled_from, stepped, tried_at, tried_in}
use Rattle.guard_queue.specs.Rounds.{OthersBlocked}
use Rattle.guard_queue.specs.Waits.{IsWaitingOn}
use Rattle.guard_queue.proofs.Lookups.{object_at-with_object, object_total, same_id}
use Rattle.guard_queue.proofs.Rounds.{blocked_at, blocked_from, within}
use Rattle.guard_queue.proofs.Steps.{from_remove, settle_at_end}

-- what a write leaves of a call on another object
pub tried_beside : (p : Performs) (objects : Objects) (object : ObjectId) (kept : Instance) (call : Suspended) → (call.object ≡ object → ⊥) → tried_in p (with_object objects object kept) call ≡ tried_in p objects call
tried_beside p objects object kept call apart =
    ap (tried_at p call) (object_at-with_object objects object kept call.object)
    ∙ elim (is_at (object_cmp call.object) object) as (λ b. is_at (object_cmp call.object) object ≡ b → tried_at p call (cond b (Some kept) (object_at objects call.object)) ≡ tried_in p objects call) [
      | true ↦ λ here. absurd (apart (same_id call.object object here))
      | false ↦ λ away. refl
    ] refl

-- each call of the queue is blocked, by its place
pub at_place : (p : Performs) (objects : Objects) (queue : List Suspended) → AllBlocked p objects queue → (at : ℕ) (call : Suspended) → slice_get queue at ≡ Some call → tried_in p objects call ≡ tried.Blocked
at_place p objects [] all at call is = cc
at_place p objects (c ∷ cs) all zero call is = let same : c ≡ call = cc is in subst (λ x. tried_in p objects x ≡ tried.Blocked) same (all 0 c (omega arith))
at_place p objects (c ∷ cs) all (suc at) call is = at_place p objects cs (λ k d lt. all (suc k) d (omega arith)) at call is

from_places_at : (p : Performs) (objects : Objects) (queue : List Suspended) → ((at : ℕ) (call : Suspended) → slice_get queue at ≡ Some call → tried_in p objects call ≡ tried.Blocked)
    → (k : ℕ) (d : Suspended) → k < length queue → tried_in p objects (get_or queue k d) ≡ tried.Blocked
from_places_at p objects [] all k d lt = absurd (omega arith)
from_places_at p objects (c ∷ cs) all zero d lt = all 0 c refl
from_places_at p objects (c ∷ cs) all (suc k) d lt = from_places_at p objects cs (λ at call is. all (suc at) call is) k d (omega arith)

pub from_places : (p : Performs) (objects : Objects) (queue : List Suspended) → ((at : ℕ) (call : Suspended) → slice_get queue at ≡ Some call → tried_in p objects call ≡ tried.Blocked) → AllBlocked p objects queue
from_places p objects queue all = from_places_at p objects queue all

not_ready : (p : Performs) (objects : Objects) (call : Suspended) → tried_in p objects call ≡ tried.Blocked → is_ready p objects call ≡ false
not_ready p objects call is = ap (λ t. not (is_blocked t)) is

none_ready_from : (p : Performs) (objects : Objects) (n : ℕ) (queue : List Suspended) → AllBlocked p objects queue → position_from (is_ready p objects) n queue ≡ None
none_ready_from p objects n [] all = refl
none_ready_from p objects n (c ∷ cs) all =
    ap (λ b. cond b (Some n) (position_from (is_ready p objects) (n + 1) cs)) (not_ready p objects c (all 0 c (omega arith)))
    ∙ none_ready_from p objects (n + 1) cs (λ k d lt. all (suc k) d (omega arith))

-- where all are blocked nothing happens
pub settled_stays : (p : Performs) (s : Settling) → AllBlocked p s.objects s.queue → settled_from p s ≡ s
settled_stays p s all = settle_at_end p (length s.queue) s (none_ready_from p s.objects 0 s.queue all)

-- the place that is found passes
passes : {X : Type 0} (t : X → Bool) (n : ℕ) (xs : List X) (at : ℕ) → position_from t n xs ≡ Some at → (k : ℕ) × (x : X) × (at ≡ n + k) × (slice_get xs k ≡ Some x) × (t x ≡ true)
passes t n [] at is = cc
passes t n (x ∷ xs) at is =
    elim (t x) as (λ b. t x ≡ b → cond b (Some n) (position_from t (n + 1) xs) ≡ Some at → (k : ℕ) × (y : _) × (at ≡ n + k) × (slice_get (x ∷ xs) k ≡ Some y) × (t y ≡ true)) [
      | true ↦ λ h f. let e : n ≡ at = cc f in (0, x, omega (arith, e), refl, h)
      | false ↦ λ h f. let r = passes t (n + 1) xs at f in let e = r.2 in (suc r.0, r.1, omega (arith, e), r.3, r.4)
    ] refl is

-- the call that is ready
pub ready_at : (p : Performs) (objects : Objects) (queue : List Suspended) (at : ℕ) → next_ready p objects queue ≡ Some at → (call : Suspended) × (slice_get queue at ≡ Some call) × (is_ready p objects call ≡ true)
ready_at p objects queue at is =
    let r = passes (is_ready p objects) 0 queue at is in
    let e : at ≡ r.0 = (let f = r.2 in omega (arith, f)) in
    (r.1, subst (λ k. slice_get queue k ≡ Some r.1) (sym e) r.3, r.4)

fewer : {X : Type 0} (xs : List X) (at : ℕ) → at < length xs → length (remove xs at) + 1 ≡ length xs
fewer [] at lt = absurd (omega arith)
fewer (x ∷ xs) zero lt = omega arith
fewer (x ∷ xs) (suc at) lt = let r = fewer xs at (omega arith) in omega (arith, r)

pub step_length : (p : Performs) (s : Settling) (at : ℕ) → next_ready p s.objects s.queue ≡ Some at → length (stepped p s (Some at)).queue + 1 ≡ length s.queue
step_length p s at is =
    let call = ready_at p s.objects s.queue at is in
    ap (λ o. length (performed p s at o).queue + 1) call.1 ∙ fewer s.queue at (within s.queue at call.0 call.1)

blocked_up_to : (p : Performs) (n : ℕ) (s : Settling) → length s.queue ≤ n → AllBlocked p (settle_up_to p n s).objects (settle_up_to p n s).queue
blocked_up_to p zero s few = λ k d lt. absurd (omega arith)
blocked_up_to p (suc n) s few =
    elim (next_ready p s.objects s.queue) as (λ o. next_ready p s.objects s.queue ≡ o → AllBlocked p (settle_up_to p n (stepped p s o)).objects (settle_up_to p n (stepped p s o)).queue) [
      | None ↦ λ none. subst (λ (t : Settling). AllBlocked p t.objects t.queue) (sym (settle_at_end p n s none)) (blocked_from p s.objects 0 s.queue none)
      | Some at ↦ λ is. let l = step_length p s at is in blocked_up_to p n (stepped p s (Some at)) (omega (arith, l))
    ] refl

-- after settling each call is blocked
pub settled_blocked : (p : Performs) (s : Settling) → AllBlocked p (settled_from p s).objects (settled_from p s).queue
settled_blocked p s = blocked_up_to p (length s.queue) s (omega arith)

-- what a call leaves of one on another object
tried_with_beside : (p : Performs) (objects : Objects) (call : Suspended) (t : Tried) (other : Suspended) → (other.object ≡ call.object → ⊥) → tried_in p (objects_with objects call t) other ≡ tried_in p objects other
tried_with_beside p objects call t other apart =
    elim (object_at objects call.object) as (λ o. tried_in p (objects_if objects call t o) other ≡ tried_in p objects other) [
      | None ↦ refl
      | Some kept ↦ elim t as (λ u. tried_in p (after_try objects call.object kept u) other ≡ tried_in p objects other) [
        | tried.Blocked ↦ refl
        | tried.Did guard state reply ↦ tried_beside p objects call.object (record { kind = kept.kind; state = state }) other apart
        | tried.Broke guard fault ↦ refl
      ]
    ]

-- where calls on other objects are blocked, one that is ready is on this one
on_object : (p : Performs) (objects : Objects) (object : ObjectId) (call : Suspended) → ((call.object ≡ object → ⊥) → tried_in p objects call ≡ tried.Blocked) → is_ready p objects call ≡ true → call.object ≡ object
on_object p objects object call others ready =
    elim (is_at (object_cmp call.object) object) as (λ b. is_at (object_cmp call.object) object ≡ b → call.object ≡ object) [
      | true ↦ λ here. same_id call.object object here
      | false ↦ λ away.
          let apart : call.object ≡ object → ⊥ = λ e. let here : is_at (object_cmp call.object) object ≡ true = (ap (λ q. is_at (object_cmp q) object) e ∙ ap is_eq (tied_itself object_total object)) in absurd (cc (here, away)) in
          let no : is_ready p objects call ≡ false = not_ready p objects call (others apart) in absurd (cc (no, ready))
    ] refl

-- a round leaves the calls on other objects blocked
pub others_stepped : (p : Performs) (s : Settling) (on : Option ObjectId) (at : ℕ) → next_ready p s.objects s.queue ≡ Some at → OthersBlocked p s.objects s.queue on
    → OthersBlocked p (stepped p s (Some at)).objects (stepped p s (Some at)).queue on
others_stepped p s None at is others = tt
others_stepped p s (Some object) at is others =
    let one = ready_at p s.objects s.queue at is in
    let same : one.0.object ≡ object = on_object p s.objects object one.0 (others at one.0 one.1) one.2 in
    subst (λ o. OthersBlocked p (performed p s at o).objects (performed p s at o).queue (Some object)) (sym one.1)
    (λ k call there apart.
    let was = from_remove s.queue at k call there in
    tried_with_beside p s.objects one.0 (tried_in p s.objects one.0) call (λ e. apart (e ∙ same)) ∙ others was.0 call was.1 apart)

-- where all are blocked, a write leaves the calls on other objects so
pub others_put : (p : Performs) (objects : Objects) (queue : List Suspended) (object : ObjectId) (kept : Instance) → AllBlocked p objects queue → OthersBlocked p (with_object objects object kept) queue (Some object)
others_put p objects queue object kept all = λ at call is apart. tried_beside p objects object kept call apart ∙ at_place p objects queue all at call is

or_place : {X : Type 0} (xs : List X) (i : ℕ) (x : X) → slice_get xs i ≡ Some x → slice_index_or xs i x ≡ x
or_place [] i x is = cc
or_place (y ∷ ys) zero x is = cc
or_place (y ∷ ys) (suc i) x is = or_place ys i x is

-- and all, where none waits on it
pub none_on : (p : Performs) (objects : Objects) (queue : List Suspended) (object : ObjectId) (kept : Instance) → AllBlocked p objects queue → (IsWaitingOn queue object → ⊥) → AllBlocked p (with_object objects object kept) queue
none_on p objects queue object kept all none =
    from_places p (with_object objects object kept) queue (λ at call is.
    others_put p objects queue object kept all at call is (λ e. none (at, call, within queue at call is, or_place queue at call is, e)))

-- one more call that is blocked
pub blocked_last : (p : Performs) (objects : Objects) (queue : List Suspended) (call : Suspended) → AllBlocked p objects queue → tried_in p objects call ≡ tried.Blocked → AllBlocked p objects (queue ++ call ∷ [])
blocked_last p objects [] call all is = blocked_at p objects call [] is (λ k d lt. absurd (omega arith))
blocked_last p objects (c ∷ cs) call all is = blocked_at p objects c (cs ++ call ∷ []) (all 0 c (omega arith)) (blocked_last p objects cs call (λ k d lt. all (suc k) d (omega arith)) is)
