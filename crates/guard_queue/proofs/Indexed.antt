-- An index of how many calls are on each object, as calls come and go.
use Rattle.std.proofs.Common.{◌≡◌, ℕ, ◌+◌, ◌-◌, ◌<◌, Bool, true, false, cond, List, [], ◌∷◌, ◌++◌, length, get_or, ap, ◌∙◌, sym, refl, zero, suc, arith, remove, is_some}
use Rattle.std.specs.BTreeMap.{BTreeMap, get, is_at}
use Rattle.std.specs.Cmp.{tied_itself}
use Rattle.std.specs.Option.{unwrap_or}
use Rattle.std.specs.Ordering.{is_eq}
use Rattle.std.proofs.lemmas.List.Sums.{get_or-le-sum_by, sum_by-cons, sum_by-remove, sum_by_push}
use Rattle.orca_base.specs.declared.ids.ObjectId.{ObjectId}
use Rattle.value_core.specs.History.{object_cmp}
use Rattle.guard_queue.specs.declared.queue.Suspended.{Suspended}
use Rattle.guard_queue.specs.Waits.{Indexes, IsIndexOf, IsWaitingOn, entry_for, indexed, waiting_on}
use Rattle.guard_queue.proofs.Lookups.{object_total, same_id}
use Rattle.guard_queue.proofs.Places.{any_behind}

-- 1 for a call on this object
abbrev pub one_on : ObjectId → Suspended → ℕ
one_on object call = cond (is_at (object_cmp call.object) object) 1 0

-- a call more, and a call less
waiting_last : (calls : List Suspended) (call : Suspended) (q : ObjectId) → waiting_on (calls ++ call ∷ []) q ≡ waiting_on calls q + one_on q call
waiting_last calls call q = sum_by_push (one_on q) calls call

waiting_less : (calls : List Suspended) (at : ℕ) (call : Suspended) (q : ObjectId) → at < length calls → call ≡ get_or calls at call → waiting_on (remove calls at) q + one_on q call ≡ waiting_on calls q
waiting_less calls at call q lt is = ap (λ c. waiting_on (remove calls at) q + one_on q c) is ∙ sum_by-remove (one_on q) calls at call lt

entry_back : (n : ℕ) → unwrap_or (entry_for n) 0 ≡ n
entry_back zero = refl
entry_back (suc n) = refl

-- what an index has is how many there are
pub indexed_is : (index : BTreeMap ObjectId ℕ) (calls : List Suspended) (q : ObjectId) → IsIndexOf index calls → indexed index q ≡ waiting_on calls q
indexed_is index calls q is = ap (λ o. unwrap_or o 0) (is q) ∙ entry_back (waiting_on calls q)

more_at : (index : BTreeMap ObjectId ℕ) (calls : List Suspended) (object q : ObjectId) (b : Bool) → is_at (object_cmp object) q ≡ b → IsIndexOf index calls
    → cond b (entry_for (indexed index object + 1)) (get object_cmp index q) ≡ entry_for (waiting_on calls q + cond b 1 0)
more_at index calls object q true here is = ap (λ n. entry_for (n + 1)) (indexed_is index calls object is ∙ ap (waiting_on calls) (same_id object q here))
more_at index calls object q false there is = is q ∙ ap entry_for (omega arith)

-- with a call more at the end
pub index_more : (before after : BTreeMap ObjectId ℕ) (calls : List Suspended) (call : Suspended) → IsIndexOf before calls
    → Indexes before call.object (indexed before call.object + 1) after → IsIndexOf after (calls ++ call ∷ [])
index_more before after calls call is more q =
    more q ∙ more_at before calls call.object q (is_at (object_cmp call.object) q) refl is ∙ ap entry_for (sym (waiting_last calls call q))

less_at : (index : BTreeMap ObjectId ℕ) (calls : List Suspended) (object q : ObjectId) (left : ℕ) (b : Bool) → is_at (object_cmp object) q ≡ b → left + cond b 1 0 ≡ waiting_on calls q → IsIndexOf index calls
    → cond b (entry_for (indexed index object - 1)) (get object_cmp index q) ≡ entry_for left
less_at index calls object q left true here less is =
    let now : indexed index object ≡ waiting_on calls q = indexed_is index calls object is ∙ ap (waiting_on calls) (same_id object q here) in
    ap entry_for (omega (arith, now, less))
less_at index calls object q left false there less is = is q ∙ ap entry_for (omega (arith, less))

-- without the call at this place
pub index_less : (before after : BTreeMap ObjectId ℕ) (calls : List Suspended) (at : ℕ) (call : Suspended) → at < length calls → call ≡ get_or calls at call → IsIndexOf before calls
    → Indexes before call.object (indexed before call.object - 1) after → IsIndexOf after (remove calls at)
index_less before after calls at call lt here is less q =
    less q ∙ less_at before calls call.object q (waiting_on (remove calls at) q) (is_at (object_cmp call.object) q) refl (waiting_less calls at call q lt here) is

-- an id ties with itself
ties : (x y : ObjectId) → x ≡ y → is_at (object_cmp x) y ≡ true
ties x y same = ap (λ q. is_at (object_cmp x) q) (sym same) ∙ ap is_eq (tied_itself object_total x)

-- a call on an object counts there
pub waits : (calls : List Suspended) (q : ObjectId) → IsWaitingOn calls q → 0 < waiting_on calls q
waits calls q (k, call, lt, is, on) =
    let least = get_or-le-sum_by (one_on q) calls k call lt in
    let counts : one_on q (get_or calls k call) ≡ 1 = ap (one_on q) is ∙ ap (λ b. cond b 1 0) (ties call.object q on) in
    omega (arith, least, counts)

-- where calls count, there is one
pub waiting : (calls : List Suspended) (q : ObjectId) → 0 < waiting_on calls q → IsWaitingOn calls q
waiting [] q some = absurd (omega (arith, some))
waiting (call ∷ calls) q some =
    let sum : waiting_on (call ∷ calls) q ≡ one_on q call + waiting_on calls q = sum_by-cons (one_on q) call calls in
    elim (is_at (object_cmp call.object) q) as (λ b. is_at (object_cmp call.object) q ≡ b → waiting_on (call ∷ calls) q ≡ cond b 1 0 + waiting_on calls q → IsWaitingOn (call ∷ calls) q) [
      | true ↦ λ is n. (0, call, omega arith, refl, same_id call.object q is)
      | false ↦ λ is n. any_behind (λ (c : Suspended). c.object ≡ q) call calls (waiting calls q (omega (arith, some, n)))
    ] refl sum

some_entry : (n : ℕ) → is_some (entry_for n) ≡ true → 0 < n
some_entry zero h = cc
some_entry (suc n) h = omega arith

entry_some : (n : ℕ) → 0 < n → is_some (entry_for n) ≡ true
entry_some zero h = absurd (omega (arith, h))
entry_some (suc n) h = refl

-- an index has an object exactly where a call is on it
pub found_waits : (index : BTreeMap ObjectId ℕ) (calls : List Suspended) (q : ObjectId) → IsIndexOf index calls → is_some (get object_cmp index q) ≡ true → IsWaitingOn calls q
found_waits index calls q is found = waiting calls q (some_entry (waiting_on calls q) (ap is_some (sym (is q)) ∙ found))

pub waits_found : (index : BTreeMap ObjectId ℕ) (calls : List Suspended) (q : ObjectId) → IsIndexOf index calls → IsWaitingOn calls q → is_some (get object_cmp index q) ≡ true
waits_found index calls q is on = ap is_some (is q) ∙ entry_some (waiting_on calls q) (waits calls q on)

-- an index has each call's object
pub index_has : (index : BTreeMap ObjectId ℕ) (calls : List Suspended) (at : ℕ) (call : Suspended) → at < length calls → call ≡ get_or calls at call → IsIndexOf index calls → 0 < indexed index call.object
index_has index calls at call lt here is =
    let counts = waits calls call.object (at, call, lt, sym here, refl) in
    let same = indexed_is index calls call.object is in
    omega (arith, counts, same)
