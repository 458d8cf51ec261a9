-- Rounds of settling: each has one outcome, and `settled` is where they end.
use Rattle.std.proofs.Common.{◌≡◌, ℕ, ◌+◌, ◌≤◌, true, false, not, cond, List, [], ◌∷◌, ◌++◌, length, remove, Some, None, ap, ◌∙◌, sym, refl, subst, zero, suc, arith}
use Rattle.std.specs.Prelude.{slice_get}
use Rattle.std.specs.List.{position_from}
use Rattle.value_core.specs.declared.meaning.Tried.{Tried}
use Rattle.value_core.specs.declared.meaning.Tried.TheVariants as tried
use Rattle.value_core.specs.Meaning.{Performs}
use Rattle.value_core.specs.History.{Objects}
use Rattle.guard_queue.specs.declared.queue.Suspended.{Suspended}
use Rattle.guard_queue.specs.Ends.{EndsAt, IsRound, Settles}
use Rattle.guard_queue.specs.Settles.{AllBlocked, Settling, answered, is_blocked, is_ready, next_ready, objects_with, performed, settle_up_to, settled, stepped, tried_in}
use Rattle.guard_queue.proofs.Blocked.{step_length}
use Rattle.guard_queue.proofs.Rounds.{blocked_at, blocked_from}
use Rattle.guard_queue.proofs.Steps.{settle_at_end}

-- none is there, and so each is blocked
pub none_blocked : (p : Performs) (objects : Objects) (queue : List Suspended) → length queue ≤ 0 → AllBlocked p objects queue
none_blocked p objects queue few = λ k d lt. absurd (omega arith)

pub head_blocked : (p : Performs) (objects : Objects) (c : Suspended) (cs : List Suspended) → AllBlocked p objects (c ∷ cs) → tried_in p objects c ≡ tried.Blocked
head_blocked p objects c cs all = all 0 c (omega arith)

pub rest_blocked : (p : Performs) (objects : Objects) (c : Suspended) (cs : List Suspended) → AllBlocked p objects (c ∷ cs) → AllBlocked p objects cs
rest_blocked p objects c cs all = λ k d lt. all (suc k) d (omega arith)

-- a call in the midst of those that are blocked
among : (p : Performs) (objects : Objects) (older : List Suspended) (call : Suspended) (newer : List Suspended) → AllBlocked p objects (older ++ call ∷ newer) → tried_in p objects call ≡ tried.Blocked
among p objects [] call newer all = head_blocked p objects call newer all
among p objects (c ∷ older) call newer all = among p objects older call newer (rest_blocked p objects c (older ++ call ∷ newer) all)

is_not_blocked : (t : Tried) → not (is_blocked t) ≡ true → t ≡ tried.Blocked → ⊥
is_not_blocked t ready is = let no : not (is_blocked t) ≡ false = ap (λ u. not (is_blocked u)) is in absurd (cc (ready, no))

is_blocked_if : (t : Tried) → not (is_blocked t) ≡ false → t ≡ tried.Blocked
is_blocked_if tried.Blocked h = refl
is_blocked_if (tried.Did guard state reply) h = cc
is_blocked_if (tried.Broke guard fault) h = cc

-- a queue with its oldest ready call, at this place
record Found (p : Performs) (objects : Objects) (queue : List Suspended) (at : ℕ) : Type 0 where
  older : List Suspended
  call : Suspended
  newer : List Suspended
  waits : queue ≡ older ++ call ∷ newer
  blocked : AllBlocked p objects older
  ready : tried_in p objects call ≡ tried.Blocked → ⊥
  there : slice_get queue at ≡ Some call
  left : remove queue at ≡ older ++ newer

found_behind : (p : Performs) (objects : Objects) (c : Suspended) (cs : List Suspended) (at : ℕ) → tried_in p objects c ≡ tried.Blocked → Found p objects cs at → Found p objects (c ∷ cs) (suc at)
found_behind p objects c cs at is f = record {
  older = c ∷ f.older;
  call = f.call;
  newer = f.newer;
  waits = ap (λ q. c ∷ q) f.waits;
  blocked = blocked_at p objects c f.older is f.blocked;
  ready = f.ready;
  there = f.there;
  left = ap (λ q. c ∷ q) f.left;
}

found_from : (p : Performs) (objects : Objects) (n : ℕ) (queue : List Suspended) (at : ℕ) → position_from (is_ready p objects) n queue ≡ Some at → (k : ℕ) × (at ≡ n + k) × Found p objects queue k
found_from p objects n [] at is = cc
found_from p objects n (c ∷ cs) at is =
    elim (is_ready p objects c) as (λ b. is_ready p objects c ≡ b → cond b (Some n) (position_from (is_ready p objects) (n + 1) cs) ≡ Some at → (k : ℕ) × (at ≡ n + k) × Found p objects (c ∷ cs) k) [
      | true ↦ λ ready f.
          let e : n ≡ at = cc f in
          (0, omega (arith, e), record { older = []; call = c; newer = cs; waits = refl; blocked = none_blocked p objects [] (omega arith); ready = is_not_blocked (tried_in p objects c) ready; there = refl; left = refl })
      | false ↦ λ waits f.
          let r = found_from p objects (n + 1) cs at f in
          let e = r.1 in
          (suc r.0, omega (arith, e), found_behind p objects c cs r.0 (is_blocked_if (tried_in p objects c) waits) r.2)
    ] refl is

found : (p : Performs) (objects : Objects) (queue : List Suspended) (at : ℕ) → next_ready p objects queue ≡ Some at → Found p objects queue at
found p objects queue at is =
    let r = found_from p objects 0 queue at is in
    let e : r.0 ≡ at = (let f = r.1 in omega (arith, f)) in
    subst (Found p objects queue) e r.2

-- a step is a round
round_of : (p : Performs) (s : Settling) (at : ℕ) → next_ready p s.objects s.queue ≡ Some at → IsRound p s (stepped p s (Some at))
round_of p s at is =
    let f = found p s.objects s.queue at is in
    subst (λ o. IsRound p s (performed p s at o)) (sym f.there) (record {
      older = f.older;
      call = f.call;
      newer = f.newer;
      waits = f.waits;
      blocked = f.blocked;
      ready = f.ready;
      objects = refl;
      queue = f.left;
      lines = refl;
    })

ends_up_to : (p : Performs) (n : ℕ) (s : Settling) → length s.queue ≤ n → EndsAt p (settle_up_to p n s) s
ends_up_to p zero s few = EndsAt.Done s (none_blocked p s.objects s.queue few) refl
ends_up_to p (suc n) s few =
    elim (next_ready p s.objects s.queue) as (λ o. next_ready p s.objects s.queue ≡ o → EndsAt p (settle_up_to p n (stepped p s o)) s) [
      | None ↦ λ none. EndsAt.Done s (blocked_from p s.objects 0 s.queue none) (settle_at_end p n s none)
      | Some at ↦ λ is.
          let l = step_length p s at is in
          EndsAt.Then s (stepped p s (Some at)) (round_of p s at is) (ends_up_to p n (stepped p s (Some at)) (omega (arith, l)))
    ] refl

-- settling ends where `settled` says
pub settles : (p : Performs) (objects : Objects) (queue : List Suspended) → Settles p objects queue (settled p objects queue)
settles p objects queue = ends_up_to p (length queue) (record { objects = objects; queue = queue; lines = [] }) (omega arith)

-- one call alone is the oldest that isn't blocked
record IsOne (older older' : List Suspended) (call call' : Suspended) (newer newer' : List Suspended) : Type 0 where
  rest : older ++ newer ≡ older' ++ newer'
  same : call ≡ call'

head_of : {X : Type 0} (x y : X) (xs ys : List X) → (x ∷ xs) ≡ (y ∷ ys) → x ≡ y
head_of x y xs ys is = cc is

tail_of : {X : Type 0} (x y : X) (xs ys : List X) → (x ∷ xs) ≡ (y ∷ ys) → xs ≡ ys
tail_of x y xs ys is = cc is

one_ready : (p : Performs) (objects : Objects) (older older' : List Suspended) (call call' : Suspended) (newer newer' : List Suspended)
    → (older ++ call ∷ newer) ≡ (older' ++ call' ∷ newer') → AllBlocked p objects older → AllBlocked p objects older'
    → (tried_in p objects call ≡ tried.Blocked → ⊥) → (tried_in p objects call' ≡ tried.Blocked → ⊥) → IsOne older older' call call' newer newer'
one_ready p objects [] [] call call' newer newer' is blocked blocked' ready ready' = record { rest = tail_of call call' newer newer' is; same = head_of call call' newer newer' is }
one_ready p objects [] (c ∷ older') call call' newer newer' is blocked blocked' ready ready' =
    absurd (ready (ap (tried_in p objects) (head_of call c newer (older' ++ call' ∷ newer') is) ∙ head_blocked p objects c older' blocked'))
one_ready p objects (c ∷ older) [] call call' newer newer' is blocked blocked' ready ready' =
    absurd (ready' (ap (tried_in p objects) (sym (head_of c call' (older ++ call ∷ newer) newer' is)) ∙ head_blocked p objects c older blocked))
one_ready p objects (c ∷ older) (c' ∷ older') call call' newer newer' is blocked blocked' ready ready' =
    let r = one_ready p objects older older' call call' newer newer' (tail_of c c' (older ++ call ∷ newer) (older' ++ call' ∷ newer') is)
    (rest_blocked p objects c older blocked) (rest_blocked p objects c' older' blocked') ready ready' in
    let first : c ≡ c' = head_of c c' (older ++ call ∷ newer) (older' ++ call' ∷ newer') is in
    record { rest = (let e = r.rest in cc (e, first)); same = r.same }

-- a round has one outcome
one_round : (p : Performs) (s t u : Settling) → IsRound p s t → IsRound p s u → t ≡ u
one_round p s t u r v =
    let one = one_ready p s.objects r.older v.older r.call v.call r.newer v.newer (sym r.waits ∙ v.waits) r.blocked v.blocked r.ready v.ready in
    let objects : t.objects ≡ u.objects = r.objects ∙ ap (λ c. objects_with s.objects c (tried_in p s.objects c)) one.same ∙ sym v.objects in
    let queue : t.queue ≡ u.queue = r.queue ∙ one.rest ∙ sym v.queue in
    let lines : t.lines ≡ u.lines = r.lines ∙ ap (λ c. s.lines ++ answered c (tried_in p s.objects c) ∷ []) one.same ∙ sym v.lines in
    λ i. record { objects = objects i; queue = queue i; lines = lines i }

no_round_at_end : (p : Performs) (s t : Settling) → AllBlocked p s.objects s.queue → IsRound p s t → ⊥
no_round_at_end p s t all r = r.ready (among p s.objects r.older r.call r.newer (subst (AllBlocked p s.objects) r.waits all))

-- and settling one end
pub one_end : (p : Performs) (end end' s : Settling) → EndsAt p end s → EndsAt p end' s → end ≡ end'
one_end p end end' s (EndsAt.Done now all is) (EndsAt.Done now' all' is') = is ∙ sym is'
one_end p end end' s (EndsAt.Done now all is) (EndsAt.Then now' next round rest) = absurd (no_round_at_end p now next all round)
one_end p end end' s (EndsAt.Then now next round rest) (EndsAt.Done now' all is) = absurd (no_round_at_end p now next all round)
one_end p end end' s (EndsAt.Then now next round rest) (EndsAt.Then now' next' round' rest') =
    one_end p end end' next rest (subst (EndsAt p end') (sym (one_round p now next next' round round')) rest')
