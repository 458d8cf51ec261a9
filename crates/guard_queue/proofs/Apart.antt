-- An object settles apart, where each call on another one is blocked.
use Rattle.std.proofs.Common.{append-nil, ◌≡◌, ℕ, Bool, true, false, cond, List, [], ◌∷◌, ◌++◌, Some, None, ap, ◌∙◌, sym, refl, subst, zero, suc, arith}
use Rattle.std.specs.Prelude.{slice_get, option_map}
use Rattle.std.specs.Cmp.{tied_itself}
use Rattle.std.specs.Ordering.{is_eq}
use Rattle.std.specs.BTreeMap.{is_at}
use Rattle.std.proofs.lemmas.List.Elements.{filter-append}
use Rattle.orca_base.specs.declared.ids.ObjectId.{ObjectId}
use Rattle.value_core.specs.declared.action.Instance.{Instance}
use Rattle.value_core.specs.declared.meaning.Tried.{Tried}
use Rattle.value_core.specs.declared.meaning.Tried.TheVariants as tried
use Rattle.value_core.specs.Meaning.{Performs}
use Rattle.value_core.specs.History.{Objects, after_try, object_at, object_cmp, with_object}
use Rattle.guard_queue.specs.declared.queue.Suspended.{Suspended}
use Rattle.guard_queue.specs.Apart.{Apart, CallApart, calls_on}
use Rattle.guard_queue.specs.Ends.{EndsAt, IsRound}
use Rattle.guard_queue.specs.Rounds.{OthersBlocked}
use Rattle.guard_queue.specs.Settles.{AllBlocked, Settling, answered, objects_if, objects_with, settled, tried_at, tried_in}
use Rattle.guard_queue.proofs.Blocked.{at_place, blocked_last}
use Rattle.guard_queue.proofs.Ends.{head_blocked, none_blocked, one_end, rest_blocked, settles}
use Rattle.guard_queue.proofs.Lookups.{object_at-with_object, object_total, same_id}
use Rattle.guard_queue.proofs.Rounds.{blocked_at}

-- ---- the calls on an object

at_itself : (object : ObjectId) → is_at (object_cmp object) object ≡ true
at_itself object = ap is_eq (tied_itself object_total object)

at_same : (object id : ObjectId) → id ≡ object → is_at (object_cmp object) id ≡ true
at_same object id is = ap (is_at (object_cmp object)) is ∙ at_itself object

-- ids are one, or they aren't
same_or_not : (object id : ObjectId) (P : Type 0) → (id ≡ object → P) → ((id ≡ object → ⊥) → is_at (object_cmp object) id ≡ false → P) → P
same_or_not object id P same apart = elim (is_at (object_cmp object) id) as (λ b. is_at (object_cmp object) id ≡ b → P) [
  | true ↦ λ here. same (sym (same_id object id here))
  | false ↦ λ away. apart (λ is. let here = at_same object id is in absurd (cc (here, away))) away
] refl

keeps_on : (object : ObjectId) (b : Bool) (older newer : List Suspended) (call : Suspended) → is_at (object_cmp object) call.object ≡ b
    → calls_on object (older ++ call ∷ newer) ≡ calls_on object older ++ cond b (call ∷ calls_on object newer) (calls_on object newer)
keeps_on object b older newer call is =
    filter-append (λ (c : Suspended). is_at (object_cmp object) c.object) older (call ∷ newer)
    ∙ ap (λ t. calls_on object older ++ cond t (call ∷ calls_on object newer) (calls_on object newer)) is

without : (object : ObjectId) (older newer : List Suspended) → calls_on object (older ++ newer) ≡ calls_on object older ++ calls_on object newer
without object older newer = filter-append (λ (c : Suspended). is_at (object_cmp object) c.object) older newer

-- what is left was there
still : {X : Type 0} (older : List X) (x : X) (newer : List X) (i : ℕ) (y : X) → slice_get (older ++ newer) i ≡ Some y → (j : ℕ) × (slice_get (older ++ x ∷ newer) j ≡ Some y)
still [] x newer i y is = (suc i, is)
still (z ∷ older) x newer zero y is = (0, is)
still (z ∷ older) x newer (suc i) y is = let r = still older x newer i y is in (suc r.0, r.1)

place_in : {X : Type 0} (older : List X) (x : X) (newer : List X) → (j : ℕ) × (slice_get (older ++ x ∷ newer) j ≡ Some x)
place_in [] x newer = (0, refl)
place_in (z ∷ older) x newer = let r = place_in older x newer in (suc r.0, r.1)

-- ---- what a call does to its own object, and to others

abbrev left_by : Tried → Instance → Instance
left_by tried.Blocked kept = kept
left_by (tried.Did guard state reply) kept = record { kind = kept.kind; state = state }
left_by (tried.Broke guard fault) kept = kept

put_here : (objects : Objects) (object : ObjectId) (kept : Instance) → object_at (with_object objects object kept) object ≡ Some kept
put_here objects object kept = object_at-with_object objects object kept object ∙ ap (λ b. cond b (Some kept) (object_at objects object)) (at_itself object)

put_beside : (objects : Objects) (object : ObjectId) (kept : Instance) (id : ObjectId) → is_at (object_cmp id) object ≡ false → object_at (with_object objects object kept) id ≡ object_at objects id
put_beside objects object kept id away = object_at-with_object objects object kept id ∙ ap (λ b. cond b (Some kept) (object_at objects id)) away

try_here : (objects : Objects) (object : ObjectId) (kept : Instance) (t : Tried) → object_at objects object ≡ Some kept → object_at (after_try objects object kept t) object ≡ Some (left_by t kept)
try_here objects object kept tried.Blocked is = is
try_here objects object kept (tried.Did guard state reply) is = put_here objects object (record { kind = kept.kind; state = state })
try_here objects object kept (tried.Broke guard fault) is = is

try_beside : (objects : Objects) (object : ObjectId) (kept : Instance) (t : Tried) (id : ObjectId) → is_at (object_cmp id) object ≡ false → object_at (after_try objects object kept t) id ≡ object_at objects id
try_beside objects object kept tried.Blocked id away = refl
try_beside objects object kept (tried.Did guard state reply) id away = put_beside objects object (record { kind = kept.kind; state = state }) id away
try_beside objects object kept (tried.Broke guard fault) id away = refl

-- its own object comes to be by what was there and the try alone
here : (objects : Objects) (call : Suspended) (t : Tried) → object_at (objects_with objects call t) call.object ≡ option_map (left_by t) (object_at objects call.object)
here objects call t =
    elim (object_at objects call.object) as (λ o. object_at objects call.object ≡ o → object_at (objects_if objects call t o) call.object ≡ option_map (left_by t) o) [
      | None ↦ λ is. is
      | Some kept ↦ λ is. try_here objects call.object kept t is
    ] refl

beside : (objects : Objects) (call : Suspended) (t : Tried) (id : ObjectId) → is_at (object_cmp id) call.object ≡ false → object_at (objects_with objects call t) id ≡ object_at objects id
beside objects call t id away =
    elim (object_at objects call.object) as (λ o. object_at (objects_if objects call t o) id ≡ object_at objects id) [
      | None ↦ refl
      | Some kept ↦ try_beside objects call.object kept t id away
    ]

-- ---- one round, and the same round on the object's own

-- `own` is what `all` has of this object
record IsShare (object : ObjectId) (all own : Settling) : Type 0 where
  lines : all.lines ≡ own.lines
  kept : object_at all.objects object ≡ object_at own.objects object
  queue : calls_on object all.queue ≡ own.queue

-- every other object, and the calls on it, stay
abbrev OthersStay : ObjectId → Settling → Settling → Type 0
OthersStay object before after =
    (id : ObjectId) → (id ≡ object → ⊥) → (object_at after.objects id ≡ object_at before.objects id) × (calls_on id after.queue ≡ calls_on id before.queue)

module _ (p : Performs) (object : ObjectId) where
  -- a call of the object's own is tried alike
  tried_alike : (objects own : Objects) (call : Suspended) → object_at objects object ≡ object_at own object → call.object ≡ object → tried_in p objects call ≡ tried_in p own call
  tried_alike objects own call kept on = ap (λ id. tried_at p call (object_at objects id)) on ∙ ap (tried_at p call) kept ∙ sym (ap (λ id. tried_at p call (object_at own id)) on)

  blocked_alike : (objects own : Objects) → object_at objects object ≡ object_at own object → (queue : List Suspended) → AllBlocked p objects queue → AllBlocked p own (calls_on object queue)
  blocked_alike objects own kept [] all = none_blocked p own [] (omega arith)
  blocked_alike objects own kept (c ∷ cs) all =
      let rest : AllBlocked p own (calls_on object cs) = blocked_alike objects own kept cs (rest_blocked p objects c cs all) in
      elim (is_at (object_cmp object) c.object) as (λ b. is_at (object_cmp object) c.object ≡ b → AllBlocked p own (cond b (c ∷ calls_on object cs) (calls_on object cs))) [
        | true ↦ λ on. blocked_at p own c (calls_on object cs) (sym (tried_alike objects own c kept (sym (same_id object c.object on))) ∙ head_blocked p objects c cs all) rest
        | false ↦ λ off. rest
      ] refl

  -- the call of a round is on this object
  on_this : (s t : Settling) → OthersBlocked p s.objects s.queue (Some object) → (r : IsRound p s t) → r.call.object ≡ object
  on_this s t others r =
      same_or_not object r.call.object (r.call.object ≡ object) (λ is. is) (λ apart away.
      let at = place_in r.older r.call r.newer in
      absurd (r.ready (others at.0 r.call (ap (λ q. slice_get q at.0) r.waits ∙ at.1) apart)))

  others_round : (s t : Settling) → OthersBlocked p s.objects s.queue (Some object) → IsRound p s t → OthersBlocked p t.objects t.queue (Some object)
  others_round s t others r at c is apart =
      let on = on_this s t others r in
      let was = still r.older r.call r.newer at c (ap (λ q. slice_get q at) (sym r.queue) ∙ is) in
      let off : is_at (object_cmp c.object) r.call.object ≡ false = same_or_not c.object r.call.object (is_at (object_cmp c.object) r.call.object ≡ false) (λ same. absurd (apart (sym same ∙ on))) (λ differ away. away) in
      ap (tried_at p c) (ap (λ o. object_at o c.object) r.objects ∙ beside s.objects r.call (tried_in p s.objects r.call) c.object off)
      ∙ others was.0 c (ap (λ q. slice_get q was.0) r.waits ∙ was.1) apart

  stay_round : (s t : Settling) → OthersBlocked p s.objects s.queue (Some object) → IsRound p s t → OthersStay object s t
  stay_round s t others r id apart =
      let on = on_this s t others r in
      let off : is_at (object_cmp id) r.call.object ≡ false = same_or_not id r.call.object (is_at (object_cmp id) r.call.object ≡ false) (λ same. absurd (apart (sym same ∙ on))) (λ differ away. away) in (
        ap (λ o. object_at o id) r.objects ∙ beside s.objects r.call (tried_in p s.objects r.call) id off,
        ap (calls_on id) r.queue ∙ without id r.older r.newer ∙ sym (keeps_on id false r.older r.newer r.call off) ∙ sym (ap (calls_on id) r.waits),
      )

  -- after the round, on the object's own
  own_after : (s t own : Settling) → IsRound p s t → Settling
  own_after s t own r = record {
    objects = objects_with own.objects r.call (tried_in p own.objects r.call);
    queue = calls_on object r.older ++ calls_on object r.newer;
    lines = own.lines ++ answered r.call (tried_in p own.objects r.call) ∷ [];
  }

  own_round : (s t own : Settling) → OthersBlocked p s.objects s.queue (Some object) → IsShare object s own → (r : IsRound p s t) → IsRound p own (own_after s t own r)
  unfolding own_after
  own_round s t own others share r =
      let on = on_this s t others r in
      record {
        older = calls_on object r.older;
        call = r.call;
        newer = calls_on object r.newer;
        waits = sym share.queue ∙ ap (calls_on object) r.waits ∙ keeps_on object true r.older r.newer r.call (at_same object r.call.object on);
        blocked = blocked_alike s.objects own.objects share.kept r.older r.blocked;
        ready = λ is. r.ready (tried_alike s.objects own.objects r.call share.kept on ∙ is);
        objects = refl;
        queue = refl;
        lines = refl;
      }

  own_share : (s t own : Settling) → OthersBlocked p s.objects s.queue (Some object) → IsShare object s own → (r : IsRound p s t) → IsShare object t (own_after s t own r)
  unfolding own_after
  own_share s t own others share r =
      let on = on_this s t others r in
      let alike = tried_alike s.objects own.objects r.call share.kept on in
      let now : object_at s.objects r.call.object ≡ object_at own.objects r.call.object = (ap (object_at s.objects) on ∙ share.kept ∙ sym (ap (object_at own.objects) on)) in
      let there : object_at (objects_with s.objects r.call (tried_in p s.objects r.call)) r.call.object ≡ object_at (objects_with own.objects r.call (tried_in p own.objects r.call)) r.call.object =
      here s.objects r.call (tried_in p s.objects r.call) ∙ ap (λ u. option_map (left_by u) (object_at s.objects r.call.object)) alike
      ∙ ap (option_map (left_by (tried_in p own.objects r.call))) now ∙ sym (here own.objects r.call (tried_in p own.objects r.call)) in
      record {
        lines = r.lines ∙ ap (λ ls. ls ++ answered r.call (tried_in p s.objects r.call) ∷ []) share.lines ∙ ap (λ u. own.lines ++ answered r.call u ∷ []) alike;
        kept = ap (λ o. object_at o object) r.objects
            ∙ subst (λ id. object_at (objects_with s.objects r.call (tried_in p s.objects r.call)) id ≡ object_at (objects_with own.objects r.call (tried_in p own.objects r.call)) id) on there;
        queue = ap (calls_on object) r.queue ∙ without object r.older r.newer;
      }

  -- ---- to the end

  -- where the object's own end, beside where all end
  record Ended (end s own : Settling) : Type 0 where
    own_end : Settling
    ends : EndsAt p own_end own
    share : IsShare object end own_end
    stay : OthersStay object s end

  ended : (end s own : Settling) → OthersBlocked p s.objects s.queue (Some object) → IsShare object s own → EndsAt p end s → Ended end s own
  ended end s own others share (EndsAt.Done now all is) = record {
    own_end = own;
    ends = EndsAt.Done own (subst (AllBlocked p own.objects) share.queue (blocked_alike now.objects own.objects share.kept now.queue all)) refl;
    share = subst (λ e. IsShare object e own) (sym is) share;
    stay = subst (OthersStay object now) (sym is) (λ id apart. (refl, refl));
  }
  ended end s own others share (EndsAt.Then now next round rest) =
      let own_next = own_after now next own round in
      let later = ended end next own_next (others_round now next others round) (own_share now next own others share round) rest in
      let first = stay_round now next others round in
      record {
        own_end = later.own_end;
        ends = EndsAt.Then own own_next (own_round now next own others share round) later.ends;
        share = later.share;
        stay = λ id apart. (let a = first id apart in let b = later.stay id apart in (b.0 ∙ a.0, b.1 ∙ a.1));
      }

-- an object settles apart
pub settles_apart : (p : Performs) (objects : Objects) (queue : List Suspended) (object : ObjectId) → OthersBlocked p objects queue (Some object) → (own : Objects) → object_at own object ≡ object_at objects object
    → Apart p objects queue object own
settles_apart p objects queue object others own kept =
    let s : Settling = record { objects = objects; queue = queue; lines = [] } in
    let alone : Settling = record { objects = own; queue = calls_on object queue; lines = [] } in
    let all = ended p object (settled p objects queue) s alone others (record { lines = refl; kept = sym kept; queue = refl }) (settles p objects queue) in
    let end : all.own_end ≡ settled p own (calls_on object queue) = one_end p all.own_end (settled p own (calls_on object queue)) alone all.ends (settles p own (calls_on object queue)) in
    let share : IsShare object (settled p objects queue) (settled p own (calls_on object queue)) = subst (IsShare object (settled p objects queue)) end all.share in
    record { lines = share.lines; kept = share.kept; queue = share.queue; others = all.stay }

-- ---- a call, where each one suspended is blocked

others_of_all : (p : Performs) (objects : Objects) (queue : List Suspended) (object : ObjectId) → AllBlocked p objects queue → OthersBlocked p objects queue (Some object)
others_of_all p objects queue object all = λ at c is apart. at_place p objects queue all at c is

-- a call leaves the calls on other objects blocked
others_called : (p : Performs) (objects : Objects) (queue : List Suspended) (call : Suspended) (t : Tried) → AllBlocked p objects queue → OthersBlocked p (objects_with objects call t) queue (Some call.object)
others_called p objects queue call t all = λ at c is apart.
    ap (tried_at p c) (beside objects call t c.object (same_or_not c.object call.object (is_at (object_cmp c.object) call.object ≡ false) (λ same. absurd (apart (sym same))) (λ differ away. away)))
    ∙ at_place p objects queue all at c is

pub calls_apart : (p : Performs) (objects : Objects) (queue : List Suspended) (call : Suspended) → AllBlocked p objects queue → (own : Objects) → object_at own call.object ≡ object_at objects call.object
    → CallApart p objects queue call own
calls_apart p objects queue call all own kept =
    let t = tried_in p objects call in
    let u = tried_in p own call in
    let alike : u ≡ t = ap (tried_at p call) kept in
    let left : object_at (objects_with own call u) call.object ≡ object_at (objects_with objects call t) call.object =
    here own call u ∙ ap (λ v. option_map (left_by v) (object_at own call.object)) alike ∙ ap (option_map (left_by t)) kept ∙ sym (here objects call t) in
    let off : (id : ObjectId) → (id ≡ call.object → ⊥) → is_at (object_cmp id) call.object ≡ false =
    λ id apart. same_or_not id call.object (is_at (object_cmp id) call.object ≡ false) (λ same. absurd (apart (sym same))) (λ differ away. away) in
    record {
      tried_alike = alike;
      performed = settles_apart p (objects_with objects call t) queue call.object (others_called p objects queue call t all) (objects_with own call u) left;
      joined = λ blocked. settles_apart p objects (queue ++ call ∷ []) call.object (others_of_all p objects (queue ++ call ∷ []) call.object (blocked_last p objects queue call all blocked)) own kept;
      newest = keeps_on call.object true queue [] call (at_itself call.object);
      others = λ id apart. (
        beside objects call t id (off id apart),
        keeps_on id false queue [] call (off id apart) ∙ append-nil (calls_on id queue),
      );
    }
