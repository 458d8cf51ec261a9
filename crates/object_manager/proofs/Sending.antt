-- Copies and their state.
use Rattle.std.proofs.Common.{◌≡◌, ℕ, ◌+◌, ◌<◌, T, cond, List, [], ◌∷◌, ◌++◌, length, map, take, take-append-drop, drop, get_or, Some, ap, ◌∙◌, sym, refl, subst, zero, suc, add-one, arith}
use Rattle.std.proofs.Math.Seq.{take-suc}
use Rattle.std.proofs.lemmas.List.{map-append}
use Rattle.std.proofs.lemmas.Option.{get_or_from_slice_get, slice_get_within}
use Rattle.std.specs.Prelude.{slice_get}
use Rattle.std.specs.List.{All, Contains}
use Rattle.std.specs.Cmp.{tied_itself}
use Rattle.std.specs.Ordering.{is_eq, is_lt, match_ordering, ordering_reverse}
use Rattle.std.specs.declared.cmp.Ordering.{Ordering}
use Rattle.std.specs.declared.cmp.Ordering.TheVariants.{Less, Equal, Greater}
use Rattle.std.specs.FinMap.Entries.{below_all}
use Rattle.orca_base.specs.declared.ids.KindNo.{KindNo}
use Rattle.orca_base.specs.declared.ids.OpNo.{OpNo}
use Rattle.orca_base.specs.declared.ids.ObjectId.{ObjectId}
use Rattle.value_core.specs.Datum.{Data}
use Rattle.value_core.specs.Datum as datum
use Rattle.value_core.specs.Fits.{Kinds}
use Rattle.value_core.specs.declared.action.Instance.{Instance}
use Rattle.value_core.specs.declared.action.Action.{Action}
use Rattle.value_core.specs.declared.action.Action.TheVariants as action
use Rattle.value_core.specs.declared.message.Message.{Message}
use Rattle.value_core.specs.History.{Objects, object_cmp, object_at, output_kind, output_object, with_object}
use Rattle.guard_queue.specs.declared.queue.Suspended.{Suspended}
use Rattle.guard_queue.specs.Fitting.{CallFits}
use Rattle.guard_queue.specs.Shown.{Rises}
use Rattle.guard_queue.proofs.Lookups.{object_total}
use Rattle.guard_queue.proofs.Ready.{from_here}
use Rattle.object_manager.specs.declared.state.ObjectEntry.{ObjectEntry}
use Rattle.object_manager.specs.After.{Copied}
use Rattle.object_manager.specs.Laws.{NoneKept, StatesTell}
use Rattle.object_manager.specs.Singles.{AreCounted, kinds_at}
use Rattle.object_manager.specs.State.{IsCall, IsState, Stated, message_of, objects_of, state_of}
use Rattle.object_manager.specs.Whole.{IsWhole}
use Rattle.object_manager.proofs.Both.{first_of, second_of}

-- ---- objects whose ids rise are put in one behind the other
less : (o : Ordering) → T (is_lt o) → o ≡ Less
less Less p = refl
less Equal p = absurd p
less Greater p = absurd p

below_last : (x : ObjectId) (es more : Objects) (k : ObjectId) (v : Instance) → T (below_all object_cmp x (es ++ (k, v) ∷ more)) → object_cmp x k ≡ Less
below_last x [] more k v below = less (object_cmp x k) (first_of _ _ below)
below_last x (e ∷ es) more k v below = below_last x es more k v (second_of _ _ below)

with_last : (es more : Objects) (k : ObjectId) (v : Instance) → Rises (es ++ (k, v) ∷ more) → with_object es k v ≡ es ++ (k, v) ∷ []
with_last [] more k v rises = refl
with_last (e ∷ es) more k v rises =
    let above : object_cmp k e.0 ≡ Greater = object_total.antisymm k e.0 ∙ ap ordering_reverse (below_last e.0 es more k v (first_of _ _ rises)) in
    ap (λ o. match_ordering o ((k, v) ∷ e ∷ es) ((e.0, v) ∷ es) (e ∷ with_object es k v)) above ∙ ap (λ r. e ∷ r) (with_last es more k v (second_of _ _ rises))

-- the element at i is the last of those up to it
pub taken_last : {X : Type 0} (xs : List X) (i : ℕ) (x : X) → i < length xs → x ≡ get_or xs i x → take (i + 1) xs ≡ take i xs ++ x ∷ []
taken_last xs i x lt is = rw (add-one) (take-suc xs i x lt ∙ ap (λ y. take i xs ++ y ∷ []) (sym is))

split_at : {X : Type 0} (xs : List X) (i : ℕ) (x : X) → i < length xs → x ≡ get_or xs i x → xs ≡ take i xs ++ x ∷ drop (i + 1) xs
split_at xs i x lt is = sym (take-append-drop i xs) ∙ ap (λ d. take i xs ++ d) (from_here xs i x lt is)

abbrev one_of : ObjectEntry → ObjectId × Instance
one_of e = (e.object, record { kind = e.kind; state = e.state })

pub put_next : (entries : List ObjectEntry) (i : ℕ) (e : ObjectEntry) (now : Objects) (kept : Instance) → i < length entries → e ≡ get_or entries i e → kept ≡ record { kind = e.kind; state = e.state } → now ≡ objects_of (take i entries) → Rises (objects_of entries)
    → with_object now e.object kept ≡ objects_of (take (i + 1) entries)
put_next entries i e now kept lt is same so rises =
    let split : objects_of entries ≡ objects_of (take i entries) ++ one_of e ∷ objects_of (drop (i + 1) entries) = ap objects_of (split_at entries i e lt is) ∙ map-append one_of (take i entries) (e ∷ drop (i + 1) entries) in
    let more : objects_of (take (i + 1) entries) ≡ objects_of (take i entries) ++ one_of e ∷ [] = ap objects_of (taken_last entries i e lt is) ∙ map-append one_of (take i entries) (e ∷ []) in
    ap (λ o. with_object o e.object kept) so ∙ ap (with_object (objects_of (take i entries)) e.object) same
    ∙ with_last (objects_of (take i entries)) (objects_of (drop (i + 1) entries)) e.object (record { kind = e.kind; state = e.state }) (subst Rises split rises) ∙ sym more

-- ---- calls and messages, one more
pub told_next : (queue : List Suspended) (i : ℕ) (call : Suspended) (all : List Message) (m : Message) → slice_get queue i ≡ Some call → m ≡ message_of call → all ≡ map message_of (take i queue) → all ++ m ∷ [] ≡ map message_of (take (i + 1) queue)
told_next queue i call all m is same so =
    let last = taken_last queue i call (slice_get_within queue i call is) (sym (get_or_from_slice_get queue i call call is)) in
    (λ j. so j ++ same j ∷ []) ∙ sym (ap (map message_of) last ∙ map-append message_of (take i queue) (call ∷ []))

pub asked_next : (messages : List Message) (i : ℕ) (m : Message) (queue : List Suspended) (call : Suspended) → i < length messages → m ≡ get_or messages i m → message_of call ≡ m → map message_of queue ≡ take i messages
    → map message_of (queue ++ call ∷ []) ≡ take (i + 1) messages
asked_next messages i m queue call lt is same so = map-append message_of queue (call ∷ []) ∙ (λ j. so j ++ same j ∷ []) ∙ sym (taken_last messages i m lt is)

-- ---- the state of copies
all_calls : (queue : List Suspended) → All (λ (m : Message). IsCall m.action) (map message_of queue)
all_calls [] k d lt = absurd (omega arith)
all_calls (call ∷ queue) zero d lt = tt
all_calls (call ∷ queue) (suc k) d lt = all_calls queue k d (omega arith)

pub state_fits : (c : Copied) → IsWhole c → c.singles ≡ [] → IsState (state_of c)
state_fits c whole none =
    let few = whole.made in
    let nothing : length c.singles ≡ 0 = ap length none in
    record {
      rises = whole.rises;
      output = whole.output;
      few = omega (arith, few, nothing);
      some = whole.some;
      within = whole.few;
      calls = all_calls c.queue;
    }

-- the state that is made of parts
pub state_as : (x now : Copied) (objects : Objects) (queue : List Message) → x ≡ now → objects ≡ x.objects → queue ≡ map message_of x.queue
    → record { applied = x.applied; processes = x.processes; objects = objects; queue = queue } ≡ state_of now
state_as x now objects queue same o q =
    let first : record { applied = x.applied; processes = x.processes; objects = objects; queue = queue } ≡ state_of x = (λ i. record { applied = x.applied; processes = x.processes; objects = o i; queue = q i }) in
    first ∙ ap state_of same

-- ---- copies that have a state
abbrev call_by : Message → Action → Suspended
call_by m (action.Call kind op object args) = record { process = m.process; call = m.call; kind = kind; op = op; object = object; args = args }
call_by m (action.Make kind object) = record { process = m.process; call = m.call; kind = kind; op = record { 0 = 0 }; object = object; args = datum.none }
call_by m (action.Fork process args place_on) = record { process = m.process; call = m.call; kind = output_kind; op = record { 0 = 0 }; object = output_object; args = args }
call_by m action.Ended = record { process = m.process; call = m.call; kind = output_kind; op = record { 0 = 0 }; object = output_object; args = datum.none }
call_by m (action.Faulted fault) = record { process = m.process; call = m.call; kind = output_kind; op = record { 0 = 0 }; object = output_object; args = datum.none }

calls_back : (queue : List Suspended) → map (λ m. call_by m m.action) (map message_of queue) ≡ queue
calls_back [] = refl
calls_back (call ∷ queue) = ap (λ q. call ∷ q) (calls_back queue)

pub states_tell : StatesTell
states_tell c d none_c none_d same =
    let waiting : map message_of c.queue ≡ map message_of d.queue = ap (λ (s : Stated). s.queue) same in
    let queue : c.queue ≡ d.queue = sym (calls_back c.queue) ∙ ap (map (λ (m : Message). call_by m m.action)) waiting ∙ calls_back d.queue in
    let singles : c.singles ≡ d.singles = none_c.singles ∙ sym none_d.singles in
    let own : c.own ≡ d.own = none_c.own ∙ sym none_d.own in
    let waits : c.waits ≡ d.waits = none_c.waits ∙ sym none_d.waits in
    λ i. record {
      objects = (same i).objects;
      queue = queue i;
      processes = (same i).processes;
      applied = (same i).applied;
      singles = singles i;
      own = own i;
      waits = waits i;
    }

-- ---- no single objects
none_own : (own : Objects) (singles : Kinds) → AreCounted own singles → singles ≡ [] → own ≡ []
none_own [] singles counted none = refl
none_own (e ∷ es) singles counted none =
    let here : object_at (e ∷ es) e.0 ≡ Some e.1 = ap (λ b. cond b (Some e.1) (object_at es e.0)) (ap is_eq (tied_itself object_total e.0)) in
    let had : Contains [] (e.0, e.1.kind) = subst (λ s. Contains s (e.0, e.1.kind)) none (counted e.0 e.1 here) in
    absurd (omega (arith, had.1))

none_waits : (fits_args : Kinds → KindNo → OpNo → Data → Type 0) (kinds : Kinds) (own : Objects) (waits : List Suspended) → ((at : ℕ) (call : Suspended) → slice_get waits at ≡ Some call → CallFits fits_args kinds own call) → own ≡ [] → waits ≡ []
none_waits fits_args kinds own [] fit none = refl
none_waits fits_args kinds own (call ∷ waits) fit none =
    let one = fit 0 call refl in
    let there : object_at [] call.object ≡ Some one.kept = subst (λ o. object_at o call.object ≡ Some one.kept) none one.exists in
    absurd (cc there)

pub none_kept : (fits_state : Kinds → KindNo → Data → Type 0) (fits_args : Kinds → KindNo → OpNo → Data → Type 0) → NoneKept fits_state fits_args
none_kept fits_state fits_args c fit counted none =
    let own = none_own c.own c.singles counted none in
    record { singles = none; own = own; waits = none_waits fits_args (kinds_at c) c.own c.waits fit.own.calls own }
