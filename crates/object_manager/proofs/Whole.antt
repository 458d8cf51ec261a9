-- What is always so of copies stays so.
use Rattle.std.proofs.Common.{◌≡◌, inl, inr, ℕ, ◌+◌, ◌-◌, ◌≤◌, ◌<◌, true, false, cond, is_some, List, [], ◌∷◌, ◌++◌, length, Option, None, Some, ap, ◌∙◌, sym, refl, subst, arith}
use Rattle.std.specs.Prelude.{leb}
use Rattle.std.specs.BTreeMap.{is_at}
use Rattle.std.proofs.lemmas.Bool.{leb-false}
use Rattle.std.proofs.lemmas.List.Elements.{Contains-push_cases}
use Rattle.orca_base.specs.declared.ids.KindNo.{KindNo}
use Rattle.orca_base.specs.declared.ids.OpNo.{OpNo}
use Rattle.orca_base.specs.declared.ids.ObjectId.{ObjectId}
use Rattle.value_core.specs.Datum.{Data}
use Rattle.value_core.specs.declared.action.Instance.{Instance}
use Rattle.value_core.specs.declared.message.Message.{Message}
use Rattle.value_core.specs.declared.action.Action.{Action}
use Rattle.value_core.specs.declared.action.Action.TheVariants as action
use Rattle.value_core.specs.declared.meaning.Making.{Making}
use Rattle.value_core.specs.declared.meaning.Making.TheVariants as making
use Rattle.value_core.specs.declared.meaning.Tried.{Tried}
use Rattle.value_core.specs.declared.meaning.Tried.TheVariants as tried
use Rattle.value_core.specs.Fits.{Kinds}
use Rattle.value_core.specs.Meaning.{Performs}
use Rattle.value_core.specs.History.{Objects, after_making, forked, object_at, object_cmp, output_kind, output_object, with_object}
use Rattle.guard_queue.specs.declared.queue.Suspended.{Suspended}
use Rattle.guard_queue.specs.Fitting.{kind_at, kind_in}
use Rattle.guard_queue.specs.Settles.{objects_with, tried_in}
use Rattle.guard_queue.specs.Shown.{Rises}
use Rattle.guard_queue.proofs.KindsAt.{kind_at-made, settled_keeps, with_keeps}
use Rattle.guard_queue.proofs.Lookups.{object_at-with_object, same_id}
use Rattle.guard_queue.proofs.Stays.{settled_length, with_length}
use Rattle.guard_queue.proofs.Writes.{length_with}
use Rattle.object_manager.specs.After.{Copied, acted, acted_by, after, as_call, called_in}
use Rattle.object_manager.specs.Applies.{Applies, AppliesSingle}
use Rattle.object_manager.specs.Limits.{made_objects, objects_limit, too_many}
use Rattle.object_manager.specs.Singles.{IsCounted, after_single}
use Rattle.object_manager.specs.Whole.{IsWhole}
use Rattle.object_manager.proofs.Lasting.{acted_rises, after_rises}
use Rattle.object_manager.proofs.Singles.{counted_single}

-- ---- the output object
-- an object whose type is known is there
has_kind : (o : Option Instance) → kind_in o ≡ Some output_kind → (kept : Instance) × (o ≡ Some kept)
has_kind None h = absurd (cc h)
has_kind (Some kept) h = (kept, refl)

made_output : (objects : Objects) (kind : KindNo) (object : ObjectId) (m : Making) → object_at objects object ≡ None → kind_at objects output_object ≡ Some output_kind → kind_at (after_making objects kind object m) output_object ≡ kind_at objects output_object
made_output objects kind object (making.Made state) absent had =
    let old = has_kind (object_at objects output_object) had in
    kind_at-made objects object (record { kind = kind; state = state }) output_object old.0 absent old.1
made_output objects kind object (making.Broke fault) absent had = refl

called_output : (objects : Objects) (queue : List Suspended) (call : Suspended) (t : Tried) → kind_at (called_in objects queue call t).objects output_object ≡ kind_at objects output_object
called_output objects queue call tried.Blocked = refl
called_output objects queue call (tried.Did guard state reply) = with_keeps objects call (tried.Did guard state reply) output_object
called_output objects queue call (tried.Broke guard fault) = with_keeps objects call (tried.Broke guard fault) output_object

acted_output : (fits_args : Kinds → KindNo → OpNo → Data → Type 0) (p : Performs) (c : Copied) (message : Message) (a : Action) → Applies fits_args c a → kind_at c.objects output_object ≡ Some output_kind
    → kind_at (acted_by p c message a).objects output_object ≡ kind_at c.objects output_object
acted_output fits_args p c message (action.Make kind object) applies had = made_output c.objects kind object (p.made kind) applies.0 had
acted_output fits_args p c message (action.Call kind op object args) applies had =
    called_output c.objects c.queue (as_call message kind op object args) (tried_in p c.objects (as_call message kind op object args))
acted_output fits_args p c message (action.Fork process args place_on) applies had = refl
acted_output fits_args p c message action.Ended applies had = refl
acted_output fits_args p c message (action.Faulted fault) applies had = refl

after_output : (fits_args : Kinds → KindNo → OpNo → Data → Type 0) (p : Performs) (c : Copied) (message : Message) → Applies fits_args c message.action → kind_at c.objects output_object ≡ Some output_kind
    → kind_at (after p c message).objects output_object ≡ Some output_kind
after_output fits_args p c message applies had =
    let s = acted p c message in
    settled_keeps p (length s.queue) (record { objects = s.objects; queue = s.queue; lines = [] }) output_object ∙ acted_output fits_args p c message message.action applies had ∙ had

-- ---- what is counted isn't replicated
absent_kind : (o : Option Instance) → kind_in o ≡ None → o ≡ None
absent_kind None h = refl
absent_kind (Some kept) h = absurd (cc h)

-- an object is made that wasn't counted
made_apart : (objects : Objects) (singles : Kinds) (kind : KindNo) (object : ObjectId) (m : Making) → (IsCounted singles object → ⊥) → (q : ObjectId) → IsCounted singles q → object_at objects q ≡ None → object_at (after_making objects kind object m) q ≡ None
made_apart objects singles kind object (making.Made state) new q counted absent =
    object_at-with_object objects object (record { kind = kind; state = state }) q
    ∙ elim (is_at (object_cmp q) object) as (λ b. is_at (object_cmp q) object ≡ b → cond b (Some (record { kind = kind; state = state })) (object_at objects q) ≡ None) [
      | true ↦ λ here. absurd (new (subst (IsCounted singles) (same_id q object here) counted))
      | false ↦ λ away. absent
    ] refl
made_apart objects singles kind object (making.Broke fault) new q counted absent = absent

called_kind : (objects : Objects) (queue : List Suspended) (call : Suspended) (t : Tried) (q : ObjectId) → object_at objects q ≡ None → object_at (called_in objects queue call t).objects q ≡ None
called_kind objects queue call tried.Blocked q absent = absent
called_kind objects queue call (tried.Did guard state reply) q absent = absent_kind (object_at (objects_with objects call (tried.Did guard state reply)) q) (with_keeps objects call (tried.Did guard state reply) q ∙ ap kind_in absent)
called_kind objects queue call (tried.Broke guard fault) q absent = absent_kind (object_at (objects_with objects call (tried.Broke guard fault)) q) (with_keeps objects call (tried.Broke guard fault) q ∙ ap kind_in absent)

acted_apart : (fits_args : Kinds → KindNo → OpNo → Data → Type 0) (p : Performs) (c : Copied) (message : Message) (a : Action) → Applies fits_args c a → (q : ObjectId) → IsCounted c.singles q → object_at c.objects q ≡ None
    → object_at (acted_by p c message a).objects q ≡ None
acted_apart fits_args p c message (action.Make kind object) applies q counted absent = made_apart c.objects c.singles kind object (p.made kind) applies.1 q counted absent
acted_apart fits_args p c message (action.Call kind op object args) applies q counted absent =
    called_kind c.objects c.queue (as_call message kind op object args) (tried_in p c.objects (as_call message kind op object args)) q absent
acted_apart fits_args p c message (action.Fork process args place_on) applies q counted absent = absent
acted_apart fits_args p c message action.Ended applies q counted absent = absent
acted_apart fits_args p c message (action.Faulted fault) applies q counted absent = absent

after_apart_singles : (fits_args : Kinds → KindNo → OpNo → Data → Type 0) (p : Performs) (c : Copied) (message : Message) → Applies fits_args c message.action → ((q : ObjectId) → IsCounted c.singles q → object_at c.objects q ≡ None)
    → (q : ObjectId) → IsCounted c.singles q → object_at (after p c message).objects q ≡ None
after_apart_singles fits_args p c message applies apart q counted =
    let s = acted p c message in
    absent_kind (object_at (after p c message).objects q)
    (settled_keeps p (length s.queue) (record { objects = s.objects; queue = s.queue; lines = [] }) q
    ∙ ap kind_in (acted_apart fits_args p c message message.action applies q counted (apart q counted)))

-- an object that isn't replicated is counted
pub apart_later : (objects : Objects) (singles : Kinds) (object : ObjectId) (kind : KindNo) → object_at objects object ≡ None → ((q : ObjectId) → IsCounted singles q → object_at objects q ≡ None)
    → (q : ObjectId) → IsCounted (singles ++ (object, kind) ∷ []) q → object_at objects q ≡ None
apart_later objects singles object kind absent apart q (k, one, lt, is, same) =
    elim (Contains-push_cases singles (object, kind) one (k, lt, is)) [
      | inl (n, below_n, here) ↦ apart q (n, one, below_n, here, same)
      | inr last ↦ ap (object_at objects) (sym same ∙ sym (ap (λ (e : ObjectId × KindNo). e.0) last)) ∙ absent
    ]

-- ---- how many processes and objects there are
-- a limit that isn't passed
pub below : {X : Type 0} (most n : ℕ) (passed : X) → cond (leb most n) (Some passed) None ≡ None → n < most
below most n passed is =
    leb-false most n
    (elim (leb most n) as (λ b. cond b (Some passed) None ≡ None → b ≡ false) [
      | true ↦ λ h. absurd (cc h)
      | false ↦ λ h. refl
    ] is)

few_by : (p : Performs) (c : Copied) (a : Action) → c.processes ≤ 256 → too_many p c a ≡ None → c.processes + length (forked a) ≤ 256
few_by p c (action.Make kind object) few none = omega arith
few_by p c (action.Call kind op object args) few none = omega arith
few_by p c (action.Fork process args place_on) few none = let less : c.processes < 256 = below 256 c.processes _ none in omega arith
few_by p c action.Ended few none = omega arith
few_by p c (action.Faulted fault) few none = omega arith

called_length : (objects : Objects) (queue : List Suspended) (call : Suspended) (t : Tried) → Rises objects → length (called_in objects queue call t).objects ≡ length objects
called_length objects queue call tried.Blocked rises = refl
called_length objects queue call (tried.Did guard state reply) rises = with_length objects call (tried.Did guard state reply) rises
called_length objects queue call (tried.Broke guard fault) rises = with_length objects call (tried.Broke guard fault) rises

made_few : (c : Copied) (kind : KindNo) (object : ObjectId) (m : Making) → Rises c.objects → object_at c.objects object ≡ None → made_objects c ≤ 4096 → objects_limit c m ≡ None
    → length (after_making c.objects kind object m) - 1 + length c.singles ≤ 4096
made_few c kind object (making.Made state) rises absent few none =
    let less : made_objects c < 4096 = below 4096 (made_objects c) _ none in
    let more : length (with_object c.objects object (record { kind = kind; state = state })) ≡ length c.objects + 1 =
    (length_with c.objects object (record { kind = kind; state = state }) rises ∙ ap (λ o. cond (is_some o) (length c.objects) (length c.objects + 1)) absent) in
    omega (arith, less, more)
made_few c kind object (making.Broke fault) rises absent few none = few

acted_few : (fits_args : Kinds → KindNo → OpNo → Data → Type 0) (p : Performs) (c : Copied) (message : Message) (a : Action) → IsWhole c → Applies fits_args c a → too_many p c a ≡ None
    → length (acted_by p c message a).objects - 1 + length c.singles ≤ 4096
acted_few fits_args p c message (action.Make kind object) whole applies none = made_few c kind object (p.made kind) whole.rises applies.0 whole.made none
acted_few fits_args p c message (action.Call kind op object args) whole applies none =
    let same = called_length c.objects c.queue (as_call message kind op object args) (tried_in p c.objects (as_call message kind op object args)) whole.rises in
    let few = whole.made in
    omega (arith, same, few)
acted_few fits_args p c message (action.Fork process args place_on) whole applies none = whole.made
acted_few fits_args p c message action.Ended whole applies none = whole.made
acted_few fits_args p c message (action.Faulted fault) whole applies none = whole.made

-- after an entry that isn't refused
pub after_whole : (fits_args : Kinds → KindNo → OpNo → Data → Type 0) (p : Performs) (c : Copied) (message : Message) → IsWhole c → Applies fits_args c message.action → too_many p c message.action ≡ None → IsWhole (after p c message)
after_whole fits_args p c message whole applies none =
    let s = acted p c message in
    let same = settled_length p (length s.queue) (record { objects = s.objects; queue = s.queue; lines = [] }) (acted_rises p c message message.action whole.rises) in
    let few = acted_few fits_args p c message message.action whole applies none in
    let some = whole.some in
    record {
      output = after_output fits_args p c message applies whole.output;
      rises = after_rises p c message whole.rises;
      counted = whole.counted;
      apart = after_apart_singles fits_args p c message applies whole.apart;
      some = omega (arith, some);
      few = few_by p c message.action whole.few none;
      made = omega (arith, same, few);
    }

-- the output object is there
pub some_objects : (objects : Objects) → kind_at objects output_object ≡ Some output_kind → 1 ≤ length objects
some_objects [] had = absurd (cc had)
some_objects (e ∷ es) had = omega arith

-- after a call on a single object
pub single_whole : (fits_args : Kinds → KindNo → OpNo → Data → Type 0) (p : Performs) (c : Copied) (message : Message) → IsWhole c → AppliesSingle fits_args c message.action → IsWhole (after_single p c message)
single_whole fits_args p c message whole applies = record {
  output = whole.output;
  rises = whole.rises;
  counted = counted_single fits_args p c message applies whole.counted;
  apart = whole.apart;
  some = whole.some;
  few = whole.few;
  made = whole.made;
}
