-- The laws of copies: what a message does of itself, and then settling.
use Rattle.std.proofs.Common.{◌≡◌, inl, inr, Bool, true, false, cond, List, [], ◌++◌, Some, None, length, ◌∙◌, sym, subst}
use Rattle.std.specs.BTreeMap.{is_at}
use Rattle.std.proofs.lemmas.List.Elements.{Contains-append_cases, Contains-append_left, Contains-append_right}
use Rattle.orca_base.specs.declared.ids.KindNo.{KindNo}
use Rattle.orca_base.specs.declared.ids.OpNo.{OpNo}
use Rattle.orca_base.specs.declared.ids.ObjectId.{ObjectId}
use Rattle.value_core.specs.Datum.{Data}
use Rattle.value_core.specs.Datum as datum
use Rattle.value_core.specs.declared.action.Instance.{Instance}
use Rattle.value_core.specs.declared.action.Action.{Action}
use Rattle.value_core.specs.declared.action.Action.TheVariants as action
use Rattle.value_core.specs.declared.message.Message.{Message}
use Rattle.value_core.specs.declared.meaning.Making.{Making}
use Rattle.value_core.specs.declared.meaning.Making.TheVariants as making
use Rattle.value_core.specs.declared.meaning.Tried.{Tried}
use Rattle.value_core.specs.declared.meaning.Tried.TheVariants as tried
use Rattle.value_core.specs.Fits.{Kinds, ExtendsKinds, IfMade, KeepsState}
use Rattle.value_core.specs.Meaning.{Performs}
use Rattle.value_core.specs.History.{Objects, after_making, object_cmp, object_at, output_kind}
use Rattle.guard_queue.specs.declared.queue.Suspended.{Suspended}
use Rattle.guard_queue.specs.Fitting.{Fitting, kinds_of}
use Rattle.guard_queue.specs.Settles.{tried_in}
use Rattle.guard_queue.specs.Shown.{Rises}
use Rattle.guard_queue.proofs.KindsStay.{kinds_extend}
use Rattle.guard_queue.proofs.Stays.{settled_extends, settled_rises, with_rises}
use Rattle.guard_queue.proofs.Steps.{over_more, settled_fits, with_extends}
use Rattle.guard_queue.proofs.Writes.{rises_with}
use Rattle.object_manager.specs.After.{Copied, acted, acted_by, after, as_call, called_in, opening_copies}
use Rattle.object_manager.specs.Applies.{Applies, CopiesFit}
use Rattle.object_manager.specs.Singles.{kinds_at}
use Rattle.object_manager.proofs.Fitted.{called_fit, made_fit}

-- ---- what is there when nothing was applied
opened_state : (P : Instance → Type 0) (b : Bool) (one kept : Instance) → P one → cond b (Some one) None ≡ Some kept → P kept
opened_state P true one kept fits is = let same : one ≡ kept = cc is in subst P same fits
opened_state P false one kept fits is = cc

pub opening_fits : (fits_state : Kinds → KindNo → Data → Type 0) (fits_args : Kinds → KindNo → OpNo → Data → Type 0) → ((kinds : Kinds) → fits_state kinds output_kind datum.none) → CopiesFit fits_state fits_args opening_copies
opening_fits fits_state fits_args output =
    let kinds = kinds_at opening_copies in
    record {
      shared = record {
        states = λ object kept is.
            let one : Instance = record { kind = output_kind; state = datum.none } in
            opened_state (λ k. fits_state kinds k.kind k.state) (is_at (object_cmp object) (record { process = 0; number = 0 })) one kept (output kinds) is;
        calls = λ at call is. cc;
      };
      own = record { states = λ object kept is. cc; calls = λ at call is. cc };
    }

-- ---- each object stays, by its type
-- more of the first types, and the same others
pub extends_before : (kinds more others : Kinds) → ExtendsKinds kinds more → ExtendsKinds (kinds ++ others) (more ++ others)
extends_before kinds more others extends entry has =
    elim (Contains-append_cases kinds others entry has) [
      | inl here ↦ Contains-append_left more others entry (extends entry here)
      | inr there ↦ Contains-append_right more others entry there
    ]

made_extends : (objects : Objects) (kind : KindNo) (object : ObjectId) (m : Making) → object_at objects object ≡ None → ExtendsKinds (kinds_of objects) (kinds_of (after_making objects kind object m))
made_extends objects kind object (making.Made state) absent =
    kinds_extend objects object (record { kind = kind; state = state }) (λ old here. let apart : None ≡ Some old = sym absent ∙ here in absurd (cc apart))
made_extends objects kind object (making.Broke fault) absent = λ entry has. has

called_extends : (objects : Objects) (queue : List Suspended) (call : Suspended) (t : Tried) → ExtendsKinds (kinds_of objects) (kinds_of (called_in objects queue call t).objects)
called_extends objects queue call tried.Blocked = λ entry has. has
called_extends objects queue call (tried.Did guard state reply) = with_extends objects call (tried.Did guard state reply)
called_extends objects queue call (tried.Broke guard fault) = with_extends objects call (tried.Broke guard fault)

acted_extends : (fits_args : Kinds → KindNo → OpNo → Data → Type 0) (p : Performs) (c : Copied) (message : Message) (a : Action) → Applies fits_args c a → ExtendsKinds (kinds_of c.objects) (kinds_of (acted_by p c message a).objects)
acted_extends fits_args p c message (action.Make kind object) applies = made_extends c.objects kind object (p.made kind) applies.0
acted_extends fits_args p c message (action.Call kind op object args) applies = called_extends c.objects c.queue (as_call message kind op object args) (tried_in p c.objects (as_call message kind op object args))
acted_extends fits_args p c message (action.Fork process args place_on) applies = λ entry has. has
acted_extends fits_args p c message action.Ended applies = λ entry has. has
acted_extends fits_args p c message (action.Faulted fault) applies = λ entry has. has

pub after_extends : (fits_args : Kinds → KindNo → OpNo → Data → Type 0) (p : Performs) (c : Copied) (message : Message) → Applies fits_args c message.action → ExtendsKinds (kinds_at c) (kinds_at (after p c message))
after_extends fits_args p c message applies =
    let s = acted p c message in
    extends_before (kinds_of c.objects) (kinds_of (after p c message).objects) c.singles
    (λ entry has. settled_extends p (length s.queue) (record { objects = s.objects; queue = s.queue; lines = [] }) entry (acted_extends fits_args p c message message.action applies entry has))

-- ---- ids that rise go on rising
made_rises : (objects : Objects) (kind : KindNo) (object : ObjectId) (m : Making) → Rises objects → Rises (after_making objects kind object m)
made_rises objects kind object (making.Made state) rises = rises_with objects object (record { kind = kind; state = state }) rises
made_rises objects kind object (making.Broke fault) rises = rises

called_rises : (objects : Objects) (queue : List Suspended) (call : Suspended) (t : Tried) → Rises objects → Rises (called_in objects queue call t).objects
called_rises objects queue call tried.Blocked rises = rises
called_rises objects queue call (tried.Did guard state reply) rises = with_rises objects call (tried.Did guard state reply) rises
called_rises objects queue call (tried.Broke guard fault) rises = with_rises objects call (tried.Broke guard fault) rises

pub acted_rises : (p : Performs) (c : Copied) (message : Message) (a : Action) → Rises c.objects → Rises (acted_by p c message a).objects
acted_rises p c message (action.Make kind object) rises = made_rises c.objects kind object (p.made kind) rises
acted_rises p c message (action.Call kind op object args) rises = called_rises c.objects c.queue (as_call message kind op object args) (tried_in p c.objects (as_call message kind op object args)) rises
acted_rises p c message (action.Fork process args place_on) rises = rises
acted_rises p c message action.Ended rises = rises
acted_rises p c message (action.Faulted fault) rises = rises

pub after_rises : (p : Performs) (c : Copied) (message : Message) → Rises c.objects → Rises (after p c message).objects
after_rises p c message rises =
    let s = acted p c message in
    settled_rises p (length s.queue) (record { objects = s.objects; queue = s.queue; lines = [] }) (acted_rises p c message message.action rises)

-- ---- what fits goes on fitting
module _ (fits_state : Kinds → KindNo → Data → Type 0) (fits_args : Kinds → KindNo → OpNo → Data → Type 0) (p : Performs)
    (makes : (kinds : Kinds) (kind : KindNo) → IfMade (p.made kind) (fits_state kinds kind))
    (keeps : (kinds : Kinds) (kind : KindNo) (op : OpNo) (state args : Data) → fits_state kinds kind state → fits_args kinds kind op args → KeepsState (p.tries kind op state args) (fits_state kinds kind)) where
  -- over the types that there were
  pub acted_fits : (c : Copied) (message : Message) (a : Action) → CopiesFit fits_state fits_args c → Applies fits_args c a → Fitting fits_state fits_args (kinds_at c) (acted_by p c message a).objects (acted_by p c message a).queue
  acted_fits c message (action.Make kind object) fit applies = made_fit fits_state fits_args (kinds_at c) c.objects c.queue kind object (p.made kind) (makes (kinds_at c) kind) applies.0 fit.shared
  acted_fits c message (action.Call kind op object args) fit applies = called_fit fits_state fits_args (kinds_at c) p (keeps (kinds_at c)) c.objects c.queue (as_call message kind op object args) applies fit.shared
  acted_fits c message (action.Fork process args place_on) fit applies = fit.shared
  acted_fits c message action.Ended fit applies = fit.shared
  acted_fits c message (action.Faulted fault) fit applies = fit.shared

  pub after_fits : ((kinds more : Kinds) (kind : KindNo) (state : Data) → ExtendsKinds kinds more → fits_state kinds kind state → fits_state more kind state)
      → ((kinds more : Kinds) (kind : KindNo) (op : OpNo) (args : Data) → ExtendsKinds kinds more → fits_args kinds kind op args → fits_args more kind op args)
      → (c : Copied) (message : Message) → CopiesFit fits_state fits_args c → Applies fits_args c message.action → CopiesFit fits_state fits_args (after p c message)
  after_fits states_stay args_stay c message fit applies =
      let s = acted p c message in
      let extends = after_extends fits_args p c message applies in
      let more = kinds_at (after p c message) in
      record {
        shared = over_more fits_state fits_args states_stay args_stay (kinds_at c) more (after p c message).objects (after p c message).queue extends
            (settled_fits fits_state fits_args (kinds_at c) p (keeps (kinds_at c)) (length s.queue) (record { objects = s.objects; queue = s.queue; lines = [] }) (acted_fits c message message.action fit applies));
        own = over_more fits_state fits_args states_stay args_stay (kinds_at c) more c.own c.waits extends fit.own;
      }
