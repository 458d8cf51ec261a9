-- What holds of a call and of each that waits holds of the lines that are performed then, and of the calls that wait on.
use Rattle.std.proofs.Common.{◌≡◌, ℕ, zero, suc, List, [], ◌∷◌, length, slice_get, Option, None, Some, refl, subst}
use Rattle.std.specs.Prelude.{remove}
use Rattle.std.specs.List.{AllByRecursion as Each}
use Rattle.orca_base.specs.declared.ids.CallNo.{CallNo}
use Rattle.value_core.specs.Meaning.{Performs}
use Rattle.value_core.specs.History.{Objects}
use Rattle.value_core.specs.declared.action.Action.{Action}
use Rattle.value_core.specs.declared.action.Action.TheVariants as action
use Rattle.value_core.specs.declared.action.Line.{Line}
use Rattle.value_core.specs.declared.meaning.Tried.{Tried}
use Rattle.value_core.specs.declared.meaning.Tried.TheVariants as tried
use Rattle.value_core.specs.declared.message.Message.{Message}
use Rattle.guard_queue.specs.Settles.{Settling, answered, next_ready, performed, settle_up_to, stepped, tried_in}
use Rattle.guard_queue.specs.declared.queue.Suspended.{Suspended}
use Rattle.object_manager.specs.After.{Copied, acted, acted_by, as_call, called_in, settled_after}
use Rattle.object_manager.specs.Singles.{after_single, lines_single, side}
use Rattle.world_law.proofs.Flying.{each_append}

module _ (P : ℕ → CallNo → Type 0) where
  abbrev pub OfCalls : List Suspended → Type 0
  OfCalls calls = Each (λ (one : Suspended). P one.process.0 one.call) calls

  abbrev pub OfLines : List Line → Type 0
  OfLines lines = Each (λ (line : Line). P line.process.0 line.call) lines

  call_at : (calls : List Suspended) (k : ℕ) (call : Suspended) → slice_get calls k ≡ Some call → OfCalls calls → P call.process.0 call.call
  call_at [] k call is h = absurd (cc is)
  call_at (one ∷ calls) zero call is h = let e : one ≡ call = cc is in subst (λ (z : Suspended). P z.process.0 z.call) e h.0
  call_at (one ∷ calls) (suc k) call is h = call_at calls k call is h.1

  removed : (calls : List Suspended) (k : ℕ) → OfCalls calls → OfCalls (remove calls k)
  removed [] zero h = tt
  removed [] (suc k) h = tt
  removed (one ∷ calls) zero h = h.1
  removed (one ∷ calls) (suc k) h = (h.0, removed calls k h.1)

  record So (s : Settling) : Type 0 where
    queue : OfCalls s.queue
    lines : OfLines s.lines

  performed_so : (p : Performs) (s : Settling) (k : ℕ) (o : Option Suspended) → slice_get s.queue k ≡ o → So s → So (performed p s k o)
  performed_so p s k None is h = h
  performed_so p s k (Some call) is h = record {
    queue = removed s.queue k h.queue;
    lines = each_append (λ (line : Line). P line.process.0 line.call) s.lines (answered call (tried_in p s.objects call) ∷ []) h.lines
        (call_at s.queue k call is h.queue, tt);
  }

  stepped_so : (p : Performs) (s : Settling) (o : Option ℕ) → So s → So (stepped p s o)
  stepped_so p s None h = h
  stepped_so p s (Some k) h = performed_so p s k (slice_get s.queue k) refl h

  settled_so : (p : Performs) (n : ℕ) (s : Settling) → So s → So (settle_up_to p n s)
  settled_so p zero s h = h
  settled_so p (suc n) s h = settled_so p n (stepped p s (next_ready p s.objects s.queue)) (stepped_so p s (next_ready p s.objects s.queue) h)

  called_so : (objects : Objects) (queue : List Suspended) (call : Suspended) (t : Tried) → P call.process.0 call.call → OfCalls queue →
      So (called_in objects queue call t)
  called_so objects queue call tried.Blocked is h = record {
    queue = each_append (λ (one : Suspended). P one.process.0 one.call) queue (call ∷ []) h (is, tt);
    lines = tt;
  }
  called_so objects queue call (tried.Did guard state reply) is h = record { queue = h; lines = (is, tt) }
  called_so objects queue call (tried.Broke guard fault) is h = record { queue = h; lines = (is, tt) }

  acted_so : (p : Performs) (c : Copied) (x : Message) (act : Action) → P x.process.0 x.call → OfCalls c.queue → So (acted_by p c x act)
  acted_so p c x (action.Make kind object) is h = record { queue = h; lines = (is, tt) }
  acted_so p c x (action.Call kind op object args) is h =
      called_so c.objects c.queue (as_call x kind op object args) (tried_in p c.objects (as_call x kind op object args)) is h
  acted_so p c x (action.Fork text args place_on) is h = record { queue = h; lines = (is, tt) }
  acted_so p c x action.Ended is h = record { queue = h; lines = tt }
  acted_so p c x (action.Faulted fault) is h = record { queue = h; lines = tt }

  after_so : (p : Performs) (s : Settling) → So s → So (settled_after p s)
  after_so p s h = settled_so p (length s.queue) (record { objects = s.objects; queue = s.queue; lines = [] }) (record { queue = h.queue; lines = tt })

  pub lines_so : (p : Performs) (c : Copied) (x : Message) → P x.process.0 x.call → OfCalls c.waits → OfLines (lines_single p c x)
  lines_so p c x is h =
      let one : So (acted p (side c) x) = acted_so p (side c) x x.action is h in
      each_append (λ (line : Line). P line.process.0 line.call) (acted p (side c) x).lines (settled_after p (acted p (side c) x)).lines one.lines
      (after_so p (acted p (side c) x) one).lines

  pub waits_so : (p : Performs) (c : Copied) (x : Message) → P x.process.0 x.call → OfCalls c.waits → OfCalls (after_single p c x).waits
  waits_so p c x is h = (after_so p (acted p (side c) x) (acted_so p (side c) x x.action is h)).queue
