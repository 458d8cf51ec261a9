-- What calls on a member's copies ask is met in every run of a lawful program.
use Rattle.std.proofs.Common.{◌≡◌, inl, inr, ℕ, zero, suc, ◌≤◌, Bool, true, false, cond, Option, Some, None, List, [], ◌∷◌, refl, sym, ap, ◌∙◌, subst}
use Rattle.std.specs.Prelude.{slice_get, take}
use Rattle.std.specs.BTreeMap.{is_at}
use Rattle.std.specs.Cmp.{tied_itself}
use Rattle.std.specs.Ordering.{is_eq}
use Rattle.orca_base.specs.declared.ids.ObjectId.{ObjectId}
use Rattle.value_core.specs.Fits.{Kinds}
use Rattle.value_core.specs.declared.action.Instance.{Instance}
use Rattle.value_core.specs.declared.action.Action.{Action}
use Rattle.value_core.specs.declared.action.Action.TheVariants as action
use Rattle.value_core.specs.Meaning.{Performs, Computes}
use Rattle.value_core.specs.History.{Objects, object_at, object_cmp}
use Rattle.guard_queue.specs.Apart.{calls_on}
use Rattle.guard_queue.specs.Fitting.{Fitting, OperationFits}
use Rattle.guard_queue.specs.Settles.{AllBlocked}
use Rattle.guard_queue.specs.declared.queue.Suspended.{Suspended}
use Rattle.guard_queue.proofs.Lookups.{object_total}
use Rattle.object_manager.specs.After.{Copied}
use Rattle.object_manager.specs.Applies.{Applies}
use Rattle.object_manager.specs.Singles.{kinds_at}
use Rattle.book_law.specs.Passes.{Test}
use Rattle.object_manager.specs.State.{message_of}
use Rattle.book_law.specs.Singles.{Single}
use Rattle.book_law.specs.Book.{copies_at}
use Rattle.book_law.specs.Course.{Came, Course}
use Rattle.book_law.specs.Events.{In}
use Rattle.book_law.specs.Fitness.{ArgsFit, Callable, MayCall, StateFits}
use Rattle.book_law.specs.Members.{Holds, copies_of}
use Rattle.book_law.specs.Conditions.{MemberMeets}
use Rattle.book_law.proofs.Fits.{Laws, ReplyFits, TextFits}
use Rattle.book_law.proofs.Kept.{Kept}
use Rattle.book_law.proofs.Calls.{every_call}
use Rattle.book_law.proofs.Courses.{came_sound}
use Rattle.book_law.proofs.Members.{members_hold, on_none}
use Rattle.book_law.proofs.Stuck.{copies_blocked}

-- a call of the queue is among those on its object
among : (object : ObjectId) (queue : List Suspended) (at : ℕ) (call : Suspended) → slice_get queue at ≡ Some call → call.object ≡ object → In call (calls_on object queue)
among object [] at call is e = absurd (cc is)
among object (c ∷ queue) zero call is e =
    let f : c ≡ call = cc in
    let g : object ≡ c.object = sym (ap (λ (s : Suspended). s.object) f ∙ e) in
    let here : is_at (object_cmp object) c.object ≡ true = sym (ap (λ (o : ObjectId). is_at (object_cmp object) o) g) ∙ ap is_eq (tied_itself object_total object) in
    subst (λ (b : Bool). In call (cond b (c ∷ calls_on object queue) (calls_on object queue))) (sym here) (inl (sym f))
among object (c ∷ queue) (suc at) call is e = go (is_at (object_cmp object) c.object) (among object queue at call is e)
  where
    go : (b : Bool) → In call (calls_on object queue) → In call (cond b (c ∷ calls_on object queue) (calls_on object queue))
    go true h = inr h
    go false h = h

-- a condition on an entry doesn't ask what single objects are kept
applies_beside : (fits_args : ArgsFit) (c : Copied) (own : Objects) (waits : List Suspended) (a : Action) → Applies fits_args c a → Applies fits_args (record c { own = own; waits = waits }) a
applies_beside fits_args c own waits (action.Make kind object) h = h
applies_beside fits_args c own waits (action.Call kind op object args) h = h
applies_beside fits_args c own waits (action.Fork text args place_on) h = h
applies_beside fits_args c own waits action.Ended h = h
applies_beside fits_args c own waits (action.Faulted fault) h = h

pub members_meet : (single : Test) (p : Performs) (q : Computes) (fits_state : StateFits) (fits_args : ArgsFit) (fits_text : TextFits) (fits_reply : ReplyFits) (w : Course) → Laws p q fits_state fits_args fits_text fits_reply → (came : Came single p q w) (m : ℕ)
    → MemberMeets p fits_state fits_args w m (copies_of single p q w came m)
members_meet single p q fits_state fits_args fits_text fits_reply w laws came m = record {
  fits = record {
    shared = subst (λ (d : Copied). Fitting fits_state fits_args (kinds_at d) d.objects d.queue) (sym h.shared) (let f = calls.shared n in record { states = f.states; calls = f.calls });
    own = record { states = states; calls = waiting };
  };
  blocked = record {
    shared = subst (λ (d : Copied). AllBlocked p d.objects d.queue) (sym h.shared) (copies_blocked single p (take n w.list));
    own = h.blocked;
  };
  applies = λ y is. subst (λ (d : Copied). Applies fits_args d y.action) (sym h.shared) (applies_beside fits_args (copies_at single p w.list n) c.own c.waits y.action (calls.entries n y is));
  takes = λ i x r call t owner.
      let s = k.stands call.process.0 r t.runner in
      let asks = s.asks (message_of call) t.out in
      let o = k.owns i x t.copy in
      let may = calls.calls call.process r (w.applied x.owner) call.kind call.op call.object call.args (record { here = t.runner; place = t.after; next = asks.next }) (inr (message_of call, t.out, t.new)) (ap single t.object ∙ o.is) in
      let g = h.keeps i x t.copy (owner, subst (λ (a : ℕ). x.place ≤ w.applied a) owner t.kept) in
      record {
        kept = x.kept;
        exists = ap (object_at c.own) t.object ∙ g.state;
        kind = same_kind i x call may t.copy t.object;
        args = here x owner (λ (kinds : Kinds). fits_args kinds call.kind call.op call.args) may.fits;
      };
}
  where
    n : ℕ
    n = w.applied m

    c : Copied
    c = copies_of single p q w came m

    h : Holds single p w.list w.owned m (w.applied m) (copies_of single p q w came m)
    h = members_hold single p q w came m

    k : Kept single p q w.list w.aside w.owned w.entered w.applied w.runners
    k = let s = came_sound single p q w came in s.kept

    calls : Callable single p q fits_state fits_args w
    calls = every_call single p q fits_state fits_args fits_text fits_reply w laws came

    -- over the types that the owner's copies know
    here : (x : Single) → x.owner ≡ m → (P : Kinds → Type 0) → P (kinds_at (copies_at single p w.list (w.applied x.owner))) → P (kinds_at c)
    here x owner P fact = subst P (ap (λ (a : ℕ). kinds_at (copies_at single p w.list (w.applied a))) owner ∙ sym (ap kinds_at h.shared)) fact

    same_kind : (i : ℕ) (x : Single) (call : Suspended) → (may : MayCall fits_args (kinds_at (copies_at single p w.list (w.applied x.owner))) w.owned (w.applied x.owner) call.kind call.op call.object call.args) → slice_get w.owned i ≡ Some x → call.object ≡ x.object → x.kept.kind ≡ call.kind
    same_kind i x call may is on =
        let e = k.distinct i may.at x may.copy is may.there (sym on ∙ sym may.is) in
        let f : Some x ≡ Some may.copy = sym is ∙ ap (slice_get w.owned) e ∙ may.there in
        let g : x ≡ may.copy = cc in
        ap (λ (s : Single). s.kept.kind) g ∙ may.of_kind

    states : (object : ObjectId) (kept : Instance) → object_at c.own object ≡ Some kept → fits_state (kinds_at c) kept.kind kept.state
    states object kept is =
        let u = h.only object kept is in
        let at = u.4 in
        let g = h.keeps u.0 u.1 u.2 at in
        let e : Some u.1.kept ≡ Some kept = sym g.state ∙ ap (object_at c.own) u.3 ∙ is in
        let f : u.1.kept ≡ kept = cc in
        subst (λ (v : Instance). fits_state (kinds_at c) v.kind v.state) f
        (here u.1 at.0 (λ (kinds : Kinds). fits_state kinds u.1.kept.kind u.1.kept.state) (calls.singles u.0 u.1 u.2 (subst (λ (a : ℕ). u.1.place ≤ w.applied a) (sym at.0) at.1)))

    waiting : (at : ℕ) (call : Suspended) → slice_get c.waits at ≡ Some call → OperationFits fits_args (kinds_at c) c.own call.kind call.op call.object call.args
    waiting at call is = go (object_at c.own call.object) refl
      where
        go : (o : Option Instance) → object_at c.own call.object ≡ o → OperationFits fits_args (kinds_at c) c.own call.kind call.op call.object call.args
        go None none = absurd (on_none call.object c.waits at call (h.idle call.object none) is refl)
        go (Some kept) there =
            let u = h.only call.object kept there in
            let mine = u.4 in
            let g = h.keeps u.0 u.1 u.2 mine in
            let inside : In call u.1.queue = subst (λ (qs : List Suspended). In call qs) g.queue (among u.1.object c.waits at call is (sym u.3)) in
            let may = calls.suspended u.0 u.1 call u.2 inside in
            let e : Some u.1.kept ≡ Some kept = sym g.state ∙ ap (object_at c.own) u.3 ∙ there in
            let f : u.1.kept ≡ kept = cc in
            record {
              kept = kept;
              exists = there;
              kind = ap (λ (v : Instance). v.kind) (sym f) ∙ same_kind u.0 u.1 call may u.2 (sym u.3);
              args = here u.1 mine.0 (λ (kinds : Kinds). fits_args kinds call.kind call.op call.args) may.fits;
            }
