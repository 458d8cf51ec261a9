-- Each member's copies are those of the list, and its single copies beside them.
use Rattle.std.proofs.Common.{◌≡◌, ⊎_elim, ℕ, zero, suc, ◌≤◌, ◌<◌, ◌==◌, Bool, true, false, cond, Option, Some, None, List, [], ◌∷◌, ◌++◌, length, refl, sym, ap, ◌∙◌, arith, subst, append-nil, if◌then◌else◌}
use Rattle.std.specs.Prelude.{slice_get, slice_set}
use Rattle.std.specs.BTreeMap.{is_at}
use Rattle.std.specs.Cmp.{tied_itself}
use Rattle.std.specs.Ordering.{is_eq}
use Rattle.std.proofs.lemmas.Bool.{cases_eq, cases_lt, eqb-true, eq-eqb}
use Rattle.orca_base.specs.declared.ids.KindNo.{KindNo}
use Rattle.orca_base.specs.declared.ids.ObjectId.{ObjectId}
use Rattle.value_core.specs.Datum.{Data}
use Rattle.value_core.specs.declared.action.Instance.{Instance}
use Rattle.value_core.specs.declared.action.Action.{Action}
use Rattle.value_core.specs.declared.action.Action.TheVariants as action
use Rattle.value_core.specs.declared.meaning.Making.{Making}
use Rattle.value_core.specs.declared.meaning.Making.TheVariants as making
use Rattle.value_core.specs.declared.message.Message.{Message}
use Rattle.value_core.specs.Meaning.{Performs, Computes}
use Rattle.value_core.specs.History.{Objects, object_at, object_cmp, with_object}
use Rattle.guard_queue.specs.Apart.{calls_on}
use Rattle.guard_queue.specs.Settles.{AllBlocked}
use Rattle.guard_queue.specs.declared.queue.Suspended.{Suspended}
use Rattle.guard_queue.proofs.Blocked.{from_places, others_put, settled_blocked}
use Rattle.guard_queue.proofs.Lookups.{object_total}
use Rattle.object_manager.specs.After.{Copied, acted, after as after_applied, opening_copies}
use Rattle.object_manager.specs.Singles.{after_passed, after_single, kept_by, own_after, side}
use Rattle.book_law.specs.Passes.{Test, is_passed}
use Rattle.object_manager.specs.State.{message_of}
use Rattle.book_law.specs.Singles.{Single, after_on, singles_by}
use Rattle.book_law.specs.Owners.{DoesAlike, Keeps}
use Rattle.book_law.specs.Book.{copies_at}
use Rattle.book_law.specs.Course.{Came, Course, Next, with_at}
use Rattle.book_law.specs.Course.Next.{Submits, Orders, Forks, Applies, Reads_at, Takes_call, Hears_answer}
use Rattle.book_law.specs.Course.Came.{Opens, Then}
use Rattle.book_law.specs.Events.{Runner}
use Rattle.book_law.specs.Makers.{HasCopy}
use Rattle.book_law.specs.Members.{Holds, IsHere, MembersHold, after_entry, copies_by, copies_of, runs_at}
use Rattle.book_law.proofs.Kept.{Kept}
use Rattle.book_law.proofs.Objects.{same_id, untouched_with}
use Rattle.book_law.proofs.Typed.{at_itself}
use Rattle.book_law.proofs.Processes.{get_left, set_other, set_same}
use Rattle.book_law.proofs.Books.{copies_keep, copies_next}
use Rattle.book_law.proofs.Courses.{at_other, at_own, came_sound}
use Rattle.book_law.proofs.Taking.{set_cases}
use Rattle.book_law.proofs.Replicated.{entries_stand}
use Rattle.book_law.proofs.Owners.{owners_do_alike}
use Rattle.book_law.proofs.Makers.{at_split, copies_made, fresh_by, makes_have_copies}

-- no call on an object is in a queue without one
pub on_none : (object : ObjectId) (queue : List Suspended) (at : ℕ) (call : Suspended) → calls_on object queue ≡ [] → slice_get queue at ≡ Some call → call.object ≡ object → ⊥
on_none object [] at call none is e = absurd (cc is)
on_none object (c ∷ queue) zero call none is e =
    let f : c ≡ call = cc in
    let g : object ≡ c.object = sym (ap (λ (s : Suspended). s.object) f ∙ e) in
    let here : is_at (object_cmp object) c.object ≡ true = sym (ap (λ (o : ObjectId). is_at (object_cmp object) o) g) ∙ ap is_eq (tied_itself object_total object) in
    let h : c ∷ calls_on object queue ≡ [] = sym (ap (λ b. cond b (c ∷ calls_on object queue) (calls_on object queue)) here) ∙ none in
    absurd (cc h)
on_none object (c ∷ queue) (suc at) call none is e = on_none object queue at call (tail (is_at (object_cmp object) c.object) none) is e
  where
    tail : (b : Bool) → cond b (c ∷ calls_on object queue) (calls_on object queue) ≡ [] → calls_on object queue ≡ []
    tail true f = absurd (cc f)
    tail false f = f

-- ---- another member's entry, or none

same_member : (single : Test) (p : Performs) (list : List Message) (owned : List Single) (m a b : ℕ) (c : Copied) → b ≡ a → Holds single p list owned m a c → Holds single p list owned m b c
same_member single p list owned m a b c e h = subst (λ (n : ℕ). Holds single p list owned m n c) (sym e) h

-- the list grows by an entry, whose copy no member applied yet
longer : (single : Test) (p : Performs) (list : List Message) (owned new : List Single) (x : Message) (m n : ℕ) (c : Copied) → n ≤ length list → ((k : ℕ) (z : Single) → slice_get new k ≡ Some z → n < z.place) → Holds single p list owned m n c → Holds single p (list ++ x ∷ []) (owned ++ new) m n c
longer single p list owned new x m n c le later h = record {
  shared = h.shared ∙ ap (λ (d : Copied). record d { own = c.own; waits = c.waits }) (sym (copies_keep single p list x n le));
  keeps = λ i z is here. ⊎_elim (λ old. h.keeps i z old here) (λ u. absurd (let a = later u.0 z u.1 in let b = here.1 in omega (arith, a, b))) (at_split owned new i z is);
  only = λ o kept is. let u = h.only o kept is in (u.0, u.1, get_left owned new u.0 u.1 u.2, u.3, u.4);
  idle = h.idle;
  blocked = h.blocked;
}

-- ---- an entry at its member

-- what is shared goes on as the list says
shared_next : (single : Test) (p : Performs) (list : List Message) (n : ℕ) (y : Message) (c : Copied) (keeps : Bool) → slice_get list n ≡ Some y → c ≡ record (copies_at single p list n) { own = c.own; waits = c.waits }
    → after_entry single p c y keeps ≡ record (copies_at single p list (suc n)) { own = (after_entry single p c y keeps).own; waits = (after_entry single p c y keeps).waits }
shared_next single p list n y c keeps is shared =
    go (is_passed single y.action) ∙ ap (λ (e : Copied). record e { own = (after_entry single p c y keeps).own; waits = (after_entry single p c y keeps).waits }) (sym (copies_next single p list n y is ∙ entries_stand single p (copies_at single p list n) y))
  where
    d : Copied
    d = copies_at single p list n

    here : Copied
    here = record (copies_at single p list n) { own = c.own; waits = c.waits }

    passed : after_passed p keeps c y ≡ record (after_passed p false (copies_at single p list n) y) { own = (after_passed p keeps c y).own; waits = (after_passed p keeps c y).waits }
    passed = ap (λ (e : Copied). record (after_passed p keeps e y) { own = (after_passed p keeps c y).own; waits = (after_passed p keeps c y).waits }) shared

    applied : after_applied p c y ≡ record (after_applied p (copies_at single p list n) y) { own = (after_applied p c y).own; waits = (after_applied p c y).waits }
    applied = ap (λ (e : Copied). record (after_applied p e y) { own = (after_applied p c y).own; waits = (after_applied p c y).waits }) shared

    go : (b : Bool) → (if b then after_passed p keeps c y else after_applied p c y) ≡ record (if b then after_passed p false (copies_at single p list n) y else after_applied p (copies_at single p list n) y) { own = (if b then after_passed p keeps c y else after_applied p c y).own; waits = (if b then after_passed p keeps c y else after_applied p c y).waits }
    go true = passed
    go false = applied

-- what is kept here after an entry, and what waits
abbrev own_next : Test → Performs → Objects → Action → Bool → Objects
own_next single p own a keeps = if is_passed single a then own_after p keeps own a else own

own_is : (single : Test) (p : Performs) (c : Copied) (y : Message) (keeps : Bool) → ((after_entry single p c y keeps).own ≡ own_next single p c.own y.action keeps) × ((after_entry single p c y keeps).waits ≡ c.waits)
own_is single p c y keeps = go (is_passed single y.action)
  where
    go : (b : Bool) → ((if b then after_passed p keeps c y else after_applied p c y).own ≡ (if b then own_after p keeps c.own y.action else c.own)) × ((if b then after_passed p keeps c y else after_applied p c y).waits ≡ c.waits)
    go true = (refl, refl)
    go false = (refl, refl)

-- a make of a single object at its owner puts it in; every other entry leaves what is kept here
data Kind (single : Test) (p : Performs) (a : Action) (keeps : Bool) (own after : Objects) : Type 0 where
  Puts : (kind : KindNo) (object : ObjectId) (state : Data) → a ≡ action.Make kind object → single object ≡ true → p.made kind ≡ making.Made state → keeps ≡ true → after ≡ with_object own object (record { kind = kind; state = state }) → Kind single p a keeps own after
  Leaves : ((kind : KindNo) (object : ObjectId) (state : Data) → a ≡ action.Make kind object → single object ≡ true → p.made kind ≡ making.Made state → keeps ≡ true → ⊥) → after ≡ own → Kind single p a keeps own after

make_kind : (single : Test) (p : Performs) (kind : KindNo) (object : ObjectId) (b keeps : Bool) (m : Making) (own : Objects) → single object ≡ b → p.made kind ≡ m
    → Kind single p (action.Make kind object) keeps own (if b then kept_by keeps m kind object own else own)
make_kind single p kind object false keeps m own is made = Leaves (λ k o s e t n u.
    let f : object ≡ o = (let g : action.Make kind object ≡ action.Make k o = e in cc) in let h : false ≡ true = sym is ∙ ap single f ∙ t in cc h) refl
make_kind single p kind object true false m own is made = Leaves (λ k o s e t n u. let h : false ≡ true = u in cc h) refl
make_kind single p kind object true true (making.Made state) own is made = Puts kind object state refl is made refl refl
make_kind single p kind object true true (making.Broke fault) own is made = Leaves (λ k o s e t n u.
    let f : kind ≡ k = (let g : action.Make kind object ≡ action.Make k o = e in cc) in
    let h : making.Broke fault ≡ making.Made s = sym made ∙ ap p.made f ∙ n in cc h) refl

kind_by : (single : Test) (p : Performs) (a : Action) (keeps : Bool) (own : Objects) → Kind single p a keeps own (own_next single p own a keeps)
kind_by single p (action.Make kind object) keeps own = make_kind single p kind object (single object) keeps (p.made kind) own refl refl
kind_by single p (action.Call kind op object args) keeps own = Leaves (λ k o s e t n u. cc e) refl
kind_by single p (action.Fork text args place_on) keeps own = Leaves (λ k o s e t n u. cc e) refl
kind_by single p action.Ended keeps own = Leaves (λ k o s e t n u. cc e) refl
kind_by single p (action.Faulted fault) keeps own = Leaves (λ k o s e t n u. cc e) refl

-- a copy at the entry's place is made by it, and its process runs here
record MadeNow (single : Test) (p : Performs) (w : Course) (m : ℕ) (y : Message) (z : Single) : Type 0 where
  makes : y.action ≡ action.Make z.kept.kind z.object
  is : single z.object ≡ true
  made : p.made z.kept.kind ≡ making.Made z.kept.state
  queue : z.queue ≡ []
  runs : runs_at m (w.runners y.process.0) ≡ true

made_now : (single : Test) (p : Performs) (q : Computes) (w : Course) (m : ℕ) (y : Message) (i : ℕ) (z : Single) → Came single p q w → slice_get w.list (w.applied m) ≡ Some y → slice_get w.owned i ≡ Some z → z.owner ≡ m → z.place ≡ suc (w.applied m) → MadeNow single p w m y z
made_now single p q w m y i z came here is owner place =
    let s = came_sound single p q w came in
    let k = s.kept in
    let o = k.owns i z is in
    let a = copies_made single p q w came i z is in
    let same : w.applied m ≡ a.before = (let b = a.place in omega (arith, b, place)) in
    let e : Some a.entry ≡ Some y = sym a.there ∙ ap (slice_get w.list) (sym same) ∙ here in
    let f : a.entry ≡ y = cc in
    let fresh = o.unused (let g = ap w.applied owner in omega (arith, g, place)) in
    record {
      makes = ap (λ (x : Message). x.action) (sym f) ∙ a.makes;
      is = o.is;
      made = fresh.1;
      queue = fresh.0;
      runs = ap (λ (r : Option Runner). runs_at m r) (ap (λ (x : Message). w.runners x.process.0) (sym f) ∙ a.process) ∙ eq-eqb a.runner.member m (a.owner ∙ owner);
    }

applied_here : (single : Test) (p : Performs) (q : Computes) (w : Course) (m : ℕ) (y : Message) (c : Copied) → Came single p q w → slice_get w.list (w.applied m) ≡ Some y → Holds single p w.list w.owned m (w.applied m) c
    → Holds single p w.list w.owned m (suc (w.applied m)) (after_entry single p c y (runs_at m (w.runners y.process.0)))
applied_here single p q w m y c came here h = go (kind_by single p y.action keeps c.own)
  where
    keeps : Bool
    keeps = runs_at m (w.runners y.process.0)

    n : ℕ
    n = w.applied m

    next : Copied
    next = after_entry single p c y (runs_at m (w.runners y.process.0))

    own : next.own ≡ own_next single p c.own y.action keeps
    own = (own_is single p c y keeps).0

    waits : next.waits ≡ c.waits
    waits = (own_is single p c y keeps).1

    shared : next ≡ record (copies_at single p w.list (suc n)) { own = next.own; waits = next.waits }
    shared = shared_next single p w.list n y c keeps here h.shared

    k : Kept single p q w.list w.aside w.owned w.entered w.applied w.runners
    k = let s = came_sound single p q w came in s.kept

    older : (z : Single) → IsHere m (suc n) z → (z.place ≡ suc n → ⊥) → IsHere m n z
    older z at apart = (at.0, ⊎_elim (λ lt. absurd (apart (let b = at.1 in omega (arith, lt, b)))) (λ le. le) (cases_lt n z.place))

    go : Kind single p y.action keeps c.own (own_next single p c.own y.action keeps) → Holds single p w.list w.owned m (suc n) next
    go (Leaves none same) = record {
      shared = shared;
      keeps = λ i z is at. ⊎_elim
          (λ (e : z.place ≡ suc n). let f = made_now single p q w m y i z came here is at.0 e in absurd (none z.kept.kind z.object z.kept.state f.makes f.is f.made f.runs))
          (λ apart. let g = h.keeps i z is (older z at apart) in record { state = ap (λ (os : Objects). object_at os z.object) (own ∙ same) ∙ g.state; queue = ap (calls_on z.object) waits ∙ g.queue })
          (cases_eq z.place (suc n));
      only = λ o kept is. let u = h.only o kept (sym (ap (λ (os : Objects). object_at os o) (own ∙ same)) ∙ is) in (u.0, u.1, u.2, u.3, let f = u.4 in (f.0, let g = f.1 in omega (arith, g)));
      idle = λ o none_at. ap (calls_on o) waits ∙ h.idle o (sym (ap (λ (os : Objects). object_at os o) (own ∙ same)) ∙ none_at);
      blocked = subst (λ (os : Objects). AllBlocked p os next.waits) (sym (own ∙ same)) (subst (λ (qs : List Suspended). AllBlocked p c.own qs) (sym waits) h.blocked);
    }
    go (Puts kind object state makes is made keeps_is after_is) = record {
      shared = shared;
      keeps = λ i z at_i at. ⊎_elim
          (λ (e : z.place ≡ suc n).
          let f = made_now single p q w m y i z came here at_i at.0 e in
          let g : action.Make z.kept.kind z.object ≡ action.Make kind object = sym f.makes ∙ makes in
          let same_object : z.object ≡ object = cc in
          let same_kind : z.kept.kind ≡ kind = cc in
          let states : making.Made z.kept.state ≡ making.Made state = sym f.made ∙ ap p.made same_kind ∙ made in
          let same_state : z.kept.state ≡ state = cc in
          let put : record { kind = kind; state = state } ≡ z.kept = ap (λ (kd : KindNo). record { kind = kd; state = state }) (sym same_kind) ∙ ap (λ (s : Data). record { kind = z.kept.kind; state = s }) (sym same_state) in
          record {
            state = ap (λ (os : Objects). object_at os z.object) now ∙ ap (object_at (with_object c.own object new)) same_object ∙ at_itself c.own object new ∙ ap (λ (v : Instance). Some v) put;
            queue = ap (calls_on z.object) waits ∙ ap (λ (o : ObjectId). calls_on o c.waits) same_object ∙ h.idle object absent ∙ sym f.queue;
          })
          (λ apart.
          let g = h.keeps i z at_i (older z at apart) in
          let other : z.object ≡ object → ⊥ = λ (e : z.object ≡ object). clash i z at_i e (let b = (older z at apart).1 in b) in
          record { state = ap (λ (os : Objects). object_at os z.object) now ∙ untouched_with c.own object new z.object other ∙ g.state; queue = ap (calls_on z.object) waits ∙ g.queue })
          (cases_eq z.place (suc n));
      only = λ o kept is_there. ⊎_elim
          (λ (e : o ≡ object). (copy.at, copy.copy, copy.there, copy.object ∙ sym e, (copy_owner, let b = copy.place in omega (arith, b))))
          (λ apart. let u = h.only o kept (sym (untouched_with c.own object new o apart) ∙ sym (ap (λ (os : Objects). object_at os o) now) ∙ is_there) in (u.0, u.1, u.2, u.3, let f = u.4 in (f.0, let g = f.1 in omega (arith, g))))
          (same_id o object);
      idle = λ o none_at. ap (calls_on o) waits ∙ ⊎_elim
          (λ (e : o ≡ object). let f : None ≡ Some new = sym none_at ∙ ap (λ (os : Objects). object_at os o) now ∙ ap (object_at (with_object c.own object new)) e ∙ at_itself c.own object new in absurd (cc f))
          (λ apart. h.idle o (sym (untouched_with c.own object new o apart) ∙ sym (ap (λ (os : Objects). object_at os o) now) ∙ none_at))
          (same_id o object);
      blocked = subst (λ (os : Objects). AllBlocked p os next.waits) (sym now) (subst (λ (qs : List Suspended). AllBlocked p (with_object c.own object new) qs) (sym waits)
          (from_places p (with_object c.own object new) c.waits (λ at call at_is. others_put p c.own c.waits object new h.blocked at call at_is (λ e. on_none object c.waits at call (h.idle object absent) at_is e))));
    }
      where
        new : Instance
        new = record { kind = kind; state = state }

        now : next.own ≡ with_object c.own object (record { kind = kind; state = state })
        now = own ∙ after_is

        copy : HasCopy w.owned (w.applied m) kind object
        copy = makes_have_copies single p q w came n y kind object state here makes is made

        clash : (i : ℕ) (z : Single) → slice_get w.owned i ≡ Some z → z.object ≡ object → z.place ≤ n → ⊥
        clash i z at_i e le =
            let same : i ≡ copy.at = k.distinct i copy.at z copy.copy at_i copy.there (e ∙ sym copy.object) in
            let f : Some z ≡ Some copy.copy = sym at_i ∙ ap (slice_get w.owned) same ∙ copy.there in
            let g : z ≡ copy.copy = cc in
            let b = ap (λ (s : Single). s.place) g in
            let d = copy.place in
            omega (arith, b, d, le)

        gone : (o : Option Instance) → object_at c.own object ≡ o → object_at c.own object ≡ None
        gone None e = e
        gone (Some kept) e = let u = h.only object kept e in let f = u.4 in absurd (clash u.0 u.1 u.2 u.3 f.1)

        absent : object_at c.own object ≡ None
        absent = gone (object_at c.own object) refl

        copy_owner : copy.copy.owner ≡ m
        copy_owner =
            let a = copies_made single p q w came copy.at copy.copy copy.there in
            let same : w.applied m ≡ a.before = (let b = a.place in let d = copy.place in omega (arith, b, d)) in
            let e : Some a.entry ≡ Some y = sym a.there ∙ ap (slice_get w.list) (sym same) ∙ here in
            let f : a.entry ≡ y = cc in
            let runs : runs_at m (Some a.runner) ≡ true = sym (ap (λ (r : Option Runner). runs_at m r) (ap (λ (x : Message). w.runners x.process.0) (sym f) ∙ a.process)) ∙ keeps_is in
            sym a.owner ∙ eqb-true a.runner.member m runs

-- ---- a call that an owner takes

taken_here : (single : Test) (p : Performs) (list : List Message) (owned : List Single) (m n i : ℕ) (x : Single) (call : Suspended) (c : Copied) → slice_get owned i ≡ Some x → IsHere m n x → call.object ≡ x.object
    → ((a b : ℕ) (y z : Single) → slice_get owned a ≡ Some y → slice_get owned b ≡ Some z → y.object ≡ z.object → a ≡ b) → Holds single p list owned m n c → Holds single p list (slice_set owned i (after_on p x call)) m n (after_single p c (message_of call))
taken_here single p list owned m n i x call c is here on distinct h = record {
  shared = ap (λ (d : Copied). record d { own = next.own; waits = next.waits }) h.shared;
  keeps = λ a z at_a at. ⊎_elim
      (λ u. subst (λ (s : Single). Keeps next s) u.1 alike.keeps)
      (λ u.
      let other : z.object ≡ x.object → ⊥ = λ (e : z.object ≡ x.object). u.0 (distinct i a x z is u.1 (sym e)) in
      let g = h.keeps a z u.1 at in
      let o = alike.others z.object other in
      record { state = o.0 ∙ g.state; queue = o.1 ∙ g.queue })
      (set_cases owned i a x set z is at_a);
  only = λ o kept there. ⊎_elim
      (λ (e : o ≡ x.object). (i, set, set_same owned i x set is, sym e, here))
      (λ apart.
      let u = h.only o kept (sym (alike.others o apart).0 ∙ there) in
      (u.0, u.1, set_other owned i u.0 set (λ (e : i ≡ u.0). let f : Some x ≡ Some u.1 = sym is ∙ ap (slice_get owned) e ∙ u.2 in let g : x ≡ u.1 = cc in apart (sym u.3 ∙ sym (ap (λ (s : Single). s.object) g))) ∙ u.2, u.3, u.4))
      (same_id o x.object);
  idle = λ o none. ⊎_elim
      (λ (e : o ≡ x.object). let f : None ≡ Some set.kept = sym none ∙ ap (object_at next.own) e ∙ kept_there in absurd (cc f))
      (λ apart. let u = alike.others o apart in u.1 ∙ h.idle o (sym u.0 ∙ none))
      (same_id o x.object);
  blocked = let s = acted p (side c) (message_of call) in settled_blocked p (record { objects = s.objects; queue = s.queue; lines = [] });
}
  where
    set : Single
    set = after_on p x call

    next : Copied
    next = after_single p c (message_of call)

    alike : DoesAlike p c x call
    alike = owners_do_alike p c x call on h.blocked (h.keeps i x is here)

    kept_there : object_at (after_single p c (message_of call)).own x.object ≡ Some (after_on p x call).kept
    kept_there = let g = alike.keeps in g.state

-- another's copy changes
taken_there : (single : Test) (p : Performs) (list : List Message) (owned : List Single) (m n i : ℕ) (x set : Single) (c : Copied) → slice_get owned i ≡ Some x → set.owner ≡ x.owner → (x.owner ≡ m → ⊥) → Holds single p list owned m n c → Holds single p list (slice_set owned i set) m n c
taken_there single p list owned m n i x set c is same apart h = record {
  shared = h.shared;
  keeps = λ a z at_a at. ⊎_elim
      (λ u. absurd (apart (sym same ∙ ap (λ (s : Single). s.owner) u.1 ∙ at.0)))
      (λ u. h.keeps a z u.1 at)
      (set_cases owned i a x set z is at_a);
  only = λ o kept there.
      let u = h.only o kept there in
      let f = u.4 in
      (u.0, u.1, set_other owned i u.0 set (λ (e : i ≡ u.0). let g : Some x ≡ Some u.1 = sym is ∙ ap (slice_get owned) e ∙ u.2 in let k : x ≡ u.1 = cc in apart (ap (λ (s : Single). s.owner) k ∙ f.0)) ∙ u.2, u.3, u.4);
  idle = h.idle;
  blocked = h.blocked;
}

-- ---- every run

next_holds : (single : Test) (p : Performs) (q : Computes) (w v : Course) (next : Next single p q w v) (m : ℕ) (c : Copied) → Came single p q w → Holds single p w.list w.owned m (w.applied m) c → Holds single p v.list v.owned m (v.applied m) (copies_by single p q w v next m c)
next_holds single p q w v (Submits j x y here free asks e) m c came h = subst (λ (u : Course). Holds single p u.list u.owned m (u.applied m) c) (sym e) h
next_holds single p q w v (Orders x r here was new may plain e) m c came h =
    let s = came_sound single p q w came in
    let k = s.kept in
    let le = k.within m in
    subst (λ (u : Course). Holds single p u.list u.owned m (u.applied m) c) (sym e)
    (longer single p w.list w.owned (singles_by single p r.member (suc (length w.list)) x.action) x m (w.applied m) c le (λ i z is. let f = fresh_by single p r.member (suc (length w.list)) x.action i z is in let g = f.at in omega (arith, g, le)) h)
next_holds single p q w v (Forks x born member was new forks e) m c came h =
    let s = came_sound single p q w came in
    let k = s.kept in
    subst (λ (u : Course). Holds single p u.list u.owned m (u.applied m) c) (sym e)
    (subst (λ (ss : List Single). Holds single p (w.list ++ x ∷ []) ss m (w.applied m) c) (append-nil w.owned) (longer single p w.list w.owned [] x m (w.applied m) c (k.within m) (λ i z is. absurd (cc is)) h))
next_holds single p q w v (Applies j y here e) m c came h = subst (λ (u : Course). Holds single p u.list u.owned m (u.applied m) (copies_by single p q w v (Applies j y here e) m c)) (sym e) (go (j == m) refl)
  where
    keeps : Bool
    keeps = runs_at m (w.runners y.process.0)

    go : (b : Bool) → (j == m) ≡ b → Holds single p w.list w.owned m (with_at w.applied j (suc (w.applied j)) m) (if b then after_entry single p c y keeps else c)
    go true is =
        let f : j ≡ m = eqb-true j m is in
        let at : slice_get w.list (w.applied m) ≡ Some y = ap (λ (k : ℕ). slice_get w.list (w.applied k)) (sym f) ∙ here in
        let n : with_at w.applied j (suc (w.applied j)) m ≡ suc (w.applied m) = ap (λ (k : ℕ). with_at w.applied k (suc (w.applied k)) m) f ∙ at_own w.applied m (suc (w.applied m)) in
        same_member single p w.list w.owned m (suc (w.applied m)) (with_at w.applied j (suc (w.applied j)) m) (after_entry single p c y keeps) n (applied_here single p q w m y c came at h)
    go false is = same_member single p w.list w.owned m (w.applied m) (with_at w.applied j (suc (w.applied j)) m) c (at_other w.applied j (suc (w.applied j)) m (λ (f : m ≡ j). let g : true ≡ false = sym (eq-eqb j m (sym f)) ∙ is in absurd (cc g))) h
next_holds single p q w v (Reads_at j x n line here reads e) m c came h = subst (λ (u : Course). Holds single p u.list u.owned m (u.applied m) c) (sym e) h
next_holds single p q w v (Takes_call i x r call t e) m c came h = subst (λ (u : Course). Holds single p u.list u.owned m (u.applied m) (copies_by single p q w v (Takes_call i x r call t e) m c)) (sym e) (go (x.owner == m) refl)
  where
    go : (b : Bool) → (x.owner == m) ≡ b → Holds single p w.list (slice_set w.owned i (after_on p x call)) m (w.applied m) (if b then after_single p c (message_of call) else c)
    go true is =
        let s = came_sound single p q w came in
        let k = s.kept in
        let f : x.owner ≡ m = eqb-true x.owner m is in
        taken_here single p w.list w.owned m (w.applied m) i x call c t.copy (f, subst (λ (o : ℕ). x.place ≤ w.applied o) f t.kept) t.object k.distinct h
    go false is = taken_there single p w.list w.owned m (w.applied m) i x (after_on p x call) c t.copy refl (λ f. let g : true ≡ false = sym (eq-eqb x.owner m f) ∙ is in absurd (cc g)) h
next_holds single p q w v (Hears_answer j x r here has reached e) m c came h = subst (λ (u : Course). Holds single p u.list u.owned m (u.applied m) c) (sym e) h

opening_holds : (single : Test) (p : Performs) (m : ℕ) → Holds single p [] [] m 0 opening_copies
opening_holds single p m = record {
  shared = refl;
  keeps = λ i x is here. absurd (cc is);
  only = λ o kept is. absurd (cc is);
  idle = λ o none. refl;
  blocked = from_places p [] [] (λ at call is. absurd (cc is));
}

pub members_hold : MembersHold
members_hold single p q w (Opens member shared) m = opening_holds single p m
members_hold single p q w (Then u v came next) m = next_holds single p q u v next m (copies_of single p q u came m) came (members_hold single p q u came m)
