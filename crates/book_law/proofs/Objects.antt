-- Objects by their ids: what an action does to one object depends on that object alone.
use Rattle.std.proofs.Common.{◌≡◌, ℕ, ◌⊎◌, inl, inr, ⊎_elim, cond, Option, Some, None, List, [], ◌∷◌, ◌++◌, refl, sym, ap, ◌∙◌}
use Rattle.std.specs.BTreeMap.{is_at}
use Rattle.std.proofs.lemmas.Bool.{cases_eq}
use Rattle.orca_base.specs.declared.ids.KindNo.{KindNo}
use Rattle.orca_base.specs.declared.ids.OpNo.{OpNo}
use Rattle.orca_base.specs.declared.ids.ObjectId.{ObjectId}
use Rattle.value_core.specs.Datum.{Data}
use Rattle.value_core.specs.declared.action.Instance.{Instance}
use Rattle.value_core.specs.declared.action.Line.{Line}
use Rattle.value_core.specs.declared.action.Action.{Action}
use Rattle.value_core.specs.declared.action.Action.TheVariants as action
use Rattle.value_core.specs.declared.action.Reply.{Reply}
use Rattle.value_core.specs.declared.meaning.Making.{Making}
use Rattle.value_core.specs.declared.meaning.Making.TheVariants as making
use Rattle.value_core.specs.declared.meaning.Tried.{Tried}
use Rattle.value_core.specs.declared.meaning.Tried.TheVariants as tried
use Rattle.value_core.specs.Meaning.{Performs}
use Rattle.value_core.specs.History.{Configuration, Objects, Performed, after_call, after_line, after_lines, after_making, after_try, object_at, object_cmp, objects_after, with_object}
use Rattle.guard_queue.proofs.Lookups.{object_at-with_object}
use Rattle.book_law.specs.Events.{Calls, In, Makes}
use Rattle.book_law.proofs.Kept.{Spares}
use Rattle.book_law.proofs.Typed.{at_with}

-- two ids are the same, or aren't
pub same_id : (a b : ObjectId) → (a ≡ b) ⊎ (a ≡ b → ⊥)
same_id a b = ⊎_elim
    (λ e. ⊎_elim
    (λ f. inl (let g : a ≡ record { process = b.process; number = a.number } = ap (λ (n : ℕ). record { process = n; number = a.number }) e in let h : record { process = b.process; number = a.number } ≡ b = ap (λ (n : ℕ). record { process = b.process; number = n }) f in g ∙ h))
    (λ apart. inr (λ (i : a ≡ b). apart (ap (λ (o : ObjectId). o.number) i))) (cases_eq a.number b.number))
    (λ apart. inr (λ (i : a ≡ b). apart (ap (λ (o : ObjectId). o.process) i))) (cases_eq a.process b.process)

-- ---- another object

pub untouched_with : (objects : Objects) (k : ObjectId) (v : Instance) (o : ObjectId) → (o ≡ k → ⊥) → object_at (with_object objects k v) o ≡ object_at objects o
untouched_with objects k v o apart = ⊎_elim (λ u. absurd (apart u.0)) (λ u. u) (at_with objects k v o)

pub untouched_try : (objects : Objects) (k : ObjectId) (kept : Instance) (t : Tried) (o : ObjectId) → (o ≡ k → ⊥) → object_at (after_try objects k kept t) o ≡ object_at objects o
untouched_try objects k kept tried.Blocked o apart = refl
untouched_try objects k kept (tried.Did guard state reply) o apart = untouched_with objects k (record { kind = kept.kind; state = state }) o apart
untouched_try objects k kept (tried.Broke guard fault) o apart = refl

untouched_call : (p : Performs) (objects : Objects) (kind : KindNo) (op : OpNo) (k : ObjectId) (args : Data) (was : Option Instance) (o : ObjectId) → (o ≡ k → ⊥) → object_at (after_call p objects kind op k args was) o ≡ object_at objects o
untouched_call p objects kind op k args None o apart = refl
untouched_call p objects kind op k args (Some kept) o apart = untouched_try objects k kept (p.tries kind op kept.state args) o apart

pub untouched_making : (objects : Objects) (kind : KindNo) (k : ObjectId) (m : Making) (o : ObjectId) → (o ≡ k → ⊥) → object_at (after_making objects kind k m) o ≡ object_at objects o
untouched_making objects kind k (making.Made state) o apart = untouched_with objects k (record { kind = kind; state = state }) o apart
untouched_making objects kind k (making.Broke fault) o apart = refl

-- an action that is no call and no make of the object leaves it
pub spared : (p : Performs) (objects : Objects) (a : Action) (o : ObjectId) → (Calls a o ⊎ Makes a o → ⊥) → object_at (objects_after p objects a) o ≡ object_at objects o
spared p objects (action.Make kind object) o apart = untouched_making objects kind object (p.made kind) o (λ e. apart (inr e))
spared p objects (action.Call kind op object args) o apart = untouched_call p objects kind op object args (object_at objects object) o (λ e. apart (inl e))
spared p objects (action.Fork text args place_on) o apart = refl
spared p objects action.Ended o apart = refl
spared p objects (action.Faulted fault) o apart = refl

pub spared_lines : (p : Performs) (c : Configuration) (lines : List Line) (o : ObjectId) → Spares o lines → object_at (after_lines p c lines).objects o ≡ object_at c.objects o
spared_lines p c [] o spares = refl
spared_lines p c (l ∷ lines) o spares = spared_lines p (after_line p c l) lines o (λ x h. spares x (inr h)) ∙ spared p c.objects l.action o (spares l (inl refl))

-- ---- the same object, among others

agree_with : (xs ys : Objects) (k : ObjectId) (v : Instance) (o : ObjectId) → object_at xs o ≡ object_at ys o → object_at (with_object xs k v) o ≡ object_at (with_object ys k v) o
agree_with xs ys k v o e = object_at-with_object xs k v o ∙ ap (λ (r : Option Instance). cond (is_at (object_cmp o) k) (Some v) r) e ∙ sym (object_at-with_object ys k v o)

agree_try : (xs ys : Objects) (k : ObjectId) (kept : Instance) (t : Tried) (o : ObjectId) → object_at xs o ≡ object_at ys o → object_at (after_try xs k kept t) o ≡ object_at (after_try ys k kept t) o
agree_try xs ys k kept tried.Blocked o e = e
agree_try xs ys k kept (tried.Did guard state reply) o e = agree_with xs ys k (record { kind = kept.kind; state = state }) o e
agree_try xs ys k kept (tried.Broke guard fault) o e = e

agree_call : (p : Performs) (xs ys : Objects) (kind : KindNo) (op : OpNo) (k : ObjectId) (args : Data) (was : Option Instance) (o : ObjectId) → object_at xs o ≡ object_at ys o → object_at (after_call p xs kind op k args was) o ≡ object_at (after_call p ys kind op k args was) o
agree_call p xs ys kind op k args None o e = e
agree_call p xs ys kind op k args (Some kept) o e = agree_try xs ys k kept (p.tries kind op kept.state args) o e

agree_making : (xs ys : Objects) (kind : KindNo) (k : ObjectId) (m : Making) (o : ObjectId) → object_at xs o ≡ object_at ys o → object_at (after_making xs kind k m) o ≡ object_at (after_making ys kind k m) o
agree_making xs ys kind k (making.Made state) o e = agree_with xs ys k (record { kind = kind; state = state }) o e
agree_making xs ys kind k (making.Broke fault) o e = e

-- where two maps have the same at an id, they have the same there after an action
pub agree : (p : Performs) (xs ys : Objects) (a : Action) (o : ObjectId) → object_at xs o ≡ object_at ys o → object_at (objects_after p xs a) o ≡ object_at (objects_after p ys a) o
agree p xs ys (action.Make kind object) o e = agree_making xs ys kind object (p.made kind) o e
agree p xs ys (action.Call kind op object args) o e = ⊎_elim
    (λ (is : o ≡ object).
    let f : object_at xs object ≡ object_at ys object = sym (ap (object_at xs) is) ∙ e ∙ ap (object_at ys) is in
    ap (λ (was : Option Instance). object_at (after_call p xs kind op object args was) o) f ∙ agree_call p xs ys kind op object args (object_at ys object) o e)
    (λ apart. untouched_call p xs kind op object args (object_at xs object) o apart ∙ e ∙ sym (untouched_call p ys kind op object args (object_at ys object) o apart))
    (same_id o object)
agree p xs ys (action.Fork text args place_on) o e = e
agree p xs ys action.Ended o e = e
agree p xs ys (action.Faulted fault) o e = e

-- what can be performed can be performed wherever the called object is the same
pub performed_on : (p : Performs) (xs ys : Objects) (a : Action) (guard : ℕ) (reply : Reply) → ((o : ObjectId) → Calls a o → object_at xs o ≡ object_at ys o) → Performed p xs a guard reply → Performed p ys a guard reply
performed_on p xs ys (action.Make kind object) guard reply same h = h
performed_on p xs ys (action.Call kind op object args) guard reply same h = (h.0, sym (same object refl) ∙ h.1, h.2)
performed_on p xs ys (action.Fork text args place_on) guard reply same h = h
performed_on p xs ys action.Ended guard reply same h = h
performed_on p xs ys (action.Faulted fault) guard reply same h = h

-- ---- spared objects

pub in_append : {A : Type 0} (x : A) (xs ys : List A) → In x (xs ++ ys) → In x xs ⊎ In x ys
in_append x [] ys h = inr h
in_append x (y ∷ xs) ys (inl e) = inl (inl e)
in_append x (y ∷ xs) ys (inr h) = ⊎_elim (λ u. inl (inr u)) (λ u. inr u) (in_append x xs ys h)

pub in_first : {A : Type 0} (x : A) (xs ys : List A) → In x xs → In x (xs ++ ys)
in_first x [] ys h = absurd h
in_first x (y ∷ xs) ys (inl e) = inl e
in_first x (y ∷ xs) ys (inr h) = inr (in_first x xs ys h)

pub in_second : {A : Type 0} (x : A) (xs ys : List A) → In x ys → In x (xs ++ ys)
in_second x [] ys h = h
in_second x (y ∷ xs) ys h = inr (in_second x xs ys h)

pub spares_append : (o : ObjectId) (xs ys : List Line) → Spares o xs → Spares o ys → Spares o (xs ++ ys)
spares_append o xs ys one two l h = ⊎_elim (one l) (two l) (in_append l xs ys h)
