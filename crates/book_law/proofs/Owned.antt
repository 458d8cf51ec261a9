-- Single copies in a list: who waits on them, and what an entry adds.
use Rattle.std.proofs.Common.{◌≡◌, ℕ, zero, suc, ◌+◌, ◌≤◌, ◌⊎◌, inl, inr, ⊎_elim, Bool, true, false, Some, List, [], ◌∷◌, ◌++◌, refl, sym, ap, ◌∙◌, arith, append-nil, if◌then◌else◌}
use Rattle.std.specs.Prelude.{slice_get, slice_set, map}
use Rattle.std.specs.List.{Contains}
use Rattle.orca_base.specs.declared.ids.KindNo.{KindNo}
use Rattle.orca_base.specs.declared.ids.ObjectId.{ObjectId}
use Rattle.value_core.specs.Fits.{Kinds}
use Rattle.value_core.specs.declared.action.Instance.{Instance}
use Rattle.value_core.specs.declared.message.Message.{Message}
use Rattle.value_core.specs.declared.action.Action.{Action}
use Rattle.value_core.specs.declared.action.Action.TheVariants as action
use Rattle.value_core.specs.declared.meaning.Making.{Making}
use Rattle.value_core.specs.declared.meaning.Making.TheVariants as making
use Rattle.value_core.specs.Meaning.{Performs}
use Rattle.value_core.specs.History.{Objects, after_making, object_at, objects_after}
use Rattle.object_manager.specs.After.{Copied, after as after_applied, opening_copies}
use Rattle.object_manager.specs.Singles.{after_passed, counted_by as counted_by_making, singles_after}
use Rattle.book_law.specs.Passes.{Test, after, after_all, counted, is_passed}
use Rattle.book_law.proofs.Books.{copies_push}
use Rattle.book_law.specs.Singles.{Single, single_of, singles_by, waiting, waits}
use Rattle.book_law.specs.Events.{Makes}
use Rattle.book_law.proofs.Objects.{same_id, spared}
use Rattle.book_law.proofs.Typed.{at_itself}

-- ---- who waits

pub waits-append : (j : ℕ) (xs ys : List Single) → waits j (xs ++ ys) ≡ waits j xs + waits j ys
waits-append j [] ys = omega arith
waits-append j (x ∷ xs) ys = let e = waits-append j xs ys in omega (arith, e)

pub waits_at : (j : ℕ) (xs : List Single) (i : ℕ) (x : Single) → slice_get xs i ≡ Some x → waiting j x.queue ≤ waits j xs
waits_at j [] i x is = absurd (cc is)
waits_at j (y ∷ xs) zero x is = let e : y ≡ x = cc in let f : waiting j y.queue ≡ waiting j x.queue = ap (λ (z : Single). waiting j z.queue) e in omega (arith, f)
waits_at j (y ∷ xs) (suc i) x is = let e = waits_at j xs i x is in omega (arith, e)

pub waits_two : (j : ℕ) (xs : List Single) (i k : ℕ) (x y : Single) → slice_get xs i ≡ Some x → slice_get xs k ≡ Some y → (i ≡ k → ⊥) → waiting j x.queue + waiting j y.queue ≤ waits j xs
waits_two j [] i k x y is there apart = absurd (cc is)
waits_two j (z ∷ xs) zero zero x y is there apart = absurd (apart refl)
waits_two j (z ∷ xs) zero (suc k) x y is there apart =
    let e : z ≡ x = cc in let f : waiting j z.queue ≡ waiting j x.queue = ap (λ (u : Single). waiting j u.queue) e in
    let g = waits_at j xs k y there in omega (arith, f, g)
waits_two j (z ∷ xs) (suc i) zero x y is there apart =
    let e : z ≡ y = cc in let f : waiting j z.queue ≡ waiting j y.queue = ap (λ (u : Single). waiting j u.queue) e in
    let g = waits_at j xs i x is in omega (arith, f, g)
waits_two j (z ∷ xs) (suc i) (suc k) x y is there apart = let e = waits_two j xs i k x y is there (λ f. apart (ap suc f)) in omega (arith, e)

pub waits_set : (j : ℕ) (xs : List Single) (i : ℕ) (x y : Single) → slice_get xs i ≡ Some x → waits j (slice_set xs i y) + waiting j x.queue ≡ waits j xs + waiting j y.queue
waits_set j [] i x y is = absurd (cc is)
waits_set j (z ∷ xs) zero x y is = let e : z ≡ x = cc in let f : waiting j z.queue ≡ waiting j x.queue = ap (λ (u : Single). waiting j u.queue) e in omega (arith, f)
waits_set j (z ∷ xs) (suc i) x y is = let e = waits_set j xs i x y is in omega (arith, e)

-- what is set shows the same where it shows the same
pub map_set : {A B : Type 0} (f : A → B) (xs : List A) (i : ℕ) (x y : A) → slice_get xs i ≡ Some x → f y ≡ f x → map f (slice_set xs i y) ≡ map f xs
map_set f [] i x y is e = refl
map_set f (z ∷ xs) zero x y is e = let g : z ≡ x = cc in ap (λ u. u ∷ map f xs) (e ∙ ap f (sym g))
map_set f (z ∷ xs) (suc i) x y is e = ap (λ us. f z ∷ us) (map_set f xs i x y is e)

-- ---- what an entry adds

-- to what is counted
abbrev pub counted_of : ObjectId → KindNo → Making → Kinds
counted_of object kind (making.Made state) = (object, kind) ∷ []
counted_of object kind (making.Broke fault) = []

abbrev pub counted_by : Test → Performs → Action → Kinds
counted_by single p (action.Make kind object) = if single object then counted_of object kind (p.made kind) else []
counted_by single p (action.Call kind op object args) = []
counted_by single p (action.Fork text args place_on) = []
counted_by single p action.Ended = []
counted_by single p (action.Faulted fault) = []

-- it adds none, or the one that it makes
pub record Added (single : Test) (p : Performs) (owner place : ℕ) (a : Action) (s : Single) : Type 0 where
  pub makes : Makes a s.object
  pub is : single s.object ≡ true
  pub passed : is_passed single a ≡ true
  pub at : s.place ≡ place
  pub queue : s.queue ≡ []
  pub made : p.made s.kept.kind ≡ making.Made s.kept.state
  pub counts : counted_by single p a ≡ (s.object, s.kept.kind) ∷ []
  pub after : (objects : Objects) → object_at (objects_after p objects a) s.object ≡ Some s.kept

added_make : (single : Test) (p : Performs) (owner place : ℕ) (kind : KindNo) (object : ObjectId) (m : Making) → p.made kind ≡ m → single object ≡ true
    → (single_of owner place object kind m ≡ []) ⊎ ((s : Single) × (single_of owner place object kind m ≡ s ∷ []) × Added single p owner place (action.Make kind object) s)
added_make single p owner place kind object (making.Broke fault) e is = inl refl
added_make single p owner place kind object (making.Made state) e is = inr (
  record { object = object; owner = owner; place = place; kept = record { kind = kind; state = state }; queue = [] },
  refl,
  record {
    makes = refl;
    is = is;
    passed = is;
    at = refl;
    queue = refl;
    made = e;
    counts = ap (λ b. if b then counted_of object kind (p.made kind) else []) is ∙ ap (counted_of object kind) e;
    after = λ objects. ap (λ (m : Making). object_at (after_making objects kind object m) object) e ∙ at_itself objects object (record { kind = kind; state = state });
  },
)

pub added : (single : Test) (p : Performs) (owner place : ℕ) (a : Action) → (singles_by single p owner place a ≡ []) ⊎ ((s : Single) × (singles_by single p owner place a ≡ s ∷ []) × Added single p owner place a s)
added single p owner place (action.Make kind object) = go (single object) refl
  where
    go : (b : Bool) → single object ≡ b → ((if b then single_of owner place object kind (p.made kind) else []) ≡ []) ⊎ ((s : Single) × ((if b then single_of owner place object kind (p.made kind) else []) ≡ s ∷ []) × Added single p owner place (action.Make kind object) s)
    go true is = added_make single p owner place kind object (p.made kind) refl is
    go false is = inl refl
added single p owner place (action.Call kind op object args) = inl refl
added single p owner place (action.Fork text args place_on) = inl refl
added single p owner place action.Ended = inl refl
added single p owner place (action.Faulted fault) = inl refl

abbrev pub shown : Single → ObjectId × KindNo
shown x = (x.object, x.kept.kind)

shown_of : (owner place : ℕ) (object : ObjectId) (kind : KindNo) (m : Making) → map (λ (x : Single). (x.object, x.kept.kind)) (single_of owner place object kind m) ≡ counted_of object kind m
shown_of owner place object kind (making.Made state) = refl
shown_of owner place object kind (making.Broke fault) = refl

pub added_counts : (single : Test) (p : Performs) (owner place : ℕ) (a : Action) → map (λ (x : Single). (x.object, x.kept.kind)) (singles_by single p owner place a) ≡ counted_by single p a
added_counts single p owner place (action.Make kind object) = go (single object)
  where
    go : (b : Bool) → map (λ (x : Single). (x.object, x.kept.kind)) (if b then single_of owner place object kind (p.made kind) else []) ≡ (if b then counted_of object kind (p.made kind) else [])
    go true = shown_of owner place object kind (p.made kind)
    go false = refl
added_counts single p owner place (action.Call kind op object args) = refl
added_counts single p owner place (action.Fork text args place_on) = refl
added_counts single p owner place action.Ended = refl
added_counts single p owner place (action.Faulted fault) = refl

counted_more : (object : ObjectId) (kind : KindNo) (m : Making) (singles : Kinds) → counted_by_making m kind object singles ≡ singles ++ counted_of object kind m
counted_more object kind (making.Made state) singles = refl
counted_more object kind (making.Broke fault) singles = sym (append-nil singles)

counted_after : (single : Test) (p : Performs) (singles : Kinds) (a : Action) → (if is_passed single a then singles_after p singles a else singles) ≡ singles ++ counted_by single p a
counted_after single p singles (action.Make kind object) = go (single object)
  where
    go : (b : Bool) → (if b then counted_by_making (p.made kind) kind object singles else singles) ≡ singles ++ (if b then counted_of object kind (p.made kind) else [])
    go true = counted_more object kind (p.made kind) singles
    go false = sym (append-nil singles)
counted_after single p singles (action.Call kind op object args) = sym (append-nil singles)
counted_after single p singles (action.Fork text args place_on) = sym (append-nil singles)
counted_after single p singles action.Ended = sym (append-nil singles)
counted_after single p singles (action.Faulted fault) = sym (append-nil singles)

pub entry_counts : (single : Test) (p : Performs) (c : Copied) (x : Message) → (after single p c x).singles ≡ c.singles ++ counted_by single p x.action
entry_counts single p c x = go (is_passed single x.action) ∙ counted_after single p c.singles x.action
  where
    go : (b : Bool) → (if b then after_passed p false c x else after_applied p c x).singles ≡ (if b then singles_after p c.singles x.action else c.singles)
    go true = refl
    go false = refl

pub counted_push : (single : Test) (p : Performs) (list : List Message) (x : Message) → counted single p (list ++ x ∷ []) ≡ counted single p list ++ counted_by single p x.action
counted_push single p list x = ap (λ (c : Copied). c.singles) (copies_push single p list x) ∙ entry_counts single p (after_all single p opening_copies list) x

-- nobody waits on what an entry adds
pub added_waits : (single : Test) (p : Performs) (j owner place : ℕ) (a : Action) → waits j (singles_by single p owner place a) ≡ 0
added_waits single p j owner place a = ⊎_elim
    (λ e. ap (waits j) e)
    (λ u. let h = u.2 in ap (waits j) u.1 ∙ (let f : waiting j u.0.queue + 0 ≡ 0 = (let g = ap (waiting j) h.queue in omega (arith, g)) in f))
    (added single p owner place a)

-- a single object that is there after a make of a single object was there, or is the one that was added
there_of : (owner place : ℕ) (object : ObjectId) (kind : KindNo) (m : Making) (objects : Objects) (kept : Instance) → object_at (after_making objects kind object m) object ≡ Some kept
    → (object_at objects object ≡ Some kept) ⊎ ((s : Single) × (single_of owner place object kind m ≡ s ∷ []) × (s.object ≡ object))
there_of owner place object kind (making.Made state) objects kept h = inr (record { object = object; owner = owner; place = place; kept = record { kind = kind; state = state }; queue = [] }, refl, refl)
there_of owner place object kind (making.Broke fault) objects kept h = inl h

pub added_there : (single : Test) (p : Performs) (owner place : ℕ) (a : Action) (objects : Objects) (o : ObjectId) (kept : Instance) → is_passed single a ≡ true → object_at (objects_after p objects a) o ≡ Some kept
    → (object_at objects o ≡ Some kept) ⊎ ((s : Single) × (singles_by single p owner place a ≡ s ∷ []) × (s.object ≡ o))
added_there single p owner place (action.Make kind object) objects o kept is h = ⊎_elim
    (λ (e : o ≡ object).
    ⊎_elim (λ u. inl (ap (object_at objects) e ∙ u))
    (λ u. inr (u.0, ap (λ b. if b then single_of owner place object kind (p.made kind) else []) is ∙ u.1, u.2 ∙ sym e))
    (there_of owner place object kind (p.made kind) objects kept (ap (object_at (after_making objects kind object (p.made kind))) (sym e) ∙ h)))
    (λ apart. inl (sym (spared p objects (action.Make kind object) o (λ t. ⊎_elim (λ u. u) (λ u. apart u) t)) ∙ h))
    (same_id o object)
added_there single p owner place (action.Call kind op object args) objects o kept is h = absurd (cc is)
added_there single p owner place (action.Fork text args place_on) objects o kept is h = absurd (cc is)
added_there single p owner place action.Ended objects o kept is h = absurd (cc is)
added_there single p owner place (action.Faulted fault) objects o kept is h = absurd (cc is)

-- a make of a single object passes
pub makes_pass : (single : Test) (a : Action) (o : ObjectId) → Makes a o → single o ≡ true → is_passed single a ≡ true
makes_pass single (action.Make kind object) o e is = ap single (sym e) ∙ is
makes_pass single (action.Call kind op object args) o e is = absurd e
makes_pass single (action.Fork text args place_on) o e is = absurd e
makes_pass single action.Ended o e is = absurd e
makes_pass single (action.Faulted fault) o e is = absurd e

-- what is among what a list shows is shown by one of it
pub contains_map : {A B : Type 0} (f : A → B) (xs : List A) (y : B) → Contains (map f xs) y → (i : ℕ) × (x : A) × (slice_get xs i ≡ Some x) × (f x ≡ y)
contains_map f [] y (at, lt, is) = absurd (omega arith)
contains_map f (x ∷ xs) y (zero, lt, is) = (0, x, refl, is)
contains_map f (x ∷ xs) y (suc at, lt, is) = let r = contains_map f xs y (at, omega arith, is) in (suc r.0, r.1, r.2, r.3)
