-- Flights in order: where copies join them, and that the order stays.
use Rattle.std.proofs.Common.{◌≡◌, inl, inr, ℕ, zero, suc, ◌<◌, ◌≤◌, Bool, true, false, ◌||◌, ◌==◌, List, [], ◌∷◌, ◌++◌, Option, Some, is_some, length, map, take, drop, get_or, refl, ap, subst, sym, arith, if◌then◌else◌, ltb}
use Rattle.std.proofs.lemmas.Bool.{lt-ltb, le-ltb, ltb-false, ltb-true, eqb-false, eq-eqb}
use Rattle.std.proofs.lemmas.List.{append-nil}
use Rattle.std.proofs.Math.Bool.{and-false}
use Rattle.std.specs.List.{find, list_any}
use Rattle.std.specs.Option.{unwrap_or}
use Rattle.net_rules.specs.declared.fate.Fate.{Fate}
use Rattle.net_rules.specs.declared.fate.Fate.TheVariants as fate
use Rattle.net_rules.specs.declared.flight.Flight.{Flight}
use Rattle.net_rules.specs.Flights.{IsBefore, ComesBefore, InOrder, copies, joined, nearer, is_ready, is_ready_copy, ready_copy, travels}
use Rattle.net_rules.specs.Script.{without_first}

-- what comes before has no greater number, nothing comes before itself, and of two one alone comes before the other
pub before_le : (n c m d : ℕ) → IsBefore n c m d → n ≤ m
before_le n c m d (inl h) = omega arith
before_le n c m d (inr h) = omega (arith, h.0)

pub never_before : (n c m d : ℕ) → IsBefore n c m d → IsBefore m d n c → ⊥
never_before n c m d (inl h) (inl k) = omega arith
never_before n c m d (inl h) (inr k) = omega (arith, k.0)
never_before n c m d (inr h) (inl k) = omega (arith, h.0)
never_before n c m d (inr h) (inr k) = omega (arith, h.1, k.1)

pub never_itself : (n c : ℕ) → IsBefore n c n c → ⊥
never_itself n c (inl h) = omega arith
never_itself n c (inr h) = omega (arith, h.1)

or_both : (a b : Bool) → (a || b) ≡ false → (a ≡ false) × (b ≡ false)
or_both true b h = absurd cc
or_both false b h = (refl, h)

module _ {X : Type 0} where
  -- no flight has a lower number
  abbrev pub NoneLower : ℕ → List (Flight X) → Type 0
  NoneLower number [] = Unit {0}
  NoneLower number (f ∷ fs) = (number ≤ f.number) × NoneLower number fs

  -- each has this number
  abbrev pub AreOf : ℕ → List (Flight X) → Type 0
  AreOf number [] = Unit {0}
  AreOf number (f ∷ fs) = (f.number ≡ number) × AreOf number fs

  -- what comes before all of them comes before each
  pub comes_before : (n c : ℕ) (fs : List (Flight X)) (k : ℕ) (d : Flight X) → ComesBefore n c fs → k < length fs →
      IsBefore n c (get_or fs k d).number (get_or fs k d).copy
  comes_before n c [] k d h within = absurd (omega arith)
  comes_before n c (f ∷ fs) zero d h within = h.0
  comes_before n c (f ∷ fs) (suc k) d h within = comes_before n c fs k d h.1 (omega arith)

  -- before flights of which none is lower the new ones stand first
  pub joined_first : (number : ℕ) (new fs : List (Flight X)) → NoneLower number fs → joined number new fs ≡ new ++ fs
  joined_first number new [] h = sym (append-nil new)
  joined_first number new (f ∷ fs) h = let stays : ltb f.number number ≡ false = le-ltb f.number number h.0 in rw stays refl

  -- behind the last that is lower
  pub joined_behind : (number : ℕ) (new fs : List (Flight X)) (k : ℕ) (d : Flight X) → InOrder fs → k < length fs →
      (get_or fs k d).number < number → NoneLower number (drop (suc k) fs) → joined number new fs ≡ take (suc k) fs ++ (new ++ drop (suc k) fs)
  joined_behind number new [] k d order within low none = absurd (omega arith)
  joined_behind number new (f ∷ fs) zero d order within low none =
      let goes : ltb f.number number ≡ true = lt-ltb f.number number low in
      rw goes (ap (λ xs. f ∷ xs) (joined_first number new fs none))
  joined_behind number new (f ∷ fs) (suc k) d order within low none =
      let before = before_le f.number f.copy (get_or fs k d).number (get_or fs k d).copy (comes_before f.number f.copy fs k d order.0 (omega arith)) in
      let goes : ltb f.number number ≡ true = lt-ltb f.number number (omega (arith, before)) in
      rw goes (ap (λ xs. f ∷ xs) (joined_behind number new fs k d order.1 (omega arith) low none))

  before_both : (n c : ℕ) (new fs : List (Flight X)) → ComesBefore n c new → ComesBefore n c fs → ComesBefore n c (new ++ fs)
  before_both n c [] fs h k = k
  before_both n c (f ∷ new) fs h k = (h.0, before_both n c new fs h.1 k)

  before_joined : (n c number : ℕ) (new fs : List (Flight X)) → ComesBefore n c new → ComesBefore n c fs → ComesBefore n c (joined number new fs)
  before_joined n c number new [] h k = h
  before_joined n c number new (f ∷ fs) h k =
      elim (ltb f.number number) as (λ b. ComesBefore n c (if b then f ∷ joined number new fs else new ++ f ∷ fs))
      [ true ↦ (k.0, before_joined n c number new fs h k.1) | false ↦ before_both n c new (f ∷ fs) h k ]

  lower_before : (n c number : ℕ) (new : List (Flight X)) → AreOf number new → n < number → ComesBefore n c new
  lower_before n c number [] h low = tt
  lower_before n c number (f ∷ new) h low = (inl (omega (arith, h.0)), lower_before n c number new h.1 low)

  -- what is lower than the first comes before all
  lower_than_all : (n c : ℕ) (f : Flight X) (fs : List (Flight X)) → n < f.number → ComesBefore f.number f.copy fs → ComesBefore n c fs
  lower_than_all n c f [] low h = tt
  lower_than_all n c f (g ∷ fs) low h =
      (inl (omega (arith, before_le f.number f.copy g.number g.copy h.0)), lower_than_all n c f fs low h.1)

  new_first : (number : ℕ) (new : List (Flight X)) (f : Flight X) (fs : List (Flight X)) → AreOf number new → InOrder new → number < f.number →
      InOrder (f ∷ fs) → InOrder (new ++ f ∷ fs)
  new_first number [] f fs h order low k = k
  new_first number (g ∷ new) f fs h order low k =
      let less : g.number < f.number = omega (arith, h.0) in (
        before_both g.number g.copy new (f ∷ fs) order.0 (inl less, lower_than_all g.number g.copy f fs less k.0),
        new_first number new f fs h.1 order.1 low k,
      )

  sorted : (number : ℕ) (new : List (Flight X)) (f : Flight X) (fs : List (Flight X)) (b : Bool) → ltb f.number number ≡ b → AreOf number new → InOrder new →
      travels number (f ∷ fs) ≡ false → InOrder (f ∷ fs) → InOrder (joined number new fs) → InOrder (if b then f ∷ joined number new fs else new ++ f ∷ fs)
  sorted number new f fs true e h order apart k rest =
      (before_joined f.number f.copy number new fs (lower_before f.number f.copy number new h (ltb-true f.number number e)) k.0, rest)
  sorted number new f fs false e h order apart k rest =
      let other = eqb-false f.number number (or_both (f.number == number) (list_any (λ (g : Flight X). g.number == number) fs) apart).0 in
      let least = ltb-false f.number number e in
      let low : number < f.number = omega (arith, least, other) in
      new_first number new f fs h order low k

  -- copies of one packet keep the order, where no other of it is there
  pub joined_in_order : (number : ℕ) (new fs : List (Flight X)) → AreOf number new → InOrder new → travels number fs ≡ false → InOrder fs →
      InOrder (joined number new fs)
  joined_in_order number new [] h order apart k = order
  joined_in_order number new (f ∷ fs) h order apart k =
      sorted number new f fs (ltb f.number number) refl h order apart k
      (joined_in_order number new fs h order (or_both (f.number == number) (list_any (λ (g : Flight X). g.number == number) fs) apart).1 k.1)

  pub copies_are_of : (cut : ℕ → X → X) (number from to : ℕ) (packet : X) (f : Fate) → AreOf number (copies cut number from to packet f)
  copies_are_of cut number from to packet fate.Pass = (refl, tt)
  copies_are_of cut number from to packet fate.Drop = tt
  copies_are_of cut number from to packet fate.Twice = (refl, (refl, tt))
  copies_are_of cut number from to packet (fate.Hold ticks) = (refl, tt)
  copies_are_of cut number from to packet (fate.Cut n) = (refl, tt)

  pub copies_in_order : (cut : ℕ → X → X) (number from to : ℕ) (packet : X) (f : Fate) → InOrder (copies cut number from to packet f)
  copies_in_order cut number from to packet fate.Pass = (tt, tt)
  copies_in_order cut number from to packet fate.Drop = tt
  copies_in_order cut number from to packet fate.Twice = ((inr (refl, omega arith), tt), (tt, tt))
  copies_in_order cut number from to packet (fate.Hold ticks) = (tt, tt)
  copies_in_order cut number from to packet (fate.Cut n) = (tt, tt)

  before_without : (p : Flight X → Bool) (n c : ℕ) (fs : List (Flight X)) → ComesBefore n c fs → ComesBefore n c (without_first p fs)
  before_without p n c [] h = tt
  before_without p n c (f ∷ fs) h =
      elim (p f) as (λ b. ComesBefore n c (if b then fs else f ∷ without_first p fs)) [ true ↦ h.1 | false ↦ (h.0, before_without p n c fs h.1) ]

  -- without one of them the others stay in order
  pub without_in_order : (p : Flight X → Bool) (fs : List (Flight X)) → InOrder fs → InOrder (without_first p fs)
  without_in_order p [] h = tt
  without_in_order p (f ∷ fs) h =
      elim (p f) as (λ b. InOrder (if b then fs else f ∷ without_first p fs))
      [ true ↦ h.1 | false ↦ (before_without p f.number f.copy fs h.0, without_in_order p fs h.1) ]

  before_ticked : (n c : ℕ) (fs : List (Flight X)) → ComesBefore n c fs → ComesBefore n c (map nearer fs)
  before_ticked n c [] h = tt
  before_ticked n c (f ∷ fs) h = (h.0, before_ticked n c fs h.1)

  -- and a tick leaves the order
  pub ticked_in_order : (fs : List (Flight X)) → InOrder fs → InOrder (map nearer fs)
  ticked_in_order [] h = tt
  ticked_in_order (f ∷ fs) h = (before_ticked f.number f.copy fs h.0, ticked_in_order fs h.1)

  low : (x : Flight X) (xs : List (Flight X)) (f : Flight X) (b : Bool) → is_ready x ≡ b → InOrder (x ∷ xs) → (if b then Some x else find is_ready xs) ≡ Some f →
      ((j : ℕ) (d : Flight X) → j < length xs → find is_ready xs ≡ Some f → is_ready (get_or xs j d) ≡ true → IsBefore (get_or xs j d).number (get_or xs j d).copy f.number f.copy → ⊥) →
      (k : ℕ) (d : Flight X) → k < length (x ∷ xs) → is_ready (get_or (x ∷ xs) k d) ≡ true → IsBefore (get_or (x ∷ xs) k d).number (get_or (x ∷ xs) k d).copy f.number f.copy → ⊥
  low x xs f true is order e rest zero d within ready before =
      let same : x ≡ f = ap (λ (o : Option (Flight X)). unwrap_or o x) e in
      let P : Flight X → Type 0 = λ (g : Flight X). IsBefore g.number g.copy f.number f.copy in
      never_itself f.number f.copy (subst P same before)
  low x xs f true is order e rest (suc k) d within ready before =
      let same : x ≡ f = ap (λ (o : Option (Flight X)). unwrap_or o x) e in
      let g = get_or xs k d in
      let P : Flight X → Type 0 = λ (h : Flight X). IsBefore h.number h.copy g.number g.copy in
      never_before g.number g.copy f.number f.copy before (subst P same (comes_before x.number x.copy xs k d order.0 (omega arith)))
  low x xs f false is order e rest zero d within ready before = absurd cc
  low x xs f false is order e rest (suc k) d within ready before = rest k d (omega arith) e ready before

  -- no ready one comes before the first that is ready
  pub lowest : (fs : List (Flight X)) (f : Flight X) → InOrder fs → find is_ready fs ≡ Some f → (k : ℕ) (d : Flight X) → k < length fs →
      is_ready (get_or fs k d) ≡ true → IsBefore (get_or fs k d).number (get_or fs k d).copy f.number f.copy → ⊥
  lowest [] f order e k d within ready before = absurd (omega arith)
  lowest (x ∷ xs) f order e k d within ready before =
      low x xs f (is_ready x) refl order e (λ j d within found ready before. lowest xs f order.1 found j d within ready before) k d within ready before

  there : (x : Flight X) (xs : List (Flight X)) (f : Flight X) (b : Bool) → is_ready x ≡ b → (if b then Some x else find is_ready xs) ≡ Some f →
      (find is_ready xs ≡ Some f → is_some (ready_copy f.number f.copy xs) ≡ true) → is_some (ready_copy f.number f.copy (x ∷ xs)) ≡ true
  there x xs f true is e rest =
      let same : x ≡ f = ap (λ (o : Option (Flight X)). unwrap_or o x) e in
      let P : Flight X → Type 0 = λ (g : Flight X). is_some (ready_copy g.number g.copy (x ∷ xs)) ≡ true in
      let one : is_ready_copy x.number x.copy x ≡ true = rw (eq-eqb x.number x.number refl, eq-eqb x.copy x.copy refl, is) refl in
      subst P same (rw one refl)
  there x xs f false is e rest =
      let other : is_ready_copy f.number f.copy x ≡ false = rw is (and-false _) in
      rw other (rest e)

  -- the first that is ready is there
  pub ready_there : (fs : List (Flight X)) (f : Flight X) → find is_ready fs ≡ Some f → is_some (ready_copy f.number f.copy fs) ≡ true
  ready_there [] f e = absurd cc
  ready_there (x ∷ xs) f e = there x xs f (is_ready x) refl e (λ found. ready_there xs f found)
