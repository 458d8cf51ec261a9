-- Elements of a list by their places, seen through a function.
use Rattle.std.proofs.Common.{◌≡◌, ℕ, ◌+◌, ◌<◌, ◌≤◌, List, [], ◌∷◌, ◌++◌, length, get_or, drop, map, ap, sym, refl, subst, zero, suc, arith, remove, ◌∙◌}
use Rattle.std.specs.List.{Any}
use Rattle.guard_queue.proofs.Ready.{from_here}

module _ {X Y : Type 0} (f : X → Y) where
  -- the element at i and what comes behind
  pub seen_here : (xs : List X) (i : ℕ) (x : X) → i < length xs → x ≡ get_or xs i x → map f (drop i xs) ≡ f x ∷ map f (drop (i + 1) xs)
  seen_here xs i x lt is = ap (map f) (from_here xs i x lt is)

  pub none_left : (xs : List X) (i : ℕ) → length xs ≤ i → map f (drop i xs) ≡ []
  none_left [] zero le = refl
  none_left [] (suc i) le = refl
  none_left (x ∷ xs) zero le = absurd (omega arith)
  none_left (x ∷ xs) (suc i) le = none_left xs i (omega arith)

  pub removed : (xs : List X) (i : ℕ) → map f (remove xs i) ≡ remove (map f xs) i
  removed [] zero = refl
  removed [] (suc i) = refl
  removed (x ∷ xs) zero = refl
  removed (x ∷ xs) (suc i) = ap (λ ys. f x ∷ ys) (removed xs i)

  -- the element at i, where there is one
  seen_at : (xs : List X) (i : ℕ) (d : X) → get_or (map f xs) i (f d) ≡ f (get_or xs i d)
  seen_at [] zero d = refl
  seen_at [] (suc i) d = refl
  seen_at (x ∷ xs) zero d = refl
  seen_at (x ∷ xs) (suc i) d = seen_at xs i d

  -- the one that stands at i, seen
  pub seen_one : (xs : List X) (i : ℕ) (x : X) (y : Y) → x ≡ get_or xs i x → y ≡ f x → y ≡ get_or (map f xs) i y
  seen_one xs i x y is seen = seen ∙ ap f is ∙ sym (seen_at xs i x) ∙ ap (get_or (map f xs) i) (sym seen)

  pub seen_last : (xs : List X) (x : X) → map f (xs ++ x ∷ []) ≡ map f xs ++ f x ∷ []
  seen_last [] x = refl
  seen_last (y ∷ ys) x = ap (λ zs. f y ∷ zs) (seen_last ys x)

any_head : {Y : Type 0} (P : Y → Type 0) (y : Y) (ys : List Y) → Any P (y ∷ ys) → (P y → ⊥) → Any P ys
any_head P y ys (zero, x, lt, is, p) apart = absurd (apart (subst P (sym is) p))
any_head P y ys (suc k, x, lt, is, p) apart = (k, x, omega arith, is, p)

pub any_behind : {Y : Type 0} (P : Y → Type 0) (y : Y) (ys : List Y) → Any P ys → Any P (y ∷ ys)
any_behind P y ys (k, x, lt, is, p) = (suc k, x, omega arith, is, p)

any_none : {Y : Type 0} (P : Y → Type 0) → Any P [] → ⊥
any_none P (k, x, lt, is, p) = omega arith

module _ {X Y : Type 0} (f : X → Y) (P : Y → Type 0) where
  -- the element at i isn't one
  pub any_later : (xs : List X) (i : ℕ) (x : X) → i < length xs → x ≡ get_or xs i x → (P (f x) → ⊥) → Any P (map f (drop i xs)) → Any P (map f (drop (i + 1) xs))
  any_later xs i x lt is apart any = any_head P (f x) (map f (drop (i + 1) xs)) (subst (Any P) (seen_here f xs i x lt is) any) apart

  -- the element at i is one
  pub any_here : (xs : List X) (i : ℕ) (x : X) → i < length xs → x ≡ get_or xs i x → P (f x) → Any P (map f xs)
  any_here [] i x lt is p = absurd (omega arith)
  any_here (y ∷ ys) zero x lt is p = (0, f x, omega arith, ap f (sym is), p)
  any_here (y ∷ ys) (suc i) x lt is p = any_behind P (f y) (map f ys) (any_here ys i x (omega arith) is p)

  pub none_any : (xs : List X) (i : ℕ) → length xs ≤ i → Any P (map f (drop i xs)) → ⊥
  none_any xs i le any = any_none P (subst (Any P) (none_left f xs i le) any)
