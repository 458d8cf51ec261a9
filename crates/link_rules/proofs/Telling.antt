-- The breach that is told is the first of the lowest broken rule.
use Rattle.std.proofs.Common.{◌≡◌, Bool, true, false, cond, not, List, [], ◌∷◌, ◌++◌, map, Option, Some, None, ◌⊎◌, inl, inr, refl, sym, ap, ◌∙◌, subst, append_assoc}
use Rattle.std.specs.Prelude.{filter}
use Rattle.std.specs.List.{list_any}
use Rattle.std.specs.Option.{option_map}
use Rattle.std.proofs.lemmas.Bool.{true≢false}
use Rattle.std.proofs.lemmas.List.{append-nil}
use Rattle.std.proofs.lemmas.List.Folds.{Any-from_list_any, list_any-from_Any}
use Rattle.std.proofs.lemmas.Slice.Eq.{bytes_eq-Decides}
use Rattle.link_rules.specs.declared.role.Role.TheVariants.{Module, Specification, Implementation}
use Rattle.link_rules.specs.declared.link_error.LinkError.{LinkError}
use Rattle.link_rules.specs.Units.{Source, Defined, definitions, imports}
use Rattle.link_rules.specs.Rules.{at_definition, at_import, first, import_cycles, is_defined, is_main, is_on_cycle, is_role, is_taken, is_unimplemented, is_unknown, IsLinkError, no_main, repeated, repetitions, unknown_modules, without_implementation, without_main}
use Rattle.link_rules.specs.Linked.{AreAcyclic, AreDistinct, AreKnown, HasMain}
use Rattle.link_rules.specs.Told.{IsFirst, IsTold, IsToldOf, IsUnimplemented, IsUnknown, LiesOnCycle, Repeats}
use Rattle.link_rules.specs.Told.IsToldOf.{repeats, unknown, cycle, without_main as without, unimplemented}
use Rattle.link_rules.proofs.Truth.{and_first, and_second, both_true, not_true}
use Rattle.link_rules.proofs.Ways.{reaches_all}
use Rattle.link_rules.proofs.Breaches.{acyclic_none, acyclic_so, bars, bars_taken, distinct_none, distinct_so, is_main_of, is_some_of, known_none, known_so, main_none, main_so, role_is, some_of, taken_roles}

-- ---- the first of a list

-- those for which it holds, of those in front of them and of themselves
abbrev picked : {X : Type 0} → (List X → X → Bool) → List X → List X → List X
picked p before [] = []
picked p before (x ∷ xs) = cond (p before x) (x ∷ picked p (before ++ x ∷ []) xs) (picked p (before ++ x ∷ []) xs)

picked_filter : {X : Type 0} (p : X → Bool) (before xs : List X) → picked (λ _. p) before xs ≡ filter p xs
picked_filter p before [] = refl
picked_filter {X} p before (x ∷ xs) = ap (λ (l : List X). cond (p x) (x ∷ l) l) (picked_filter p (before ++ x ∷ []) xs)

-- behind those in front
record FirstBehind {X : Type 0} (P : List X → X → Type 0) (before xs : List X) (x : X) : Type 0 where
  front : List X
  rest : List X
  splits : xs ≡ front ++ x ∷ rest
  holds : P (before ++ front) x
  none : (early late : List X) (y : X) → front ≡ early ++ y ∷ late → P (before ++ early) y → ⊥

no_split : {X : Type 0} (early late : List X) (y : X) → [] ≡ early ++ y ∷ late → ⊥
no_split [] late y e = cc
no_split (z ∷ early) late y e = cc

cons_split : {X : Type 0} (z : X) (front early late : List X) (y : X) → z ∷ front ≡ early ++ y ∷ late →
    ((early ≡ []) × (z ≡ y)) ⊎ ((more : List X) × (early ≡ z ∷ more) × (front ≡ more ++ y ∷ late))
cons_split z front [] late y e = let same : z ≡ y = cc in inl (refl, same)
cons_split {X} z front (b ∷ early) late y e =
    let same : z ≡ b = cc in
    let left : front ≡ early ++ y ∷ late = cc in
    inr (early, ap (λ (v : X). v ∷ early) (sym same), left)

at_head : {X : Type 0} (P : List X → X → Type 0) (before : List X) (x : X) (xs : List X) → P before x → FirstBehind P before (x ∷ xs) x
at_head {X} P before x xs h = record {
  front = [];
  rest = xs;
  splits = refl;
  holds = subst (λ (b : List X). P b x) (sym (append-nil before)) h;
  none = λ early late y e q. no_split early late y e;
}

past_head : {X : Type 0} (P : List X → X → Type 0) (before : List X) (z : X) (xs : List X) (x : X) → (P before z → ⊥) → FirstBehind P (before ++ z ∷ []) xs x → FirstBehind P before (z ∷ xs) x
past_head {X} P before z xs x apart f = record {
  front = z ∷ f.front;
  rest = f.rest;
  splits = ap (λ (l : List X). z ∷ l) f.splits;
  holds = subst (λ (b : List X). P b x) (append_assoc before (z ∷ []) f.front) f.holds;
  none = λ early late y e q. by_split early late y q (cons_split z f.front early late y e);
}
  where
    by_split : (early late : List X) (y : X) → P (before ++ early) y → ((early ≡ []) × (z ≡ y)) ⊎ ((more : List X) × (early ≡ z ∷ more) × (f.front ≡ more ++ y ∷ late)) → ⊥
    by_split early late y q (inl s) =
        let alone = subst (λ (a : List X). P (before ++ a) y) s.0 q in
        let here = subst (λ (b : List X). P b y) (append-nil before) alone in
        apart (subst (P before) (sym s.1) here)
    by_split early late y q (inr s) =
        let longer = subst (λ (a : List X). P (before ++ a) y) s.1 q in
        f.none s.0 late y s.2 (subst (λ (b : List X). P b y) (sym (append_assoc before (z ∷ []) s.0)) longer)

some_same : {X : Type 0} (x y : X) → Some x ≡ Some y → x ≡ y
some_same x y e = cc

found : {X : Type 0} (p : List X → X → Bool) (before xs : List X) (x : X) → first (picked p before xs) ≡ Some x → FirstBehind (λ b y. p b y ≡ true) before xs x
found p before [] x e = absurd cc
found {X} p before (z ∷ xs) x e = by_test (p before z) refl (found p (before ++ z ∷ []) xs x)
  where
    by_test : (b : Bool) → p before z ≡ b → (first (picked p (before ++ z ∷ []) xs) ≡ Some x → FirstBehind (λ b y. p b y ≡ true) (before ++ z ∷ []) xs x) → FirstBehind (λ b y. p b y ≡ true) before (z ∷ xs) x
    by_test true is rest =
        let same = some_same z x (sym (ap (λ (t : Bool). first (cond t (z ∷ picked p (before ++ z ∷ []) xs) (picked p (before ++ z ∷ []) xs))) is) ∙ e) in
        subst (λ (v : X). FirstBehind (λ b y. p b y ≡ true) before (z ∷ xs) v) same (at_head (λ b y. p b y ≡ true) before z xs is)
    by_test false is rest =
        past_head (λ b y. p b y ≡ true) before z xs x (λ t. true≢false (sym t ∙ is))
        (rest (sym (ap (λ (t : Bool). first (cond t (z ∷ picked p (before ++ z ∷ []) xs) (picked p (before ++ z ∷ []) xs))) is) ∙ e))

first_is : {X : Type 0} (p : List X → X → Bool) (front rest before : List X) (x : X) → p (before ++ front) x ≡ true →
    ((early late : List X) (y : X) → front ≡ early ++ y ∷ late → p (before ++ early) y ≡ true → ⊥) → first (picked p before (front ++ x ∷ rest)) ≡ Some x
first_is {X} p [] rest before x h none =
    ap (λ (t : Bool). first (cond t (x ∷ picked p (before ++ x ∷ []) rest) (picked p (before ++ x ∷ []) rest))) (subst (λ (b : List X). p b x ≡ true) (append-nil before) h)
first_is {X} p (z ∷ front) rest before x h none =
    let apart : p before z ≡ false = not_true (p before z) (λ e. none [] front z refl (subst (λ (b : List X). p b z ≡ true) (sym (append-nil before)) e)) in
    ap (λ (t : Bool). first (cond t (z ∷ picked p (before ++ z ∷ []) (front ++ x ∷ rest)) (picked p (before ++ z ∷ []) (front ++ x ∷ rest)))) apart
    ∙ first_is p front rest (before ++ z ∷ []) x (subst (λ (b : List X). p b x ≡ true) (sym (append_assoc before (z ∷ []) front)) h)
    (λ early late y e q. none (z ∷ early) late y (ap (λ (l : List X). z ∷ l) e) (subst (λ (b : List X). p b y ≡ true) (append_assoc before (z ∷ []) early) q))

-- of what a test tells, the first for which it is so
record Tells {X : Type 0} (p : List X → X → Bool) (P : List X → X → Type 0) : Type 0 where
  to : (b : List X) (y : X) → p b y ≡ true → P b y
  from : (b : List X) (y : X) → P b y → p b y ≡ true

is_first : {X : Type 0} (p : List X → X → Bool) (P : List X → X → Type 0) (t : Tells p P) (xs : List X) (x : X) → first (picked p [] xs) ≡ Some x → IsFirst P xs x
is_first p P t xs x e =
    let f = found p [] xs x e in
    record { front = f.front; rest = f.rest; splits = f.splits; holds = t.to f.front x f.holds; none = λ early late y s q. f.none early late y s (t.from early y q) }

first_told : {X : Type 0} (p : List X → X → Bool) (P : List X → X → Type 0) (t : Tells p P) (xs : List X) (x : X) → IsFirst P xs x → first (picked p [] xs) ≡ Some x
first_told {X} p P t xs x f =
    ap (λ (l : List X). first (picked p [] l)) f.splits
    ∙ first_is p f.front f.rest [] x (t.from f.front x f.holds) (λ early late y s q. f.none early late y s (t.to early y q))

-- ---- of one list behind another, and of a list's images

first_map : {X Y : Type 0} (g : X → Y) (xs : List X) (y : Y) → first (map g xs) ≡ Some y → (x : X) × (first xs ≡ Some x) × (g x ≡ y)
first_map g [] y e = absurd cc
first_map g (x ∷ xs) y e = (x, refl, some_same (g x) y e)

map_first : {X Y : Type 0} (g : X → Y) (xs : List X) (x : X) → first xs ≡ Some x → first (map g xs) ≡ Some (g x)
map_first g [] x e = absurd cc
map_first {X} g (z ∷ xs) x e = ap (λ (o : Option X). option_map g o) e

split_first : {X : Type 0} (xs ys : List X) (x : X) → first (xs ++ ys) ≡ Some x → (first xs ≡ Some x) ⊎ ((xs ≡ []) × (first ys ≡ Some x))
split_first [] ys x e = inr (refl, e)
split_first (z ∷ xs) ys x e = inl e

in_left : {X : Type 0} (xs ys : List X) (x : X) → first xs ≡ Some x → first (xs ++ ys) ≡ Some x
in_left [] ys x e = absurd cc
in_left (z ∷ xs) ys x e = e

in_right : {X : Type 0} (xs ys : List X) (x : X) → xs ≡ [] → first ys ≡ Some x → first (xs ++ ys) ≡ Some x
in_right {X} xs ys x none e = ap (λ (l : List X). first (l ++ ys)) none ∙ e

-- ---- the tests of the rules

abbrev takes : List Defined → Defined → Bool
takes before d = is_taken before d.role d.name.text

picked_repeated : (before ds : List Defined) → picked takes before ds ≡ repeated before ds
picked_repeated before [] = refl
picked_repeated before (d ∷ ds) = ap (λ (l : List Defined). cond (takes before d) (d ∷ l) l) (picked_repeated (before ++ d ∷ []) ds)

not_so : (b : Bool) → not b ≡ true → b ≡ false
not_so true e = absurd (true≢false (sym e))
not_so false e = refl

tells_repeats : Tells takes Repeats
tells_repeats = record {
  to = λ b d h.
      let o = Any-from_list_any (bars d.role d.name.text) b (sym (taken_roles d.role d.name.text b ∙ bars_taken d.role d.name.text b) ∙ h) in
      (o.1, (o.0, o.2, o.3), (bytes_eq-Decides o.1.name.text d.name.text).0 (and_second _ _ o.4), not_so _ (and_first _ _ o.4));
  from = λ b d q.
      taken_roles d.role d.name.text b
      ∙ bars_taken d.role d.name.text b
      ∙ list_any-from_Any (bars d.role d.name.text) b (q.1.0, q.0, q.1.1, q.1.2, both_true _ _ (ap not q.3) ((bytes_eq-Decides q.0.name.text d.name.text).1 q.2));
}

module _ (us : List Source) where
  abbrev ds : List Defined
  ds = definitions us

  tells_unknown : Tells (λ _. is_unknown ds) (λ _. IsUnknown us)
  tells_unknown = record {
    to = λ b i h there_is. true≢false (sym h ∙ ap not (is_some_of ds Module i.name.text there_is));
    from = λ b i h. ap not (not_true (is_defined Module i.name.text ds) (λ e. h (some_of ds Module i.name.text e)));
  }

  tells_cycle : Tells (λ _. is_on_cycle us) (λ _. LiesOnCycle us)
  tells_cycle = record { to = λ b i h. (reaches_all us i.name.text i.by).0 h; from = λ b i h. (reaches_all us i.name.text i.by).1 h }

  tells_unimplemented : Tells (λ _. is_unimplemented ds) (λ _. IsUnimplemented us)
  tells_unimplemented = record {
    to = λ b d h. (
      role_is Specification d.role (and_first _ _ h),
      λ there_is. true≢false (sym (and_second (is_role Specification d.role) _ h) ∙ ap not (is_some_of ds Implementation d.name.text there_is)),
    );
    from = λ b d h.
        both_true (is_role Specification d.role) _ (ap (is_role Specification) h.0)
        (ap not (not_true (is_defined Implementation d.name.text ds) (λ e. h.1 (some_of ds Implementation d.name.text e))));
  }

  -- ---- what is told

  at_five : (e : LinkError) → AreDistinct us → AreKnown us → AreAcyclic us → HasMain us → first (without_implementation us) ≡ Some e → IsToldOf us e
  at_five e a b c m h =
      let x = first_map (at_definition 5) (filter (is_unimplemented ds) ds) e h in
      subst (IsToldOf us) x.2 (unimplemented x.0 a b c m (is_first _ _ tells_unimplemented ds x.0 (ap first (picked_filter (is_unimplemented ds) [] ds) ∙ x.1)))

  at_four : (e : LinkError) → AreDistinct us → AreKnown us → AreAcyclic us → (first (without_main us) ≡ Some e) ⊎ ((without_main us ≡ []) × (first (without_implementation us) ≡ Some e)) → IsToldOf us e
  at_four e a b c (inr r) = at_five e a b c (main_so us r.0) r.1
  at_four e a b c (inl h) = by_test (list_any is_main ds) refl
    where
      by_test : (t : Bool) → list_any is_main ds ≡ t → IsToldOf us e
      by_test true is = let none : None ≡ Some e = sym (ap (λ (t : Bool). first (cond t [] (no_main ∷ []))) is) ∙ h in absurd cc
      by_test false is =
          let same = some_same no_main e (sym (ap (λ (t : Bool). first (cond t [] (no_main ∷ []))) is) ∙ h) in
          subst (IsToldOf us) same (without a b c (λ m. true≢false (sym (is_main_of ds m) ∙ is)))

  at_three : (e : LinkError) → AreDistinct us → AreKnown us → (first (import_cycles us) ≡ Some e) ⊎ ((import_cycles us ≡ []) × (first (without_main us ++ without_implementation us) ≡ Some e)) → IsToldOf us e
  at_three e a b (inl h) =
      let x = first_map (at_import 3) (filter (is_on_cycle us) (imports us)) e h in
      subst (IsToldOf us) x.2 (cycle x.0 a b (is_first _ _ tells_cycle (imports us) x.0 (ap first (picked_filter (is_on_cycle us) [] (imports us)) ∙ x.1)))
  at_three e a b (inr r) = at_four e a b (acyclic_so us r.0) (split_first (without_main us) _ e r.1)

  at_two : (e : LinkError) → AreDistinct us → (first (unknown_modules us) ≡ Some e) ⊎ ((unknown_modules us ≡ []) × (first (import_cycles us ++ (without_main us ++ without_implementation us)) ≡ Some e)) → IsToldOf us e
  at_two e a (inl h) =
      let x = first_map (at_import 2) (filter (is_unknown ds) (imports us)) e h in
      subst (IsToldOf us) x.2 (unknown x.0 a (is_first _ _ tells_unknown (imports us) x.0 (ap first (picked_filter (is_unknown ds) [] (imports us)) ∙ x.1)))
  at_two e a (inr r) = at_three e a (known_so us r.0) (split_first (import_cycles us) _ e r.1)

  at_one : (e : LinkError) → (first (repetitions us) ≡ Some e) ⊎ ((repetitions us ≡ []) × (first (unknown_modules us ++ (import_cycles us ++ (without_main us ++ without_implementation us))) ≡ Some e)) → IsToldOf us e
  at_one e (inl h) =
      let x = first_map (at_definition 1) (repeated [] ds) e h in
      subst (IsToldOf us) x.2 (repeats x.0 (is_first takes Repeats tells_repeats ds x.0 (ap first (picked_repeated [] ds) ∙ x.1)))
  at_one e (inr r) = at_two e (distinct_so us r.0) (split_first (unknown_modules us) _ e r.1)

  told_of : (e : LinkError) → IsToldOf us e → IsLinkError us e
  told_of e (repeats d f) =
      in_left (repetitions us) _ _ (map_first (at_definition 1) (repeated [] ds) d (ap first (sym (picked_repeated [] ds)) ∙ first_told takes Repeats tells_repeats ds d f))
  told_of e (unknown i a f) =
      in_right (repetitions us) _ _ (distinct_none us a)
      (in_left (unknown_modules us) _ _ (map_first (at_import 2) (filter (is_unknown ds) (imports us)) i
      (ap first (sym (picked_filter (is_unknown ds) [] (imports us))) ∙ first_told _ _ tells_unknown (imports us) i f)))
  told_of e (cycle i a b f) =
      in_right (repetitions us) _ _ (distinct_none us a)
      (in_right (unknown_modules us) _ _ (known_none us b)
      (in_left (import_cycles us) _ _ (map_first (at_import 3) (filter (is_on_cycle us) (imports us)) i
      (ap first (sym (picked_filter (is_on_cycle us) [] (imports us))) ∙ first_told _ _ tells_cycle (imports us) i f))))
  told_of e (without a b c m) =
      let none : list_any is_main ds ≡ false = not_true (list_any is_main ds) (λ t. m (main_so us (ap (λ (x : Bool). cond x [] (no_main ∷ [])) t))) in
      in_right (repetitions us) _ _ (distinct_none us a)
      (in_right (unknown_modules us) _ _ (known_none us b)
      (in_right (import_cycles us) _ _ (acyclic_none us c)
      (in_left (without_main us) _ _ (ap (λ (x : Bool). first (cond x [] (no_main ∷ []))) none))))
  told_of e (unimplemented d a b c m f) =
      in_right (repetitions us) _ _ (distinct_none us a)
      (in_right (unknown_modules us) _ _ (known_none us b)
      (in_right (import_cycles us) _ _ (acyclic_none us c)
      (in_right (without_main us) _ _ (main_none us m)
      (map_first (at_definition 5) (filter (is_unimplemented ds) ds) d
      (ap first (sym (picked_filter (is_unimplemented ds) [] ds)) ∙ first_told _ _ tells_unimplemented ds d f)))))

  pub is_told : IsTold us
  is_told = λ e. (λ h. at_one e (split_first (repetitions us) _ e h), told_of e)
