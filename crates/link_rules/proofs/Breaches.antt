-- No rule of linking is broken exactly where units link in the words of the language.
use Rattle.std.proofs.Common.{◌≡◌, ◌≢◌, ℕ, zero, suc, ◌<◌, Bool, true, false, cond, not, ◌&&◌, ◌||◌, List, [], ◌∷◌, ◌++◌, length, get_or, map, ◌⊎◌, inl, inr, refl, sym, ap, ◌∙◌, subst, arith, append_assoc}
use Rattle.std.specs.Prelude.{bytes_eq, filter, codes}
use Rattle.std.specs.List.{AllPairs, Contains, list_any}
use Rattle.std.proofs.lemmas.Bool.{true≢false}
use Rattle.std.proofs.lemmas.List.Folds.{Any-from_list_any, list_any-from_Any, list_any_at}
use Rattle.std.proofs.lemmas.List.{append-nil}
use Rattle.std.proofs.lemmas.List.Quantifiers.{all_pairs_push}
use Rattle.std.proofs.lemmas.Slice.Eq.{bytes_eq-Decides}
use Rattle.link_rules.specs.declared.role.Role.{Role}
use Rattle.link_rules.specs.declared.role.Role.TheVariants.{Module, Specification, Implementation, Other}
use Rattle.link_rules.specs.declared.link_error.LinkError.{LinkError}
use Rattle.link_rules.specs.Units.{Source, Defined, definitions, imports}
use Rattle.link_rules.specs.Rules.{at_definition, at_import, import_cycles, is_defined, is_main, is_on_cycle, is_role, is_taken, is_unimplemented, is_unknown, Links, no_main, repeated, repetitions, unknown_modules, without_implementation, without_main}
use Rattle.link_rules.specs.Linked.{AreAcyclic, AreDistinct, AreKnown, HasMain, IsLinked, IsNoBreach, may_share}
use Rattle.link_rules.proofs.Truth.{and_first, and_second, both_true, not_false, not_true}
use Rattle.link_rules.proofs.Elements.{cons_cases, none_left}
use Rattle.link_rules.proofs.Ways.{reaches_all}

-- ---- empty lists

nil_left : {X : Type 0} (xs ys : List X) → xs ++ ys ≡ [] → xs ≡ []
nil_left [] ys e = refl
nil_left (x ∷ xs) ys e = absurd cc

nil_right : {X : Type 0} (xs ys : List X) → xs ++ ys ≡ [] → ys ≡ []
nil_right [] ys e = e
nil_right (x ∷ xs) ys e = absurd cc

nil_both : {X : Type 0} (xs ys : List X) → xs ≡ [] → ys ≡ [] → xs ++ ys ≡ []
nil_both xs ys e f = ap (λ (l : List _). l ++ ys) e ∙ f

map_nil : {X Y : Type 0} (f : X → Y) (xs : List X) → map f xs ≡ [] → xs ≡ []
map_nil f [] e = refl
map_nil f (x ∷ xs) e = absurd cc

pub none_of : {X : Type 0} (p : X → Bool) (xs : List X) → filter p xs ≡ [] → (x : X) → Contains xs x → p x ≡ false
none_of p [] e x c = absurd (omega (arith, c.1))
none_of {X} p (y ∷ ys) e x c = by_test (p y) refl (cons_cases y ys x c) (λ f. none_of p ys f x)
  where
    by_test : (b : Bool) → p y ≡ b → (y ≡ x) ⊎ Contains ys x → (filter p ys ≡ [] → Contains ys x → p x ≡ false) → p x ≡ false
    by_test true is at rest = let some : y ∷ filter p ys ≡ [] = sym (ap (λ (b : Bool). cond b (y ∷ filter p ys) (filter p ys)) is) ∙ e in absurd cc
    by_test false is (inl same) rest = ap p (sym same) ∙ is
    by_test false is (inr in_) rest = rest (sym (ap (λ (b : Bool). cond b (y ∷ filter p ys) (filter p ys)) is) ∙ e) in_

-- ---- definitions of a name

pub role_is : (r s : Role) → is_role r s ≡ true → s ≡ r
role_is Module Module e = refl
role_is Specification Specification e = refl
role_is Implementation Implementation e = refl
role_is Other Other e = refl
role_is Module Specification e = absurd (true≢false (sym e))
role_is Module Implementation e = absurd (true≢false (sym e))
role_is Module Other e = absurd (true≢false (sym e))
role_is Specification Module e = absurd (true≢false (sym e))
role_is Specification Implementation e = absurd (true≢false (sym e))
role_is Specification Other e = absurd (true≢false (sym e))
role_is Implementation Module e = absurd (true≢false (sym e))
role_is Implementation Specification e = absurd (true≢false (sym e))
role_is Implementation Other e = absurd (true≢false (sym e))
role_is Other Module e = absurd (true≢false (sym e))
role_is Other Specification e = absurd (true≢false (sym e))
role_is Other Implementation e = absurd (true≢false (sym e))

own_role : (r : Role) → is_role r r ≡ true
own_role Module = refl
own_role Specification = refl
own_role Implementation = refl
own_role Other = refl

-- some definition of these is of this name and role
abbrev pub Some_of : List Defined → Role → List ℕ → Type 0
Some_of ds role n = (d : Defined) × Contains ds d × (d.role ≡ role) × (d.name.text ≡ n)

pub some_of : (ds : List Defined) (role : Role) (n : List ℕ) → is_defined role n ds ≡ true → Some_of ds role n
some_of ds role n h =
    let o = Any-from_list_any (λ (d : Defined). is_role role d.role && bytes_eq d.name.text n) ds h in
    (o.1, (o.0, o.2, o.3), role_is role o.1.role (and_first _ _ o.4), (bytes_eq-Decides o.1.name.text n).0 (and_second _ _ o.4))

pub is_some_of : (ds : List Defined) (role : Role) (n : List ℕ) → Some_of ds role n → is_defined role n ds ≡ true
is_some_of ds role n o =
    list_any-from_Any (λ (d : Defined). is_role role d.role && bytes_eq d.name.text n) ds
    (o.1.0, o.0, o.1.1, o.1.2, both_true _ _ (ap (is_role role) o.2 ∙ own_role role) ((bytes_eq-Decides o.0.name.text n).1 o.3))

-- ---- the first rule

-- a definition that a later one of this role may not follow
abbrev pub bars : Role → List ℕ → Defined → Bool
bars role n e = not (may_share e.role role) && bytes_eq e.name.text n

-- a or b, over a list and over its rest
first_of_two : (b s o : Bool) → ((b || s) || o) ≡ (b || (s || o))
first_of_two true s o = refl
first_of_two false s o = refl

second_of_two : (b s o : Bool) → (s || (b || o)) ≡ (b || (s || o))
second_of_two true true o = refl
second_of_two true false o = refl
second_of_two false s o = refl

second_of_three : (b s i o : Bool) → (s || ((b || i) || o)) ≡ (b || (s || (i || o)))
second_of_three true true i o = refl
second_of_three true false i o = refl
second_of_three false s i o = refl

third_of_three : (b s i o : Bool) → (s || (i || (b || o))) ≡ (b || (s || (i || o)))
third_of_three true true i o = refl
third_of_three true false true o = refl
third_of_three true false false o = refl
third_of_three false s i o = refl

-- what a role takes, where these roles are taken
abbrev taken_by : (Role → Bool) → Role → Bool
taken_by of Module = of Module
taken_by of Specification = of Specification || of Other
taken_by of Implementation = of Implementation || of Other
taken_by of Other = of Specification || (of Implementation || of Other)

one_more : (of : Role → Bool) (b : Bool) (r s : Role) → taken_by (λ x. (is_role x s && b) || of x) r ≡ ((not (may_share s r) && b) || taken_by of r)
one_more of b Module Module = refl
one_more of b Module Specification = refl
one_more of b Module Implementation = refl
one_more of b Module Other = refl
one_more of b Specification Module = refl
one_more of b Specification Specification = first_of_two b (of Specification) (of Other)
one_more of b Specification Implementation = refl
one_more of b Specification Other = second_of_two b (of Specification) (of Other)
one_more of b Implementation Module = refl
one_more of b Implementation Specification = refl
one_more of b Implementation Implementation = first_of_two b (of Implementation) (of Other)
one_more of b Implementation Other = second_of_two b (of Implementation) (of Other)
one_more of b Other Module = refl
one_more of b Other Specification = first_of_two b (of Specification) (of Implementation || of Other)
one_more of b Other Implementation = second_of_three b (of Specification) (of Implementation) (of Other)
one_more of b Other Other = third_of_three b (of Specification) (of Implementation) (of Other)

pub taken_roles : (role : Role) (n : List ℕ) (ds : List Defined) → is_taken ds role n ≡ taken_by (λ r. is_defined r n ds) role
taken_roles Module n ds = refl
taken_roles Specification n ds = refl
taken_roles Implementation n ds = refl
taken_roles Other n ds = refl

nothing_taken : (role : Role) → taken_by (λ r. false) role ≡ false
nothing_taken Module = refl
nothing_taken Specification = refl
nothing_taken Implementation = refl
nothing_taken Other = refl

pub bars_taken : (role : Role) (n : List ℕ) (ds : List Defined) → taken_by (λ r. is_defined r n ds) role ≡ list_any (bars role n) ds
bars_taken role n [] = nothing_taken role
bars_taken role n (e ∷ es) =
    one_more (λ r. is_defined r n es) (bytes_eq e.name.text n) role e.role
    ∙ ap (λ (t : Bool). (not (may_share e.role role) && bytes_eq e.name.text n) || t) (bars_taken role n es)

-- the one may stand before the other
abbrev Before : Defined → Defined → Type 0
Before d e = d.name.text ≡ e.name.text → may_share d.role e.role ≡ true

not_taken : (before : List Defined) (d : Defined) → is_taken before d.role d.name.text ≡ false → (k : ℕ) (x : Defined) → k < length before → Before (get_or before k x) d
not_taken before d apart k x lt same = by_test (may_share (get_or before k x).role d.role) refl
  where
    by_test : (b : Bool) → may_share (get_or before k x).role d.role ≡ b → may_share (get_or before k x).role d.role ≡ true
    by_test true is = is
    by_test false is =
        let bar = both_true _ _ (ap not is) ((bytes_eq-Decides (get_or before k x).name.text d.name.text).1 same) in
        absurd (true≢false (sym (list_any_at (bars d.role d.name.text) before k x lt bar) ∙ sym (taken_roles d.role d.name.text before ∙ bars_taken d.role d.name.text before) ∙ apart))

all_before : (before : List Defined) (d : Defined) → ((e : Defined) → Contains before e → Before e d) → is_taken before d.role d.name.text ≡ false
all_before before d h = taken_roles d.role d.name.text before ∙ bars_taken d.role d.name.text before ∙ not_true (list_any (bars d.role d.name.text) before) (λ some.
    let o = Any-from_list_any (bars d.role d.name.text) before some in
    let share = h o.1 (o.0, o.2, o.3) ((bytes_eq-Decides o.1.name.text d.name.text).0 (and_second _ _ o.4)) in
    true≢false (sym (and_first _ _ o.4) ∙ ap not share))

repeats : (before : List Defined) (d : Defined) (ds : List Defined) (b : Bool) → is_taken before d.role d.name.text ≡ b →
    repeated before (d ∷ ds) ≡ cond b (d ∷ repeated (before ++ d ∷ []) ds) (repeated (before ++ d ∷ []) ds)
repeats before d ds b is = ap (λ (t : Bool). cond t (d ∷ repeated (before ++ d ∷ []) ds) (repeated (before ++ d ∷ []) ds)) is

pairs_of : (before ds : List Defined) → repeated before ds ≡ [] → AllPairs Before before → AllPairs Before (before ++ ds)
pairs_of before [] e h = subst (AllPairs Before) (sym (append-nil before)) h
pairs_of before (d ∷ ds) e h = by_test (is_taken before d.role d.name.text) refl (pairs_of (before ++ d ∷ []) ds)
  where
    by_test : (b : Bool) → is_taken before d.role d.name.text ≡ b → (repeated (before ++ d ∷ []) ds ≡ [] → AllPairs Before (before ++ d ∷ []) → AllPairs Before ((before ++ d ∷ []) ++ ds)) →
        AllPairs Before (before ++ d ∷ ds)
    by_test true is rest = let some : d ∷ repeated (before ++ d ∷ []) ds ≡ [] = sym (repeats before d ds true is) ∙ e in absurd cc
    by_test false is rest =
        subst (AllPairs Before) (append_assoc before (d ∷ []) ds)
        (rest (sym (repeats before d ds false is) ∙ e) (all_pairs_push Before before d h (not_taken before d is)))

in_front : {X : Type 0} (xs ys : List X) (k : ℕ) (x : X) → k < length xs → get_or (xs ++ ys) k x ≡ get_or xs k x
in_front [] ys k x lt = absurd (omega arith)
in_front (y ∷ xs) ys zero x lt = refl
in_front (y ∷ xs) ys (suc k) x lt = in_front xs ys k x (omega arith)

just_behind : {X : Type 0} (xs ys : List X) (y x : X) → get_or (xs ++ y ∷ ys) (length xs) x ≡ y
just_behind [] ys y x = refl
just_behind (z ∷ xs) ys y x = just_behind xs ys y x

reaches_behind : {X : Type 0} (xs ys : List X) (y : X) → length xs < length (xs ++ y ∷ ys)
reaches_behind [] ys y = omega arith
reaches_behind (z ∷ xs) ys y = let on = reaches_behind xs ys y in omega (arith, on)

no_repeats : (before ds : List Defined) → AllPairs Before (before ++ ds) → repeated before ds ≡ []
no_repeats before [] h = refl
no_repeats before (d ∷ ds) h =
    repeats before d ds false (all_before before d (λ e c.
    subst (λ (v : Defined). Before v d) (in_front before (d ∷ ds) c.0 e c.1 ∙ c.2)
    (subst (Before (get_or (before ++ d ∷ ds) c.0 e)) (just_behind before ds d e) (h c.0 (length before) e c.1 (reaches_behind before ds d)))))
    ∙ no_repeats (before ++ d ∷ []) ds (subst (AllPairs Before) (sym (append_assoc before (d ∷ []) ds)) h)

-- ---- the fourth

pub main_of : (ds : List Defined) → list_any is_main ds ≡ true → (role : Role) × (role ≢ Module) × Some_of ds role (codes "OrcaMain")
main_of ds h =
    let o = Any-from_list_any is_main ds h in (
      o.1.role,
      (λ e. true≢false (sym (and_first _ _ o.4) ∙ ap (λ (r : Role). not (is_role Module r)) e)),
      (o.1, (o.0, o.2, o.3), refl, (bytes_eq-Decides o.1.name.text (codes "OrcaMain")).0 (and_second _ _ o.4)),
    )

pub is_main_of : (ds : List Defined) → (role : Role) × (role ≢ Module) × Some_of ds role (codes "OrcaMain") → list_any is_main ds ≡ true
is_main_of ds o =
    let d = o.2.0 in
    let other : is_role Module d.role ≡ false = not_true (is_role Module d.role) (λ e. o.1 (sym o.2.2 ∙ role_is Module d.role e)) in
    list_any-from_Any is_main ds (o.2.1.0, d, o.2.1.1, o.2.1.2, both_true _ _ (ap not other) ((bytes_eq-Decides d.name.text (codes "OrcaMain")).1 o.2.3))

pub main_found : (us : List Source) → without_main us ≡ [] → list_any is_main (definitions us) ≡ true
main_found us e = by_test (list_any is_main (definitions us)) refl
  where
    by_test : (b : Bool) → list_any is_main (definitions us) ≡ b → list_any is_main (definitions us) ≡ true
    by_test true is = is
    by_test false is = let some : no_main ∷ [] ≡ [] = sym (ap (λ (b : Bool). cond b [] (no_main ∷ [])) is) ∙ e in absurd cc

-- ---- all five

module _ (us : List Source) where
  abbrev ds : List Defined
  ds = definitions us

  abbrev after_two : List LinkError
  after_two = import_cycles us ++ (without_main us ++ without_implementation us)

  -- each rule by itself

  pub distinct_so : repetitions us ≡ [] → AreDistinct us
  distinct_so e = pairs_of [] ds (map_nil (at_definition 1) (repeated [] ds) e) (λ i j d lt below. absurd (omega (arith, below)))

  pub known_so : unknown_modules us ≡ [] → AreKnown us
  known_so e i c =
      some_of ds Module i.name.text (not_false (is_defined Module i.name.text ds) (none_of (is_unknown ds) (imports us) (map_nil (at_import 2) _ e) i c))

  pub acyclic_so : import_cycles us ≡ [] → AreAcyclic us
  acyclic_so e i c back = true≢false
      (sym ((reaches_all us i.name.text i.by).1 back) ∙ none_of (is_on_cycle us) (imports us) (map_nil (at_import 3) _ e) i c)

  pub main_so : without_main us ≡ [] → HasMain us
  main_so e = main_of ds (main_found us e)

  pub distinct_none : AreDistinct us → repetitions us ≡ []
  distinct_none h = ap (map (at_definition 1)) (no_repeats [] ds h)

  pub known_none : AreKnown us → unknown_modules us ≡ []
  known_none h = ap (map (at_import 2)) (none_left (is_unknown ds) (imports us) (λ i c. ap not (is_some_of ds Module i.name.text (h i c))))

  pub acyclic_none : AreAcyclic us → import_cycles us ≡ []
  acyclic_none h =
      ap (map (at_import 3))
      (none_left (is_on_cycle us) (imports us) (λ i c. not_true (is_on_cycle us i) (λ e. h i c ((reaches_all us i.name.text i.by).0 e))))

  pub main_none : HasMain us → without_main us ≡ []
  main_none h = ap (λ (b : Bool). cond b [] (no_main ∷ [])) (is_main_of ds h)

  linked : Links us → IsLinked us
  linked e =
      let rest = nil_right (repetitions us) (unknown_modules us ++ after_two) e in
      let cycles = nil_right (unknown_modules us) after_two rest in
      let last = nil_right (import_cycles us) (without_main us ++ without_implementation us) cycles in
      record {
        distinct = distinct_so (nil_left (repetitions us) _ e);
        known = known_so (nil_left (unknown_modules us) _ rest);
        acyclic = acyclic_so (nil_left (import_cycles us) _ cycles);
        main = main_so (nil_left (without_main us) _ last);
        implemented = λ n o.
            let none = none_of (is_unimplemented ds) ds (map_nil (at_definition 5) _ (nil_right (without_main us) _ last)) o.0 o.1 in
            let specified : is_role Specification o.0.role ≡ true = ap (is_role Specification) o.2 in
            let found = not_false (is_defined Implementation o.0.name.text ds) (sym (ap (λ (b : Bool). b && not (is_defined Implementation o.0.name.text ds)) specified) ∙ none) in
            subst (Some_of ds Implementation) o.3 (some_of ds Implementation o.0.name.text found);
      }

  implemented_none : IsLinked us → (d : Defined) → Contains ds d → is_unimplemented ds d ≡ false
  implemented_none l d c = not_true (is_unimplemented ds d) (λ e.
      let own = role_is Specification d.role (and_first _ _ e) in
      let there_is = is_some_of ds Implementation d.name.text (l.implemented d.name.text (d, c, own, refl)) in
      true≢false (sym (and_second (is_role Specification d.role) _ e) ∙ ap not there_is))

  breaks_none : IsLinked us → Links us
  breaks_none l =
      nil_both (repetitions us) _ (distinct_none l.distinct)
      (nil_both (unknown_modules us) _ (known_none l.known)
      (nil_both (import_cycles us) _ (acyclic_none l.acyclic)
      (nil_both (without_main us) _ (main_none l.main)
      (ap (map (at_definition 5)) (none_left (is_unimplemented ds) ds (implemented_none l))))))

  pub no_breach : IsNoBreach us
  no_breach = (linked, breaks_none)
