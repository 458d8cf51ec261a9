-- Within as many imports as there are units each module is reached that is reached at all: a way that comes by a module twice is cut
-- short, so that each module imports once on it.
use Rattle.std.proofs.Common.{◌≡◌, ℕ, zero, suc, ◌≤◌, Bool, true, false, ◌&&◌, ◌||◌, List, length, map, ◌⊎◌, inl, inr, refl, ap, ◌∙◌, subst, arith}
use Rattle.std.specs.Prelude.{bytes_eq}
use Rattle.std.specs.List.{Contains, list_any}
use Rattle.std.proofs.lemmas.List.{length-map}
use Rattle.std.proofs.lemmas.List.Folds.{Any-from_list_any, list_any-from_Any}
use Rattle.std.proofs.lemmas.Slice.Eq.{bytes_eq-Decides}
use Rattle.link_rules.specs.Units.{Source, Import, imported, imports, imports_of, module_of}
use Rattle.link_rules.specs.Rules.{leads}
use Rattle.link_rules.specs.Cycles.{Leads, itself, by_import, ReachesAll}
use Rattle.link_rules.proofs.Truth.{and_first, and_second, both_true, or_left, or_right}
use Rattle.link_rules.proofs.Elements.{others, in_others, fewer_others, in_map, from_map, from_flat_map}

-- a way on which these modules alone import
data Way (is : List Import) : List (List ℕ) → List ℕ → List ℕ → Type 0 where
  ends : (ns : List (List ℕ)) (a b : List ℕ) → a ≡ b → Way is ns a b
  goes : (ns : List (List ℕ)) (a b : List ℕ) (i : Import) → Contains ns a → Contains is i → i.by ≡ a → Way is ns i.name.text b → Way is ns a b

-- an import of this module, and a way on from there on which it doesn't import again
abbrev Step : List Import → List (List ℕ) → List ℕ → List ℕ → Type 0
Step is ns c b = (i : Import) × Contains is i × (i.by ≡ c) × Way is (others c ns) i.name.text b

cut : (is : List Import) (c : List ℕ) (ns : List (List ℕ)) (x b : List ℕ) → Way is ns x b → Way is (others c ns) x b ⊎ Step is ns c b
cut is c ns x b (ends _ _ _ e) = inl (ends (others c ns) x b e)
cut is c ns x b (goes _ _ _ i own in_ by rest) = by_test (bytes_eq x c) refl (cut is c ns i.name.text b rest)
  where
    by_test : (t : Bool) → bytes_eq x c ≡ t → Way is (others c ns) i.name.text b ⊎ Step is ns c b → Way is (others c ns) x b ⊎ Step is ns c b
    by_test t test (inr r) = inr r
    by_test true test (inl w) = inr (i, in_, by ∙ (bytes_eq-Decides x c).0 test, w)
    by_test false test (inl w) = inl (goes (others c ns) x b i (in_others c ns x test own) in_ by w)

ends_at_once : (is : List Import) (n : ℕ) (a b : List ℕ) → a ≡ b → leads is n a b ≡ true
ends_at_once is zero a b e = (bytes_eq-Decides a b).1 e
ends_at_once is (suc n) a b e = or_left (bytes_eq a b) _ ((bytes_eq-Decides a b).1 e)

-- an import, and what is reached from there
reaches : (is : List Import) (n : ℕ) (a b : List ℕ) (i : Import) → Contains is i → i.by ≡ a → leads is n i.name.text b ≡ true → leads is (suc n) a b ≡ true
reaches is n a b i in_ by on =
    or_right (bytes_eq a b) _
    (list_any-from_Any (λ (j : Import). bytes_eq j.by a && leads is n j.name.text b) is
    (in_.0, i, in_.1, in_.2, both_true (bytes_eq i.by a) _ ((bytes_eq-Decides i.by a).1 by) on))

enough : (is : List Import) (n : ℕ) (ns : List (List ℕ)) (a b : List ℕ) → length ns ≤ n → Way is ns a b → leads is n a b ≡ true
enough is n ns a b le (ends _ _ _ e) = ends_at_once is n a b e
enough is zero ns a b le (goes _ _ _ i own in_ by rest) = absurd (omega (arith, own.1))
enough is (suc n) ns a b le (goes _ _ _ i own in_ by rest) =
    let less = fewer_others a ns own in
    elim (cut is a ns i.name.text b rest) [
      | inl w ↦ reaches is n a b i in_ by (enough is n (others a ns) i.name.text b (omega (arith, less)) w)
      | inr r ↦ reaches is n a b r.0 r.1 r.2 (enough is n (others a ns) r.0.name.text b (omega (arith, less)) r.3)
    ]

sound : (is : List Import) (n : ℕ) (a b : List ℕ) → leads is n a b ≡ true → Leads is a b
sound is zero a b h = itself a b ((bytes_eq-Decides a b).0 h)
sound is (suc n) a b h = by_test (bytes_eq a b) refl h (λ c. sound is n c b)
  where
    by_test : (t : Bool) → bytes_eq a b ≡ t → (t || list_any (λ (j : Import). bytes_eq j.by a && leads is n j.name.text b) is) ≡ true →
        ((c : List ℕ) → leads is n c b ≡ true → Leads is c b) → Leads is a b
    by_test true test h further = itself a b ((bytes_eq-Decides a b).0 test)
    by_test false test h further =
        let some = Any-from_list_any (λ (j : Import). bytes_eq j.by a && leads is n j.name.text b) is h in
        let i = some.1 in
        by_import a b i (some.0, some.2, some.3) ((bytes_eq-Decides i.by a).0 (and_first (bytes_eq i.by a) _ some.4))
        (further i.name.text (and_second (bytes_eq i.by a) _ some.4))

-- the names of the units' modules
abbrev pub modules : List Source → List (List ℕ)
modules us = map (λ (u : Source). (module_of u.syntax).text) us

pub importer_is_module : (us : List Source) (i : Import) → Contains (imports us) i → Contains (modules us) i.by
importer_is_module us i h =
    let unit = from_flat_map imports_of us i h in
    let own = from_map (imported unit.0) unit.0.syntax.imports i unit.2 in
    subst (Contains (modules us)) (ap (λ (j : Import). j.by) own.2) (in_map (λ (u : Source). (module_of u.syntax).text) us unit.0 unit.1)

way : (us : List Source) (a b : List ℕ) → Leads (imports us) a b → Way (imports us) (modules us) a b
way us a b (itself _ _ e) = ends (modules us) a b e
way us a b (by_import _ _ i in_ by rest) =
    goes (modules us) a b i (subst (Contains (modules us)) by (importer_is_module us i in_)) in_ by (way us i.name.text b rest)

pub reaches_all : (us : List Source) → ReachesAll us
reaches_all us = λ a b. (
  sound (imports us) (length us) a b,
  λ w. enough (imports us) (length us) (modules us) a b (omega (arith, length-map us (λ (u : Source). (module_of u.syntax).text))) (way us a b w),
)
