-- What a module sees, as a test; and that a name is defined once.
use Rattle.std.proofs.Common.{◌≡◌, ℕ, zero, suc, ◌<◌, Bool, true, false, ◌&&◌, ◌||◌, List, [], ◌∷◌, length, get_or, ◌⊎◌, inl, inr, refl, sym, ap, ◌∙◌, subst, arith}
use Rattle.std.specs.Prelude.{bytes_eq}
use Rattle.std.specs.List.{AllPairs, list_any}
use Rattle.std.proofs.lemmas.Bool.{true≢false}
use Rattle.std.proofs.lemmas.List.Folds.{Any-from_list_any, list_any-from_Any}
use Rattle.std.proofs.lemmas.Slice.Eq.{bytes_eq-Decides}
use Rattle.link_rules.specs.declared.role.Role.{Role}
use Rattle.link_rules.specs.declared.role.Role.TheVariants.{Module, Specification, Implementation, Other}
use Rattle.link_rules.specs.Units.{Source, Defined, Import, definitions, imports}
use Rattle.link_rules.specs.Rules.{Links}
use Rattle.link_rules.specs.Linked.{may_share}
use Rattle.link_rules.specs.Visible.{DefinesOnce, is_seen, Sees, TellsSeen}
use Rattle.link_rules.proofs.Truth.{and_first, and_second, both_true, or_left, or_right}
use Rattle.link_rules.proofs.Breaches.{no_breach}

module _ (us : List Source) (m : List ℕ) (d : Defined) where
  abbrev brings : Import → Bool
  brings i = bytes_eq i.by m && bytes_eq i.name.text d.by

  seen_so : (own : Bool) → bytes_eq d.by m ≡ own → (own || list_any brings (imports us)) ≡ true → Sees us m d
  seen_so true is h = inl ((bytes_eq-Decides d.by m).0 is)
  seen_so false is h =
      let o = Any-from_list_any brings (imports us) h in
      inr (o.1, (o.0, o.2, o.3), (bytes_eq-Decides o.1.by m).0 (and_first _ _ o.4), (bytes_eq-Decides o.1.name.text d.by).0 (and_second _ _ o.4))

  is_seen_so : Sees us m d → is_seen us m d ≡ true
  is_seen_so (inl own) = or_left (bytes_eq d.by m) _ ((bytes_eq-Decides d.by m).1 own)
  is_seen_so (inr s) =
      let i = s.0 in
      let passes = both_true (bytes_eq i.by m) (bytes_eq i.name.text d.by) ((bytes_eq-Decides i.by m).1 s.2) ((bytes_eq-Decides i.name.text d.by).1 s.3) in
      or_right (bytes_eq d.by m) _ (list_any-from_Any brings (imports us) (s.1.0, i, s.1.1, s.1.2, passes))

pub tells_seen : (us : List Source) → TellsSeen us
tells_seen us = λ m d. (λ h. seen_so us m d (bytes_eq d.by m) refl h, is_seen_so us m d)

-- ---- once

pub either_way : (r s : Role) → may_share r s ≡ may_share s r
either_way Module Module = refl
either_way Module Specification = refl
either_way Module Implementation = refl
either_way Module Other = refl
either_way Specification Module = refl
either_way Specification Specification = refl
either_way Specification Implementation = refl
either_way Specification Other = refl
either_way Implementation Module = refl
either_way Implementation Specification = refl
either_way Implementation Implementation = refl
either_way Implementation Other = refl
either_way Other Module = refl
either_way Other Specification = refl
either_way Other Implementation = refl
either_way Other Other = refl

abbrev MayBoth : Defined → Defined → Type 0
MayBoth d e = d.name.text ≡ e.name.text → may_share d.role e.role ≡ true

-- of two places in a list one is the first, or they are one
by_order : (ds : List Defined) (d e : Defined) → AllPairs MayBoth ds → (i j : ℕ) → i < length ds → j < length ds → get_or ds i d ≡ d → get_or ds j e ≡ e →
    get_or ds i d ≡ get_or ds i e → get_or ds j d ≡ get_or ds j e → d.name.text ≡ e.name.text → may_share d.role e.role ≡ false → (i < j) ⊎ ((j < i) ⊎ (i ≡ j)) → d ≡ e
by_order ds d e pairs i j li lj at_d at_e same_i same_j names apart (inl less) =
    let shared : MayBoth d e = subst (λ (v : Defined). MayBoth v e) at_d (subst (λ (v : Defined). MayBoth (get_or ds i d) v) (same_j ∙ at_e) (pairs i j d less lj)) in
    absurd (true≢false (sym (shared names) ∙ apart))
by_order ds d e pairs i j li lj at_d at_e same_i same_j names apart (inr (inl less)) =
    let shared : MayBoth e d = subst (λ (v : Defined). MayBoth v d) at_e (subst (λ (v : Defined). MayBoth (get_or ds j e) v) (sym same_i ∙ at_d) (pairs j i e less li)) in
    absurd (true≢false (sym (shared (sym names)) ∙ either_way e.role d.role ∙ apart))
by_order ds d e pairs i j li lj at_d at_e same_i same_j names apart (inr (inr same)) =
    sym at_d ∙ ap (λ (k : ℕ). get_or ds k d) same ∙ same_j ∙ at_e

any_default : {X : Type 0} (xs : List X) (k : ℕ) (x y : X) → k < length xs → get_or xs k x ≡ get_or xs k y
any_default [] k x y lt = absurd (omega arith)
any_default (z ∷ xs) zero x y lt = refl
any_default (z ∷ xs) (suc k) x y lt = any_default xs k x y (omega arith)

order : (i j : ℕ) → (i < j) ⊎ ((j < i) ⊎ (i ≡ j))
order zero zero = inr (inr refl)
order zero (suc j) = inl (omega arith)
order (suc i) zero = inr (inl (omega arith))
order (suc i) (suc j) = more (order i j)
  where
    more : (i < j) ⊎ ((j < i) ⊎ (i ≡ j)) → (suc i < suc j) ⊎ ((suc j < suc i) ⊎ (suc i ≡ suc j))
    more (inl less) = inl (omega arith)
    more (inr (inl less)) = inr (inl (omega arith))
    more (inr (inr same)) = inr (inr (ap suc same))

pub defines_once : (us : List Source) → Links us → DefinesOnce us
defines_once us links = λ d e c f names apart.
    by_order (definitions us) d e ((no_breach us).0 links).distinct c.0 f.0 c.1 f.1 c.2 f.2
    (any_default (definitions us) c.0 d e c.1) (any_default (definitions us) f.0 d e f.1) names apart (order c.0 f.0)
