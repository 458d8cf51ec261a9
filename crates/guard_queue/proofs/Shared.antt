-- A map of shared objects shows what it shares.
use Rattle.std.proofs.Common.{◌≡◌, Bool, true, false, cond, List, [], ◌∷◌, Some, ap, ◌∙◌, refl, map}
use Rattle.std.specs.Prelude.{option_map}
use Rattle.std.specs.List.{AllZip}
use Rattle.std.specs.declared.cmp.Ordering.{Ordering}
use Rattle.std.specs.declared.cmp.Ordering.TheVariants.{Less, Equal, Greater}
use Rattle.std.specs.Ordering.{match_ordering}
use Rattle.std.specs.Map.{lookup}
use Rattle.std.specs.BTreeMap.{insert_entry}

module _ {K A X : Type 0} (f : A → X) where
  abbrev pub shown : List (K × A) → List (K × X)
  shown es = map (λ e. (e.0, f e.1)) es

  -- what is found
  pub lookup_shown : (t : K → Bool) (es : List (K × A)) → lookup t (shown es) ≡ option_map f (lookup t es)
  lookup_shown t [] = refl
  lookup_shown t (e ∷ es) =
      elim (t e.0) as (λ b. cond b (Some (f e.1)) (lookup t (shown es)) ≡ option_map f (cond b (Some e.1) (lookup t es))) [
        | true ↦ refl
        | false ↦ lookup_shown t es
      ]

  -- what is put in
  pub insert_shown : (cmp : K → K → Ordering) (es : List (K × A)) (k : K) (a : A) → shown (insert_entry cmp es k a) ≡ insert_entry cmp (shown es) k (f a)
  insert_shown cmp [] k a = refl
  insert_shown cmp (e ∷ es) k a =
      elim (cmp k e.0) as (λ o. shown (match_ordering o ((k, a) ∷ e ∷ es) ((e.0, a) ∷ es) (e ∷ insert_entry cmp es k a)) ≡ match_ordering o ((k, f a) ∷ (e.0, f e.1) ∷ shown es) ((e.0, f a) ∷ shown es) ((e.0, f e.1) ∷ insert_entry cmp (shown es) k (f a))) [
        | Less ↦ refl
        | Equal ↦ refl
        | Greater ↦ ap (λ r. (e.0, f e.1) ∷ r) (insert_shown cmp es k a)
      ]

-- a clone, where equal keys and equal shared objects are clones
pub clone_shown : {K A X : Type 0} (f : A → X) (es fs : List (K × A)) → AllZip (λ p q. (q.0 ≡ p.0) × (f q.1 ≡ f p.1)) es fs → shown f fs ≡ shown f es
clone_shown f [] [] h = refl
clone_shown f [] (e ∷ es) h = absurd h
clone_shown f (e ∷ es) [] h = absurd h
clone_shown f (e ∷ es) (d ∷ ds) h = let keys = h.0.0 in let values = h.0.1 in let first : (d.0, f d.1) ≡ (e.0, f e.1) = cc (keys, values) in ap (λ x. x ∷ shown f ds) first ∙ ap (λ r. (e.0, f e.1) ∷ r) (clone_shown f es ds h.1)
