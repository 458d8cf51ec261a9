-- The values of constants, one more of them known; and that those that stay unknown go round.
use Rattle.std.proofs.Common.{◌≡◌, ℕ, zero, suc, ◌<◌, ◌≤◌, ◌+◌, Bool, true, false, cond, List, [], ◌∷◌, length, map, set, replicate, Option, Some, None, ◌⊎◌, inl, inr, refl, sym, ap, ◌∙◌, subst, arith}
use Rattle.std.specs.Prelude.{slice_get, is_some, unwrap_or}
use Rattle.std.proofs.lemmas.Bool.{cases_eq, true≢false}
use Rattle.std.proofs.lemmas.List.{length-set, length-map, length-replicate}
use Rattle.link_rules.specs.Units.{Source}
use Rattle.type_rules.specs.declared.names.Chain.{Chain}
use Rattle.type_rules.specs.declared.names.Chain.TheVariants.{EndsAt, GoesRound, Fails}
use Rattle.type_rules.specs.TopLevel.{top_names}
use Rattle.type_rules.specs.Constants.{chain_from, chain_within}
use Rattle.type_forms.specs.declared.chains.Link.{Link}
use Rattle.type_forms.specs.declared.chains.Link.TheVariants as link
use Rattle.type_forms.specs.Chains.{AreChains, AreRight, IsLinkOf, IsNextInside, IsStuck, follow, known, known_of, or_round, unknown_count}

abbrev Memo : Type 0
Memo = List (Option Chain)

some_is : (c d : Chain) → Some c ≡ Some d → c ≡ d
some_is c d e = ap (λ (o : Option Chain). unwrap_or o c) e

abbrev is_some_chain : Option Chain → Bool
is_some_chain None = false
is_some_chain (Some c) = true

some_none : (c : Chain) → Some c ≡ None → ⊥
some_none c e = true≢false (ap is_some_chain e)

pub none_is : (o : Option Chain) → is_some o ≡ false → o ≡ None
none_is None e = refl
none_is (Some c) e = absurd (true≢false e)

-- ---- one more

counted : (x : Option Chain) (memo : Memo) → unknown_count (x ∷ memo) ≡ cond (is_some x) 0 1 + unknown_count memo
counted x memo = refl

at_most_one : (b : Bool) → cond b 0 1 ≤ 1
at_most_one true = omega arith
at_most_one false = omega arith

at_most_all : (memo : Memo) → unknown_count memo ≤ length memo
at_most_all [] = omega arith
at_most_all (x ∷ memo) = let rest = at_most_all memo in let one = at_most_one (is_some x) in let all = counted x memo in omega (arith, rest, one, all)

pub one_fewer : (memo : Memo) (i : ℕ) (c : Chain) → i < length memo → known memo i ≡ None → unknown_count (set memo i (Some c)) + 1 ≡ unknown_count memo
one_fewer [] i c lt e = absurd (omega (arith, lt))
one_fewer (None ∷ memo) zero c lt e = let was = counted None memo in let now = counted (Some c) memo in omega (arith, was, now)
one_fewer (Some d ∷ memo) zero c lt e = absurd (some_none d e)
one_fewer (x ∷ memo) (suc i) c lt e =
    let rest = one_fewer memo i c (omega (arith, lt)) e in
    let was = counted x memo in
    let now = counted x (set memo i (Some c)) in
    omega (arith, rest, was, now)

pub known_set_same : (memo : Memo) (i : ℕ) (c : Chain) → i < length memo → known (set memo i (Some c)) i ≡ Some c
known_set_same [] i c lt = absurd (omega (arith, lt))
known_set_same (x ∷ memo) zero c lt = refl
known_set_same (x ∷ memo) (suc i) c lt = known_set_same memo i c (omega (arith, lt))

pub known_set_other : (memo : Memo) (i j : ℕ) (c : Chain) → (i ≡ j → ⊥) → known (set memo i (Some c)) j ≡ known memo j
known_set_other [] i j c apart = refl
known_set_other (x ∷ memo) zero zero c apart = absurd (apart refl)
known_set_other (x ∷ memo) zero (suc j) c apart = refl
known_set_other (x ∷ memo) (suc i) zero c apart = refl
known_set_other (x ∷ memo) (suc i) (suc j) c apart = known_set_other memo i j c (λ e. apart (ap suc e))

-- the chain of a name whose link leads to what is known
by_link : (us : List Source) (memo : Memo) (i k : ℕ) (l : Link) (c : Chain) → AreRight us memo → IsLinkOf us i l → known_of memo l ≡ Some c →
    length memo ≤ k + unknown_count memo → chain_within us (suc k) i ≡ c
by_link us memo i k (link.Ends v) c right is e le = is.follows (chain_within us k) ∙ some_is (EndsAt v) c e
by_link us memo i k (link.Next j) c right is e le = is.follows (chain_within us k) ∙ right.right j k c e le
by_link us memo i k link.Nowhere c right is e le = is.follows (chain_within us k) ∙ some_is Fails c e

new_one : (us : List Source) (memo : Memo) (i : ℕ) (l : Link) (c d : Chain) (k : ℕ) → AreRight us memo → IsLinkOf us i l → known memo i ≡ None → i < length memo →
    known_of memo l ≡ Some c → c ≡ d → length (set memo i (Some c)) ≤ k + unknown_count (set memo i (Some c)) → chain_within us k i ≡ d
new_one us memo i l c d zero right is none lt e same le =
    let fewer = one_fewer memo i c lt none in
    let long = length-set memo i (Some c) in
    let most = at_most_all memo in
    absurd (omega (arith, fewer, long, most, le))
new_one us memo i l c d (suc k) right is none lt e same le =
    let fewer = one_fewer memo i c lt none in
    let long = length-set memo i (Some c) in
    by_link us memo i k l c right is e (omega (arith, fewer, long, le)) ∙ same

pub right_more : (us : List Source) (memo : Memo) (i : ℕ) (l : Link) (c : Chain) → AreRight us memo → IsLinkOf us i l → known memo i ≡ None → i < length memo →
    known_of memo l ≡ Some c → AreRight us (set memo i (Some c))
right_more us memo i l c right is none lt e = record {
  long = length-set memo i (Some c) ∙ right.long;
  right = λ j k d known_ le. by_place j k d known_ le (cases_eq i j);
}
  where
    by_place : (j k : ℕ) (d : Chain) → known (set memo i (Some c)) j ≡ Some d → length (set memo i (Some c)) ≤ k + unknown_count (set memo i (Some c)) →
        ((i ≡ j) ⊎ (i ≡ j → ⊥)) → chain_within us k j ≡ d
    by_place j k d h le (inl same) =
        subst (λ (v : ℕ). chain_within us k v ≡ d) same
        (new_one us memo i l c d k right is none lt e
        (some_is c d (sym (known_set_same memo i c lt) ∙ ap (λ (v : ℕ). known (set memo i (Some c)) v) same ∙ h)) le)
    by_place j k d h le (inr apart) =
        let fewer = one_fewer memo i c lt none in
        let long = length-set memo i (Some c) in
        right.right j k d (sym (known_set_other memo i j c apart) ∙ h) (omega (arith, fewer, long, le))

-- ---- those that stay unknown

round_on : (us : List Source) (memo : Memo) (k : ℕ) (l : Link) → length memo ≡ length (top_names us) → IsNextInside us l → known_of memo l ≡ None →
    ((j : ℕ) → j < length memo → known memo j ≡ None → chain_within us k j ≡ GoesRound) → follow (chain_within us k) l ≡ GoesRound
round_on us memo k (link.Ends v) long inside e rest = absurd (some_none (EndsAt v) e)
round_on us memo k (link.Next j) long inside e rest = rest j (omega (arith, inside, long)) e
round_on us memo k link.Nowhere long inside e rest = absurd (some_none Fails e)

pub goes_round : (us : List Source) (memo : Memo) (k i : ℕ) → length memo ≡ length (top_names us) → ((j : ℕ) → j < length memo → IsStuck us memo j) →
    i < length memo → known memo i ≡ None → chain_within us k i ≡ GoesRound
goes_round us memo zero i long stuck lt none = refl
goes_round us memo (suc k) i long stuck lt none =
    let s = stuck i lt none in
    s.1.follows (chain_within us k)
    ∙ round_on us memo k s.0 long s.1.inside s.2 (λ j further e. goes_round us memo k j long stuck further e)

-- ---- all of them

known_of_none : (n i : ℕ) → known (replicate n None) i ≡ None
known_of_none zero i = refl
known_of_none (suc n) zero = refl
known_of_none (suc n) (suc i) = known_of_none n i

pub none_right : (us : List Source) (n : ℕ) → n ≡ length (top_names us) → AreRight us (replicate n None)
none_right us n long = record {
  long = length-replicate n None ∙ long;
  right = λ i k c e le. absurd (some_none c (sym e ∙ known_of_none n i));
}

inside : (memo : Memo) (i : ℕ) → i < length memo → slice_get (map or_round memo) i ≡ Some (or_round (known memo i))
inside [] i lt = absurd (omega (arith, lt))
inside (x ∷ memo) zero lt = refl
inside (x ∷ memo) (suc i) lt = inside memo i (omega (arith, lt))

pub are_chains : (us : List Source) (memo : Memo) → AreRight us memo → ((j : ℕ) → j < length memo → IsStuck us memo j) → AreChains us (map or_round memo)
are_chains us memo right stuck = record {
  long = length-map memo or_round ∙ right.long;
  each = λ i lt. let own = length-map memo or_round in one i (omega (arith, lt, own));
}
  where
    by_known : (i : ℕ) (o : Option Chain) → i < length memo → known memo i ≡ o → or_round o ≡ chain_from us i
    by_known i None lt e = sym (goes_round us memo (length (top_names us)) i right.long stuck lt e)
    by_known i (Some c) lt e = let long = right.long in sym (right.right i (length (top_names us)) c e (omega (arith, long)))

    one : (i : ℕ) → i < length memo → slice_get (map or_round memo) i ≡ Some (chain_from us i)
    one i lt = inside memo i lt ∙ ap Some (by_known i (known memo i) lt refl)
