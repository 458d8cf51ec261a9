-- Items up to a closing byte: what is read is spelled so, and what is spelled so is read.
use Rattle.std.proofs.Common.{◌≡◌, ℕ, zero, suc, ◌^◌, ◌<◌, ◌≤◌, Bool, true, false, cond, eqb, List, [], ◌∷◌, ◌++◌, length, drop, Option, Some, None, sym, ap, subst, ◌∙◌, append_assoc, arith, inl, inr}
use Rattle.std.proofs.lemmas.Bool.{eqb-true}
use Rattle.std.proofs.lemmas.List.{length-append}
use Rattle.value_texts.specs.Reading.{◌>>=◌, Reads, begins, until_at}
use Rattle.value_texts.proofs.Steps.{bind_some, bound, some_is, chosen, no_is}
use Rattle.value_texts.proofs.Letters.{itself}

-- a text of which each list fits
abbrev pub Fits : List ℕ → Type 0
Fits text = length text < 2 ^ 32

-- their spellings one after the other, each behind the one before it
abbrev pub joined : {X : Type 0} → (Option X → X → List ℕ) → Option X → List X → List ℕ
joined spell last [] = []
joined spell last (x ∷ xs) = spell last x ++ joined spell (Some x) xs

-- each may stand behind the one before it
abbrev pub Are : {X : Type 0} → (Option X → X → Type 0) → Option X → List X → Type 0
Are P last [] = Unit {0}
Are P last (x ∷ xs) = P last x × Are P (Some x) xs

-- an item is read as it is spelled
pub record IsReader {X : Type 0} (item : Option X → List ℕ → Reads X) (spell : Option X → X → List ℕ) (P : Option X → X → Type 0) (closing : ℕ) : Type 0 where
  pub takes : (last : Option X) (text : List ℕ) (x : X × List ℕ) → Fits text → item last text ≡ Some x → (text ≡ spell last x.0 ++ x.1) × P last x.0
  pub again : (last : Option X) (x : X) (xs : List X) (rest : List ℕ) → P last x → item last (spell last x ++ (joined spell (Some x) xs ++ closing ∷ rest)) ≡ Some (x, joined spell (Some x) xs ++ closing ∷ rest)
  pub opens : (last : Option X) (x : X) (rest : List ℕ) → P last x → begins closing (spell last x ++ rest) ≡ false

pub closed : (closing : ℕ) (text : List ℕ) → begins closing text ≡ true → text ≡ closing ∷ drop 1 text
closed closing [] h = absurd cc
closed closing (c ∷ text) h = ap (λ (b : ℕ). b ∷ text) (eqb-true c closing h)

rest_fits : (front rest : List ℕ) → Fits (front ++ rest) → Fits rest
rest_fits front rest h = omega (arith, length-append front rest, h)

abbrev AreTaken : {X : Type 0} → (Option X → X → List ℕ) → (Option X → X → Type 0) → ℕ → Option X → List ℕ → List X × List ℕ → Type 0
AreTaken spell P closing last text x = (text ≡ joined spell last x.0 ++ closing ∷ x.1) × Are P last x.0

pub until_takes : {X : Type 0} (item : Option X → List ℕ → Reads X) (spell : Option X → X → List ℕ) (P : Option X → X → Type 0) (closing : ℕ) → IsReader item spell P closing →
    (turns : ℕ) (last : Option X) (text : List ℕ) (x : List X × List ℕ) → Fits text → until_at item closing turns last text ≡ Some x → AreTaken spell P closing last text x
unfolding until_at
until_takes item spell P closing reader zero last text x fits e = absurd cc
until_takes {X} item spell P closing reader (suc turns) last text x fits e =
    elim (chosen (begins closing text) _ _ _ e) [
      | inl d ↦ subst (λ (y : List X × List ℕ). AreTaken spell P closing last text y) (some_is ([], drop 1 text) x d.1) (closed closing text d.0, tt)
      | inr d ↦
          let a = bind_some (item last text) (λ first. until_at item closing turns (Some first.0) first.1 >>= λ others. Some (first.0 ∷ others.0, others.1)) x d.1 in
          let b = bind_some (until_at item closing turns (Some a.0.0) a.0.1) (λ others. Some (a.0.0 ∷ others.0, others.1)) x a.2 in
          let t = reader.takes last text a.0 fits a.1 in
          let u = until_takes item spell P closing reader turns (Some a.0.0) a.0.1 b.0 (rest_fits (spell last a.0.0) a.0.1 (subst Fits t.0 fits)) b.1 in
          let whole : text ≡ (spell last a.0.0 ++ joined spell (Some a.0.0) b.0.0) ++ closing ∷ b.0.1 =
          t.0 ∙ ap (λ (s : List ℕ). spell last a.0.0 ++ s) u.0 ∙ sym (append_assoc (spell last a.0.0) (joined spell (Some a.0.0) b.0.0) (closing ∷ b.0.1)) in
          subst (λ (y : List X × List ℕ). AreTaken spell P closing last text y) (some_is (a.0.0 ∷ b.0.0, b.0.1) x b.2) (whole, (t.1, u.1))
    ]

pub until_again : {X : Type 0} (item : Option X → List ℕ → Reads X) (spell : Option X → X → List ℕ) (P : Option X → X → Type 0) (closing : ℕ) → IsReader item spell P closing →
    (xs : List X) (turns : ℕ) (last : Option X) (rest : List ℕ) → length xs < turns → Are P last xs → until_at item closing turns last (joined spell last xs ++ closing ∷ rest) ≡ Some (xs, rest)
unfolding until_at
until_again item spell P closing reader xs zero last rest lt are = absurd (omega (arith, lt))
until_again {X} item spell P closing reader [] (suc turns) last rest lt are =
    ap (λ (b : Bool). cond b (Some ([], rest)) (item last (closing ∷ rest) >>= λ first. until_at item closing turns (Some first.0) first.1 >>= λ others. Some (first.0 ∷ others.0, others.1))) (itself closing)
until_again {X} item spell P closing reader (x ∷ xs) (suc turns) last rest lt are =
    let behind = joined spell (Some x) xs ++ closing ∷ rest in
    let text = spell last x ++ behind in
    let next : Reads (List X) = item last text >>= λ first. until_at item closing turns (Some first.0) first.1 >>= λ others. Some (first.0 ∷ others.0, others.1) in
    ap (until_at item closing (suc turns) last) (append_assoc (spell last x) (joined spell (Some x) xs) (closing ∷ rest))
    ∙ no_is (begins closing text) (Some ([], drop 1 text)) next (reader.opens last x behind are.0)
    ∙ bound (item last text) (λ first. until_at item closing turns (Some first.0) first.1 >>= λ others. Some (first.0 ∷ others.0, others.1)) (x, behind) (reader.again last x xs rest are.0)
    ∙ bound (until_at item closing turns (Some x) behind) (λ others. Some (x ∷ others.0, others.1)) (xs, rest) (until_again item spell P closing reader xs turns (Some x) rest (omega (arith, lt)) are.1)

-- no item is empty, so there are no more items than bytes
some_bytes : (closing : ℕ) (text : List ℕ) → begins closing (text ++ closing ∷ []) ≡ false → 0 < length text
some_bytes closing [] h = absurd (both_ways (eqb closing closing) (itself closing) h)
  where
    both_ways : (b : Bool) → b ≡ true → b ≡ false → ⊥
    both_ways b p q = cc
some_bytes closing (c ∷ text) h = omega arith

pub few : {X : Type 0} (item : Option X → List ℕ → Reads X) (spell : Option X → X → List ℕ) (P : Option X → X → Type 0) (closing : ℕ) → IsReader item spell P closing →
    (xs : List X) (last : Option X) → Are P last xs → length xs ≤ length (joined spell last xs)
few item spell P closing reader [] last are = omega arith
few item spell P closing reader (x ∷ xs) last are =
    omega (arith, length-append (spell last x) (joined spell (Some x) xs), some_bytes closing (spell last x) (reader.opens last x (closing ∷ []) are.0), few item spell P closing reader xs (Some x) are.1)

-- in as many turns as there are bytes
pub until_closed : {X : Type 0} (item : Option X → List ℕ → Reads X) (spell : Option X → X → List ℕ) (P : Option X → X → Type 0) (closing : ℕ) → IsReader item spell P closing →
    (xs : List X) (rest : List ℕ) → Are P None xs → until_at item closing (length (joined spell None xs ++ closing ∷ rest)) None (joined spell None xs ++ closing ∷ rest) ≡ Some (xs, rest)
until_closed item spell P closing reader xs rest are =
    until_again item spell P closing reader xs (length (joined spell None xs ++ closing ∷ rest)) None rest
    (omega (arith, length-append (joined spell None xs) (closing ∷ rest), few item spell P closing reader xs None are)) are
