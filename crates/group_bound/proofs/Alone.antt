-- Of what is asked there is one message at most for each process: so no more are asked than there are processes.
use Rattle.std.proofs.Common.{◌≡◌, ℕ, zero, suc, ◌+◌, ◌*◌, ◌≤◌, ◌<◌, ◌==◌, not, inl, inr, ⊎_elim, Bool, true, false, List, [], ◌∷◌, length, refl, sym, ap, ◌∙◌, arith, if◌then◌else◌}
use Rattle.std.proofs.lemmas.Bool.{cases_lt, eqb-false}
use Rattle.group_rules.specs.Sets.{In}
use Rattle.group_rules.specs.Messages.{Group, keep_if}
use Rattle.group_rules.specs.Member.{Waiting}
use Rattle.group_bound.specs.Flow.{flow, opening_flow}
use Rattle.group_bound.specs.Enough.{AskedLaw, EnoughLaw}
use Rattle.group_bound.proofs.Views.{tally}
use Rattle.group_bound.proofs.Flows.{asked_of}
use Rattle.group_bound.proofs.Enough.{counted, fine, others_of}

-- those that aren't of this process
abbrev apart : {M : Type 0} → Group M → ℕ → List (Waiting M) → List (Waiting M)
apart g i l = keep_if (λ a. not (g.process a.message == i)) l

split : {M : Type 0} (g : Group M) (i : ℕ) (l : List (Waiting M)) → length l ≡ tally g i l + length (apart g i l)
split g i [] = refl
split {M} g i (a ∷ l) = let n = split g i l in go (g.process a.message == i) n
  where
    go : (b : Bool) → length l ≡ tally g i l + length (apart g i l) →
        suc (length l) ≡ (if b then suc (tally g i l) else tally g i l) + length (if not b then a ∷ apart g i l else apart g i l)
    go true n = omega arith
    go false n = omega arith

fewer : {M : Type 0} (g : Group M) (i j : ℕ) (l : List (Waiting M)) → tally g j (apart g i l) ≤ tally g j l
fewer g i j [] = omega arith
fewer {M} g i j (a ∷ l) = let n = fewer g i j l in go (g.process a.message == i) (g.process a.message == j) refl n
  where
    go : (b c : Bool) → (g.process a.message == j) ≡ c → tally g j (apart g i l) ≤ tally g j l →
        tally g j (if not b then a ∷ apart g i l else apart g i l) ≤ (if c then suc (tally g j l) else tally g j l)
    go true true e n = omega arith
    go true false e n = n
    go false true e n = rw e (omega arith)
    go false false e n = rw e n

in_apart : {M : Type 0} (g : Group M) (i : ℕ) (l : List (Waiting M)) (a : Waiting M) → In a (apart g i l) → In a l × (g.process a.message ≡ i → ⊥)
in_apart g i [] a h = absurd h
in_apart {M} g i (b ∷ l) a h = go (g.process b.message == i) refl (λ k. in_apart g i l a k) h
  where
    go : (c : Bool) → (g.process b.message == i) ≡ c → (In a (apart g i l) → In a l × (g.process a.message ≡ i → ⊥)) →
        In a (if not c then b ∷ apart g i l else apart g i l) → In a (b ∷ l) × (g.process a.message ≡ i → ⊥)
    go true e rest h = let r = rest h in (inr r.0, r.1)
    go false e rest (inl same) = (inl same, λ f. eqb-false (g.process b.message) i e (ap (λ (x : Waiting M). g.process x.message) (sym same) ∙ f))
    go false e rest (inr h) = let r = rest h in (inr r.0, r.1)

pub few_alone : {M : Type 0} (g : Group M) (p : ℕ) (l : List (Waiting M)) → ((i : ℕ) → tally g i l ≤ 1) → ((a : Waiting M) → In a l → g.process a.message < p) → length l ≤ p
few_alone g zero [] alone low = omega arith
few_alone g zero (a ∷ l) alone low = let n = low a (inl refl) in absurd (omega (arith, n))
few_alone {M} g (suc p) l alone low =
    let rest = few_alone g p (apart g p l) (λ i. let n = fewer g p i l in let o = alone i in omega arith)
    (λ a h. let r = in_apart g p l a h in let n = low a r.0 in below (g.process a.message) n r.1) in
    let s = split g p l in let o = alone p in omega (arith, rest, s, o)
  where
    below : (n : ℕ) → n < suc p → (n ≡ p → ⊥) → n < p
    below n lt ne = ⊎_elim (λ (o : n < p). o) (λ (o : p ≤ n). absurd (ne (omega arith))) (cases_lt n p)

pub asked : (M : Type 0) → AskedLaw M
asked M g small moves p low =
    let f = flow g opening_flow moves in
    let h = fine g moves small in
    let few = few_alone g p (asked_of (others_of f) f.queue) h.steady.leading.alone (λ a i. low (g.process a.message) a.message (h.owes.known a i)) in
    let total = h.total_is in omega (arith, few, total)

times : (n s l : ℕ) → s ≤ l + (l + 1) → n * s ≤ n * (l + (l + 1))
times zero s l le = omega arith
times (suc n) s l le = let i = times n s l le in grind arith

pub enough : (M : Type 0) → EnoughLaw M
enough M g small moves low =
    let f = flow g opening_flow moves in
    let l : ℕ = length (f.world.members 0).log in
    let a = asked M g small moves (l + 1) low in
    let c = counted M g small moves in
    let t = times g.nodes f.asked l a in
    whole g.nodes f.asked l f.delivered c t
  where
    whole : (n s l d : ℕ) → d ≤ n * s + 4 * (n * l) → n * s ≤ n * (l + (l + 1)) → d ≤ 6 * (n * (l + 1))
    whole n s l d c t = grind arith
