-- Items one after the other: what is read is spelled so, and what is spelled so is read.
use Rattle.std.proofs.Common.{◌≡◌, ℕ, zero, suc, ◌-◌, Bool, true, cond, List, [], ◌∷◌, ◌++◌, length, Option, Some, Ok, Err, refl, sym, ap, subst, ◌∙◌, append_assoc}
use Rattle.std.specs.List.{AllByRecursion}
use Rattle.value_bytes.specs.declared.fault.ValueError.TheVariants.{NotCanonical}
use Rattle.value_bytes.specs.Reading.{◌>>=◌, Reads, item_at, items_at}
use Rattle.value_bytes.proofs.Fields.{IsBytes, bind_ok, guard_held, ok_is, Takes, Takes-then}

-- each may follow the one before it
abbrev pub Follow : {X : Type 0} → (Option X → X → Bool) → Option X → List X → Type 0
Follow follows last [] = Unit {0}
Follow follows last (x ∷ xs) = (follows last x ≡ true) × Follow follows (Some x) xs

-- their spellings one after the other
abbrev pub joined : {X : Type 0} → (X → List ℕ) → List X → List ℕ
joined spell [] = []
joined spell (x ∷ xs) = spell x ++ joined spell xs

-- what is read is spelled so, and is such an item
abbrev pub Spells : {X : Type 0} → (List ℕ → Reads X) → (X → List ℕ) → (X → Type 0) → Type 0
Spells {X} read spell P = (bytes : List ℕ) (x : X × List ℕ) → IsBytes bytes → read bytes ≡ Ok x → Takes bytes (spell x.0) x.1 × P x.0

-- such an item that is spelled so is read
abbrev pub Respells : {X : Type 0} → (List ℕ → Reads X) → (X → List ℕ) → (X → Type 0) → Type 0
Respells {X} read spell P = (x : X) (rest : List ℕ) → P x → read (spell x ++ rest) ≡ Ok (x, rest)

pub record AreRead {X : Type 0} (spell : X → List ℕ) (P : X → Type 0) (follows : Option X → X → Bool) (n : ℕ) (last : Option X) (bytes : List ℕ) (x : List X × List ℕ) : Type 0 where
  pub takes : Takes bytes (joined spell x.0) x.1
  pub many : length x.0 ≡ n
  pub each : AllByRecursion P x.0
  pub follow : Follow follows last x.0

pub items_take : {X : Type 0} (read : List ℕ → Reads X) (spell : X → List ℕ) (P : X → Type 0) (follows : Option X → X → Bool) (end : ℕ) → Spells read spell P →
    (n : ℕ) (last : Option X) (bytes : List ℕ) (x : List X × List ℕ) → IsBytes bytes → items_at read follows end n last bytes ≡ Ok x → AreRead spell P follows n last bytes x
unfolding items_at item_at
items_take {X} read spell P follows end one zero last bytes x fits e =
    subst (λ (y : List X × List ℕ). AreRead spell P follows 0 last bytes y) (ok_is ([], bytes) x e)
    (record { takes = record { parts = refl; rest_fits = fits }; many = refl; each = tt; follow = tt })
items_take {X} read spell P follows end one (suc n) last bytes x fits e =
    let a = bind_ok (item_at read follows end last bytes) (λ first. items_at read follows end n (Some first.0) first.1 >>= λ others. Ok (first.0 ∷ others.0, others.1)) x e in
    let i = bind_ok (read bytes) (λ item. cond (follows last item.0) (Ok item) (Err (NotCanonical (end - length bytes)))) a.0 a.1 in
    let g = guard_held (follows last i.0.0) (NotCanonical (end - length bytes)) i.0 a.0 i.2 in
    let read-is : read bytes ≡ Ok a.0 = i.1 ∙ ap (λ (y : X × List ℕ). Ok y) g.1 in
    let stands : follows last a.0.0 ≡ true = ap (λ (y : X × List ℕ). follows last y.0) (sym g.1) ∙ g.0 in
    let b = bind_ok (items_at read follows end n (Some a.0.0) a.0.1) (λ others. Ok (a.0.0 ∷ others.0, others.1)) x a.2 in
    let first = one bytes a.0 fits read-is in
    let second = items_take read spell P follows end one n (Some a.0.0) a.0.1 b.0 first.0.rest_fits b.1 in
    let both = Takes-then bytes (spell a.0.0) a.0.1 (joined spell b.0.0) b.0.1 first.0 second.takes in
    let made : List X × List ℕ = (a.0.0 ∷ b.0.0, b.0.1) in
    subst (λ (y : List X × List ℕ). AreRead spell P follows (suc n) last bytes y) (ok_is made x b.2)
    (record { takes = both; many = ap suc second.many; each = (first.1, second.each); follow = (stands, second.follow) })

pub items_again : {X : Type 0} (read : List ℕ → Reads X) (spell : X → List ℕ) (P : X → Type 0) (follows : Option X → X → Bool) (end : ℕ) → Respells read spell P →
    (xs : List X) (last : Option X) (rest : List ℕ) → AllByRecursion P xs → Follow follows last xs → items_at read follows end (length xs) last (joined spell xs ++ rest) ≡ Ok (xs, rest)
unfolding items_at item_at
items_again read spell P follows end again [] last rest each follow = refl
items_again read spell P follows end again (x ∷ xs) last rest each follow =
    let regrouped : joined spell (x ∷ xs) ++ rest ≡ spell x ++ (joined spell xs ++ rest) = append_assoc (spell x) (joined spell xs) rest in
    ap (items_at read follows end (suc (length xs)) last) regrouped
    ∙ rw (again x (joined spell xs ++ rest) each.0, follow.0, items_again read spell P follows end again xs (Some x) rest each.1 follow.1) refl
