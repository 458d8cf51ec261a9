-- A code of values by tokens in postfix order, read back by two stacks.
use Rattle.std.specs.Prelude.{◌≡◌, ℕ, ℤ, zero, suc, Bool, List, [], ◌∷◌, ◌⊎◌, refl}
use Rattle.std.proofs.Common.{inl, inr, ap, ◌∙◌}
use Rattle.std.specs.Coded.{Coded, code_by, coded×, coded⊎, coded_list, coded_ℕ, coded_bool, coded_ℤ}
use Rattle.value_core.specs.Datum.{Datum, Data}
use Rattle.value_core.specs.Datum as datum

-- a value that holds no other
abbrev pub Leaf : Type 0
Leaf = ℤ ⊎ (Bool ⊎ (ℕ ⊎ (ℕ ⊎ (List ℕ ⊎ (ℕ × ℕ)))))

-- a leaf, or what is made of the values so far
abbrev pub Token : Type 0
Token = Leaf ⊎ ℕ

abbrev pub leaf : Leaf → Datum
leaf (inl z) = datum.int z
leaf (inr (inl b)) = datum.truth b
leaf (inr (inr (inl c))) = datum.char c
leaf (inr (inr (inr (inl n)))) = datum.enumerated n
leaf (inr (inr (inr (inr (inl t))))) = datum.text t
leaf (inr (inr (inr (inr (inr o))))) = datum.object o.0 o.1

-- in postfix order, before these
abbrev mutual
  pub written : Datum → List Token → List Token
  written (datum.int z) ts = inl (inl z) ∷ ts
  written (datum.truth b) ts = inl (inr (inl b)) ∷ ts
  written (datum.char c) ts = inl (inr (inr (inl c))) ∷ ts
  written (datum.enumerated n) ts = inl (inr (inr (inr (inl n)))) ∷ ts
  written (datum.text t) ts = inl (inr (inr (inr (inr (inl t))))) ∷ ts
  written (datum.array w) ts = all_written w (inr 2 ∷ ts)
  written (datum.fields w) ts = all_written w (inr 3 ∷ ts)
  written (datum.set w) ts = all_written w (inr 4 ∷ ts)
  written (datum.bag w) ts = all_written w (inr 5 ∷ ts)
  written (datum.object p n) ts = inl (inr (inr (inr (inr (inr (p, n)))))) ∷ ts

  pub all_written : Data → List Token → List Token
  all_written datum.none ts = inr 0 ∷ ts
  all_written (datum.more v w) ts = written v (all_written w (inr 1 ∷ ts))

abbrev pub Stacks : Type 0
Stacks = List Datum × List Data

abbrev pub more_on : List Datum → List Data → Stacks
more_on [] ws = ([], ws)
more_on (v ∷ vs) [] = (v ∷ vs, [])
more_on (v ∷ vs) (w ∷ ws) = (vs, datum.more v w ∷ ws)

abbrev pub made_of : (Data → Datum) → List Datum → List Data → Stacks
made_of make vs [] = (vs, [])
made_of make vs (w ∷ ws) = (make w ∷ vs, ws)

abbrev pub done : ℕ → List Datum → List Data → Stacks
done zero vs ws = (vs, datum.none ∷ ws)
done (suc zero) vs ws = more_on vs ws
done (suc (suc zero)) vs ws = made_of datum.array vs ws
done (suc (suc (suc zero))) vs ws = made_of datum.fields vs ws
done (suc (suc (suc (suc zero)))) vs ws = made_of datum.set vs ws
done (suc (suc (suc (suc (suc n))))) vs ws = made_of datum.bag vs ws

abbrev pub stepped : Token → List Datum → List Data → Stacks
stepped (inl l) vs ws = (leaf l ∷ vs, ws)
stepped (inr n) vs ws = done n vs ws

abbrev pub read : List Token → List Datum → List Data → Stacks
read [] vs ws = (vs, ws)
read (t ∷ ts) vs ws = let s = stepped t vs ws in read ts s.0 s.1

mutual
  pub read_written : (v : Datum) (ts : List Token) (vs : List Datum) (ws : List Data) → read (written v ts) vs ws ≡ read ts (v ∷ vs) ws
  read_written (datum.int z) ts vs ws = refl
  read_written (datum.truth b) ts vs ws = refl
  read_written (datum.char c) ts vs ws = refl
  read_written (datum.enumerated n) ts vs ws = refl
  read_written (datum.text t) ts vs ws = refl
  read_written (datum.array w) ts vs ws = read_all w (inr 2 ∷ ts) vs ws
  read_written (datum.fields w) ts vs ws = read_all w (inr 3 ∷ ts) vs ws
  read_written (datum.set w) ts vs ws = read_all w (inr 4 ∷ ts) vs ws
  read_written (datum.bag w) ts vs ws = read_all w (inr 5 ∷ ts) vs ws
  read_written (datum.object p n) ts vs ws = refl

  pub read_all : (w : Data) (ts : List Token) (vs : List Datum) (ws : List Data) → read (all_written w ts) vs ws ≡ read ts vs (w ∷ ws)
  read_all datum.none ts vs ws = refl
  read_all (datum.more v w) ts vs ws = read_written v (all_written w (inr 1 ∷ ts)) vs ws ∙ read_all w (inr 1 ∷ ts) (v ∷ vs) ws

abbrev pub first_of_all : List Data → Data
first_of_all [] = datum.none
first_of_all (w ∷ ws) = w

abbrev pub leaf_code : Coded Leaf
leaf_code = coded⊎ coded_ℤ (coded⊎ coded_bool (coded⊎ coded_ℕ (coded⊎ coded_ℕ (coded⊎ (coded_list coded_ℕ) (coded× coded_ℕ coded_ℕ)))))

abbrev pub data_code : Coded Data
data_code = code_by (List Token) (coded_list (coded⊎ leaf_code coded_ℕ)) (λ w. all_written w []) (λ ts. first_of_all (read ts [] []).1)
    (λ w. ap (λ (s : Stacks). first_of_all s.1) (read_all w [] [] []))
