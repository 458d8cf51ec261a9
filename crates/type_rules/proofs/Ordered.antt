-- Breaches that are put in text order rise.
use Rattle.std.proofs.Common.{◌≡◌, Bool, true, false, cond, List, [], ◌∷◌, refl, sym, ap, subst}
use Rattle.type_rules.specs.Rules.{Breach}
use Rattle.type_rules.specs.Order.{comes_before, in_text_order, put}
use Rattle.type_rules.specs.Laws.{IsInTextOrder, Rises, nothing, alone, rises}
use Rattle.type_rules.proofs.Least.{not_both}

-- a breach is put behind those that come before it
put_first : (b c : Breach) (cs : List Breach) → comes_before c b ≡ false → put b (c ∷ cs) ≡ b ∷ c ∷ cs
put_first b c cs e = ap (λ (t : Bool). cond t (c ∷ put b cs) (b ∷ c ∷ cs)) e

put_later : (b c : Breach) (cs : List Breach) → comes_before c b ≡ true → put b (c ∷ cs) ≡ c ∷ put b cs
put_later b c cs e = ap (λ (t : Bool). cond t (c ∷ put b cs) (b ∷ c ∷ cs)) e

-- in front of what is put stands what comes before it
behind : (c b : Breach) (ds : List Breach) → comes_before c b ≡ true → Rises (c ∷ ds) → Rises (put b ds) → Rises (c ∷ put b ds)
behind c b [] e r s = rises c b [] (not_both c b e) s
behind c b (d ∷ ds) e (rises _ _ _ apart rest) s = by_test (comes_before d b) refl
  where
    by_test : (t : Bool) → comes_before d b ≡ t → Rises (c ∷ put b (d ∷ ds))
    by_test true is =
        subst (λ (l : List Breach). Rises (c ∷ l)) (sym (put_later b d ds is)) (rises c d (put b ds) apart (subst Rises (put_later b d ds is) s))
    by_test false is =
        subst (λ (l : List Breach). Rises (c ∷ l)) (sym (put_first b d ds is)) (rises c b (d ∷ ds) (not_both c b e) (subst Rises (put_first b d ds is) s))

rest_of : (c : Breach) (cs : List Breach) → Rises (c ∷ cs) → Rises cs
rest_of c [] r = nothing
rest_of c (d ∷ ds) (rises _ _ _ apart rest) = rest

put_rises : (b : Breach) (cs : List Breach) → Rises cs → Rises (put b cs)
put_rises b [] r = alone b
put_rises b (c ∷ cs) r = by_test (comes_before c b) refl (put_rises b cs (rest_of c cs r))
  where
    by_test : (t : Bool) → comes_before c b ≡ t → Rises (put b cs) → Rises (put b (c ∷ cs))
    by_test true is s = subst Rises (sym (put_later b c cs is)) (behind c b cs is r s)
    by_test false is s = subst Rises (sym (put_first b c cs is)) (rises b c cs is r)

pub in_order : (bs : List Breach) → IsInTextOrder bs
in_order [] = nothing
in_order (b ∷ bs) = put_rises b (in_text_order bs) (in_order bs)
