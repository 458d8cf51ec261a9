-- What is so of a result.
use Rattle.std.proofs.Common.{◌≡◌, ◌==◌, ℕ, true, List, [], ◌∷◌, length, Result, Ok, Err, OnErr, OnOk, refl, arith, rules, tests}

pub on_ok : {T E : Type 0} (r : Result T E) (P : Type 0) → P → OnOk r P
on_ok (Ok x) P p = p
on_ok (Err e) P p = tt

pub on_err : {T E : Type 0} (r : Result T E) (P : Type 0) → P → OnErr r P
on_err (Ok x) P p = tt
on_err (Err e) P p = p

pub ok_as : {T E A B : Type 0} (r : Result T E) → (A → B) → OnOk r A → OnOk r B
ok_as (Ok x) so a = so a
ok_as (Err e) so a = tt

pub ok_two : {T E A B C : Type 0} (r : Result T E) → (A → B → C) → OnOk r A → OnOk r B → OnOk r C
ok_two (Ok x) so a b = so a b
ok_two (Err e) so a b = tt

pub err_as : {T E A B : Type 0} (r : Result T E) → (A → B) → OnErr r A → OnErr r B
err_as (Ok x) so a = tt
err_as (Err e) so a = so a

-- as many as none
pub none_left : {A : Type 0} (n : ℕ) (xs : List A) → n ≡ length xs → (n == 0) ≡ true → xs ≡ []
none_left n [] e t = refl
none_left n (x ∷ xs) e t = let z : n ≡ 0 = search (rules, tests) in absurd (omega (arith, z, e))
