-- Sites with what was chosen for them: one more, and from a position on.
use Rattle.std.proofs.Common.{◌≡◌, ℕ, zero, suc, ◌<◌, ◌+◌, List, [], ◌∷◌, ◌++◌, length, get_or, map, min, take, drop, refl, sym, ap, ◌∙◌, arith, append_assoc}
use Rattle.std.specs.Prelude.{IfOk, OnErr, Result, Ok, Err}
use Rattle.std.specs.List.{zip}
use Rattle.std.proofs.lemmas.List.{append-nil, length-append, length-take-le, map-append, take_more}
use Rattle.orca_base.specs.declared.what.Choice.{Choice}
use Rattle.site_estimates.specs.declared.estimate.Estimate.{Estimate}
use Rattle.replica_choice.specs.declared.policy.Asked.{Asked}
use Rattle.replica_choice.specs.Asking.{Rule, asked, by_cost, choice_by_cost, choices_by, questions}
use Rattle.replica_choice.specs.Printed.{choice_text}

-- ---- one more

zip_push : {A B : Type 0} (xs : List A) (ys : List B) (x : A) (y : B) → length ys ≡ length xs → zip (xs ++ x ∷ []) (ys ++ y ∷ []) ≡ zip xs ys ++ (x, y) ∷ []
zip_push [] [] x y e = refl
zip_push [] (b ∷ ys) x y e = absurd (omega (arith, e))
zip_push (a ∷ xs) [] x y e = absurd (omega (arith, e))
zip_push {A} {B} (a ∷ xs) (b ∷ ys) x y e = ap (λ (l : List (A × B)). (a, b) ∷ l) (zip_push xs ys x y (omega (arith, e)))

pub questions_more : (nodes : ℕ) (es : List Estimate) (cs : List Choice) (i : ℕ) (e : Estimate) (c : Choice) → i < length es → e ≡ get_or es i e →
    length cs ≡ i → questions nodes (take (i + 1) es) (cs ++ c ∷ []) ≡ questions nodes (take i es) cs ++ asked nodes e c ∷ []
questions_more nodes es cs i e c lt is long =
    let taken = length-take-le i es (omega (arith, lt)) in
    ap (λ (l : List Estimate). questions nodes l (cs ++ c ∷ [])) (take_more es i e lt ∙ ap (λ (x : Estimate). take i es ++ x ∷ []) (sym is))
    ∙ ap (λ (l : List (Estimate × Choice)). map (λ p. asked nodes p.0 p.1) l) (zip_push (take i es) cs e c (omega (arith, long, taken)))
    ∙ map-append (λ (p : Estimate × Choice). asked nodes p.0 p.1) (zip (take i es) cs) ((e, c) ∷ [])

-- what a rule chooses for one site more
choices_push : (rule : Rule) (nodes : ℕ) (told : List Asked) (es : List Estimate) (e : Estimate) →
    choices_by rule nodes told (es ++ e ∷ [])
    ≡ choices_by rule nodes told es ++ rule (told ++ questions nodes es (choices_by rule nodes told es)) nodes e ∷ []
choices_push rule nodes told [] e = ap (λ (l : List Asked). rule l nodes e ∷ []) (sym (append-nil told))
choices_push rule nodes told (x ∷ xs) e =
    let c = rule told nodes x in
    let first = told ++ asked nodes x c ∷ [] in
    let others = choices_by rule nodes first xs in
    ap (λ (l : List Choice). c ∷ l)
    (choices_push rule nodes first xs e
    ∙ ap (λ (l : List Asked). others ++ rule l nodes e ∷ []) (append_assoc told (asked nodes x c ∷ []) (questions nodes xs others)))

pub choices_more : (rule : Rule) (nodes : ℕ) (told now : List Asked) (es : List Estimate) (cs ds : List Choice) (i : ℕ) (e : Estimate) (c : Choice) →
    i < length es → e ≡ get_or es i e → cs ≡ choices_by rule nodes told (take i es) → now ≡ told ++ questions nodes (take i es) cs →
    c ≡ rule now nodes e → ds ≡ cs ++ c ∷ [] → ds ≡ choices_by rule nodes told (take (i + 1) es)
choices_more rule nodes told now es cs ds i e c lt is before asked_so chosen pushed =
    let more = take_more es i e lt ∙ ap (λ (x : Estimate). take i es ++ x ∷ []) (sym is) in
    let knew = asked_so ∙ ap (λ (l : List Choice). told ++ questions nodes (take i es) l) before in
    pushed
    ∙ ap (λ (l : List Choice). l ++ c ∷ []) before
    ∙ ap (λ (d : Choice). choices_by rule nodes told (take i es) ++ d ∷ []) (chosen ∙ ap (λ (l : List Asked). rule l nodes e) knew)
    ∙ sym (choices_push rule nodes told (take i es) e)
    ∙ ap (λ (l : List Estimate). choices_by rule nodes told l) (sym more)

-- by the cost what was told before doesn't matter
pub all_by_cost : (nodes : ℕ) (told : List Asked) (es : List Estimate) →
    choices_by by_cost nodes told es ≡ map (λ e. choice_by_cost nodes e.reads e.writes) es
all_by_cost nodes told [] = refl
all_by_cost nodes told (e ∷ es) =
    ap (λ (l : List Choice). choice_by_cost nodes e.reads e.writes ∷ l) (all_by_cost nodes (told ++ asked nodes e (choice_by_cost nodes e.reads e.writes) ∷ []) es)

pub told_more : (nodes : ℕ) (es : List Estimate) (cs ds : List Choice) (i : ℕ) (e : Estimate) (c : Choice) (first old new : List Asked) → i < length es →
    e ≡ get_or es i e → length cs ≡ i → ds ≡ cs ++ c ∷ [] → old ≡ first ++ questions nodes (take i es) cs → new ≡ old ++ asked nodes e c ∷ [] →
    new ≡ first ++ questions nodes (take (i + 1) es) ds
told_more nodes es cs ds i e c first old new lt is long pushed before after =
    after
    ∙ ap (λ (l : List Asked). l ++ asked nodes e c ∷ []) before
    ∙ append_assoc first (questions nodes (take i es) cs) (asked nodes e c ∷ [])
    ∙ ap (λ (l : List Asked). first ++ l) (sym (questions_more nodes es cs i e c lt is long))
    ∙ ap (λ (l : List Choice). first ++ questions nodes (take (i + 1) es) l) (sym pushed)

-- ---- from a position on

-- one of the two lists has ended
ended : (es : List Estimate) (cs : List Choice) (i : ℕ) → i ≡ min (length es) (length cs) → choice_text (drop i es) (drop i cs) ≡ []
ended [] cs zero h = refl
ended [] cs (suc i) h = refl
ended (e ∷ es) [] zero h = refl
ended (e ∷ es) [] (suc i) h = absurd (omega (arith, h))
ended (e ∷ es) (c ∷ cs) zero h = absurd (omega (arith, h))
ended (e ∷ es) (c ∷ cs) (suc i) h = ended es cs i (omega (arith, h))

pub text_ended : (es : List Estimate) (cs : List Choice) (out all : List ℕ) (i : ℕ) → i ≡ min (length es) (length cs) →
    out ++ choice_text (drop i es) (drop i cs) ≡ all → out ≡ all
text_ended es cs out all i e h = sym (append-nil out) ∙ ap (λ (l : List ℕ). out ++ l) (sym (ended es cs i e)) ∙ h

-- ---- one more answer

pub pushed_long : {A : Type 0} (xs ys : List A) (x : A) (i : ℕ) → ys ≡ xs ++ x ∷ [] → length xs ≡ i → length ys ≡ i + 1
pushed_long {A} xs ys x i e long = let sum = ap (λ (l : List A). length l) e ∙ length-append xs (x ∷ []) in omega (arith, sum, long)

-- what holds in any case holds on an error
pub on_err_any : {T E P : Type 0} (r : Result T E) → P → OnErr r P
on_err_any (Ok x) p = tt
on_err_any (Err e) p = p

-- and what follows for each value
pub if_ok_all : {T E : Type 0} {P Q : T → Type 0} (r : Result T E) → ((x : T) → P x → Q x) → IfOk r P → IfOk r Q
if_ok_all (Ok x) f p = f x p
if_ok_all (Err e) f p = tt

-- whatever is the rule by cost
pub chosen_by_cost : (nodes : ℕ) (told : List Asked) (es : List Estimate) (rule : Rule) (cs : List Choice) → cs ≡ choices_by rule nodes told es →
    rule ≡ by_cost → cs ≡ map (λ e. choice_by_cost nodes e.reads e.writes) es
chosen_by_cost nodes told es rule cs is same = is ∙ ap (λ (r : Rule). choices_by r nodes told es) same ∙ all_by_cost nodes told es
