-- The first of several lists of breaches.
use Rattle.std.proofs.Common.{◌≡◌, ℕ, ◌<◌, ◌+◌, List, [], ◌++◌, length, get_or, drop, map, Option, sym, ap, ◌∙◌, append_assoc}
use Rattle.std.specs.Prelude.{flat_map}
use Rattle.type_rules.specs.declared.breach.Breach.{Breach}
use Rattle.type_rules.specs.Order.{least, lesser}
use Rattle.type_rules.proofs.Least.{least_of_both, lesser_assoc, lesser_none}
use Rattle.type_forms.specs.Finding.{FirstOf}
use Rattle.type_forms.proofs.FirstOfBoth.{first_of_both}
use Rattle.type_forms.proofs.Loops.{rest_is}

pub first_of_two : (x y q : Option Breach) (ks bs : List Breach) → q ≡ lesser x y → FirstOf x ks → FirstOf y bs → FirstOf q (ks ++ bs)
first_of_two x y q ks bs is e f = is ∙ first_of_both x y ks bs e f

-- the first two stand together in code
pub first_of_pair : (x y q : Option Breach) (ks bs cs : List Breach) → q ≡ lesser x y → FirstOf x (ks ++ bs) → FirstOf y cs → FirstOf q (ks ++ (bs ++ cs))
first_of_pair x y q ks bs cs is e f = first_of_two x y q (ks ++ bs) cs is e f ∙ ap least (append_assoc ks bs cs)

-- a part more of what is left
further : (front part behind : List Breach) (first own q all : Option Breach) → front ≡ part ++ behind → q ≡ lesser first own → FirstOf own part →
    lesser first (least front) ≡ all → lesser q (least behind) ≡ all
further front part behind first own q all is more e h =
    ap (λ (o : Option Breach). lesser o (least behind)) (more ∙ ap (lesser first) e)
    ∙ lesser_assoc first (least part) (least behind)
    ∙ ap (lesser first) (sym (least_of_both part behind) ∙ ap least (sym is))
    ∙ h

pub next_further : {A : Type 0} (f : A → List Breach) (xs : List A) (i : ℕ) (x : A) (first own q all : Option Breach) → i < length xs → x ≡ get_or xs i x →
    q ≡ lesser first own → FirstOf own (f x) → lesser first (least (flat_map f (drop i xs))) ≡ all → lesser q (least (flat_map f (drop (i + 1) xs))) ≡ all
next_further {A} f xs i x first own q all lt is more e h =
    further (flat_map f (drop i xs)) (f x) (flat_map f (drop (i + 1) xs)) first own q all (ap (flat_map f) (rest_is xs i x lt is)) more e h

pub shown_further : {A B : Type 0} (shown : A → B) (f : B → List Breach) (xs : List A) (i : ℕ) (x : A) (first own q all : Option Breach) → i < length xs →
    x ≡ get_or xs i x → q ≡ lesser first own → FirstOf own (f (shown x)) → lesser first (least (flat_map f (map shown (drop i xs)))) ≡ all →
    lesser q (least (flat_map f (map shown (drop (i + 1) xs)))) ≡ all
shown_further {A} {B} shown f xs i x first own q all lt is more e h =
    further (flat_map f (map shown (drop i xs))) (f (shown x)) (flat_map f (map shown (drop (i + 1) xs))) first own q all
    (ap (λ (l : List A). flat_map f (map shown l)) (rest_is xs i x lt is)) more e h

-- nothing is left
pub next_end : {A : Type 0} (f : A → List Breach) (xs : List A) (i : ℕ) (first all : Option Breach) → drop i xs ≡ [] →
    lesser first (least (flat_map f (drop i xs))) ≡ all → first ≡ all
next_end {A} f xs i first all e h = sym (lesser_none first) ∙ ap (λ (l : List A). lesser first (least (flat_map f l))) (sym e) ∙ h

pub shown_end : {A B : Type 0} (shown : A → B) (f : B → List Breach) (xs : List A) (i : ℕ) (first all : Option Breach) → drop i xs ≡ [] →
    lesser first (least (flat_map f (map shown (drop i xs)))) ≡ all → first ≡ all
shown_end {A} {B} shown f xs i first all e h =
    sym (lesser_none first) ∙ ap (λ (l : List A). lesser first (least (flat_map f (map shown l)))) (sym e) ∙ h

-- one more in front
pub shown_in_front : {A B : Type 0} (shown : A → B) (f : B → List Breach) (xs : List A) (i : ℕ) (x : A) (own rest q : Option Breach) → i < length xs →
    x ≡ get_or xs i x → q ≡ lesser own rest → FirstOf own (f (shown x)) → FirstOf rest (flat_map f (map shown (drop (i + 1) xs))) →
    FirstOf q (flat_map f (map shown (drop i xs)))
shown_in_front {A} {B} shown f xs i x own rest q lt is more e h =
    first_of_two own rest q (f (shown x)) (flat_map f (map shown (drop (i + 1) xs))) more e h
    ∙ ap (λ (l : List A). least (flat_map f (map shown l))) (sym (rest_is xs i x lt is))
