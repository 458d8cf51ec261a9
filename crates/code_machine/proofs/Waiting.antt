-- What is so of all bodies that wait, in the order in which they stand and in that of the definitions.
use Rattle.std.proofs.Common.{◌≡◌, ◌-◌, List, map, length, sym, subst, arith}
use Rattle.std.specs.Prelude.{reverse}
use Rattle.std.specs.List.{All}
use Rattle.std.proofs.lemmas.List.{get_or-map, get_or-reverse, length-map, length-reverse, reverse-reverse}
use Rattle.std.proofs.lemmas.List.Elements.{All-get_or, All-map, All-same}
use Rattle.code_rules.specs.Machine as rules
use Rattle.code_steps.specs.Bodies.{caller_of, callers_of}
use Rattle.code_steps.specs.declared.config.Caller.{Caller}
use Rattle.code_machine.specs.Counted.{IsCounted}

-- of all in a list, and of all in its reverse
pub all_reversed : {A : Type 0} (P : A → Type 0) (xs : List A) → All P xs → All P (reverse xs)
all_reversed P xs all k d low =
    let size = length-reverse xs in
    subst P (sym (get_or-reverse xs k d (omega (arith, low, size)))) (All-get_or P xs (length xs - 1 - k) d (omega (arith, low, size)) all)

pub all_forward : {A : Type 0} (P : A → Type 0) (xs : List A) → All P (reverse xs) → All P xs
all_forward P xs all = All-same P xs (reverse (reverse xs)) (sym (reverse-reverse xs)) (all_reversed P (reverse xs) all)

all_unmapped : {A B : Type 0} (P : B → Type 0) (f : A → B) (xs : List A) → All P (map f xs) → All (λ x. P (f x)) xs
all_unmapped P f xs all k d low =
    let size = length-map xs f in
    subst P (get_or-map f xs k d (f d) low) (all k (f d) (omega (arith, low, size)))

-- of those that wait, as they stand in the list
pub callers_counted : (ws vs : List Caller) → vs ≡ ws → All (λ w. IsCounted w.locals) (callers_of ws) → All (λ w. IsCounted w.frame) vs
callers_counted ws vs is all =
    All-same (λ (w : Caller). IsCounted w.frame) vs ws is
    (all_unmapped (λ (w : rules.Caller). IsCounted w.locals) caller_of ws (all_forward (λ (w : rules.Caller). IsCounted w.locals) (map caller_of ws) all))

pub counted_callers : (ws vs : List Caller) → vs ≡ ws → All (λ w. IsCounted w.frame) vs → All (λ w. IsCounted w.locals) (callers_of ws)
counted_callers ws vs is all =
    all_reversed (λ (w : rules.Caller). IsCounted w.locals) (map caller_of ws)
    (All-map (λ (w : rules.Caller). IsCounted w.locals) caller_of ws (All-same (λ (w : Caller). IsCounted w.frame) ws vs (sym is) all))
