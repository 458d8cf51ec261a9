-- Reading items up to a closing byte, as a loop does.
use Rattle.std.proofs.Common.{◌≡◌, ℕ, suc, ◌-◌, ◌+◌, ◌≤◌, ◌<◌, Bool, true, false, cond, List, [], ◌∷◌, ◌++◌, length, drop, Option, Some, None, refl, sym, ap, ◌∙◌, append_assoc, arith}
use Rattle.std.proofs.lemmas.List.{append-nil, length-append, get_or_push}
use Rattle.std.proofs.lemmas.Option.{slice_get-get_or}
use Rattle.orca_base.specs.declared.refusal.Refusal.{Refusal}
use Rattle.orca_base.specs.declared.refusal.Refusal.TheVariants.{Because, NoMemory}
use Rattle.value_texts.specs.declared.fault.Misspelled.{Misspelled}
use Rattle.value_texts.specs.Reading.{◌>>=◌, Reads, Fails, begins, last_of, until_at}
use Rattle.value_texts.proofs.Steps.{bound, no_is}

-- what was read before, and what is still read
abbrev pub with_front : {X : Type 0} → List X → Reads (List X) → Reads (List X)
with_front front read = read >>= λ x. Some (front ++ x.0, x.1)

pub no_front : {X : Type 0} (read : Reads (List X)) → with_front [] read ≡ read
no_front (Some x) = refl
no_front None = refl

regroup : {X : Type 0} (front : List X) (n : X) (read : Reads (List X)) → with_front front (read >>= λ x. Some (n ∷ x.0, x.1)) ≡ with_front (front ++ n ∷ []) read
regroup {X} front n (Some x) = ap (λ (ns : List X). Some (ns, x.1)) (sym (append_assoc front (n ∷ []) x.0))
regroup front n None = refl

last_push : {X : Type 0} (xs : List X) (x : X) → last_of (xs ++ x ∷ []) ≡ Some x
last_push xs x =
    let long = length-append xs (x ∷ []) in
    let e : length xs ≡ length (xs ++ x ∷ []) - 1 = omega (arith, long) in
    slice_get-get_or (xs ++ x ∷ []) (length (xs ++ x ∷ []) - 1) x (omega (arith, long)) ∙ ap Some (get_or_push xs x x (length (xs ++ x ∷ []) - 1) e)

-- one turn, where the closing byte doesn't stand there
one_turn : {X : Type 0} (item : Option X → List ℕ → Reads X) (closing count i : ℕ) (last : Option X) (text : List ℕ) → i < count → begins closing text ≡ false →
    until_at item closing (count - i) last text ≡ (item last text >>= λ first. until_at item closing (count - (i + 1)) (Some first.0) first.1 >>= λ others. Some (first.0 ∷ others.0, others.1))
unfolding until_at
one_turn {X} item closing count i last text lt apart =
    let k : count - i ≡ suc (count - (i + 1)) = omega arith in
    let next : Reads (List X) = item last text >>= λ first. until_at item closing (count - (i + 1)) (Some first.0) first.1 >>= λ others. Some (first.0 ∷ others.0, others.1) in
    ap (λ (turns : ℕ). until_at item closing turns last text) k ∙ no_is (begins closing text) (Some ([], drop 1 text)) next apart

pub goes_on : {X : Type 0} (item : Option X → List ℕ → Reads X) (closing : ℕ) (front : List X) (count i : ℕ) (text : List ℕ) (n : X) (after : List ℕ) (total : Reads (List X)) → i < count → begins closing text ≡ false →
    item (last_of front) text ≡ Some (n, after) → with_front front (until_at item closing (count - i) (last_of front) text) ≡ total →
    with_front (front ++ n ∷ []) (until_at item closing (count - (i + 1)) (last_of (front ++ n ∷ [])) after) ≡ total
goes_on {X} item closing front count i text n after total lt apart h so_far =
    let turned = one_turn item closing count i (last_of front) text lt apart in
    let read = bound (item (last_of front) text) (λ first. until_at item closing (count - (i + 1)) (Some first.0) first.1 >>= λ others. Some (first.0 ∷ others.0, others.1)) (n, after) h in
    let one : with_front front (until_at item closing (count - i) (last_of front) text) ≡ with_front (front ++ n ∷ []) (until_at item closing (count - (i + 1)) (Some n) after) =
    ap (with_front front) (turned ∙ read) ∙ regroup front n (until_at item closing (count - (i + 1)) (Some n) after) in
    ap (λ last. with_front (front ++ n ∷ []) (until_at item closing (count - (i + 1)) last after)) (last_push front n) ∙ sym one ∙ so_far

pub stops : {X : Type 0} (item : Option X → List ℕ → Reads X) (closing : ℕ) (front : List X) (count i : ℕ) (text : List ℕ) (total : Reads (List X)) → i < count → begins closing text ≡ false →
    item (last_of front) text ≡ None → with_front front (until_at item closing (count - i) (last_of front) text) ≡ total → total ≡ None
stops item closing front count i text total lt apart h so_far =
    let turned = one_turn item closing count i (last_of front) text lt apart in
    sym so_far ∙ ap (with_front front) (turned ∙ ap (λ r. r >>= λ first. until_at item closing (count - (i + 1)) (Some first.0) first.1 >>= λ others. Some (first.0 ∷ others.0, others.1)) h)

pub fails : {X : Type 0} (item : Option X → List ℕ → Reads X) (closing : ℕ) (e : Refusal Misspelled) (front : List X) (count i : ℕ) (text : List ℕ) (total : Reads (List X)) → i < count → begins closing text ≡ false →
    Fails e (item (last_of front) text) → with_front front (until_at item closing (count - i) (last_of front) text) ≡ total → Fails e total
fails item closing NoMemory front count i text total lt apart h so_far = tt
fails item closing (Because f) front count i text total lt apart h so_far = stops item closing front count i text total lt apart h so_far

pub closes : {X : Type 0} (item : Option X → List ℕ → Reads X) (closing : ℕ) (front : List X) (count i : ℕ) (text : List ℕ) (total : Reads (List X)) → i < count → begins closing text ≡ true →
    with_front front (until_at item closing (count - i) (last_of front) text) ≡ total → total ≡ Some (front, drop 1 text)
unfolding until_at
closes {X} item closing front count i text total lt shut so_far =
    let k : count - i ≡ suc (count - (i + 1)) = omega arith in
    let next : Reads (List X) = item (last_of front) text >>= λ first. until_at item closing (count - (i + 1)) (Some first.0) first.1 >>= λ others. Some (first.0 ∷ others.0, others.1) in
    let found : until_at item closing (count - i) (last_of front) text ≡ Some ([], drop 1 text) =
    ap (λ (turns : ℕ). until_at item closing turns (last_of front) text) k ∙ ap (λ (b : Bool). cond b (Some ([], drop 1 text)) next) shut in
    sym so_far ∙ ap (with_front front) found ∙ ap (λ (xs : List X). Some (xs, drop 1 text)) (append-nil front)

pub runs_out : {X : Type 0} (item : Option X → List ℕ → Reads X) (closing : ℕ) (front : List X) (count i : ℕ) (text : List ℕ) (total : Reads (List X)) → count ≤ i →
    with_front front (until_at item closing (count - i) (last_of front) text) ≡ total → total ≡ None
unfolding until_at
runs_out item closing front count i text total le so_far =
    let k : count - i ≡ 0 = omega arith in
    sym so_far ∙ ap (λ (turns : ℕ). with_front front (until_at item closing turns (last_of front) text)) k
