-- Reading items one after the other, as a loop does; and a value by its tag.
use Rattle.std.proofs.Common.{◌≡◌, ℕ, zero, suc, ◌-◌, ◌+◌, ◌≤◌, ◌<◌, Bool, true, List, [], ◌∷◌, ◌++◌, length, Option, Some, None, Ok, Err, refl, sym, ap, ◌∙◌, append_assoc, arith}
use Rattle.std.proofs.lemmas.List.{append-nil, length-append, get_or_push}
use Rattle.std.proofs.lemmas.Option.{slice_get-get_or}
use Rattle.orca_base.specs.declared.refusal.Refusal.{Refusal}
use Rattle.orca_base.specs.declared.refusal.Refusal.TheVariants.{Because, NoMemory}
use Rattle.std.specs.Int.{w32}
use Rattle.value_core.specs.Datum.{Datum, Data, data_of, list_of, data_of-list_of}
use Rattle.value_bytes.specs.declared.fault.ValueError.{ValueError}
use Rattle.value_bytes.specs.declared.fault.ValueError.TheVariants.{NotCanonical}
use Rattle.value_bytes.specs.Reading.{◌>>=◌, Reads, Fails, item_at, items_at, last_of, number_at, may_follow, with_tag, list_at, content_at, tag_at, value_at}

-- what was read before, and what is still read
abbrev pub with_front : {X : Type 0} → List X → Reads (List X) → Reads (List X)
with_front front read = read >>= λ x. Ok (front ++ x.0, x.1)

pub no_front : {X : Type 0} (read : Reads (List X)) → with_front [] read ≡ read
no_front (Ok x) = refl
no_front (Err f) = refl

regroup : {X : Type 0} (front : List X) (n : X) (read : Reads (List X)) → with_front front (read >>= λ x. Ok (n ∷ x.0, x.1)) ≡ with_front (front ++ n ∷ []) read
regroup {X} front n (Ok x) = ap (λ (ns : List X). Ok (ns, x.1)) (simp append_assoc)
regroup front n (Err f) = refl

last_push : {X : Type 0} (xs : List X) (x : X) → last_of (xs ++ x ∷ []) ≡ Some x
last_push xs x =
    let long = length-append xs (x ∷ []) in
    let e : length xs ≡ length (xs ++ x ∷ []) - 1 = omega (arith, long) in
    slice_get-get_or (xs ++ x ∷ []) (length (xs ++ x ∷ []) - 1) x (omega (arith, long)) ∙ ap Some (get_or_push xs x x (length (xs ++ x ∷ []) - 1) e)

pub goes_on : {X : Type 0} (read : List ℕ → Reads X) (follows : Option X → X → Bool) (end : ℕ) (front : List X) (count i : ℕ) (bytes : List ℕ) (n : X) (after : List ℕ) (total : Reads (List X)) → i < count →
    item_at read follows end (last_of front) bytes ≡ Ok (n, after) → with_front front (items_at read follows end (count - i) (last_of front) bytes) ≡ total →
    with_front (front ++ n ∷ []) (items_at read follows end (count - (i + 1)) (last_of (front ++ n ∷ [])) after) ≡ total
unfolding items_at
goes_on read follows end front count i bytes n after total lt h so_far =
    let k : count - i ≡ suc (count - (i + 1)) = omega arith in
    let one : with_front front (items_at read follows end (count - i) (last_of front) bytes) ≡ with_front (front ++ n ∷ []) (items_at read follows end (count - (i + 1)) (Some n) after) =
    rw (k, h) (regroup front n (items_at read follows end (count - (i + 1)) (Some n) after)) in
    ap (λ last. with_front (front ++ n ∷ []) (items_at read follows end (count - (i + 1)) last after)) (last_push front n) ∙ sym one ∙ so_far

pub ends : {X : Type 0} (read : List ℕ → Reads X) (follows : Option X → X → Bool) (end : ℕ) (e : Refusal ValueError) (front : List X) (count i : ℕ) (bytes : List ℕ) (total : Reads (List X)) → i < count →
    Fails e (item_at read follows end (last_of front) bytes) → with_front front (items_at read follows end (count - i) (last_of front) bytes) ≡ total → Fails e total
unfolding items_at
ends read follows end NoMemory front count i bytes total lt h so_far = tt
ends read follows end (Because f) front count i bytes total lt h so_far =
    let k : count - i ≡ suc (count - (i + 1)) = omega arith in
    let one : with_front front (items_at read follows end (count - i) (last_of front) bytes) ≡ Err f = rw (k, h) refl in
    sym so_far ∙ one

pub is_done : {X : Type 0} (read : List ℕ → Reads X) (follows : Option X → X → Bool) (end : ℕ) (front : List X) (count i : ℕ) (bytes : List ℕ) (total : Reads (List X)) → count ≤ i →
    with_front front (items_at read follows end (count - i) (last_of front) bytes) ≡ total → total ≡ Ok (front, bytes)
unfolding items_at
is_done {X} read follows end front count i bytes total le so_far =
    let k : count - i ≡ 0 = omega arith in
    let one : with_front front (items_at read follows end (count - i) (last_of front) bytes) ≡ Ok (front, bytes) = rw k (ap (λ (ns : List X). Ok (ns, bytes)) (append-nil front)) in
    sym so_far ∙ one

-- ---- where any item may follow

same : {X : Type 0} (r : Reads X) → (r >>= λ x. Ok x) ≡ r
same (Ok x) = refl
same (Err f) = refl

pub any_item : {X : Type 0} (read : List ℕ → Reads X) (end : ℕ) (last : Option X) (bytes : List ℕ) → item_at read (λ last x. true) end last bytes ≡ read bytes
unfolding item_at
any_item read end last bytes = same (read bytes)

-- ---- a value by its tag

pub no_tag : (e : Refusal ValueError) (end levels : ℕ) (bytes : List ℕ) → Fails e (tag_at end bytes) → Fails e (value_at end levels bytes)
unfolding value_at
no_tag NoMemory end levels bytes h = tt
no_tag (Because f) end zero bytes h = rw h refl
no_tag (Because f) end (suc levels) bytes h = rw h refl

pub too_deep : (end levels : ℕ) (bytes : List ℕ) (x : ℕ × List ℕ) → tag_at end bytes ≡ Ok x → levels ≡ 0 → value_at end levels bytes ≡ Err (NotCanonical (end - length bytes))
unfolding value_at
too_deep end zero bytes x h none = rw h refl
too_deep end (suc levels) bytes x h none = absurd (omega (arith, none))

pub by_tag : (end levels : ℕ) (bytes : List ℕ) (x : ℕ × List ℕ) → tag_at end bytes ≡ Ok x → 0 < levels → value_at end levels bytes ≡ content_at (value_at end (levels - 1)) x.0 end x.1
unfolding value_at
by_tag end zero bytes x h some = absurd (omega (arith, some))
by_tag end (suc levels) bytes x h some =
    let e : suc levels - 1 ≡ levels = omega arith in
    rw (e, h) refl

-- ---- a list with its count

pub list_read : (read : List ℕ → Reads Datum) (tag end : ℕ) (bytes : List ℕ) (count : ℕ) (rest : List ℕ) (vs : List Datum) (after : List ℕ) (w : Data) (v : Datum) → number_at w32 end bytes ≡ Ok (count, rest) →
    items_at read (may_follow tag) end count None rest ≡ Ok (vs, after) → list_of w ≡ vs → v ≡ with_tag tag w → list_at read tag end bytes ≡ Ok (v, after)
unfolding list_at
list_read read tag end bytes count rest vs after w v counts items parts is =
    let same_data : data_of vs ≡ w = ap data_of (sym parts) ∙ data_of-list_of w in
    ap (λ (r : Reads ℕ). r >>= λ n. items_at read (may_follow tag) end n.0 None n.1 >>= λ parts. Ok (with_tag tag (data_of parts.0), parts.1)) counts
    ∙ ap (λ (r : Reads (List Datum)). r >>= λ parts. Ok (with_tag tag (data_of parts.0), parts.1)) items
    ∙ ap (λ (d : Data). Ok (with_tag tag d, after)) same_data
    ∙ ap (λ (d : Datum). Ok (d, after)) (sym is)
