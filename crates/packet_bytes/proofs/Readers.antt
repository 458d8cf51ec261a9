-- What the code reads is what the reading functions give.
use Rattle.std.proofs.Common.{◌≡◌, ℕ, ℤ, ◌+◌, ◌<◌, Bool, true, List, [], ◌∷◌, ◌++◌, length, take, get_or, Option, None, Ok, refl, sym, ap, ◌∙◌, append_assoc}
use Rattle.std.proofs.lemmas.List.{append-nil, take_more}
use Rattle.std.proofs.lemmas.Grind.{flat_map-append}
use Rattle.std.specs.List.{flat_map}
use Rattle.std.proofs.Math.Bool.{Bool-set}
use Rattle.std.specs.Int.{w16}
use Rattle.orca_base.specs.declared.ids.ObjectId.{ObjectId}
use Rattle.orca_base.specs.declared.ids.ProcessNo.{ProcessNo}
use Rattle.orca_base.specs.declared.ids.CallNo.{CallNo}
use Rattle.orca_base.specs.declared.limits.TheConstants.{VALUE_NESTING}
use Rattle.value_core.specs.Datum.{Datum, Data, list_of, data_of-list_of}
use Rattle.value_core.specs.declared.action.Action.TheVariants as action
use Rattle.value_bytes.specs.Reading.{byte_at, items_at, number_at, value_at}
use Rattle.packet_bytes.specs.Reading.{any, arguments_at, call_at, fork_at, make_at, object_at, place_at}

pub same_fact : (b : Bool) (p q : b ≡ true) → p ≡ q
same_fact b p q = Bool-set b true p q

pub reads_make : (end : ℕ) (process : ProcessNo) (call : CallNo) (bytes : List ℕ) (kind : ℕ) (rest : List ℕ) (object : ObjectId) (after : List ℕ) (ok : true ≡ true) →
    number_at w16 end bytes ≡ Ok (kind, rest) → object_at end rest ≡ Ok (object, after) →
    make_at end process call bytes ≡ Ok (record { process = process; call = call; action = action.Make (record { 0 = kind }) object; performable = ok }, after)
unfolding make_at
reads_make end process call bytes kind rest object after ok h k =
    rw (h, k) (ap (λ (p : true ≡ true). Ok (record { process = process; call = call; action = action.Make (record { 0 = kind }) object; performable = p }, after)) (same_fact true refl ok))

pub reads_call : (end : ℕ) (process : ProcessNo) (call : CallNo) (bytes : List ℕ) (kind : ℕ) (rest : List ℕ) (op : ℕ) (behind : List ℕ) (object : ObjectId) (more : List ℕ) (args : Data) (after : List ℕ) (ok : true ≡ true) →
    number_at w16 end bytes ≡ Ok (kind, rest) → number_at w16 end rest ≡ Ok (op, behind) → object_at end behind ≡ Ok (object, more) → arguments_at end more ≡ Ok (args, after) →
    call_at end process call bytes ≡ Ok (record { process = process; call = call; action = action.Call (record { 0 = kind }) (record { 0 = op }) object args; performable = ok }, after)
unfolding call_at
reads_call end process call bytes kind rest op behind object more args after ok h i j k =
    rw (h, i, j, k) (ap (λ (p : true ≡ true). Ok (record { process = process; call = call; action = action.Call (record { 0 = kind }) (record { 0 = op }) object args; performable = p }, after)) (same_fact true refl ok))

pub reads_fork : (end : ℕ) (process : ProcessNo) (call : CallNo) (bytes : List ℕ) (text : ℕ) (rest : List ℕ) (place : Option ℤ) (more : List ℕ) (args : Data) (after : List ℕ) (ok : true ≡ true) →
    number_at w16 end bytes ≡ Ok (text, rest) → place_at end rest ≡ Ok (place, more) → arguments_at end more ≡ Ok (args, after) →
    fork_at end process call bytes ≡ Ok (record { process = process; call = call; action = action.Fork (record { 0 = text }) args place; performable = ok }, after)
unfolding fork_at
reads_fork end process call bytes text rest place more args after ok h j k =
    rw (h, j, k) (ap (λ (p : true ≡ true). Ok (record { process = process; call = call; action = action.Fork (record { 0 = text }) args place; performable = p }, after)) (same_fact true refl ok))

pub arguments_read : (end : ℕ) (bytes : List ℕ) (count : ℕ) (rest : List ℕ) (vs : List Datum) (after : List ℕ) (w : Data) → byte_at 255 end bytes ≡ Ok (count, rest) →
    items_at (value_at end VALUE_NESTING) any end count None rest ≡ Ok (vs, after) → list_of w ≡ vs → arguments_at end bytes ≡ Ok (w, after)
unfolding arguments_at
arguments_read end bytes count rest vs after w h k same =
    rw (h, k, ← same) (ap (λ (d : Data). Ok (d, after)) (data_of-list_of w))

-- one more item is written
pub written_more : {X : Type 0} (spell : X → List ℕ) (xs : List X) (i : ℕ) (x : X) (old count out after : List ℕ) → i < length xs → x ≡ get_or xs i x → out ≡ old ++ (count ++ flat_map spell (take i xs)) → after ≡ out ++ spell x →
    after ≡ old ++ (count ++ flat_map spell (take (i + 1) xs))
written_more {X} spell xs i x old count out after lt is before added =
    let front = flat_map spell (take i xs) in
    let last : flat_map spell (get_or xs i x ∷ []) ≡ spell x = append-nil (spell (get_or xs i x)) ∙ ap spell (sym is) in
    let one : flat_map spell (take (i + 1) xs) ≡ front ++ spell x = ap (λ (ys : List X). flat_map spell ys) (take_more xs i x lt) ∙ flat_map-append spell (take i xs) (get_or xs i x ∷ []) ∙ ap (λ (t : List ℕ). front ++ t) last in
    let grouped : (old ++ (count ++ front)) ++ spell x ≡ old ++ (count ++ (front ++ spell x)) = simp append_assoc in
    added ∙ ap (λ (o : List ℕ). o ++ spell x) before ∙ grouped ∙ ap (λ (t : List ℕ). old ++ (count ++ t)) (sym one)
