-- Variables in front of others that are lent.
use Rattle.std.proofs.Common.{◌≡◌, ◌+◌, ◌<◌, ◌≤◌, ℕ, zero, suc, List, [], ◌∷◌, ◌++◌, append_assoc, drop, get_or, length, map, Result, Ok, Err, refl, ap, sym, ◌∙◌, subst, arith}
use Rattle.std.specs.Prelude.{ok_or, slice_get, slice_set}
use Rattle.std.proofs.lemmas.List.{append-nil, drop_more, set-append_left}
use Rattle.std.proofs.lemmas.Option.{slice_get_past}
use Rattle.orca_base.specs.declared.fault.FaultKind.{FaultKind}
use Rattle.orca_base.specs.declared.fault.FaultKind.TheVariants.{IndexOutside}
use Rattle.value_core.specs.Datum.{Datum}
use Rattle.value_core.specs.View.{datum_of}
use Rattle.value_core.specs.declared.value.Value.{Value}
use Rattle.value_paths.specs.Paths.{part_at, with_part}
use Rattle.meaning_rules.specs.States.{State, Stops, Faults, gives}
use Rattle.meaning_rules.specs.Operators.{and_then}
use Rattle.meaning_rules.specs.Variables.{Target, held}
use Rattle.frame_variables.specs.declared.stop.Stop.{Stop}
use Rattle.frame_variables.specs.Exchanges.{Exchanges}
use Rattle.frame_variables.specs.Gives.{Fails}
use Rattle.frame_variables.proofs.Stopping.{goes_not}

-- ---- copies

pub copied_more : (old new : List Datum) (vs : List Value) (i : ℕ) (v w : Value) → i < length vs → v ≡ get_or vs i v → w ≡ v → new ≡ old ++ datum_of w ∷ [] →
    new ++ map datum_of (drop (i + 1) vs) ≡ old ++ map datum_of (drop i vs)
copied_more old new vs i v w low read copy is =
    ap (λ zs. zs ++ map datum_of (drop (i + 1) vs)) is
    ∙ append_assoc old (datum_of w ∷ []) (map datum_of (drop (i + 1) vs))
    ∙ ap (λ z. old ++ datum_of z ∷ map datum_of (drop (i + 1) vs)) (copy ∙ read)
    ∙ ap (λ zs. old ++ map datum_of zs) (sym (drop_more vs i v low))

-- ---- what stands in front

get_front : (xs ys : List Datum) (i : ℕ) → i < length xs → slice_get (xs ++ ys) i ≡ slice_get xs i
get_front [] ys i low = absurd (omega (arith, low))
get_front (x ∷ xs) ys zero low = refl
get_front (x ∷ xs) ys (suc i) low = get_front xs ys i (omega (arith, low))

-- a stop doesn't go by the state
elsewhere : (why : Stop) (q : Result Datum FaultKind) (s t : State) → Fails why (gives q s) → Fails why (gives q t)
elsewhere why (Ok x) s t h = goes_not why x s h (gives (Ok x) t)
elsewhere why (Err fault) s t h = h

pub exchanges_front : (to : Target) (x : Datum) (xs ys xs1 : List Datum) (s : State) (r : Result Value Stop) → to.slot < length xs → s.frame ≡ xs ++ ys →
    Exchanges to x (record s { frame = xs }) r (record s { frame = xs1 }) → Exchanges to x s r (record s { frame = xs1 ++ ys })
exchanges_front to x xs ys xs1 s (Ok part) low is p = record {
  whole = p.whole;
  is = ap (λ zs. ok_or (slice_get zs to.slot) IndexOutside) is ∙ ap (λ o. ok_or o IndexOutside) (get_front xs ys to.slot low) ∙ p.is;
  stood = p.stood;
  stands = ap (λ zs. record s { frame = zs })
      (ap (λ (t : State). t.frame ++ ys) p.stands
      ∙ sym (set-append_left xs ys to.slot (with_part to.path p.whole x) low)
      ∙ ap (λ zs. slice_set zs to.slot (with_part to.path p.whole x)) (sym is));
}
exchanges_front to x xs ys xs1 s (Err why) low is h =
    subst (λ o. Fails why (gives (and_then (ok_or o IndexOutside) (part_at to.path)) s))
    (sym (ap (λ zs. slice_get zs to.slot) is ∙ get_front xs ys to.slot low))
    (elsewhere why (and_then (ok_or (slice_get xs to.slot) IndexOutside) (part_at to.path)) (record s { frame = xs }) s h)

-- where none are lent
pub exchanges_all : (to : Target) (x : Datum) (xs : List Datum) (s : State) (r : Result Value Stop) → Exchanges to x s r (record s { frame = xs }) → Exchanges to x s r (record s { frame = xs ++ [] })
exchanges_all to x xs s r h = subst (λ zs. Exchanges to x s r (record s { frame = zs })) (sym (append-nil xs)) h

pub nothing_held : (to : Target) (xs : List Datum) (s : State) → s.frame ≡ xs → length xs ≤ to.slot → held to s ≡ Stops (Faults IndexOutside)
nothing_held to xs s is past = ap (λ o. gives (and_then (ok_or o IndexOutside) (part_at to.path)) s) (ap (λ zs. slice_get zs to.slot) is ∙ slice_get_past xs to.slot past)
