-- Processes: what one does next names only objects that it knows, by their types, and hands on only what fits.
use Rattle.std.proofs.Common.{refl, ap, sym, ◌∙◌, subst, arith, inl, inr, eq-or-lt_of_le}
use Rattle.std.specs.Prelude.{◌≡◌, ◌⊎◌, ◌≤◌, ◌<◌, ◌+◌, ℕ, zero, suc, Bool, true, false, List, [], ◌∷◌, ◌++◌, map, take, drop, length, slice_get, is_some, Option, Some, None, option_and_then}
use Rattle.std.specs.List.{AllByRecursion, Contains}
use Rattle.std.proofs.lemmas.List.{append_assoc, append-nil, length-append}
use Rattle.std.proofs.lemmas.List.Elements.{Contains-append_left, Contains-append_right, Contains-append_cases, Contains-push, Contains-push_cases}
use Rattle.orca_base.specs.declared.fault.FaultKind.{FaultKind}
use Rattle.orca_base.specs.declared.ids.KindNo.{KindNo}
use Rattle.orca_base.specs.declared.ids.TextNo.{TextNo}
use Rattle.orca_base.specs.declared.ids.ProcessNo.{ProcessNo}
use Rattle.orca_base.specs.declared.ids.ObjectId.{ObjectId}
use Rattle.orca_syntax.specs.Syntax.{Parameter, Block}
use Rattle.link_rules.specs.Units.{Source}
use Rattle.type_rules.specs.declared.types.DataType.{DataType}
use Rattle.type_rules.specs.declared.types.Base.TheVariants as base
use Rattle.type_rules.specs.declared.types.Layer.TheVariants as layer
use Rattle.type_rules.specs.Types as types
use Rattle.type_rules.specs.Types.{Outside, outside_of, inside_of, object_in, is_object}
use Rattle.type_rules.specs.TopLevel as top
use Rattle.type_rules.specs.TopLevel.{What, TopName}
use Rattle.type_rules.specs.Scopes.{Local, Scope}
use Rattle.value_core.specs.Datum.{Datum, Data, list_of, data_of}
use Rattle.value_core.specs.Datum as datum
use Rattle.value_core.specs.Fits.{Kinds, ExtendsKinds}
use Rattle.value_core.specs.History.{most_turns, output_kind, output_object}
use Rattle.value_core.specs.Lawful.{next_of, FitsAction, RepliesFitFrom, RepliesFit, made_by, own_from, own_objects, IsArgumentOf, IsKnownObject, output, own, argument, KnowsIn, IsLawfulDoing, IsLawful}
use Rattle.value_core.specs.Meaning.{Computes}
use Rattle.value_core.specs.declared.action.Action.TheVariants as action
use Rattle.value_core.specs.declared.action.Reply.{Reply}
use Rattle.value_core.specs.declared.action.Reply.TheVariants as reply
use Rattle.value_core.specs.declared.meaning.Doing.TheVariants as doing
use Rattle.meaning_rules.specs.Openings.{opening}
use Rattle.meaning_rules.specs.Programs.{kind_of, process_scope, process_texts}
use Rattle.meaning_rules.specs.States.{State, Out, Goes, Stops, Needs, Faults, Busy, after}
use Rattle.meaning_rules.specs.Loops.{Flow}
use Rattle.meaning_rules.specs.Statements.{run_all}
use Rattle.meaning_rules.specs.Functions.{all_calls}
use Rattle.meaning_rules.specs.Processes.{own_object, object_type_of, variable_made, variables_made, block_run, what_run, text_run, doing_of}
use Rattle.meaning_rules.specs.Meanings.{computes_of}
use Rattle.meaning_rules.specs.Fitting.{IsObject, IsOf, Fits, AreFitting, AreArguments, FitsArgs, FitsText, FitsTop, FitsWhat, FitsReply}
use Rattle.meaning_rules.specs.PhrasesFit.{AreAnswers, IsThere, Leaves, Returns}
use Rattle.meaning_rules.specs.Accepted.{AreInOrder, IsOpening, IsPlain, IsAccepted}
use Rattle.meaning_rules.proofs.Everywhere as everywhere
use Rattle.meaning_rules.proofs.FittingBodies.{calls_fit, fitting_length, fitting_more_locals, opening_fits}
use Rattle.meaning_rules.proofs.FittingStatements.{run_all_preserves}
use Rattle.meaning_rules.proofs.Fronts.{fronts}
use Rattle.meaning_rules.proofs.Acting.{object_outside}
use Rattle.meaning_rules.proofs.Objectless.{fits_without}
use Rattle.meaning_rules.proofs.PartsFit.{OfBy}
use Rattle.meaning_rules.proofs.Premises.{Laws}
use Rattle.meaning_rules.proofs.StaysFit.{fitting_more, args_more, text_more}
use Rattle.meaning_rules.specs.Replies.{Front}

-- ---- objects of variables

-- as many makes that were done
abbrev pub dones : ℕ → List Reply
dones zero = []
dones (suc k) = reply.Done ∷ dones k

dones_more : (k : ℕ) → (dones k ++ reply.Done ∷ []) ≡ dones (suc k)
dones_more zero = refl
dones_more (suc k) = ap (λ rs. reply.Done ∷ rs) (dones_more k)

module _ (us : List Source) (number : ProcessNo) where
  -- the objects that variables make, with their types, and the values of the variables
  abbrev object_made : ℕ → Option ℕ → (ℕ → Kinds) → Kinds
  object_made count None others = others count
  object_made count (Some i) others = (own_object number count, kind_of us i) ∷ others (count + 1)

  abbrev pub objects_made : List Local → ℕ → Kinds
  objects_made [] count = []
  objects_made (l ∷ ls) count = object_made count (object_type_of l) (objects_made ls)

  abbrev value_made : ℕ → Local → Option ℕ → (ℕ → List Datum) → List Datum
  value_made count l None others = opening us l.type ∷ others count
  value_made count l (Some i) others = datum.object number.0 count ∷ others (count + 1)

  abbrev pub values_made : List Local → ℕ → List Datum
  values_made [] count = []
  values_made (l ∷ ls) count = value_made count l (object_type_of l) (values_made ls)

  module _ (frame : List Datum) (left : ℕ) where
    abbrev st : List Reply → State
    st rs = record { frame = frame; replies = rs; left = left }

    all_made : (ls : List Local) (count : ℕ) (rest : List Reply) →
        variables_made us number ls count (st (dones (length (objects_made ls count)) ++ rest)) ≡ Goes (values_made ls count) (st rest)
    all_made [] count rest = refl
    all_made (l ∷ ls) count rest = by (object_type_of l) (λ n. all_made ls n rest)
      where
        by : (o : Option ℕ) → ((n : ℕ) → variables_made us number ls n (st (dones (length (objects_made ls n)) ++ rest)) ≡ Goes (values_made ls n) (st rest)) →
            variable_made us number count l o (variables_made us number ls) (st (dones (length (object_made count o (objects_made ls))) ++ rest))
            ≡ Goes (value_made count l o (values_made ls)) (st rest)
        by None others = ap (λ out. after out (λ xs s1. Goes (opening us l.type ∷ xs) s1)) (others count)
        by (Some i) others = ap (λ out. after out (λ xs s1. Goes (datum.object number.0 count ∷ xs) s1)) (others (count + 1))

    -- behind so many makes comes this one, which may fault
    record ComesNext (run : State → Out (List Datum)) (k count : ℕ) (entry : ObjectId × KindNo) : Type 0 where
      needs : run (st (dones k)) ≡ Stops (Needs (action.Make entry.1 entry.0))
      breaks : (fault : FaultKind) (rest : List Reply) → run (st (dones k ++ reply.Broke fault ∷ rest)) ≡ Stops (Faults fault)
      numbered : entry.0 ≡ own_object number (count + k)

    comes_next : (ls : List Local) (count k : ℕ) (entry : ObjectId × KindNo) → slice_get (objects_made ls count) k ≡ Some entry →
        ComesNext (variables_made us number ls count) k count entry
    comes_next [] count k entry at = absurd cc
    comes_next (l ∷ ls) count k entry at = by (object_type_of l) k at (λ n j. comes_next ls n j entry)
      where
        behind_next : (x : Datum) (n j : ℕ) → ComesNext (variables_made us number ls n) j n entry →
            ComesNext (λ s. after (variables_made us number ls n s) (λ xs s1. Goes (x ∷ xs) s1)) j n entry
        behind_next x n j h = record {
          needs = ap (λ out. after out (λ xs s1. Goes (x ∷ xs) s1)) h.needs;
          breaks = λ fault rest. ap (λ out. after out (λ xs s1. Goes (x ∷ xs) s1)) (h.breaks fault rest);
          numbered = h.numbered;
        }

        given : ObjectId × KindNo → Option (ObjectId × KindNo) → ObjectId × KindNo
        given e None = e
        given e (Some x) = x

        by : (o : Option ℕ) (j : ℕ) → slice_get (object_made count o (objects_made ls)) j ≡ Some entry →
            ((n i : ℕ) → slice_get (objects_made ls n) i ≡ Some entry → ComesNext (variables_made us number ls n) i n entry) →
            ComesNext (λ s. variable_made us number count l o (variables_made us number ls) s) j count entry
        by None j is others = behind_next (opening us l.type) count j (others count j is)
        by (Some i) zero is others =
            let same : (own_object number count, kind_of us i) ≡ entry = ap (given (own_object number count, kind_of us i)) is in
            let shift : count ≡ count + 0 = omega arith in
            record {
              needs = ap (λ e. Stops (Needs (action.Make e.1 e.0))) same;
              breaks = λ fault rest. refl;
              numbered = sym (ap (λ e. e.0) same) ∙ ap (own_object number) shift;
            }
        by (Some i) (suc j) is others =
            let h = behind_next (datum.object number.0 count) (count + 1) j (others (count + 1) j is) in
            let shift : (count + 1) + j ≡ count + suc j = omega arith in
            record { needs = h.needs; breaks = h.breaks; numbered = h.numbered ∙ ap (own_object number) shift }

-- ---- values of objects

pub is_object_outside : (t : DataType) → is_object t ≡ true → (i : ℕ) × (outside_of t ≡ types.Bare (base.Object i))
is_object_outside t is = by (object_in (outside_of t)) refl is
  where
    by : (o : Option ℕ) → object_in (outside_of t) ≡ o → is_some o ≡ true → (i : ℕ) × (outside_of t ≡ types.Bare (base.Object i))
    by None at e = absurd cc
    by (Some i) at e = (i, object_outside (outside_of t) i at)

module _ (us : List Source) where
  -- the objects among arguments, by the types of their parameters
  abbrev given_kinds : Outside → Datum → Kinds
  given_kinds (types.Bare (base.Object i)) (datum.object p n) = (record { process = p; number = n }, kind_of us i) ∷ []
  given_kinds _ _ = []

  abbrev given_of : Option DataType → Datum → Kinds
  given_of None v = []
  given_of (Some t) v = given_kinds (outside_of t) v

  abbrev pub objects_given : List Datum → List Local → Kinds
  objects_given (v ∷ vs) (l ∷ ls) = given_of l.type v ++ objects_given vs ls
  objects_given _ _ = []

  abbrev Object_of : ObjectId → Datum
  Object_of o = datum.object o.process o.number

  pub none_there : (entry : ObjectId × KindNo) → Contains {X = ObjectId × KindNo} [] entry → ⊥
  none_there entry has = let less = has.1 in omega (arith, less)

  module _ (kinds : Kinds) where
    -- a value of an object type
    pub object_of_type : (t : DataType) (i : ℕ) → outside_of t ≡ types.Bare (base.Object i) → (v : Datum) → IsOf us kinds v t →
        (o : ObjectId) × (v ≡ Object_of o) × Contains kinds (o, kind_of us i) × (given_of (Some t) v ≡ (o, kind_of us i) ∷ [])
    object_of_type t i e (datum.object p n) h =
        (record { process = p; number = n }, refl, subst (λ x. OfBy us kinds x (inside_of t) (datum.object p n)) e h, ap (λ x. given_kinds x (datum.object p n)) e)
    object_of_type t i e (datum.int z) h = absurd (subst (λ o. OfBy us kinds o (inside_of t) (datum.int z)) e h).0
    object_of_type t i e (datum.truth b) h = absurd (subst (λ o. OfBy us kinds o (inside_of t) (datum.truth b)) e h)
    object_of_type t i e (datum.char c) h = absurd (subst (λ o. OfBy us kinds o (inside_of t) (datum.char c)) e h).0
    object_of_type t i e (datum.enumerated n) h = absurd (subst (λ o. OfBy us kinds o (inside_of t) (datum.enumerated n)) e h)
    object_of_type t i e (datum.text s) h = absurd (subst (λ o. OfBy us kinds o (inside_of t) (datum.text s)) e h).0
    object_of_type t i e (datum.array w) h = absurd (subst (λ o. OfBy us kinds o (inside_of t) (datum.array w)) e h)
    object_of_type t i e (datum.fields w) h = absurd (subst (λ o. OfBy us kinds o (inside_of t) (datum.fields w)) e h)
    object_of_type t i e (datum.set w) h = absurd (subst (λ o. OfBy us kinds o (inside_of t) (datum.set w)) e h)
    object_of_type t i e (datum.bag w) h = absurd (subst (λ o. OfBy us kinds o (inside_of t) (datum.bag w)) e h)

    -- of any other type it gives no object
    object_typed : (o : Outside) (p n : ℕ) → IsObject us kinds o p n → (i : ℕ) × (o ≡ types.Bare (base.Object i)) × Contains kinds (record { process = p; number = n }, kind_of us i)
    object_typed (types.Bare (base.Object i)) p n h = (i, refl, h)
    object_typed (types.Bare base.Integer) p n h = absurd h
    object_typed (types.Bare base.Boolean) p n h = absurd h
    object_typed (types.Bare base.Character) p n h = absurd h
    object_typed (types.Bare base.String) p n h = absurd h
    object_typed (types.Bare base.NodeName) p n h = absurd h
    object_typed (types.Bare (base.Enumeration j)) p n h = absurd h
    object_typed (types.Bare (base.Record j)) p n h = absurd h
    object_typed (types.Within (layer.Array low high)) p n h = absurd h
    object_typed (types.Within layer.Set) p n h = absurd h
    object_typed (types.Within layer.Bag) p n h = absurd h
    object_typed (types.Within layer.Graph) p n h = absurd h

    given_none : (v : Datum) (t : DataType) → is_object t ≡ false → given_of (Some t) v ≡ []
    given_none v t no_object = by (outside_of t) refl
      where
        by : (o : Outside) → outside_of t ≡ o → given_kinds o v ≡ []
        by (types.Bare (base.Object i)) e = absurd (let is = ap (λ x. is_some (object_in x)) e in let both : false ≡ true = sym no_object ∙ is in cc)
        by (types.Bare base.Integer) e = refl
        by (types.Bare base.Boolean) e = refl
        by (types.Bare base.Character) e = refl
        by (types.Bare base.String) e = refl
        by (types.Bare base.NodeName) e = refl
        by (types.Bare (base.Enumeration j)) e = refl
        by (types.Bare (base.Record j)) e = refl
        by (types.Within (layer.Array low high)) e = refl
        by (types.Within layer.Set) e = refl
        by (types.Within layer.Bag) e = refl
        by (types.Within layer.Graph) e = refl

    -- each of them is an argument, and exists with its type
    module _ (v : Datum) (t : DataType) (h : IsOf us kinds v t) where
      one_known : (entry : ObjectId × KindNo) → Contains (given_of (Some t) v) entry → (v ≡ Object_of entry.0) × Contains kinds entry
      one_known entry has = by (is_object t) refl
        where
          by : (b : Bool) → is_object t ≡ b → (v ≡ Object_of entry.0) × Contains kinds entry
          by true is =
              let object = is_object_outside t is in
              let it = object_of_type t object.0 object.1 v h in
              single (Contains-push_cases [] (it.0, kind_of us object.0) entry (subst (λ xs. Contains xs entry) it.3 has)) it.1 it.2
            where
              single : {o : ObjectId} {k : KindNo} → Contains {X = ObjectId × KindNo} [] entry ⊎ ((o, k) ≡ entry) → v ≡ Object_of o → Contains kinds (o, k) → (v ≡ Object_of entry.0) × Contains kinds entry
              single (inl nothing) is_o has_o = absurd (none_there entry nothing)
              single (inr same) is_o has_o = (is_o ∙ ap (λ e. Object_of e.0) same, subst (Contains kinds) same has_o)
          by false is = absurd (none_there entry (subst (λ xs. Contains xs entry) (given_none v t is) has))

    given_known : (vs : List Datum) (ls : List Local) → AreFitting us kinds vs ls → (entry : ObjectId × KindNo) → Contains (objects_given vs ls) entry →
        Contains vs (Object_of entry.0) × Contains kinds entry
    given_known [] [] fits entry has = absurd (none_there entry has)
    given_known [] (l ∷ ls) fits entry has = absurd fits
    given_known (v ∷ vs) [] fits entry has = absurd fits
    given_known (v ∷ vs) (l ∷ ls) fits entry has =
        by (Contains-append_cases (given_of l.type v) (objects_given vs ls) entry has) (λ k. given_known vs ls fits.1 entry k)
      where
        first : (o : Option DataType) → Fits us kinds v o → Contains (given_of o v) entry → (v ≡ Object_of entry.0) × Contains kinds entry
        first None h k = absurd h
        first (Some t) h k = one_known v t h.0 entry k

        by : Contains (given_of l.type v) entry ⊎ Contains (objects_given vs ls) entry → (Contains (objects_given vs ls) entry → Contains vs (Object_of entry.0) × Contains kinds entry) →
            Contains (v ∷ vs) (Object_of entry.0) × Contains kinds entry
        by (inl k) rest =
            let it = first l.type fits.0 k in
            (Contains-append_left (v ∷ []) vs (Object_of entry.0) (subst (λ x. Contains (x ∷ []) (Object_of entry.0)) (sym it.0) (Contains-push [] (Object_of entry.0))), it.1)
        by (inr k) rest = let it = rest k in (Contains-append_right (v ∷ []) vs (Object_of entry.0) it.0, it.1)

    -- and with these alone the arguments fit
    one_fits : (v : Datum) (l : Local) (more : Kinds) → IsOpening us l → Fits us kinds v l.type → ((entry : ObjectId × KindNo) → Contains (given_of l.type v) entry → Contains more entry) →
        Fits us more v l.type
    one_fits v l more opening_l h has =
        let t = opening_l.known in
        subst (λ o. Fits us more v o) (sym t.1) (by (is_object t.0) refl (subst (λ o. Fits us kinds v o) t.1 h))
      where
        by : (b : Bool) → is_object opening_l.known.0 ≡ b → Fits us kinds v (Some opening_l.known.0) → Fits us more v (Some opening_l.known.0)
        by true is k =
            let object = is_object_outside opening_l.known.0 is in
            let it = object_of_type opening_l.known.0 object.0 object.1 v k.0 in
            let there : Contains more (it.0, kind_of us object.0) =
            has (it.0, kind_of us object.0)
            (subst (λ o. Contains (given_of o v) (it.0, kind_of us object.0)) (sym opening_l.known.1)
            (subst (λ xs. Contains xs (it.0, kind_of us object.0)) (sym it.3) (Contains-push [] (it.0, kind_of us object.0)))) in (
              subst (λ x. IsOf us more x opening_l.known.0) (sym it.1)
                  (subst (λ o. OfBy us more o (inside_of opening_l.known.0) (Object_of it.0)) (sym object.1) there),
              k.1,
            )
        by false is k = fits_without us kinds more v (Some opening_l.known.0) (opening_l.known.0, refl, opening_l.data_type opening_l.known.0 opening_l.known.1 is) k

    given_fit : (vs : List Datum) (ls : List Local) → AllByRecursion (IsOpening us) ls → AreFitting us kinds vs ls → AreFitting us (objects_given vs ls) vs ls
    given_fit [] [] all fits = tt
    given_fit [] (l ∷ ls) all fits = absurd fits
    given_fit (v ∷ vs) [] all fits = absurd fits
    given_fit (v ∷ vs) (l ∷ ls) all fits = (
      one_fits v l (objects_given (v ∷ vs) (l ∷ ls)) all.0 fits.0 (λ entry has. Contains-append_left (given_of l.type v) (objects_given vs ls) entry has),
      fitting_more us (objects_given vs ls) (objects_given (v ∷ vs) (l ∷ ls)) (λ entry has. Contains-append_right (given_of l.type v) (objects_given vs ls) entry has) vs ls
          (given_fit vs ls all.1 fits.1),
    )

    -- an object among values that fit exists
    object_among : (vs : List Datum) (ls : List Local) → AreFitting us kinds vs ls → (o : ObjectId) → Contains vs (Object_of o) → (kind : KindNo) × Contains kinds (o, kind)
    object_among [] [] fits o has = absurd (let less = has.1 in omega (arith, less))
    object_among [] (l ∷ ls) fits o has = absurd fits
    object_among (v ∷ vs) [] fits o has = absurd fits
    object_among (v ∷ vs) (l ∷ ls) fits o has = by (Contains-append_cases (v ∷ []) vs (Object_of o) has) (λ k. object_among vs ls fits.1 o k)
      where
        typed_so : (t : Option DataType) → Fits us kinds (Object_of o) t → (kind : KindNo) × Contains kinds (o, kind)
        typed_so None h = absurd h
        typed_so (Some t) h = let it = object_typed (outside_of t) o.process o.number h.0 in (kind_of us it.0, it.2)

        single : Contains {X = Datum} [] (Object_of o) ⊎ (v ≡ Object_of o) → (kind : KindNo) × Contains kinds (o, kind)
        single (inl nothing) = absurd (let less = nothing.1 in omega (arith, less))
        single (inr same) = typed_so l.type (subst (λ x. Fits us kinds x l.type) same fits.0)

        by : Contains (v ∷ []) (Object_of o) ⊎ Contains vs (Object_of o) → (Contains vs (Object_of o) → (kind : KindNo) × Contains kinds (o, kind)) → (kind : KindNo) × Contains kinds (o, kind)
        by (inl k) rest = single (Contains-push_cases [] v (Object_of o) k)
        by (inr k) rest = rest k

  -- what variables hold once their objects are made
  made_fit : (number : ProcessNo) (ls : List Local) (count : ℕ) → AllByRecursion (IsOpening us) ls → AreFitting us (objects_made us number ls count) (values_made us number ls count) ls
  made_fit number [] count all = tt
  made_fit number (l ∷ ls) count all = by (object_type_of l) refl (λ n. made_fit number ls n all.1)
    where
      object_type_is : (i : ℕ) → object_type_of l ≡ Some i → outside_of all.0.known.0 ≡ types.Bare (base.Object i)
      object_type_is i is =
          object_outside (outside_of all.0.known.0) i (ap (λ o. option_and_then (λ t. object_in (outside_of t)) o) (sym all.0.known.1) ∙ is)

      no_object : object_type_of l ≡ None → is_object all.0.known.0 ≡ false
      no_object is = ap is_some (ap (λ o. option_and_then (λ t. object_in (outside_of t)) o) (sym all.0.known.1) ∙ is)

      by : (o : Option ℕ) → object_type_of l ≡ o → ((n : ℕ) → AreFitting us (objects_made us number ls n) (values_made us number ls n) ls) →
          AreFitting us (object_made us number count o (objects_made us number ls)) (value_made us number count l o (values_made us number ls)) (l ∷ ls)
      by None is rest =
          (opening_fits us (objects_made us number ls count) l.type (all.0.known.0, all.0.known.1, all.0.data_type all.0.known.0 all.0.known.1 (no_object is)), rest count)
      by (Some i) is rest = (
        subst (λ o. Fits us ((own_object number count, kind_of us i) ∷ objects_made us number ls (count + 1)) (datum.object number.0 count) o) (sym all.0.known.1) (
          subst (λ x. OfBy us ((own_object number count, kind_of us i) ∷ objects_made us number ls (count + 1)) x (inside_of all.0.known.0) (datum.object number.0 count)) (sym (object_type_is i is))
              (Contains-append_left ((own_object number count, kind_of us i) ∷ []) (objects_made us number ls (count + 1)) (own_object number count, kind_of us i) (Contains-push [] (own_object number count, kind_of us i))),
          omega arith,
        ),
        fitting_more us (objects_made us number ls (count + 1)) ((own_object number count, kind_of us i) ∷ objects_made us number ls (count + 1))
            (λ entry has. Contains-append_right ((own_object number count, kind_of us i) ∷ []) (objects_made us number ls (count + 1)) entry has) (values_made us number ls (count + 1)) ls (rest (count + 1)),
      )

abbrev output_entry : ObjectId × KindNo
output_entry = (output_object, output_kind)

abbrev entry_of : ObjectId → KindNo → ObjectId × KindNo
entry_of object kind = (object, kind)

-- ---- lists

taken_length : {X Y : Type 0} (f : X → Y) (xs : List X) (ys : List Y) → length (take (length xs) (map f xs ++ ys)) ≡ length xs
taken_length f [] ys = refl
taken_length f (x ∷ xs) ys = ap suc (taken_length f xs ys)

pub all_take : {X : Type 0} (P : X → Type 0) (n : ℕ) (xs : List X) → AllByRecursion P xs → AllByRecursion P (take n xs)
all_take P zero xs all = tt
all_take P (suc n) [] all = tt
all_take P (suc n) (x ∷ xs) all = (all.0, all_take P n xs all.1)

all_drop : {X : Type 0} (P : X → Type 0) (n : ℕ) (xs : List X) → AllByRecursion P xs → AllByRecursion P (drop n xs)
all_drop P zero xs all = all
all_drop P (suc n) [] all = tt
all_drop P (suc n) (x ∷ xs) all = all_drop P n xs all.1

take_drop : {X : Type 0} (n : ℕ) (xs : List X) → take n xs ++ drop n xs ≡ xs
take_drop zero xs = refl
take_drop (suc n) [] = refl
take_drop (suc n) (x ∷ xs) = ap (λ ys. x ∷ ys) (take_drop n xs)

take_long : {X : Type 0} (n : ℕ) (xs : List X) → n ≤ length xs → length (take n xs) ≡ n
take_long zero xs less = refl
take_long (suc n) [] less = absurd (omega (arith, less))
take_long (suc n) (x ∷ xs) less = ap suc (take_long n xs (omega (arith, less)))

at_seam : {X : Type 0} (pre post : List X) (x : X) → slice_get (pre ++ x ∷ post) (length pre) ≡ Some x
at_seam [] post x = refl
at_seam (y ∷ pre) post x = at_seam pre post x

at_some : {X : Type 0} (xs : List X) (k : ℕ) → k < length xs → (x : X) × (slice_get xs k ≡ Some x)
at_some [] k less = absurd (omega (arith, less))
at_some (x ∷ xs) zero less = (x, refl)
at_some (x ∷ xs) (suc k) less = at_some xs k (omega (arith, less))

-- ---- what a process does

module _ (us : List Source) (facts : IsAccepted us) (laws : Laws us) (kinds : Kinds) (text : TextNo) (number : ProcessNo) (args : Data) (t : TopName) (ps : List Parameter) (b : Block)
    (at : slice_get (process_texts us) text.0 ≡ Some t) (what : t.what ≡ top.Process ps b)
    (given : AreArguments us kinds args (take (length ps) (process_scope us t.defined.by ps b).locals)) where
  abbrev v : Scope
  v = process_scope us t.defined.by ps b

  abbrev params : List Local
  params = take (length ps) v.locals

  abbrev vars : List Local
  vars = drop (length (list_of args)) v.locals

  -- the objects that its variables make, those that it was given, and both
  abbrev own_ones : Kinds
  own_ones = objects_made us number vars 1

  abbrev given_ones : Kinds
  given_ones = objects_given us (list_of args) params

  abbrev known_ones : Kinds
  known_ones = given_ones ++ own_ones

  plain_scope : IsPlain v
  plain_scope = facts.texts text.0 t ps b at what

  in_order : AreInOrder v b.statements
  in_order = facts.orderly.processes text.0 t ps b at what

  long : length (list_of args) ≡ length ps
  long = fitting_length us kinds (list_of args) params given.0 ∙ taken_length _ ps _

  whole_locals : params ++ vars ≡ v.locals
  whole_locals = ap (λ n. params ++ drop n v.locals) long ∙ take_drop (length ps) v.locals

  abbrev q : Computes
  q = computes_of us

  abbrev first_state : List Reply → State
  first_state rs = record { frame = []; replies = rs; left = most_turns }

  abbrev runs : List Reply → Out Flow
  runs rs = block_run us number args v b (first_state rs)

  next_is : (rs : List Reply) → next_of q text number args rs ≡ doing_of (runs rs)
  next_is rs =
      ap (λ o. doing_of (text_run us number args o (first_state rs))) at ∙ ap (λ w. doing_of (what_run us number args t w (first_state rs))) what

  abbrev body_state : List Reply → State
  body_state rs = record { frame = list_of args ++ values_made us number vars 1; replies = rs; left = most_turns }

  abbrev body_runs : List Reply → Out Flow
  body_runs rs = run_all (all_calls us) v b.statements (body_state rs)

  -- behind all makes its statements run
  run_next : (rest : List Reply) → next_of q text number args (dones (length own_ones) ++ rest) ≡ doing_of (body_runs rest)
  run_next rest =
      next_is (dones (length own_ones) ++ rest)
      ∙ ap (λ out. doing_of (after out (λ xs s1. run_all (all_calls us) v b.statements (record s1 { frame = list_of args ++ xs })))) (all_made us number [] most_turns vars 1 rest)

  make_next : (k : ℕ) (entry : ObjectId × KindNo) → slice_get own_ones k ≡ Some entry → next_of q text number args (dones k) ≡ doing.At (action.Make entry.1 entry.0)
  make_next k entry here =
      next_is (dones k)
      ∙ ap (λ out. doing_of (after out (λ xs s1. run_all (all_calls us) v b.statements (record s1 { frame = list_of args ++ xs })))) (comes_next us number [] most_turns vars 1 k entry here).needs

  break_next : (k : ℕ) (entry : ObjectId × KindNo) (fault : FaultKind) (rest : List Reply) → slice_get own_ones k ≡ Some entry →
      next_of q text number args (dones k ++ reply.Broke fault ∷ rest) ≡ doing.At (action.Faulted fault)
  break_next k entry fault rest here =
      next_is (dones k ++ reply.Broke fault ∷ rest)
      ∙ ap (λ out. doing_of (after out (λ xs s1. run_all (all_calls us) v b.statements (record s1 { frame = list_of args ++ xs }))))
      ((comes_next us number [] most_turns vars 1 k entry here).breaks fault rest)

  -- the objects that it made by some makes are the first of them
  own_walk : (pre mid post : Kinds) → own_ones ≡ pre ++ (mid ++ post) → (rest : List Reply) →
      own_from q text number args (dones (length pre)) (dones (length mid) ++ rest) ≡ mid ++ own_from q text number args (dones (length pre + length mid)) rest
  own_walk pre [] post is rest =
      let same : length pre ≡ length pre + 0 = omega arith in ap (λ n. own_from q text number args (dones n) rest) same
  own_walk pre (e ∷ mid) post is rest =
      let here : slice_get own_ones (length pre) ≡ Some e = ap (λ xs. slice_get xs (length pre)) is ∙ at_seam pre (mid ++ post) e in
      let one : made_by (next_of q text number args (dones (length pre))) reply.Done ≡ e ∷ [] = ap (λ d. made_by d reply.Done) (make_next (length pre) e here) in
      let longer : length (pre ++ e ∷ []) ≡ suc (length pre) = length-append pre (e ∷ []) ∙ (let one_more : length pre + 1 ≡ suc (length pre) = omega arith in one_more) in
      let shift : length (pre ++ e ∷ []) + length mid ≡ length pre + suc (length mid) = (let l = longer in omega (arith, l)) in
      ap (λ xs. xs ++ own_from q text number args (dones (length pre) ++ reply.Done ∷ []) (dones (length mid) ++ rest)) one
      ∙ ap (λ xs. e ∷ xs)
      (ap (λ rs. own_from q text number args rs (dones (length mid) ++ rest)) (dones_more (length pre) ∙ ap dones (sym longer))
      ∙ (own_walk (pre ++ e ∷ []) mid post (is ∙ sym (append_assoc pre (e ∷ []) (mid ++ post))) rest
      ∙ ap (λ n. mid ++ own_from q text number args (dones n) rest) shift))

  own_all : (rest : List Reply) → own_objects q text number args (dones (length own_ones) ++ rest) ≡ own_ones ++ own_from q text number args (dones (length own_ones)) rest
  own_all rest =
      let none_more : 0 + length own_ones ≡ length own_ones = omega arith in
      own_walk [] own_ones [] (sym (append-nil own_ones)) rest ∙ ap (λ n. own_ones ++ own_from q text number args (dones n) rest) none_more

  own_some : (k : ℕ) → k ≤ length own_ones → length (own_objects q text number args (dones k ++ [])) ≡ k
  own_some k less =
      let count : length (take k own_ones) ≡ k = take_long k own_ones less in
      ap (λ n. length (own_objects q text number args (dones n ++ []))) (sym count)
      ∙ (ap length (own_walk [] (take k own_ones) (drop k own_ones) (sym (take_drop k own_ones)) [])
      ∙ (ap length (append-nil (take k own_ones)) ∙ count))

  -- ---- the statements

  -- what replies to its actions fit answers its statements
  replied_at : (before xs : List Reply) (answer : Reply) (ys : List Reply) → RepliesFitFrom q (FitsReply us) text number args before (xs ++ answer ∷ ys) →
      FitsAction (FitsReply us) (next_of q text number args (before ++ xs)) answer
  replied_at before [] answer ys fits = subst (λ rs. FitsAction (FitsReply us) (next_of q text number args rs) answer) (sym (append-nil before)) fits.0
  replied_at before (x ∷ xs) answer ys fits =
      subst (λ rs. FitsAction (FitsReply us) (next_of q text number args rs) answer) (append_assoc before (x ∷ []) xs) (replied_at (before ++ x ∷ []) xs answer ys fits.1)

  answers_fit : (rest : List Reply) → RepliesFitFrom q (FitsReply us) text number args (dones (length own_ones)) rest → AreAnswers us (run_all (all_calls us) v b.statements) (body_state rest)
  answers_fit rest fits before behind answer need are comes =
      subst (λ d. FitsAction (FitsReply us) d answer) (run_next before ∙ ap doing_of comes)
      (replied_at (dones (length own_ones)) before answer behind (subst (λ rs. RepliesFitFrom q (FitsReply us) text number args (dones (length own_ones)) rs) are fits))

  frame_fits : AreFitting us known_ones (list_of args ++ values_made us number vars 1) v.locals
  frame_fits =
      subst (λ ls. AreFitting us known_ones (list_of args ++ values_made us number vars 1) ls) whole_locals
      (fitting_more_locals us known_ones (list_of args) (values_made us number vars 1) params vars
      (fitting_more us given_ones known_ones (λ entry has. Contains-append_left given_ones own_ones entry has) (list_of args) params
      (given_fit us kinds (list_of args) params (all_take (IsOpening us) (length ps) v.locals plain_scope.names) given.0))
      (fitting_more us own_ones known_ones (λ entry has. Contains-append_right given_ones own_ones entry has) (values_made us number vars 1) vars
      (made_fit us number vars 1 (all_drop (IsOpening us) (length (list_of args)) v.locals plain_scope.names))))

  leaves : (rest : List Reply) → RepliesFitFrom q (FitsReply us) text number args (dones (length own_ones)) rest → Leaves us known_ones v.locals (Returns us known_ones v.result) (body_runs rest)
  leaves rest fits =
      (run_all_preserves known_ones (all_calls us) (everywhere.calls_holds Front fronts us 64) v
      (record { scope = plain_scope; facts = facts; laws = laws; calls = calls_fit us known_ones facts laws 64 }) b.statements in_order.0 in_order.1).preserves
      (body_state rest) frame_fits (answers_fit rest fits)

  -- ---- the law

  module _ (rest : List Reply) where
    abbrev whole : List Reply
    whole = dones (length own_ones) ++ rest

    own_has : (entry : ObjectId × KindNo) → Contains own_ones entry → Contains (own_objects q text number args whole) entry
    own_has entry has =
        subst (λ xs. Contains xs entry) (sym (own_all rest)) (Contains-append_left own_ones (own_from q text number args (dones (length own_ones)) rest) entry has)

    extends : (more : Kinds) → KnowsIn q kinds text number args whole more → ExtendsKinds known_ones more
    extends more knows entry has = by (Contains-append_cases given_ones own_ones entry has)
      where
        by : Contains given_ones entry ⊎ Contains own_ones entry → Contains more entry
        by (inl k) = knows.0 entry (given_known us kinds (list_of args) params given.0 entry k).1
        by (inr k) = knows.1 entry (own_has entry k)

    known_in : (object : ObjectId) (kind : KindNo) → Contains known_ones (object, kind) → IsKnownObject q kinds text number args whole object kind
    known_in object kind has = by (Contains-append_cases given_ones own_ones (object, kind) has)
      where
        by : Contains given_ones (object, kind) ⊎ Contains own_ones (object, kind) → IsKnownObject q kinds text number args whole object kind
        by (inl k) = let it = given_known us kinds (list_of args) params given.0 (object, kind) k in argument object kind it.0 it.1
        by (inr k) = own object kind (own_has (object, kind) k)

    known_there : (object : ObjectId) (kind : KindNo) → IsThere known_ones object kind → IsKnownObject q kinds text number args whole object kind
    known_there object kind has = by (Contains-append_cases ((output_object, output_kind) ∷ []) known_ones (object, kind) has)
      where
        first : Contains {X = ObjectId × KindNo} [] (object, kind) ⊎ (output_entry ≡ entry_of object kind) → IsKnownObject q kinds text number args whole object kind
        first (inl nothing) = absurd (none_there us (object, kind) nothing)
        first (inr same) = subst (λ (e : ObjectId × KindNo). IsKnownObject q kinds text number args whole e.0 e.1) same output

        by : Contains (output_entry ∷ []) (entry_of object kind) ⊎ Contains known_ones (entry_of object kind) → IsKnownObject q kinds text number args whole object kind
        by (inl k) = first (Contains-push_cases [] (output_object, output_kind) (object, kind) k)
        by (inr k) = known_in object kind k

    -- objects among the arguments of a process
    fork_objects : (process : TextNo) (forked : Data) → FitsText us known_ones process forked → (object : ObjectId) → IsArgumentOf forked object →
        (kind : KindNo) × IsKnownObject q kinds text number args whole object kind
    fork_objects process forked fits object has = by_top (slice_get (process_texts us) process.0) fits
      where
        by_what : (u : TopName) (w : What) → FitsWhat us known_ones forked u w → (kind : KindNo) × IsKnownObject q kinds text number args whole object kind
        by_what u (top.Process qs c) h =
            let it = object_among us known_ones (list_of forked) _ h.0 object has in (it.0, known_in object it.0 it.1)
        by_what u (top.Constant c) h = absurd h
        by_what u (top.TypeName of) h = absurd h
        by_what u (top.Value of n) h = absurd h
        by_what u (top.Specified heads) h = absurd h
        by_what u (top.Implemented os) h = absurd h
        by_what u (top.Function qs r c) h = absurd h

        by_top : (o : Option TopName) → FitsTop us known_ones forked o → (kind : KindNo) × IsKnownObject q kinds text number args whole object kind
        by_top None h = absurd h
        by_top (Some u) h = by_what u u.what h

    lawful_out : (out : Out Flow) → Leaves us known_ones v.locals (Returns us known_ones v.result) out →
        IsLawfulDoing q (FitsArgs us) (FitsText us) kinds text number args whole (doing_of out)
    lawful_out (Goes flow s) h = tt
    lawful_out (Stops (Needs (action.Call kind op object sent))) h = (known_there object kind h.0, λ more knows. args_more us known_ones more (extends more knows) kind op sent h.1)
    lawful_out (Stops (Needs (action.Fork process sent place_on))) h =
        (fork_objects process sent h, λ more knows. text_more us known_ones more (extends more knows) process sent h)
    lawful_out (Stops (Needs (action.Make kind object))) h = absurd h
    lawful_out (Stops (Needs action.Ended)) h = absurd h
    lawful_out (Stops (Needs (action.Faulted fault))) h = absurd h
    lawful_out (Stops (Faults fault)) h = tt
    lawful_out (Stops Busy) h = tt

    lawful_running : RepliesFitFrom q (FitsReply us) text number args (dones (length own_ones)) rest →
        IsLawfulDoing q (FitsArgs us) (FitsText us) kinds text number args whole (next_of q text number args whole)
    lawful_running fits =
        subst (λ d. IsLawfulDoing q (FitsArgs us) (FitsText us) kinds text number args whole d) (sym (run_next rest)) (lawful_out (body_runs rest) (leaves rest fits))

  abbrev LawfulAt : List Reply → Type 0
  LawfulAt rs = IsLawfulDoing q (FitsArgs us) (FitsText us) kinds text number args rs (next_of q text number args rs)

  lawful_making : (k : ℕ) (entry : ObjectId × KindNo) → slice_get own_ones k ≡ Some entry → k ≤ length own_ones → LawfulAt (dones k ++ [])
  lawful_making k entry here less =
      let number_is = (comes_next us number [] most_turns vars 1 k entry here).numbered in
      let made : next_of q text number args (dones k ++ []) ≡ doing.At (action.Make entry.1 entry.0) = ap (next_of q text number args) (append-nil (dones k)) ∙ make_next k entry here in
      let count : length (own_objects q text number args (dones k ++ [])) ≡ k = own_some k less in
      let own_count : (own_object number (1 + k)).number ≡ length (own_objects q text number args (dones k ++ [])) + 1 = omega (arith, count) in
      subst (λ d. IsLawfulDoing q (FitsArgs us) (FitsText us) kinds text number args (dones k ++ []) d) (sym made)
      (ap (λ (o : ObjectId). o.process) number_is, ap (λ (o : ObjectId). o.number) number_is ∙ own_count)

  walk : (rs : List Reply) (k : ℕ) → k ≤ length own_ones → RepliesFitFrom q (FitsReply us) text number args (dones k) rs → LawfulAt (dones k ++ rs)
  walk [] k less fits = by (eq-or-lt_of_le less)
    where
      by : (k ≡ length own_ones) ⊎ (k < length own_ones) → LawfulAt (dones k ++ [])
      by (inl same) = subst (λ n. LawfulAt (dones n ++ [])) (sym same) (lawful_running [] tt)
      by (inr fewer) = let e = at_some own_ones k fewer in lawful_making k e.0 e.1 less
  walk (reply.Done ∷ rs) k less fits = by (eq-or-lt_of_le less) (λ fewer. walk rs (suc k) fewer (subst (λ xs. RepliesFitFrom q (FitsReply us) text number args xs rs) (dones_more k) fits.1))
    where
      by : (k ≡ length own_ones) ⊎ (k < length own_ones) → (k < length own_ones → LawfulAt (dones (suc k) ++ rs)) → LawfulAt (dones k ++ reply.Done ∷ rs)
      by (inl same) rest =
          subst (λ n. LawfulAt (dones n ++ reply.Done ∷ rs)) (sym same)
          (lawful_running (reply.Done ∷ rs) (subst (λ n. RepliesFitFrom q (FitsReply us) text number args (dones n) (reply.Done ∷ rs)) same fits))
      by (inr fewer) rest = subst LawfulAt (ap (λ xs. xs ++ rs) (sym (dones_more k)) ∙ append_assoc (dones k) (reply.Done ∷ []) rs) (rest fewer)
  walk (reply.Gave x ∷ rs) k less fits = by (eq-or-lt_of_le less)
    where
      by : (k ≡ length own_ones) ⊎ (k < length own_ones) → LawfulAt (dones k ++ reply.Gave x ∷ rs)
      by (inl same) =
          subst (λ n. LawfulAt (dones n ++ reply.Gave x ∷ rs)) (sym same)
          (lawful_running (reply.Gave x ∷ rs) (subst (λ n. RepliesFitFrom q (FitsReply us) text number args (dones n) (reply.Gave x ∷ rs)) same fits))
      by (inr fewer) =
          let e = at_some own_ones k fewer in
          absurd (subst (λ d. FitsAction (FitsReply us) d (reply.Gave x)) (make_next k e.0 e.1) fits.0)
  walk (reply.Broke fault ∷ rs) k less fits = by (eq-or-lt_of_le less)
    where
      after_fault : (e : ObjectId × KindNo) → slice_get own_ones k ≡ Some e → (xs : List Reply) →
          RepliesFitFrom q (FitsReply us) text number args (dones k ++ reply.Broke fault ∷ []) xs → LawfulAt (dones k ++ reply.Broke fault ∷ xs)
      after_fault e here [] h =
          subst (λ d. IsLawfulDoing q (FitsArgs us) (FitsText us) kinds text number args (dones k ++ reply.Broke fault ∷ []) d) (sym (break_next k e fault [] here)) tt
      after_fault e here (x ∷ xs) h = absurd (subst (λ d. FitsAction (FitsReply us) d x) (break_next k e fault [] here) h.0)

      by : (k ≡ length own_ones) ⊎ (k < length own_ones) → LawfulAt (dones k ++ reply.Broke fault ∷ rs)
      by (inl same) =
          subst (λ n. LawfulAt (dones n ++ reply.Broke fault ∷ rs)) (sym same)
          (lawful_running (reply.Broke fault ∷ rs) (subst (λ n. RepliesFitFrom q (FitsReply us) text number args (dones n) (reply.Broke fault ∷ rs)) same fits))
      by (inr fewer) = let e = at_some own_ones k fewer in after_fault e.0 e.1 rs fits.1

  pub lawful_text : (replies : List Reply) → RepliesFit q (FitsReply us) text number args replies → IsLawful q (FitsArgs us) (FitsText us) kinds text number args replies
  lawful_text replies fits = walk replies 0 (omega arith) fits

pub processes_lawful : (us : List Source) → IsAccepted us → Laws us → (kinds : Kinds) (text : TextNo) (number : ProcessNo) (args : Data) (replies : List Reply) →
    FitsText us kinds text args → RepliesFit (computes_of us) (FitsReply us) text number args replies →
    IsLawful (computes_of us) (FitsArgs us) (FitsText us) kinds text number args replies
processes_lawful us facts laws kinds text number args replies fits fit = by (slice_get (process_texts us) text.0) refl fits
  where
    by_what : (t : TopName) → slice_get (process_texts us) text.0 ≡ Some t → (w : What) → t.what ≡ w → FitsWhat us kinds args t w → IsLawful (computes_of us) (FitsArgs us) (FitsText us) kinds text number args replies
    by_what t at (top.Process ps b) what h = lawful_text us facts laws kinds text number args t ps b at what h replies fit
    by_what t at (top.Constant b) what h = absurd h
    by_what t at (top.TypeName of) what h = absurd h
    by_what t at (top.Value of n) what h = absurd h
    by_what t at (top.Specified heads) what h = absurd h
    by_what t at (top.Implemented os) what h = absurd h
    by_what t at (top.Function ps r b) what h = absurd h

    by : (o : Option TopName) → slice_get (process_texts us) text.0 ≡ o → FitsTop us kinds args o → IsLawful (computes_of us) (FitsArgs us) (FitsText us) kinds text number args replies
    by None at h = absurd h
    by (Some t) at h = by_what t at t.what refl h
