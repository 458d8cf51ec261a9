-- What is read from variables that fit is of its type, and what is stored leaves them fitting.
use Rattle.std.proofs.Common.{refl, ap, sym, subst, arith, leb-true}
use Rattle.std.specs.Prelude.{◌≡◌, ◌≤◌, ◌+◌, ℤ, Bool, true, false, if◌then◌else◌, nat_le, List, [], ◌∷◌, is_some, slice_get, ok_or, Option, Some, None, Result, Ok, Err, IfOk}
use Rattle.std.specs.Ordering.{is_eq}
use Rattle.orca_base.specs.declared.fault.FaultKind.{FaultKind}
use Rattle.orca_base.specs.declared.fault.FaultKind.TheVariants.{IndexOutside, TooLarge}
use Rattle.orca_base.specs.declared.limits.TheConstants.{VALUE_SIZE}
use Rattle.link_rules.specs.Units.{Source}
use Rattle.type_rules.specs.declared.types.DataType.{DataType}
use Rattle.type_rules.specs.declared.types.Base.TheVariants.{NodeName}
use Rattle.type_rules.specs.declared.types.Layer.TheVariants as layer
use Rattle.type_rules.specs.Types as types
use Rattle.type_rules.specs.Types.{outside_of, inside_of, plain}
use Rattle.type_rules.specs.Scopes.{Local}
use Rattle.value_core.specs.Datum.{Datum, Data, list_of, data_of, data_of-list_of}
use Rattle.value_core.specs.Datum as datum
use Rattle.value_core.specs.Fits.{Kinds}
use Rattle.value_core.specs.Order.{datum_cmp}
use Rattle.value_core.specs.Size.{size_of, size_of_all}
use Rattle.value_ops.specs.Elements.{deleted, first_of, inserted, least_of, rest_of, without, without_least}
use Rattle.graph_values.specs.Graphs as graphs
use Rattle.value_paths.specs.declared.step.Step.{Step as ValueStep}
use Rattle.value_paths.specs.Paths.{CanWalk, part_at, with_part}
use Rattle.meaning_rules.specs.Operators.{and_then, fitting, integer_in}
use Rattle.meaning_rules.specs.States.{Goes, after, gives}
use Rattle.meaning_rules.specs.Variables.{Target, whole_at, held, stored, changed_at, change, enlarge, store, put, drop_element, take, add_node, delete_node}
use Rattle.meaning_rules.specs.Fitting.{IsOf, Fits, AreFitting}
use Rattle.meaning_rules.specs.ElementsFit.{Gathers, ElementsFit}
use Rattle.meaning_rules.specs.GraphsFit.{GraphsFit}
use Rattle.meaning_rules.specs.PathsFit.{Leads, HasPart, PathsFit}
use Rattle.meaning_rules.specs.PhrasesFit.{IsTarget, Preserves}
use Rattle.meaning_rules.proofs.Everywhere.{held_holds, change_holds, store_holds}
use Rattle.meaning_rules.proofs.Fronts.{fronts}
use Rattle.meaning_rules.specs.Replies.{Front}
use Rattle.meaning_rules.proofs.PartsFit.{given}
use Rattle.meaning_rules.proofs.Preserving.{Any, then_preserves, goes_preserves, gives_preserves, stored_preserves, frame_at}

-- ---- sizes

without_small : (e : Datum) (xs : List Datum) → size_of_all (data_of (without e xs)) ≤ size_of_all (data_of xs)
without_small e [] = omega arith
without_small e (x ∷ xs) = by (is_eq (datum_cmp x e)) (without_small e xs)
  where
    by : (b : Bool) → size_of_all (data_of (without e xs)) ≤ size_of_all (data_of xs) →
        size_of_all (data_of (if b then xs else x ∷ without e xs)) ≤ size_of x + size_of_all (data_of xs)
    by true less = omega arith
    by false less = omega (arith, less)

left_small : (e : Datum) (w : Data) → size_of_all (data_of (without e (list_of w))) ≤ size_of_all w
left_small e w =
    let less = without_small e (list_of w) in
    let same : size_of_all (data_of (list_of w)) ≡ size_of_all w = ap size_of_all (data_of-list_of w) in
    omega (arith, less, same)

deleted_small : (e v : Datum) → size_of (deleted e v) ≤ size_of v
deleted_small e (datum.set w) = let less = left_small e w in omega (arith, less)
deleted_small e (datum.bag w) = let less = left_small e w in omega (arith, less)
deleted_small e (datum.int z) = omega arith
deleted_small e (datum.truth b) = omega arith
deleted_small e (datum.char c) = omega arith
deleted_small e (datum.enumerated n) = omega arith
deleted_small e (datum.text s) = omega arith
deleted_small e (datum.array w) = omega arith
deleted_small e (datum.fields w) = omega arith
deleted_small e (datum.object p n) = omega arith

rest_small : (w : Data) → size_of_all (rest_of w) ≤ size_of_all w
rest_small datum.none = omega arith
rest_small (datum.more v w) = omega arith

without_least_small : (v : Datum) → size_of (without_least v) ≤ size_of v
without_least_small (datum.set w) = let less = rest_small w in omega (arith, less)
without_least_small (datum.bag w) = let less = rest_small w in omega (arith, less)
without_least_small (datum.int z) = omega arith
without_least_small (datum.truth b) = omega arith
without_least_small (datum.char c) = omega arith
without_least_small (datum.enumerated n) = omega arith
without_least_small (datum.text s) = omega arith
without_least_small (datum.array w) = omega arith
without_least_small (datum.fields w) = omega arith
without_least_small (datum.object p n) = omega arith

first_small : (w : Data) (e : Datum) → first_of (list_of w) ≡ Ok e → size_of e ≤ size_of_all w
first_small datum.none e is = absurd cc
first_small (datum.more v w) e is =
    let same : size_of v ≡ size_of e = ap (λ r. size_of (given v r)) is in
    omega (arith, same)

least_small : (v e : Datum) → least_of v ≡ Ok e → size_of e ≤ size_of v
least_small (datum.set w) e is = let less = first_small w e is in omega (arith, less)
least_small (datum.bag w) e is = let less = first_small w e is in omega (arith, less)
least_small (datum.int z) e is = absurd cc
least_small (datum.truth b) e is = absurd cc
least_small (datum.char c) e is = absurd cc
least_small (datum.enumerated n) e is = absurd cc
least_small (datum.text s) e is = absurd cc
least_small (datum.array w) e is = absurd cc
least_small (datum.fields w) e is = absurd cc
least_small (datum.object p n) e is = absurd cc

-- a value with another part is larger by as much as the part
pub record SizeLaws : Type 0 where
  pub sizes : (path : List ValueStep) (v p x : Datum) → CanWalk path v → part_at path v ≡ Ok p → size_of (with_part path v x) + size_of p ≡ size_of v + size_of x
  pub deleted_node : (name : ℤ) (g h : Datum) → graphs.IsGraph g → graphs.deleted name g ≡ Ok h → size_of h ≤ size_of g

-- a graph without one of its nodes
pub deleted_small_graph : ((name : ℤ) (g h v : Datum) → graphs.IsGraph g → graphs.node_in name g ≡ Some v → graphs.deleted name g ≡ Ok h → size_of h + size_of v + 2 ≡ size_of g) →
    (name : ℤ) (g h : Datum) → graphs.IsGraph g → graphs.deleted name g ≡ Ok h → size_of h ≤ size_of g
deleted_small_graph law name g h graph is = by (graphs.node_in name g) refl is
  where
    by : (o : Option Datum) → graphs.node_in name g ≡ o →
        (if is_some o then Ok (graphs.graph_of (graphs.name_in g) (graphs.without_node name (graphs.nodes_in g))) else Err IndexOutside) ≡ Ok h → size_of h ≤ size_of g
    by None at e = absurd cc
    by (Some v) at e =
        let size : size_of h + size_of v + 2 ≡ size_of g = law name g h v graph at is in
        omega (arith, size)

-- what is known of a result, where it is one
pub if_ok : {A : Type 0} (P : A → Type 0) (r : Result A FaultKind) → ((x : A) → r ≡ Ok x → P x) → IfOk r P
if_ok P (Ok x) h = h x refl
if_ok P (Err fault) h = tt

module _ (us : List Source) (kinds : Kinds) where
  pub fitting_fits : (x : Datum) (t : DataType) → IsOf us kinds x t → IfOk (fitting x) (λ y. Fits us kinds y (Some t))
  fitting_fits x t h = by (nat_le (size_of x) VALUE_SIZE) refl
    where
      by : (b : Bool) → nat_le (size_of x) VALUE_SIZE ≡ b → IfOk (if b then Ok x else Err TooLarge) (λ y. Fits us kinds y (Some t))
      by true e = (h, leb-true (size_of x) VALUE_SIZE e)
      by false e = tt

  module _ (paths : PathsFit us) (laws : SizeLaws) where
    -- ---- a part of a value is changed

    module _ (path : List ValueStep) (w : Datum) (root u : DataType) (leads : Leads us path root u) (h : Fits us kinds w (Some root)) (by : Datum → Result Datum FaultKind) where
      abbrev has : HasPart us kinds path w root u
      has = paths kinds path w root u leads h

      enlarged_at : ((old new : Datum) → Fits us kinds old (Some u) → by old ≡ Ok new → IsOf us kinds new u) →
          IfOk (changed_at path by w) (λ whole. IsOf us kinds whole root)
      enlarged_at keeps = part (part_at path w) refl
        where
          new_part : (old : Datum) → part_at path w ≡ Ok old → (r : Result Datum FaultKind) → by old ≡ r →
              IfOk (and_then r (λ new. Ok (with_part path w new))) (λ whole. IsOf us kinds whole root)
          new_part old at (Ok new) is = has.put old new at (keeps old new (has.part old at) is)
          new_part old at (Err fault) is = tt

          part : (r : Result Datum FaultKind) → part_at path w ≡ r →
              IfOk (and_then r (λ old. and_then (by old) (λ new. Ok (with_part path w new)))) (λ whole. IsOf us kinds whole root)
          part (Ok old) at = new_part old at (by old) refl
          part (Err fault) at = tt

      lessened_at : ((old new : Datum) → Fits us kinds old (Some u) → by old ≡ Ok new → IsOf us kinds new u × (size_of new ≤ size_of old)) →
          IfOk (changed_at path by w) (λ whole. Fits us kinds whole (Some root))
      lessened_at keeps = part (part_at path w) refl
        where
          new_part : (old : Datum) → part_at path w ≡ Ok old → (r : Result Datum FaultKind) → by old ≡ r →
              IfOk (and_then r (λ new. Ok (with_part path w new))) (λ whole. Fits us kinds whole (Some root))
          new_part old at (Ok new) is =
              let kept = keeps old new (has.part old at) is in
              let size : size_of (with_part path w new) + size_of old ≡ size_of w + size_of new = laws.sizes path w old new has.walks at in
              let less : size_of new ≤ size_of old = kept.1 in
              let all : size_of w ≤ VALUE_SIZE = h.1 in
              (has.put old new at kept.0, omega (arith, size, less, all))
          new_part old at (Err fault) is = tt

          part : (r : Result Datum FaultKind) → part_at path w ≡ r →
              IfOk (and_then r (λ old. and_then (by old) (λ new. Ok (with_part path w new)))) (λ whole. Fits us kinds whole (Some root))
          part (Ok old) at = new_part old at (by old) refl
          part (Err fault) at = tt

    -- ---- variables

    module _ (ls : List Local) (to : Target) (u : DataType) (target : IsTarget us kinds ls to u) where
      abbrev whole_type : DataType
      whole_type = target.1

      -- the whole variable
      whole_fits : (frame : List Datum) → AreFitting us kinds frame ls → (w : Datum) × (slice_get frame to.slot ≡ Some w) × Fits us kinds w (Some whole_type)
      whole_fits frame fits =
          let at = frame_at us kinds frame ls to.slot target.0 fits target.2 in
          (at.0, at.1, subst (λ t. Fits us kinds at.0 t) target.3 at.2)

      -- something of the whole, which is there
      with_whole : {A : Type 0} (P : A → Type 0) (make : Datum → Result A FaultKind) (frame : List Datum) → AreFitting us kinds frame ls →
          ((w : Datum) → Fits us kinds w (Some whole_type) → IfOk (make w) P) → IfOk (and_then (ok_or (slice_get frame to.slot) IndexOutside) make) P
      with_whole P make frame fits holds =
          let w = whole_fits frame fits in
          subst (λ o. IfOk (and_then (ok_or o IndexOutside) make) P) (sym w.1) (holds w.0 w.2)

      written : (make : List Datum → Result Datum FaultKind) →
          ((frame : List Datum) → AreFitting us kinds frame ls → IfOk (make frame) (λ w. Fits us kinds w (Some whole_type))) →
          Preserves us kinds ls (Unit {0}) Any (λ s. after (gives (make s.frame) s) (λ whole s1. Goes tt (stored to.slot whole s1)))
      written make fit =
          then_preserves us kinds ls (λ w. Fits us kinds w (Some whole_type)) Any _ _ (fronts.gives Datum make)
          (gives_preserves us kinds ls (λ w. Fits us kinds w (Some whole_type)) (λ s. make s.frame) (λ s fits. fit s.frame fits)) (λ whole one.
          stored_preserves us kinds ls to.slot target.0 whole target.2 (subst (λ t. Fits us kinds whole t) (sym target.3) one))

      pub held_preserves : Preserves us kinds ls Datum (λ x. Fits us kinds x (Some u)) (held to)
      held_preserves =
          gives_preserves us kinds ls (λ x. Fits us kinds x (Some u)) (λ s. and_then (whole_at to s) (part_at to.path)) (λ s fits.
          with_whole (λ x. Fits us kinds x (Some u)) (part_at to.path) s.frame fits (λ w one.
          if_ok (λ x. Fits us kinds x (Some u)) (part_at to.path w) (λ x is. (paths kinds to.path w whole_type u target.4 one).part x is)))

      pub change_preserves : (by : Datum → Result Datum FaultKind) →
          ((old new : Datum) → Fits us kinds old (Some u) → by old ≡ Ok new → IsOf us kinds new u × (size_of new ≤ size_of old)) →
          Preserves us kinds ls (Unit {0}) Any (change to by)
      change_preserves by keeps =
          written (λ frame. and_then (ok_or (slice_get frame to.slot) IndexOutside) (changed_at to.path by)) (λ frame fits.
          with_whole (λ w. Fits us kinds w (Some whole_type)) (changed_at to.path by) frame fits (λ w one.
          lessened_at to.path w whole_type u target.4 one by keeps))

      pub enlarge_preserves : (by : Datum → Result Datum FaultKind) →
          ((old new : Datum) → Fits us kinds old (Some u) → by old ≡ Ok new → IsOf us kinds new u) →
          Preserves us kinds ls (Unit {0}) Any (enlarge to by)
      enlarge_preserves by keeps =
          written (λ frame. and_then (and_then (ok_or (slice_get frame to.slot) IndexOutside) (changed_at to.path by)) fitting) (λ frame fits.
          limited (and_then (ok_or (slice_get frame to.slot) IndexOutside) (changed_at to.path by))
          (with_whole (λ w. IsOf us kinds w whole_type) (changed_at to.path by) frame fits (λ w one.
          enlarged_at to.path w whole_type u target.4 one by keeps)))
        where
          limited : (r : Result Datum FaultKind) → IfOk r (λ w. IsOf us kinds w whole_type) → IfOk (and_then r fitting) (λ w. Fits us kinds w (Some whole_type))
          limited (Ok x) h = fitting_fits x whole_type h
          limited (Err fault) h = tt

      pub store_preserves : (x : Datum) → IsOf us kinds x u → Preserves us kinds ls (Unit {0}) Any (store to x)
      store_preserves x one = enlarge_preserves (λ old. Ok x) (λ old new h is. subst (λ y. IsOf us kinds y u) (ap (given x) is) one)

      -- ---- sets and bags

      module _ (elements : ElementsFit us) (g : Gathers (outside_of u)) where
        pub put_preserves : (x : Datum) → IsOf us kinds x (inside_of u) → Preserves us kinds ls (Unit {0}) Any (put to x)
        put_preserves x one =
            enlarge_preserves (λ all. Ok (inserted x all)) (λ old new h is.
            subst (λ y. IsOf us kinds y u) (ap (given old) is) ((elements kinds u old g h.0).puts x one))

        pub drop_preserves : (x : Datum) → Preserves us kinds ls (Unit {0}) Any (drop_element to x)
        drop_preserves x =
            change_preserves (λ all. Ok (deleted x all)) (λ old new h is.
            subst (λ y. IsOf us kinds y u × (size_of y ≤ size_of old)) (ap (given old) is) ((elements kinds u old g h.0).drops x, deleted_small x old))

        pub take_preserves : Preserves us kinds ls Datum (λ x. Fits us kinds x (Some (inside_of u))) (take to)
        take_preserves =
            then_preserves us kinds ls (λ x. Fits us kinds x (Some u)) _ _ _ (held_holds Front fronts to) held_preserves (λ all of.
            then_preserves us kinds ls (λ x. Fits us kinds x (Some (inside_of u))) _ _ _ (fronts.gives Datum (λ frame. least_of all))
            (gives_preserves us kinds ls _ (λ s. least_of all) (λ s fits.
            if_ok (λ x. Fits us kinds x (Some (inside_of u))) (least_of all) (λ x is.
            let less = least_small all x is in ((elements kinds u all g of.0).gives x is, omega (arith, less, of.1))))) (λ least one.
            then_preserves us kinds ls Any _ _ _ (change_holds Front fronts to (λ old. Ok (without_least old)))
            (change_preserves (λ old. Ok (without_least old)) (λ old new h is.
            subst (λ y. IsOf us kinds y u × (size_of y ≤ size_of old)) (ap (given old) is) ((elements kinds u old g h.0).rests, without_least_small old))) (λ x done.
            goes_preserves us kinds ls _ least one)))

      -- ---- graphs

      module _ (keeps : GraphsFit us) (e : outside_of u ≡ types.Within layer.Graph) (is_graph : (v : Datum) → IsOf us kinds v u → graphs.IsGraph v) where
        -- the name of a node
        pub add_preserves : (fresh : Datum) → Fits us kinds fresh (Some (inside_of u)) →
            Preserves us kinds ls (Option Datum) (λ x. (name : Datum) × (x ≡ Some name) × Fits us kinds name (Some (plain NodeName))) (add_node to fresh)
        add_preserves fresh one =
            then_preserves us kinds ls (λ x. Fits us kinds x (Some u)) _ _ _ (held_holds Front fronts to) held_preserves (λ graph of.
            then_preserves us kinds ls (λ new. Fits us kinds (datum.int new.0) (Some (plain NodeName)) × IsOf us kinds new.1 u) _ _ _
            (fronts.gives _ (λ frame. graphs.added fresh graph))
            (gives_preserves us kinds ls _ (λ s. graphs.added fresh graph) (λ s fits.
            if_ok (λ new. Fits us kinds (datum.int new.0) (Some (plain NodeName)) × IsOf us kinds new.1 u) (graphs.added fresh graph) (λ new is.
            let kept = (keeps kinds u graph e of.0).adds fresh new.1 new.0 one.0 is in (((tt, kept.0), omega arith), kept.1)))) (λ new fit.
            then_preserves us kinds ls Any _ _ _ (store_holds Front fronts to new.1) (store_preserves new.1 fit.1) (λ x done.
            goes_preserves us kinds ls _ (Some (datum.int new.0)) (datum.int new.0, refl, fit.0))))

        pub delete_preserves : (name : Datum) → Preserves us kinds ls (Option Datum) (λ x. x ≡ None) (delete_node to name)
        delete_preserves name =
            then_preserves us kinds ls Any _ _ _ (change_holds Front fronts to (graphs.deleted (integer_in name)))
            (change_preserves (graphs.deleted (integer_in name)) (λ old new h is.
            ((keeps kinds u old e h.0).deletes (integer_in name) new is, laws.deleted_node (integer_in name) old new (is_graph old h.0) is))) (λ x done.
            goes_preserves us kinds ls _ None refl)
