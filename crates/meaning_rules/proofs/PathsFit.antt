-- Paths in values of a type, and nodes that are added and deleted.
use Rattle.std.proofs.Common.{refl, ap, sym, subst, arith, inl, inr, eq-or-lt_of_le}
use Rattle.std.specs.Prelude.{◌≡◌, ◌⊎◌, ◌<◌, ◌+ℤ◌, ◌≤ℤ◌, Bool, true, false, if◌then◌else◌, ℤ, pos, negsuc, is_some, List, [], ◌∷◌, ◌++◌, Option, Some, None, Result, Ok, Err, IfOk}
use Rattle.std.specs.Ordering.{int_eq}
use Rattle.std.proofs.lemmas.Int.{ints}
use Rattle.orca_base.specs.declared.fault.FaultKind.{FaultKind}
use Rattle.orca_base.specs.declared.fault.FaultKind.TheVariants.{IndexOutside, Overflow}
use Rattle.link_rules.specs.Units.{Source}
use Rattle.type_rules.specs.declared.types.DataType.{DataType}
use Rattle.type_rules.specs.declared.types.Layer.TheVariants as layer
use Rattle.type_rules.specs.Types as types
use Rattle.type_rules.specs.Types.{outside_of, inside_of}
use Rattle.value_core.specs.Datum.{Datum, Data, list_of, data_of, data_of-list_of, list_of-data_of}
use Rattle.value_core.specs.Datum as datum
use Rattle.value_core.specs.Fits.{Kinds}
use Rattle.value_core.specs.Integers.{IsWord}
use Rattle.value_paths.specs.declared.step.Step.{Step}
use Rattle.value_paths.specs.declared.step.Step.TheVariants.{Field, Index, Node}
use Rattle.value_paths.specs.Paths.{and_then, CanStep, CanWalk, part_at, part_to, where_found, with_part, with_step}
use Rattle.graph_values.specs.Graphs.{IsGraph, added, deleted, graph_of, is_named, last_name, name_in, node_in, node_of, nodes_in, without_node}
use Rattle.meaning_rules.specs.Fitting.{IsOf, NodesOf, ValuesOf, Fits}
use Rattle.meaning_rules.specs.PartsFit.{PartsFit, LeadsTo}
use Rattle.meaning_rules.specs.PathsFit.{StepsTo, Leads, HasPart, PathsFit}
use Rattle.meaning_rules.specs.GraphsFit.{KeepsGraph, GraphsFit}
use Rattle.meaning_rules.proofs.PartsFit.{OfBy, given}
use Rattle.meaning_rules.proofs.PartSizes.{part_size, array_length}

-- ---- paths

module _ (us : List Source) (parts : PartsFit us) (kinds : Kinds) where
  -- a step, by its own type
  stepped : (step : Step) (v : Datum) (t u : DataType) → StepsTo us step t u → IsOf us kinds v t → LeadsTo us kinds step v t u
  stepped (Index low index) v t u to h = subst (λ x. LeadsTo us kinds (Index low index) v t x) to.2 ((parts kinds t v h).elements low to.0 index to.1)
  stepped (Field place) v t u to h = (parts kinds t v h).fields to.0 place u to.1 to.2
  stepped (Node name) v t u to h = subst (λ x. LeadsTo us kinds (Node name) v t x) to.1 ((parts kinds t v h).nodes name to.0)

  pub graph_is : (t : DataType) → outside_of t ≡ types.Within layer.Graph → (v : Datum) → IsOf us kinds v t → IsGraph v
  graph_is t e (datum.fields w) h = (subst (λ o. OfBy us kinds o (inside_of t) (datum.fields w)) e h).0
  graph_is t e (datum.int z) h = absurd (subst (λ o. OfBy us kinds o (inside_of t) (datum.int z)) e h).0
  graph_is t e (datum.truth b) h = absurd (subst (λ o. OfBy us kinds o (inside_of t) (datum.truth b)) e h)
  graph_is t e (datum.char c) h = absurd (subst (λ o. OfBy us kinds o (inside_of t) (datum.char c)) e h).0
  graph_is t e (datum.enumerated n) h = absurd (subst (λ o. OfBy us kinds o (inside_of t) (datum.enumerated n)) e h)
  graph_is t e (datum.text s) h = absurd (subst (λ o. OfBy us kinds o (inside_of t) (datum.text s)) e h).0
  graph_is t e (datum.array w) h = absurd (subst (λ o. OfBy us kinds o (inside_of t) (datum.array w)) e h)
  graph_is t e (datum.set w) h = absurd (subst (λ o. OfBy us kinds o (inside_of t) (datum.set w)) e h)
  graph_is t e (datum.bag w) h = absurd (subst (λ o. OfBy us kinds o (inside_of t) (datum.bag w)) e h)
  graph_is t e (datum.object q n) h = absurd (subst (λ o. OfBy us kinds o (inside_of t) (datum.object q n)) e h)

  can_step : (step : Step) (v : Datum) (t u : DataType) → StepsTo us step t u → Fits us kinds v (Some t) → CanStep step v
  can_step (Index low index) v t u to h = let short = array_length v in omega (arith, short, h.1)
  can_step (Field place) v t u to h = tt
  can_step (Node name) v t u to h = graph_is t to.0 v h.0

  part_fits : (step : Step) (v p : Datum) (t u : DataType) → StepsTo us step t u → Fits us kinds v (Some t) → part_to step v ≡ Ok p → Fits us kinds p (Some u)
  part_fits step v p t u to h is = ((stepped step v t u to h.0).part p is, let less = part_size step v p is in omega (arith, less, h.1))

  module _ (step : Step) (path : List Step) (v : Datum) (t w u : DataType) (to : StepsTo us step t w) (h : Fits us kinds v (Some t))
      (rest : (p : Datum) → Fits us kinds p (Some w) → HasPart us kinds path p w u) where
    walks : (r : Result Datum FaultKind) → ((p : Datum) → r ≡ Ok p → Fits us kinds p (Some w)) → IfOk r (CanWalk path)
    walks (Ok p) part = (rest p (part p refl)).walks
    walks (Err fault) part = tt

    parted : (r : Result Datum FaultKind) → ((p : Datum) → r ≡ Ok p → Fits us kinds p (Some w)) → (p : Datum) → and_then r (part_at path) ≡ Ok p →
        Fits us kinds p (Some u)
    parted (Ok q) part p is = (rest q (part q refl)).part p is
    parted (Err fault) part p is = absurd cc

    putted : (r : Result Datum FaultKind) → part_to step v ≡ r → (p x : Datum) → and_then r (part_at path) ≡ Ok p → IsOf us kinds x u →
        IsOf us kinds (where_found r v (λ q. with_step step v (with_part path q x))) t
    putted (Ok q) at p x is one =
        (stepped step v t w to h.0).put q (with_part path q x) at ((rest q (part_fits step v q t w to h at)).put p x is one)
    putted (Err fault) at p x is one = h.0

  path_fits : (path : List Step) (v : Datum) (t u : DataType) → Leads us path t u → Fits us kinds v (Some t) → HasPart us kinds path v t u
  path_fits [] v t u leads h = record {
    walks = tt;
    part = λ p is. subst (λ x. Fits us kinds x (Some u)) (ap (given v) is) (subst (λ x. Fits us kinds v (Some x)) leads h);
    put = λ p x is one. subst (λ y. IsOf us kinds x y) (sym leads) one;
  }
  path_fits (step ∷ path) v t u leads h =
      record {
        walks = (
          can_step step v t leads.0 leads.1 h,
          walks step path v t leads.0 u leads.1 h (λ p fits. path_fits path p leads.0 u leads.2 fits) (part_to step v) (λ p is. part_fits step v p t leads.0 leads.1 h is),
        );
        part = parted step path v t leads.0 u leads.1 h (λ p fits. path_fits path p leads.0 u leads.2 fits) (part_to step v) (λ p is. part_fits step v p t leads.0 leads.1 h is);
        put = putted step path v t leads.0 u leads.1 h (λ p fits. path_fits path p leads.0 u leads.2 fits) (part_to step v) refl;
      }

pub paths_fit : (us : List Source) → PartsFit us → PathsFit us
paths_fit us parts kinds path v t u leads h = path_fits us parts kinds path v t u leads h

-- ---- graphs

-- a graph stays one where a node is added or deleted
pub record GraphLaws : Type 0 where
  pub added_graph : (fresh g h : Datum) (name : ℤ) → IsGraph g → added fresh g ≡ Ok (name, h) → IsGraph h × (name ≡ name_in g) × (name_in h ≡ (name +ℤ pos 1))
  pub deleted_graph : (name : ℤ) (g h : Datum) → IsGraph g → deleted name g ≡ Ok h → IsGraph h × (name_in h ≡ name_in g)

-- a next name below the last
next_word : (z : ℤ) → IsWord z → pos 1 ≤ℤ z → int_eq z last_name ≡ false → IsWord (z +ℤ pos 1)
next_word (pos n) word above apart = by (eq-or-lt_of_le (omega (arith, word.sfits)))
  where
    by : (n ≡ 9223372036854775807) ⊎ (n < 9223372036854775807) → IsWord (pos n +ℤ pos 1)
    by (inl same) = absurd (let e : int_eq (pos 9223372036854775807) last_name ≡ false = subst (λ m. int_eq (pos m) last_name ≡ false) same apart in cc)
    by (inr less) = record { sfits = omega (arith, less) }
next_word (negsuc n) word above apart = absurd (omega (arith, ints, above))

module _ (us : List Source) (kinds : Kinds) where
  -- nodes, as a list
  abbrev NodeFits : Datum → DataType → Type 0
  NodeFits (datum.fields (datum.more name (datum.more v datum.none))) t = IsOf us kinds v t
  NodeFits _ t = ⊥

  abbrev NodesFit : List Datum → DataType → Type 0
  NodesFit [] t = Unit {0}
  NodesFit (x ∷ xs) t = NodeFits x t × NodesFit xs t

  as_nodes : (w : Data) (t : DataType) → ValuesOf us kinds w t → NodesFit (list_of w) t
  as_nodes datum.none t h = tt
  as_nodes (datum.more (datum.fields datum.none) w) t h = absurd h
  as_nodes (datum.more (datum.fields (datum.more m datum.none)) w) t h = absurd h
  as_nodes (datum.more (datum.fields (datum.more m (datum.more v datum.none))) w) t h = (h.0, as_nodes w t h.1)
  as_nodes (datum.more (datum.fields (datum.more m (datum.more v (datum.more x y)))) w) t h = absurd h
  as_nodes (datum.more (datum.int z) w) t h = absurd h
  as_nodes (datum.more (datum.truth b) w) t h = absurd h
  as_nodes (datum.more (datum.char c) w) t h = absurd h
  as_nodes (datum.more (datum.enumerated n) w) t h = absurd h
  as_nodes (datum.more (datum.text s) w) t h = absurd h
  as_nodes (datum.more (datum.array u) w) t h = absurd h
  as_nodes (datum.more (datum.set u) w) t h = absurd h
  as_nodes (datum.more (datum.bag u) w) t h = absurd h
  as_nodes (datum.more (datum.object q n) w) t h = absurd h

  as_values : (xs : List Datum) (t : DataType) → NodesFit xs t → ValuesOf us kinds (data_of xs) t
  as_values [] t h = tt
  as_values (datum.fields datum.none ∷ xs) t h = absurd h.0
  as_values (datum.fields (datum.more m datum.none) ∷ xs) t h = absurd h.0
  as_values (datum.fields (datum.more m (datum.more v datum.none)) ∷ xs) t h = (h.0, as_values xs t h.1)
  as_values (datum.fields (datum.more m (datum.more v (datum.more x y))) ∷ xs) t h = absurd h.0
  as_values (datum.int z ∷ xs) t h = absurd h.0
  as_values (datum.truth b ∷ xs) t h = absurd h.0
  as_values (datum.char c ∷ xs) t h = absurd h.0
  as_values (datum.enumerated n ∷ xs) t h = absurd h.0
  as_values (datum.text s ∷ xs) t h = absurd h.0
  as_values (datum.array u ∷ xs) t h = absurd h.0
  as_values (datum.set u ∷ xs) t h = absurd h.0
  as_values (datum.bag u ∷ xs) t h = absurd h.0
  as_values (datum.object q n ∷ xs) t h = absurd h.0

  one_more : (xs : List Datum) (x : Datum) (t : DataType) → NodesFit xs t → NodeFits x t → NodesFit (xs ++ x ∷ []) t
  one_more [] x t h one = (one, tt)
  one_more (y ∷ ys) x t h one = (h.0, one_more ys x t h.1 one)

  one_less : (name : ℤ) (xs : List Datum) (t : DataType) → NodesFit xs t → NodesFit (without_node name xs) t
  one_less name [] t h = tt
  one_less name (x ∷ xs) t h = by (is_named name x) (one_less name xs t h.1)
    where
      by : (b : Bool) → NodesFit (without_node name xs) t → NodesFit (if b then xs else x ∷ without_node name xs) t
      by true rest = h.1
      by false rest = (h.0, rest)

  -- the nodes of a graph of a type
  nodes_fit : (w : Data) (t : DataType) → NodesOf us kinds w t → NodesFit (nodes_in (datum.fields w)) t
  nodes_fit datum.none t h = absurd h
  nodes_fit (datum.more next datum.none) t h = absurd h
  nodes_fit (datum.more next (datum.more (datum.set w) datum.none)) t h = as_nodes w t h
  nodes_fit (datum.more next (datum.more (datum.set w) (datum.more x y))) t h = absurd h
  nodes_fit (datum.more next (datum.more (datum.int z) w)) t h = absurd h
  nodes_fit (datum.more next (datum.more (datum.truth b) w)) t h = absurd h
  nodes_fit (datum.more next (datum.more (datum.char c) w)) t h = absurd h
  nodes_fit (datum.more next (datum.more (datum.enumerated n) w)) t h = absurd h
  nodes_fit (datum.more next (datum.more (datum.text s) w)) t h = absurd h
  nodes_fit (datum.more next (datum.more (datum.array u) w)) t h = absurd h
  nodes_fit (datum.more next (datum.more (datum.fields u) w)) t h = absurd h
  nodes_fit (datum.more next (datum.more (datum.bag u) w)) t h = absurd h
  nodes_fit (datum.more next (datum.more (datum.object q n) w)) t h = absurd h

  abbrev grown_by : Datum → Result (ℤ × Datum) FaultKind → Datum
  grown_by v (Ok x) = x.1
  grown_by v (Err fault) = v

  module _ (laws : GraphLaws) (t : DataType) (e : outside_of t ≡ types.Within layer.Graph) where
    graph_of_type : (next : ℤ) (nodes : List Datum) → IsGraph (graph_of next nodes) → IsWord next → NodesFit nodes (inside_of t) → IsOf us kinds (graph_of next nodes) t
    graph_of_type next nodes graph word fit =
        subst (λ o. OfBy us kinds o (inside_of t) (graph_of next nodes)) (sym e) (graph, word, as_values nodes (inside_of t) fit)

    module _ (w : Data) (own : IsGraph (datum.fields w) × IsWord (name_in (datum.fields w)) × NodesOf us kinds w (inside_of t)) where
      abbrev g : Datum
      g = datum.fields w

      abbrev with_fresh : Datum → Result (ℤ × Datum) FaultKind
      with_fresh fresh = Ok (name_in g, graph_of (name_in g +ℤ pos 1) (nodes_in g ++ node_of (name_in g) fresh ∷ []))

      adds : (fresh grown : Datum) (name : ℤ) → IsOf us kinds fresh (inside_of t) → added fresh g ≡ Ok (name, grown) → IsWord name × IsOf us kinds grown t
      adds fresh grown name one is = by (int_eq (name_in g) last_name) refl is
        where
          by : (b : Bool) → int_eq (name_in g) last_name ≡ b →
              (if b then Err Overflow else with_fresh fresh) ≡ Ok (name, grown) →
              IsWord name × IsOf us kinds grown t
          by true at e2 = absurd cc
          by false at e2 =
              let graph = laws.added_graph fresh g grown name own.0 is in
              let same : graph_of (name_in g +ℤ pos 1) (nodes_in g ++ node_of (name_in g) fresh ∷ []) ≡ grown = ap (grown_by g) e2 in (
                subst IsWord (sym graph.1) own.1,
                subst (λ x. IsOf us kinds x t) same (graph_of_type (name_in g +ℤ pos 1) (nodes_in g ++ node_of (name_in g) fresh ∷ [])
                    (subst IsGraph (sym same) graph.0) (next_word (name_in g) own.1 own.0.next at)
                    (one_more (nodes_in g) (node_of (name_in g) fresh) (inside_of t) (nodes_fit w (inside_of t) own.2) one)),
              )

      deletes : (name : ℤ) (rest : Datum) → deleted name g ≡ Ok rest → IsOf us kinds rest t
      deletes name rest is = by (node_in name g) is
        where
          by : (o : Option Datum) → (if is_some o then Ok (graph_of (name_in g) (without_node name (nodes_in g))) else Err IndexOutside) ≡ Ok rest →
              IsOf us kinds rest t
          by None e2 = absurd cc
          by (Some v) e2 =
              let graph = laws.deleted_graph name g rest own.0 is in
              let same : graph_of (name_in g) (without_node name (nodes_in g)) ≡ rest = ap (given g) e2 in
              subst (λ x. IsOf us kinds x t) same (graph_of_type (name_in g) (without_node name (nodes_in g)) (subst IsGraph (sym same) graph.0) own.1
              (one_less name (nodes_in g) (inside_of t) (nodes_fit w (inside_of t) own.2)))

    keeps_graph : (v : Datum) → IsOf us kinds v t → KeepsGraph us kinds t v
    keeps_graph (datum.fields w) h =
        let own = subst (λ o. OfBy us kinds o (inside_of t) (datum.fields w)) e h in record { adds = adds w own; deletes = deletes w own }
    keeps_graph (datum.int z) h = absurd (subst (λ o. OfBy us kinds o (inside_of t) (datum.int z)) e h).0
    keeps_graph (datum.truth b) h = absurd (subst (λ o. OfBy us kinds o (inside_of t) (datum.truth b)) e h)
    keeps_graph (datum.char c) h = absurd (subst (λ o. OfBy us kinds o (inside_of t) (datum.char c)) e h).0
    keeps_graph (datum.enumerated n) h = absurd (subst (λ o. OfBy us kinds o (inside_of t) (datum.enumerated n)) e h)
    keeps_graph (datum.text s) h = absurd (subst (λ o. OfBy us kinds o (inside_of t) (datum.text s)) e h).0
    keeps_graph (datum.array w) h = absurd (subst (λ o. OfBy us kinds o (inside_of t) (datum.array w)) e h)
    keeps_graph (datum.set w) h = absurd (subst (λ o. OfBy us kinds o (inside_of t) (datum.set w)) e h)
    keeps_graph (datum.bag w) h = absurd (subst (λ o. OfBy us kinds o (inside_of t) (datum.bag w)) e h)
    keeps_graph (datum.object q n) h = absurd (subst (λ o. OfBy us kinds o (inside_of t) (datum.object q n)) e h)

pub graphs_fit : GraphLaws → (us : List Source) → GraphsFit us
graphs_fit laws us kinds t v e h = keeps_graph us kinds laws t e v h
