-- One step, and the rest of a path behind it.
use Rattle.std.proofs.Common.{◌≡◌, ℕ, zero, suc, ◌<◌, ℤ, List, [], ◌∷◌, length, Some, Result, Ok, Err, refl, ap, sym, ◌∙◌, subst}
use Rattle.std.specs.Prelude.{map, position, slice_get, slice_set}
use Rattle.value_core.specs.Datum.{Datum}
use Rattle.value_core.specs.View.{datum_of}
use Rattle.value_core.specs.declared.value.Value.{Value}
use Rattle.graph_values.specs.Graphs.{graph_of, is_named, name_in, node_of, nodes_in, value_at, value_in, with_node}
use Rattle.value_paths.specs.declared.step.Step.{Step as ValueStep}
use Rattle.value_paths.specs.declared.step.Step.TheVariants.{Node}
use Rattle.value_paths.specs.Paths.{and_then, found, part_at, part_to, where_found, with_part, with_step}
use Rattle.meaning_rules.specs.States.{gives}
use Rattle.frame_variables.specs.declared.stop.Stop.{Stop}
use Rattle.frame_variables.specs.Exchanges.{PutsPart}
use Rattle.frame_variables.specs.Gives.{Fails}
use Rattle.frame_variables.proofs.Placing.{found_some, node_place, node_set, node_value}

-- what is put behind a step is put at the end of both
pub puts_behind : (step : ValueStep) (path : List ValueStep) (x old new c c' : Datum) (r : Result Value Stop) → part_to step old ≡ Ok c → new ≡ with_step step old c' →
    PutsPart path x c r c' → PutsPart (step ∷ path) x old r new
puts_behind step path x old new c c' (Ok part) leads left put = (
  ap (λ q. and_then q (part_at path)) leads ∙ put.0,
  left ∙ ap (with_step step old) put.1 ∙ sym (ap (λ q. where_found q old (λ p. with_step step old (with_part path p x))) leads),
)
puts_behind step path x old new c c' (Err why) leads left put = λ s. subst (λ q. Fails why (gives q s)) (sym (ap (λ q. and_then q (part_at path)) leads)) (put s)

-- a graph, by the place of its node
pub graph_puts : (name : ℤ) (path : List ValueStep) (x old c c' : Datum) (xs : List Datum) (place : ℕ) (r : Result Value Stop) → xs ≡ nodes_in old → value_at name xs ≡ Some c →
    with_node name (node_of name c') xs ≡ slice_set xs place (node_of name c') → PutsPart path x c r c' → PutsPart (Node name ∷ path) x old r (graph_of (name_in old) (slice_set xs place (node_of name c')))
graph_puts name path x old c c' xs place r nodes stands set put =
    puts_behind (Node name) path x old (graph_of (name_in old) (slice_set xs place (node_of name c'))) c c' r
    (ap found (ap (value_at name) (sym nodes) ∙ stands))
    (ap (graph_of (name_in old)) (sym set ∙ ap (with_node name (node_of name c')) nodes)) put

-- a list that gets two values at one place
pub set_again : (xs : List Datum) (i : ℕ) (v w : Datum) → slice_set (slice_set xs i v) i w ≡ slice_set xs i w
set_again [] i v w = refl
set_again (x ∷ xs) zero v w = refl
set_again (x ∷ xs) (suc i) v w = ap (λ ys. x ∷ ys) (set_again xs i v w)

-- a graph, as code takes it apart and puts it together
pub node_puts : (name : ℤ) (path : List ValueStep) (x old node inside inside' : Datum) (vs : List Value) (xs : List Datum) (place : ℕ) (r : Result Value Stop) → xs ≡ nodes_in old → map datum_of vs ≡ xs →
    Some place ≡ position (λ v. is_named name (datum_of v)) vs → slice_get xs place ≡ Some node → inside ≡ value_in node → PutsPart path x inside r inside' →
    PutsPart (Node name ∷ path) x old r (graph_of (name_in old) (slice_set xs place (node_of name inside')))
node_puts name path x old node inside inside' vs xs place r nodes shown is stood value put =
    let found = found_some (is_named name) vs xs place is shown in
    let at_place : place ≡ node_place name xs = found.1 in
    graph_puts name path x old inside inside' xs place r nodes
    (node_value name xs node (subst (λ n. slice_get xs n ≡ Some node) at_place stood) ∙ ap Some (sym value))
    (node_set name (node_of name inside') xs (subst (λ n. n < length xs) at_place found.0) ∙ ap (λ n. slice_set xs n (node_of name inside')) (sym at_place))
    put

pub together : (name next next' : ℤ) (xs xs1 xs2 : List Datum) (place : ℕ) (other node inside' new : Datum) → next ≡ next' → xs1 ≡ slice_set xs place other → xs2 ≡ slice_set xs1 place node → node ≡ node_of name inside' →
    new ≡ graph_of next xs2 → new ≡ graph_of next' (slice_set xs place (node_of name inside'))
together name next next' xs xs1 xs2 place other node inside' new same first second node_is is =
    is ∙ ap (λ n. graph_of n xs2) same
    ∙ ap (graph_of next') (second ∙ ap (λ ys. slice_set ys place node) first ∙ set_again xs place other node ∙ ap (slice_set xs place) node_is)
