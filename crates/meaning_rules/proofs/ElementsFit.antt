-- The elements of a set or bag of a type are of its elements' type, and stay so under `insert`, `delete` and `from`.
use Rattle.std.proofs.Common.{refl, ap, sym, subst}
use Rattle.std.specs.Prelude.{◌≡◌, Bool, true, false, if◌then◌else◌, List, [], ◌∷◌, Ok}
use Rattle.std.specs.Ordering.{is_eq, is_lt}
use Rattle.link_rules.specs.Units.{Source}
use Rattle.type_rules.specs.declared.types.DataType.{DataType}
use Rattle.type_rules.specs.declared.types.Base.TheVariants as base
use Rattle.type_rules.specs.declared.types.Layer.TheVariants as layer
use Rattle.type_rules.specs.Types as types
use Rattle.type_rules.specs.Types.{Outside, outside_of, inside_of}
use Rattle.value_core.specs.Datum.{Datum, Data, data_of, list_of, list_of-data_of, data_of-list_of}
use Rattle.value_core.specs.Datum as datum
use Rattle.value_core.specs.Fits.{Kinds}
use Rattle.value_core.specs.Order.{datum_cmp}
use Rattle.value_ops.specs.Elements.{IsInOrder, deleted, first_of, has, inserted, put_in, rest_of, without, without_least}
use Rattle.meaning_rules.specs.Fitting.{IsOf, AllOf}
use Rattle.meaning_rules.specs.ElementsFit.{Gathers, KeepsElements, ElementsFit}
use Rattle.meaning_rules.proofs.PartsFit.{OfBy, given}

-- elements stay in order
pub record InOrder : Type 0 where
  pub inserted_in_order : (e v : Datum) → IsInOrder v → IsInOrder (inserted e v)
  pub deleted_in_order : (e v : Datum) → IsInOrder v → IsInOrder (deleted e v)
  pub rest_in_order : (v : Datum) → IsInOrder v → IsInOrder (without_least v)

module _ (us : List Source) (kinds : Kinds) where
  by_test : (b : Bool) (x y : Data) (t : DataType) → AllOf us kinds x t → AllOf us kinds y t → AllOf us kinds (if b then x else y) t
  by_test true x y t h i = h
  by_test false x y t h i = i

  put_all : (e : Datum) (xs : List Datum) (t : DataType) → IsOf us kinds e t → AllOf us kinds (data_of xs) t → AllOf us kinds (data_of (put_in e xs)) t
  put_all e [] t one h = (one, tt)
  put_all e (x ∷ xs) t one h = by_place (is_lt (datum_cmp x e)) (put_all e xs t one h.1)
    where
      by_place : (b : Bool) → AllOf us kinds (data_of (put_in e xs)) t → AllOf us kinds (data_of (if b then x ∷ put_in e xs else e ∷ x ∷ xs)) t
      by_place true rest = (h.0, rest)
      by_place false rest = (one, h)

  without_all : (e : Datum) (xs : List Datum) (t : DataType) → AllOf us kinds (data_of xs) t → AllOf us kinds (data_of (without e xs)) t
  without_all e [] t h = tt
  without_all e (x ∷ xs) t h = by_place (is_eq (datum_cmp x e)) (without_all e xs t h.1)
    where
      by_place : (b : Bool) → AllOf us kinds (data_of (without e xs)) t → AllOf us kinds (data_of (if b then xs else x ∷ without e xs)) t
      by_place true rest = h.1
      by_place false rest = (h.0, rest)

  as_list : (w : Data) (t : DataType) → AllOf us kinds w t → AllOf us kinds (data_of (list_of w)) t
  as_list w t h = subst (λ u. AllOf us kinds u t) (sym (data_of-list_of w)) h

  rest_all : (w : Data) (t : DataType) → AllOf us kinds w t → AllOf us kinds (rest_of w) t
  rest_all datum.none t h = tt
  rest_all (datum.more v w) t h = h.1

  first_all : (w : Data) (t : DataType) (e : Datum) → AllOf us kinds w t → first_of (list_of w) ≡ Ok e → IsOf us kinds e t
  first_all datum.none t e h is = absurd cc
  first_all (datum.more v w) t e h is = subst (λ x. IsOf us kinds x t) (ap (given v) is) h.0

  module _ (order : InOrder) (t : DataType) where
    set_keeps : (w : Data) → outside_of t ≡ types.Within layer.Set → IsOf us kinds (datum.set w) t → KeepsElements us kinds t (datum.set w)
    set_keeps w e h =
        let own = subst (λ o. OfBy us kinds o (inside_of t) (datum.set w)) e h in
        record {
          puts = λ x one. subst (λ o. OfBy us kinds o (inside_of t) (inserted x (datum.set w))) (sym e) (
            order.inserted_in_order x (datum.set w) own.0,
            by_test (has x (list_of w)) w (data_of (put_in x (list_of w))) (inside_of t) own.1 (put_all x (list_of w) (inside_of t) one (as_list w (inside_of t) own.1)),
          );
          drops = λ x. subst (λ o. OfBy us kinds o (inside_of t) (deleted x (datum.set w))) (sym e)
              (order.deleted_in_order x (datum.set w) own.0, without_all x (list_of w) (inside_of t) (as_list w (inside_of t) own.1));
          gives = λ x is. first_all w (inside_of t) x own.1 is;
          rests = subst (λ o. OfBy us kinds o (inside_of t) (without_least (datum.set w))) (sym e)
              (order.rest_in_order (datum.set w) own.0, rest_all w (inside_of t) own.1);
        }

    bag_keeps : (w : Data) → outside_of t ≡ types.Within layer.Bag → IsOf us kinds (datum.bag w) t → KeepsElements us kinds t (datum.bag w)
    bag_keeps w e h =
        let own = subst (λ o. OfBy us kinds o (inside_of t) (datum.bag w)) e h in
        record {
          puts = λ x one. subst (λ o. OfBy us kinds o (inside_of t) (inserted x (datum.bag w))) (sym e)
              (order.inserted_in_order x (datum.bag w) own.0, put_all x (list_of w) (inside_of t) one (as_list w (inside_of t) own.1));
          drops = λ x. subst (λ o. OfBy us kinds o (inside_of t) (deleted x (datum.bag w))) (sym e)
              (order.deleted_in_order x (datum.bag w) own.0, without_all x (list_of w) (inside_of t) (as_list w (inside_of t) own.1));
          gives = λ x is. first_all w (inside_of t) x own.1 is;
          rests = subst (λ o. OfBy us kinds o (inside_of t) (without_least (datum.bag w))) (sym e)
              (order.rest_in_order (datum.bag w) own.0, rest_all w (inside_of t) own.1);
        }

    of_set : (v : Datum) → outside_of t ≡ types.Within layer.Set → IsOf us kinds v t → KeepsElements us kinds t v
    of_set (datum.set w) e h = set_keeps w e h
    of_set (datum.int z) e h = absurd (subst (λ o. OfBy us kinds o (inside_of t) (datum.int z)) e h).0
    of_set (datum.truth b) e h = absurd (subst (λ o. OfBy us kinds o (inside_of t) (datum.truth b)) e h)
    of_set (datum.char c) e h = absurd (subst (λ o. OfBy us kinds o (inside_of t) (datum.char c)) e h).0
    of_set (datum.enumerated n) e h = absurd (subst (λ o. OfBy us kinds o (inside_of t) (datum.enumerated n)) e h)
    of_set (datum.text s) e h = absurd (subst (λ o. OfBy us kinds o (inside_of t) (datum.text s)) e h).0
    of_set (datum.array w) e h = absurd (subst (λ o. OfBy us kinds o (inside_of t) (datum.array w)) e h)
    of_set (datum.fields w) e h = absurd (subst (λ o. OfBy us kinds o (inside_of t) (datum.fields w)) e h)
    of_set (datum.object q n) e h = absurd (subst (λ o. OfBy us kinds o (inside_of t) (datum.object q n)) e h)
    of_set (datum.bag w) e h = absurd (subst (λ o. OfBy us kinds o (inside_of t) (datum.bag w)) e h)

    of_bag : (v : Datum) → outside_of t ≡ types.Within layer.Bag → IsOf us kinds v t → KeepsElements us kinds t v
    of_bag (datum.bag w) e h = bag_keeps w e h
    of_bag (datum.int z) e h = absurd (subst (λ o. OfBy us kinds o (inside_of t) (datum.int z)) e h).0
    of_bag (datum.truth b) e h = absurd (subst (λ o. OfBy us kinds o (inside_of t) (datum.truth b)) e h)
    of_bag (datum.char c) e h = absurd (subst (λ o. OfBy us kinds o (inside_of t) (datum.char c)) e h).0
    of_bag (datum.enumerated n) e h = absurd (subst (λ o. OfBy us kinds o (inside_of t) (datum.enumerated n)) e h)
    of_bag (datum.text s) e h = absurd (subst (λ o. OfBy us kinds o (inside_of t) (datum.text s)) e h).0
    of_bag (datum.array w) e h = absurd (subst (λ o. OfBy us kinds o (inside_of t) (datum.array w)) e h)
    of_bag (datum.fields w) e h = absurd (subst (λ o. OfBy us kinds o (inside_of t) (datum.fields w)) e h)
    of_bag (datum.object q n) e h = absurd (subst (λ o. OfBy us kinds o (inside_of t) (datum.object q n)) e h)
    of_bag (datum.set w) e h = absurd (subst (λ o. OfBy us kinds o (inside_of t) (datum.set w)) e h)

    by_outside : (o : Outside) → outside_of t ≡ o → Gathers o → (v : Datum) → IsOf us kinds v t → KeepsElements us kinds t v
    by_outside (types.Within layer.Set) e g v h = of_set v e h
    by_outside (types.Within layer.Bag) e g v h = of_bag v e h
    by_outside (types.Within (layer.Array low high)) e g v h = absurd g
    by_outside (types.Within layer.Graph) e g v h = absurd g
    by_outside (types.Bare base.Integer) e g v h = absurd g
    by_outside (types.Bare base.Boolean) e g v h = absurd g
    by_outside (types.Bare base.Character) e g v h = absurd g
    by_outside (types.Bare base.String) e g v h = absurd g
    by_outside (types.Bare base.NodeName) e g v h = absurd g
    by_outside (types.Bare (base.Enumeration j)) e g v h = absurd g
    by_outside (types.Bare (base.Record j)) e g v h = absurd g
    by_outside (types.Bare (base.Object j)) e g v h = absurd g

pub elements_fit : InOrder → (us : List Source) → ElementsFit us
elements_fit order us kinds t v g h = by_outside us kinds order t (outside_of t) refl g v h
