-- Names that are put in front of others.
use Rattle.std.proofs.Common.{◌≡◌, ℕ, ◌<◌, ◌+◌, Bool, true, false, cond, List, ◌∷◌, ◌++◌, length, get_or, drop, map, find, Option, Some, refl, sym, ap, subst, ◌∙◌, append_assoc}
use Rattle.std.specs.Prelude.{bytes_eq, flat_map, option_map}
use Rattle.std.specs.Borrow.{Bor}
use Rattle.std.specs.BTreeMap.{BTreeMap}
use Rattle.std.proofs.lemmas.Slice.Eq.{bytes_eq-Decides}
use Rattle.type_rules.specs.declared.types.DataType.{DataType}
use Rattle.type_rules.specs.declared.names.LocalRole.{LocalRole}
use Rattle.type_rules.specs.Scopes as rules
use Rattle.type_forms.proofs.Loops.{rest_is}
use Rattle.type_tables.specs.Entries.{entry}
use Rattle.type_exprs.specs.declared.scope.Local.{Local}
use Rattle.type_exprs.specs.Scoped.{local_as}
use Rattle.type_decls.specs.Bodies.{AreLocals}

abbrev Named : Type 0
Named = BTreeMap (Bor (List ℕ)) Local

-- one name more in front
put_at : (name n : List ℕ) (local : Local) (old new : Option Local) (rest : Option rules.Local) → new ≡ cond (bytes_eq name n) (Some local) old →
    option_map (local_as n) old ≡ rest → option_map (local_as n) new ≡ cond (bytes_eq name n) (Some (local_as name local)) rest
put_at name n local old new rest is h = ap (option_map (local_as n)) is ∙ by_test (bytes_eq name n) refl
  where
    by_test : (b : Bool) → bytes_eq name n ≡ b → option_map (local_as n) (cond b (Some local) old) ≡ cond b (Some (local_as name local)) rest
    by_test true e = ap (λ (m : List ℕ). Some (local_as m local)) (sym ((bytes_eq-Decides name n).0 e))
    by_test false e = h

pub put_local : (old new : Named) (name : List ℕ) (local : Local) (ls : List rules.Local) →
    ((n : List ℕ) → entry new n ≡ cond (bytes_eq name n) (Some local) (entry old n)) → AreLocals old ls → AreLocals new (local_as name local ∷ ls)
put_local old new name local ls is h n = put_at name n local (entry old n) (entry new n) (find (λ l. bytes_eq l.name n) ls) (is n) (h n)

pub put_as : (old new : Named) (name : List ℕ) (local : Local) (l : rules.Local) (ls : List rules.Local) →
    ((n : List ℕ) → entry new n ≡ cond (bytes_eq name n) (Some local) (entry old n)) → local_as name local ≡ l → AreLocals old ls → AreLocals new (l ∷ ls)
put_as old new name local l ls is e h = subst (λ (m : rules.Local). AreLocals new (m ∷ ls)) e (put_local old new name local ls is h)

abbrev pub made : List ℕ → LocalRole → Option DataType → rules.Local
made n r k = record { name = n; role = r; type = k }

pub same_local : (n m : List ℕ) (r s : LocalRole) (k j : Option DataType) → n ≡ m → r ≡ s → k ≡ j → made n r k ≡ made m s j
same_local n m r s k j e f g =
    ap (λ (v : List ℕ). made v r k) e ∙ ap (λ (v : LocalRole). made m v k) f ∙ ap (λ (v : Option DataType). made m s v) g

-- those of a list from a place on, one more in front
pub named_in_front : {A : Type 0} (f : A → rules.Local) (xs : List A) (i : ℕ) (x : A) (table : Named) (ls : List rules.Local) → i < length xs → x ≡ get_or xs i x →
    AreLocals table (f x ∷ (map f (drop (i + 1) xs) ++ ls)) → AreLocals table (map f (drop i xs) ++ ls)
named_in_front {A} f xs i x table ls lt is h n =
    h n ∙ ap (λ (l : List A). find (λ l. bytes_eq l.name n) (map f l ++ ls)) (sym (rest_is xs i x lt is))

pub more_in_front : {A B : Type 0} (shown : A → B) (f : B → rules.Local) (xs : List A) (i : ℕ) (x : A) (table : Named) (ls : List rules.Local) → i < length xs →
    x ≡ get_or xs i x → AreLocals table (f (shown x) ∷ (map f (map shown (drop (i + 1) xs)) ++ ls)) → AreLocals table (map f (map shown (drop i xs)) ++ ls)
more_in_front {A} {B} shown f xs i x table ls lt is h n =
    h n ∙ ap (λ (l : List A). find (λ l. bytes_eq l.name n) (map f (map shown l) ++ ls)) (sym (rest_is xs i x lt is))

-- and those of a list of lists
pub group_in_front : {A B : Type 0} (shown : A → B) (f : B → List rules.Local) (xs : List A) (i : ℕ) (x : A) (table : Named) (ls : List rules.Local) → i < length xs →
    x ≡ get_or xs i x → AreLocals table (f (shown x) ++ (flat_map f (map shown (drop (i + 1) xs)) ++ ls)) → AreLocals table (flat_map f (map shown (drop i xs)) ++ ls)
group_in_front {A} {B} shown f xs i x table ls lt is h n =
    h n
    ∙ ap (find (λ l. bytes_eq l.name n)) (sym (append_assoc (f (shown x)) (flat_map f (map shown (drop (i + 1) xs))) ls))
    ∙ ap (λ (l : List A). find (λ l. bytes_eq l.name n) (flat_map f (map shown l) ++ ls)) (sym (rest_is xs i x lt is))
