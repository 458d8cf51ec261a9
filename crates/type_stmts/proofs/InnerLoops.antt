-- One more open loop.
use Rattle.std.proofs.Common.{◌≡◌, ℕ, Bool, true, false, ◌||◌, cond, List, [], ◌∷◌, ◌++◌, Option, Some, refl, sym, ap, ◌∙◌}
use Rattle.std.specs.Prelude.{bytes_eq, option_map}
use Rattle.std.specs.Borrow.{Bor}
use Rattle.std.proofs.lemmas.Slice.Eq.{bytes_eq-Decides}
use Rattle.orca_tree.specs.declared.tree.Name.{Name}
use Rattle.type_rules.specs.declared.types.Base.TheVariants.{Integer}
use Rattle.type_rules.specs.declared.names.LocalRole.TheVariants.{LoopVariable}
use Rattle.type_rules.specs.Types.{plain}
use Rattle.type_rules.specs.Scopes.{Local, Scope, local}
use Rattle.type_rules.specs.Statements.{with_loop}
use Rattle.type_tables.specs.Entries.{entry}
use Rattle.type_exprs.specs.Scoped.{counts, local_as}
use Rattle.type_stmts.specs.declared.bodies.BodyScope.{BodyScope}
use Rattle.type_stmts.specs.Bodies.{IsBody}

or_none : (p : Bool) → (p || false) ≡ p
or_none true = refl
or_none false = refl

or_grouped : (p q r : Bool) → (p || (q || r)) ≡ ((p || q) || r)
or_grouped true q r = refl
or_grouped false q r = refl

pub counts_more : (ls : List (Bor (List ℕ))) (n : Bor (List ℕ)) (m : List ℕ) → counts (ls ++ n ∷ []) m ≡ (counts ls m || bytes_eq n.now m)
counts_more [] n m = or_none (bytes_eq n.now m)
counts_more (l ∷ ls) n m = ap (λ (b : Bool). bytes_eq l.now m || b) (counts_more ls n m) ∙ or_grouped (bytes_eq l.now m) (counts ls m) (bytes_eq n.now m)

-- the variable of a loop, in front of what was seen before
in_front : (p q : Bool) (a b c d : Option Local) → cond p a b ≡ d → (q ≡ true → a ≡ c) → cond (p || q) a b ≡ cond q c d
in_front true true a b c d old new = new refl
in_front true false a b c d old new = old
in_front false true a b c d old new = new refl
in_front false false a b c d old new = old

abbrev counter : List ℕ → Local
counter n = record { name = n; role = LoopVariable; type = Some (plain Integer) }

pub in_loop : (b : BodyScope) (w : Scope) (n : Name) (ls : Bor (List (Bor (List ℕ)))) → IsBody b w →
    ((m : List ℕ) → counts ls.now m ≡ (counts b.scope.loops.now m || bytes_eq n.text m)) →
    IsBody (record b { scope = record b.scope { loops = ls } }) (with_loop w n)
in_loop b w n ls is more = record {
  scope = record {
    tables = is.scope.tables;
    home = is.scope.home;
    counter = is.scope.counter;
    locals = λ m.
        ap (λ (t : Bool). cond t (Some (local_as m b.scope.counter.now)) (option_map (local_as m) (entry b.scope.names.now m))) (more m)
        ∙ in_front (counts b.scope.loops.now m) (bytes_eq n.text m) _ _ (Some (counter n.text)) (local w m) (is.scope.locals m)
        (λ same. ap (λ (l : Local). Some l) (is.scope.counter m ∙ ap counter (sym ((bytes_eq-Decides n.text m).0 same))));
    owner = is.scope.owner;
    in_guard = is.scope.in_guard;
  };
  result = is.result;
  order = is.order;
}
