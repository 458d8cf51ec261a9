-- What is passed is a name with no path behind it.
use Rattle.std.proofs.Common.{◌≡◌, ℕ, Bool, true, false, List, [], ◌∷◌, length, refl, sym, ap, ◌∙◌}
use Rattle.std.proofs.Math.Dec.{eqb-suc-zero}
use Rattle.std.specs.Prelude.{◌==◌, not}
use Rattle.orca_tree.specs.declared.tree.Name.{Name}
use Rattle.orca_tree.specs.declared.tree.Selector.{Selector}
use Rattle.orca_syntax.specs.Shown.{path}
use Rattle.orca_syntax.specs.Syntax as syn
use Rattle.estimate_rules.specs.Uses.{passed, passes}

pub none_passed : (n : ℕ) (f : Name) (position : ℕ) (o : Name) (l : List Selector) (b : Bool) → b ≡ true → b ≡ not (length l == 0) →
    passed n f position (syn.Get o (path l)) ≡ []
none_passed n f position o [] b is e = absurd (cc (sym is ∙ e))
none_passed n f position o (s ∷ l) b is e = refl

pub one_passed : (n : ℕ) (f : Name) (position : ℕ) (o : Name) (l : List Selector) (b : Bool) → b ≡ false → b ≡ not (length l == 0) →
    passes n f position o ∷ [] ≡ passed n f position (syn.Get o (path l))
one_passed n f position o [] b is e = refl
one_passed n f position o (s ∷ l) b is e = absurd (cc (sym is ∙ e ∙ ap not (eqb-suc-zero (length l))))
