-- What a loop over phrases has left: where one changes no field, and where one does.
use Rattle.std.proofs.Common.{◌≡◌, ℕ, ◌<◌, ◌+◌, Bool, true, false, ◌||◌, List, length, get_or, drop, sym, ap, ◌∙◌}
use Rattle.orca_tree.specs.declared.tree.Expression.{Expression}
use Rattle.orca_tree.specs.declared.tree.Mode.{Mode}
use Rattle.orca_syntax.specs.Shown.{expr, exprs}
use Rattle.type_rules.specs.Scopes.{Scope}
use Rattle.type_forms.proofs.Loops.{rest_is}
use Rattle.type_exprs.proofs.Pushed.{drop_once}
use Rattle.meaning_rules.specs.Calls.{first_mode}
use Rattle.meaning_rules.specs.Classes.{arguments_change, changes, lends_field}
use Rattle.access_analysis.proofs.Fields.{either_grouped}

-- where the first of what is left changes none, and where it does
pub none_yet : (own rest front all : Bool) → front ≡ (own || rest) → own ≡ false → front ≡ all → rest ≡ all
none_yet own rest front all step none before = ap (λ (b : Bool). b || rest) (sym none) ∙ sym step ∙ before

pub one_does : (own rest front all : Bool) → front ≡ (own || rest) → own ≡ true → front ≡ all → true ≡ all
one_does own rest front all step one before = ap (λ (b : Bool). b || rest) (sym one) ∙ sym step ∙ before

-- what is true of one of two, and of the other
pub or_own : (own one other : Bool) → own ≡ true → own ≡ one → own ≡ (one || other)
or_own own one other is e = is ∙ ap (λ (b : Bool). b || other) (sym is ∙ e)

pub or_behind : (own behind one other : Bool) → own ≡ false → own ≡ one → behind ≡ other → behind ≡ (one || other)
or_behind own behind one other is e f = f ∙ ap (λ (b : Bool). b || other) (sym is ∙ e)

-- the first of arguments, and those behind it
pub argument_first : (w : Scope) (ms : List Mode) (es : List Expression) (i : ℕ) (x : Expression) → i < length es → x ≡ get_or es i x →
    arguments_change w (drop i ms) (exprs (drop i es))
    ≡ ((lends_field w (first_mode (drop i ms)) (expr x) || changes w (expr x)) || arguments_change w (drop (i + 1) ms) (exprs (drop (i + 1) es)))
argument_first w ms es i x lt is =
    let lent = lends_field w (first_mode (drop i ms)) (expr x) in
    let own = changes w (expr x) in
    ap (λ (l : List Expression). arguments_change w (drop i ms) (exprs l)) (rest_is es i x lt is)
    ∙ ap (λ (l : List Mode). lent || (own || arguments_change w l (exprs (drop (i + 1) es)))) (drop_once i ms)
    ∙ sym (either_grouped lent own (arguments_change w (drop (i + 1) ms) (exprs (drop (i + 1) es))))
