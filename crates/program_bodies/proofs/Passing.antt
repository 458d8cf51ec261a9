-- How arguments are passed, by their places, and what a node opens with.
use Rattle.std.proofs.Common.{◌≡◌, ℕ, zero, suc, Bool, true, false, cond, List, [], ◌∷◌, map, drop, Option, Some, None, refl, sym, ap, arith}
use Rattle.std.specs.Prelude.{◌==◌, option_map, pos, slice_get}
use Rattle.std.specs.Option.{option_map_or}
use Rattle.std.proofs.lemmas.Bool.{eqb-true}
use Rattle.orca_tree.specs.declared.tree.Expression.{Expression}
use Rattle.orca_tree.specs.declared.tree.Mode.{Mode}
use Rattle.orca_tree.specs.declared.tree.Mode.TheVariants as mode
use Rattle.orca_tree.specs.declared.tree.Parameter.{Parameter}
use Rattle.orca_syntax.specs.Shown.{expr, exprs, parameter}
use Rattle.type_rules.specs.Scopes.{Scope}
use Rattle.type_rules.specs.Types.{inside_of}
use Rattle.value_core.specs.Datum.{Datum}
use Rattle.value_core.specs.Datum as datum
use Rattle.meaning_rules.specs.Calls.{first_mode, fresh_node}
use Rattle.meaning_rules.specs.Designators.{designator_type}
use Rattle.meaning_rules.specs.Openings.{opening}

abbrev no_modes : List Mode
no_modes = []

nothing_left : (i : ℕ) → drop i no_modes ≡ no_modes
nothing_left zero = refl
nothing_left (suc i) = refl

pub mode_there : (ps : List Parameter) (i : ℕ) →
    first_mode (drop i (map (λ p. p.mode) (map parameter ps))) ≡ option_map_or (λ p. p.mode) (slice_get ps i) mode.Value
mode_there [] i = ap first_mode (nothing_left i)
mode_there (p ∷ ps) zero = refl
mode_there (p ∷ ps) (suc i) = mode_there ps i

pub none_first : (k : ℕ) → mode.Value ≡ first_mode (drop k no_modes)
none_first k = ap first_mode (sym (nothing_left k))

out_by : (k : ℕ) (b : Bool) → (suc k == 0) ≡ b → cond b mode.Out mode.Value ≡ first_mode (drop k [])
out_by k true is = let none = eqb-true (suc k) 0 is in absurd (omega (arith, none))
out_by k false is = ap first_mode (sym (nothing_left k))

pub out_first : (k : ℕ) → cond (k == 0) mode.Out mode.Value ≡ first_mode (drop k (mode.Out ∷ []))
out_first zero = refl
out_first (suc k) = out_by k (suc k == 0) refl

second_by : (k : ℕ) (b : Bool) → (suc k == 1) ≡ b → cond b mode.Out mode.Value ≡ first_mode (drop k (mode.Out ∷ []))
second_by zero true is = refl
second_by zero false is = absurd (cc is)
second_by (suc k) true is = let none = eqb-true (suc (suc k)) 1 is in absurd (omega (arith, none))
second_by (suc k) false is = ap first_mode (sym (nothing_left k))

pub out_second : (k : ℕ) → cond (k == 1) mode.Out mode.Value ≡ first_mode (drop k (mode.Value ∷ mode.Out ∷ []))
out_second zero = refl
out_second (suc k) = second_by k (suc k == 1) refl

-- ---- a node

abbrev pub node_of : Scope → Option Expression → Datum
node_of w None = datum.int (pos 0)
node_of w (Some e) = opening w.program (option_map inside_of (designator_type w (expr e)))

pub fresh_of : (w : Scope) (es : List Expression) → node_of w (slice_get es 0) ≡ fresh_node w (exprs es)
fresh_of w [] = refl
fresh_of w (e ∷ es) = refl
