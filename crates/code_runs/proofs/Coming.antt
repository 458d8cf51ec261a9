-- What is given of a run.
use Rattle.std.proofs.Common.{◌≡◌, ℕ, ◌∙◌, sym, subst}
use Rattle.value_core.specs.declared.meaning.Tried.{Tried}
use Rattle.code_rules.specs.Performing.{Came}
use Rattle.code_runs.specs.Runs.{Gives, HasSmallGuards, IsCame}

pub came_as : {A : Type 0} (x y : Came A) (z : A) → x ≡ y → IsCame y z → IsCame x z
came_as x y z is h = subst (λ (w : Came _). IsCame w z) (sym is) h

-- runs that come to the same give the same
pub gives_as : {A : Type 0} (run run' : ℕ → Came A) (x : A) → ((k : ℕ) → run k ≡ run' k) → Gives run' x → Gives run x
gives_as run run' x same g = (g.0, came_as (run g.0) (run' g.0) x (same g.0) g.1)

pub small_as : (run run' : ℕ → Came Tried) → ((k : ℕ) → run k ≡ run' k) → HasSmallGuards run → HasSmallGuards run'
small_as run run' same small k t is = small k t (same k ∙ is)
