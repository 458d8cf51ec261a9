-- What a called body begins with, and who waits.
use Rattle.std.proofs.Common.{◌≡◌, ℕ, List, [], ◌∷◌, ◌++◌, Option, Some, None, length, map, refl, ap, ◌∙◌, arith}
use Rattle.std.specs.Prelude.{reverse}
use Rattle.std.proofs.lemmas.List.{map-append, reverse-append}
use Rattle.value_core.specs.Datum.{Datum}
use Rattle.meaning_rules.specs.Calls.{Passed as RulePassed}
use Rattle.frame_variables.specs.declared.steps.Passed.{Passed}
use Rattle.frame_variables.specs.Gives.{passed_of}
use Rattle.code_rules.specs.Machine.{Body, Config, entered, filled}
use Rattle.code_steps.specs.declared.config.Caller.{Caller}
use Rattle.code_steps.specs.Bodies.{caller_of, callers_of}

-- where nothing is passed the names hold what the body opens with
pub names_all : (xs : List Datum) (args : List Passed) → length args ≡ 0 → xs ≡ filled xs (map passed_of args)
names_all [] [] none = refl
names_all (x ∷ xs) [] none = refl
names_all xs (p ∷ ps) none = absurd (omega (arith, none))

-- what is entered doesn't ask for the operands that stood
pub entered_same : (o : Option Body) (i : ℕ) (ps : List RulePassed) (c : Config) (stack new : List Datum) →
    entered o i ps (record c { stack = new }) stack ≡ entered o i ps c stack
entered_same None i ps c stack new = refl
entered_same (Some part) i ps c stack new = refl

-- one more waits, and none
pub one_waits : (ws : List Caller) (w : Caller) → callers_of (ws ++ w ∷ []) ≡ caller_of w ∷ callers_of ws
one_waits ws w = ap reverse (map-append caller_of ws (w ∷ [])) ∙ reverse-append (map caller_of ws) (caller_of w ∷ [])

pub none_wait : (ws : List Caller) → length ws ≡ 0 → callers_of ws ≡ []
none_wait [] none = refl
none_wait (w ∷ ws) none = absurd (omega (arith, none))
