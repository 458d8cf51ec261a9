-- The first line that passes one of two tests.
use Rattle.std.proofs.Common.{◌≡◌, ℕ, ◌+◌, ◌≤◌, Bool, true, false, cond, List, [], ◌∷◌, ap, refl, sym, ◌∙◌, arith}
use Rattle.std.specs.Prelude.{Option, Some, None, ◌||◌, nat_le, is_none}
use Rattle.std.specs.List.{find}
use Rattle.std.specs.Option.{option_map_or}
use Rattle.std.proofs.lemmas.Bool.Decides.{nat_tests}
use Rattle.net_rules.specs.declared.fate.Fate.{Fate}
use Rattle.net_rules.specs.declared.line.ScriptLine.{ScriptLine}
use Rattle.net_rules.specs.Script.{fate_of}
use Rattle.wires.specs.declared.lines.Found.{Found}
use Rattle.wires.specs.Index.{first_from, lesser}

abbrev Test : Type 0
Test = ScriptLine → Bool

later-sort : (p : Test) (place : ℕ) (line : ScriptLine) (lines : List ScriptLine) (f : Found) (b : Bool) →
    (first_from p (place + 1) lines ≡ Some f → place + 1 ≤ f.line) →
    cond b (Some (record { line = place; fate = fate_of line })) (first_from p (place + 1) lines) ≡ Some f → place ≤ f.line
later-sort p place line lines f true more e = let at : place ≡ f.line = cc in omega arith
later-sort p place line lines f false more e = let at = more e in omega arith

-- it doesn't stand in front of these
later : (p : Test) (place : ℕ) (lines : List ScriptLine) (f : Found) → first_from p place lines ≡ Some f → place ≤ f.line
later p place [] f e = absurd (cc)
later p place (line ∷ lines) f e = later-sort p place line lines f (p line) (later p (place + 1) lines f) e

-- with tests of one line
first_of_two : (place : ℕ) (here : Found) (one other both : Option Found) (b c : Bool) → here.line ≡ place →
    ((f : Found) → one ≡ Some f → place + 1 ≤ f.line) → ((f : Found) → other ≡ Some f → place + 1 ≤ f.line) → both ≡ lesser one other →
    cond (b || c) (Some here) both ≡ lesser (cond b (Some here) one) (cond c (Some here) other)
first_of_two place here one other both true true at p q e =
    let le : nat_le here.line here.line ≡ true = grind (arith, nat_tests) in
    sym (ap (λ b. cond b (Some here) (Some here)) le)
first_of_two place here one None both true false at p q e = refl
first_of_two place here one (Some g) both true false at p q e =
    let behind = q g refl in
    let le : nat_le here.line g.line ≡ true = grind (arith, nat_tests) in
    sym (ap (λ b. cond b (Some here) (Some g)) le)
first_of_two place here None other both false true at p q e = refl
first_of_two place here (Some g) other both false true at p q e =
    let behind = p g refl in
    let gt : nat_le g.line here.line ≡ false = grind (arith, nat_tests) in
    sym (ap (λ b. cond b (Some g) (Some here)) gt)
first_of_two place here one other both false false at p q e = e

pub first_or : (p q : Test) (place : ℕ) (lines : List ScriptLine) → first_from (λ l. p l || q l) place lines ≡ lesser (first_from p place lines) (first_from q place lines)
first_or p q place [] = refl
first_or p q place (line ∷ lines) =
    first_of_two place (record { line = place; fate = fate_of line }) (first_from p (place + 1) lines) (first_from q (place + 1) lines)
    (first_from (λ l. p l || q l) (place + 1) lines) (p line) (q line) refl
    (λ f e. later p (place + 1) lines f e) (λ f e. later q (place + 1) lines f e) (first_or p q (place + 1) lines)

-- by another test that says the same
pub first_same : (p q : Test) (place : ℕ) (lines : List ScriptLine) → ((line : ScriptLine) → p line ≡ q line) → first_from p place lines ≡ first_from q place lines
first_same p q place [] same = refl
first_same p q place (line ∷ lines) same =
    ap (λ b. cond b (Some (record { line = place; fate = fate_of line })) (first_from p (place + 1) lines)) (same line)
    ∙ ap (λ r. cond (q line) (Some (record { line = place; fate = fate_of line })) r) (first_same p q (place + 1) lines same)

fate_found-sort : (p : Test) (place : ℕ) (line : ScriptLine) (lines : List ScriptLine) (d : Fate) (b : Bool) →
    option_map_or (λ f. f.fate) (first_from p (place + 1) lines) d ≡ option_map_or fate_of (find p lines) d →
    option_map_or (λ f. f.fate) (cond b (Some (record { line = place; fate = fate_of line })) (first_from p (place + 1) lines)) d ≡ option_map_or fate_of (cond b (Some line) (find p lines)) d
fate_found-sort p place line lines d true more = refl
fate_found-sort p place line lines d false more = more

-- the fate of the first line
pub fate_found : (p : Test) (place : ℕ) (lines : List ScriptLine) (d : Fate) → option_map_or (λ f. f.fate) (first_from p place lines) d ≡ option_map_or fate_of (find p lines) d
fate_found p place [] d = refl
fate_found p place (line ∷ lines) d = fate_found-sort p place line lines d (p line) (fate_found p (place + 1) lines d)

none_found-sort : (p : Test) (place : ℕ) (line : ScriptLine) (lines : List ScriptLine) (b : Bool) → is_none (first_from p (place + 1) lines) ≡ is_none (find p lines) →
    is_none (cond b (Some (record { line = place; fate = fate_of line })) (first_from p (place + 1) lines)) ≡ is_none (cond b (Some line) (find p lines))
none_found-sort p place line lines true more = refl
none_found-sort p place line lines false more = more

pub none_found : (p : Test) (place : ℕ) (lines : List ScriptLine) → is_none (first_from p place lines) ≡ is_none (find p lines)
none_found p place [] = refl
none_found p place (line ∷ lines) = none_found-sort p place line lines (p line) (none_found p (place + 1) lines)
