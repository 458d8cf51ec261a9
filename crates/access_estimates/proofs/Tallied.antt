-- What is resolved at a position, name by name looked up, is what the uses of the name there count.
use Rattle.std.proofs.Common.{◌≡◌, ℕ, Bool, true, false, cond, List, [], ◌∷◌, fold, map, filter, Option, Some, None, refl, sym, ap, ◌∙◌}
use Rattle.std.specs.Prelude.{◌==◌, option_map}
use Rattle.std.specs.List.{cons_option}
use Rattle.std.proofs.lemmas.Bool.{eqb-true}
use Rattle.link_rules.specs.Units.{Source}
use Rattle.type_rules.specs.Scopes.{Scope}
use Rattle.type_rules.specs.TopLevel as top
use Rattle.type_rules.specs.TopLevel.{StandsFor, stands_for}
use Rattle.value_core.specs.declared.action.Class.{Class}
use Rattle.value_core.specs.declared.action.Class.TheVariants.{Reads, Writes}
use Rattle.meaning_rules.specs.Classes.{class_of}
use Rattle.meaning_rules.specs.Programs.{kind_of, op_of}
use Rattle.site_estimates.specs.declared.counts.Counts.{Counts}
use Rattle.site_estimates.specs.Numbers.{plus, times}
use Rattle.estimate_rules.specs.Uses.{UseKind, Calls, Passes, Use}
use Rattle.estimate_rules.specs.Estimates.{Summaries, class_counts, counts_once, passed_counts, use_counts}
use Rattle.access_estimates.specs.declared.resolved.ResolvedUse.{ResolvedUse}
use Rattle.access_estimates.specs.Locals.{PlainLocal}
use Rattle.access_estimates.specs.Resolved.{all_resolved, class_effect, resolved_by, resolved_counts, resolved_with, effect_counts, effect_of, object_at, position_in, standing_effect, tally}

-- ---- one use

class_same : (summaries : Summaries) (c : Class) → effect_counts summaries (class_effect c) ≡ class_counts c
class_same summaries Reads = refl
class_same summaries Writes = refl

passed_same : (summaries : Summaries) (position : ℕ) (s : StandsFor) → effect_counts summaries (standing_effect position s) ≡ passed_counts summaries position s
passed_same summaries position top.Nothing = refl
passed_same summaries position (top.Top i t) = refl
passed_same summaries position (top.Everywhere p) = refl

effect_same : (summaries : Summaries) (w : Scope) (number : ℕ) (d : UseKind) →
    effect_counts summaries (effect_of w.program w.home number d) ≡ counts_once summaries w number d
effect_same summaries w number (Calls operation) = class_same summaries (class_of w.program (kind_of w.program number) (op_of w.program number operation))
effect_same summaries w number (Passes to position) = passed_same summaries position (stands_for w.program w.home to)

resolved_same : (summaries : Summaries) (w : Scope) (position number : ℕ) (u : Use) →
    resolved_counts summaries (resolved_with w.program w.home position u number) ≡ use_counts summaries w number u
resolved_same summaries w position number u = ap (λ (a : Counts). times u.times a) (effect_same summaries w number u.kind)

-- ---- all uses

-- a use at another position adds nothing, whatever it does
elsewhere : (summaries : Summaries) (us : List Source) (m : List ℕ) (u : Use) (position other : ℕ) (sum : Counts) (ds : List ResolvedUse) (o : Option ℕ) →
    (other == position) ≡ false → tally summaries position sum (cons_option (option_map (resolved_with us m other u) o) ds) ≡ tally summaries position sum ds
elsewhere summaries us m u position other sum ds None apart = refl
elsewhere summaries us m u position other sum ds (Some number) apart =
    ap (λ (b : Bool). tally summaries position (cond b (plus sum (resolved_counts summaries (resolved_with us m other u number))) sum) ds) apart

-- at a position where no object stands nothing is added
step_nothing : (summaries : Summaries) (us : List Source) (m : List ℕ) (ns : List PlainLocal) (position : ℕ) (sum : Counts) (u : Use) (ds : List ResolvedUse) →
    object_at ns position ≡ None → tally summaries position sum (cons_option (resolved_by us m ns u) ds) ≡ tally summaries position sum ds
step_nothing summaries us m ns position sum u ds e = by_position (position_in ns u.object == position) refl
  where
    by_position : (b : Bool) → (position_in ns u.object == position) ≡ b → tally summaries position sum (cons_option (resolved_by us m ns u) ds) ≡ tally summaries position sum ds
    by_position false apart = elsewhere summaries us m u position (position_in ns u.object) sum ds (object_at ns (position_in ns u.object)) apart
    by_position true same =
        ap (λ (o : Option ℕ). tally summaries position sum (cons_option (option_map (resolved_with us m (position_in ns u.object) u) o) ds))
        (ap (object_at ns) (eqb-true (position_in ns u.object) position same) ∙ e)

pub nothing_resolved : (summaries : Summaries) (us : List Source) (m : List ℕ) (ns : List PlainLocal) (position : ℕ) (sum : Counts) (xs : List Use) →
    object_at ns position ≡ None → tally summaries position sum (all_resolved us m ns xs) ≡ sum
nothing_resolved summaries us m ns position sum [] e = refl
nothing_resolved summaries us m ns position sum (u ∷ xs) e =
    step_nothing summaries us m ns position sum u (all_resolved us m ns xs) e
    ∙ nothing_resolved summaries us m ns position sum xs e

-- where one stands, its uses are added
step_uses : (summaries : Summaries) (w : Scope) (ns : List PlainLocal) (position number : ℕ) (sum : Counts) (u : Use) (ds : List ResolvedUse) → object_at ns position ≡ Some number →
    tally summaries position sum (cons_option (resolved_by w.program w.home ns u) ds)
    ≡ tally summaries position (cond (position_in ns u.object == position) (plus sum (use_counts summaries w number u)) sum) ds
step_uses summaries w ns position number sum u ds e = by_position (position_in ns u.object == position) refl
  where
    by_position : (b : Bool) → (position_in ns u.object == position) ≡ b →
        tally summaries position sum (cons_option (resolved_by w.program w.home ns u) ds)
        ≡ tally summaries position (cond (position_in ns u.object == position) (plus sum (use_counts summaries w number u)) sum) ds
    by_position false apart =
        elsewhere summaries w.program w.home u position (position_in ns u.object) sum ds (object_at ns (position_in ns u.object)) apart
        ∙ sym (ap (λ (b : Bool). tally summaries position (cond b (plus sum (use_counts summaries w number u)) sum) ds) apart)
    by_position true same =
        ap (λ (o : Option ℕ). tally summaries position sum (cons_option (option_map (resolved_with w.program w.home (position_in ns u.object) u) o) ds))
        (ap (object_at ns) (eqb-true (position_in ns u.object) position same) ∙ e)
        ∙ ap (λ (a : Counts). tally summaries position (cond (position_in ns u.object == position) (plus sum a) sum) ds) (resolved_same summaries w (position_in ns u.object) number u)

first_passed : (f : Use → Counts) (p : Use → Bool) (sum : Counts) (u : Use) (xs : List Use) →
    fold plus (cond (p u) (plus sum (f u)) sum) (map f (filter p xs)) ≡ fold plus sum (map f (filter p (u ∷ xs)))
first_passed f p sum u xs = by_test (p u) refl
  where
    by_test : (b : Bool) → p u ≡ b → fold plus (cond (p u) (plus sum (f u)) sum) (map f (filter p xs)) ≡ fold plus sum (map f (filter p (u ∷ xs)))
    by_test true e = rw e refl
    by_test false e = rw e refl

pub uses_resolved : (summaries : Summaries) (w : Scope) (ns : List PlainLocal) (position number : ℕ) (sum : Counts) (xs : List Use) → object_at ns position ≡ Some number →
    tally summaries position sum (all_resolved w.program w.home ns xs) ≡ fold plus sum (map (use_counts summaries w number) (filter (λ u. position_in ns u.object == position) xs))
uses_resolved summaries w ns position number sum [] e = refl
uses_resolved summaries w ns position number sum (u ∷ xs) e =
    step_uses summaries w ns position number sum u (all_resolved w.program w.home ns xs) e
    ∙ uses_resolved summaries w ns position number (cond (position_in ns u.object == position) (plus sum (use_counts summaries w number u)) sum) xs e
    ∙ first_passed (use_counts summaries w number) (λ v. position_in ns v.object == position) sum u xs
