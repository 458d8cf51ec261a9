-- A summary has what a function or a process does with each of its names, and a table what all do.
use Rattle.std.proofs.Common.{◌≡◌, ℕ, zero, suc, ◌<◌, ◌≤◌, ◌+◌, Bool, true, false, cond, List, [], ◌∷◌, length, get_or, drop, fold, map, set, filter, replicate, Option, Some, None, refl, sym, ap, ◌∙◌, arith}
use Rattle.std.specs.Prelude.{◌==◌, not, bytes_eq, slice_get, unwrap_or, option_map, option_and_then}
use Rattle.std.specs.Option.{option_map_or}
use Rattle.std.proofs.Math.Path.{fun_ext}
use Rattle.std.proofs.Math.Seq.{drop-cons}
use Rattle.std.proofs.lemmas.Bool.{eqb-false, eqb-true}
use Rattle.std.proofs.lemmas.List.{length-map}
use Rattle.std.proofs.lemmas.Option.{slice_get-map, slice_get_past, slice_get_within}
use Rattle.orca_tree.specs.declared.tree.Name.{Name}
use Rattle.link_rules.specs.Units.{Source}
use Rattle.type_rules.specs.Scopes.{Scope}
use Rattle.type_rules.specs.TopLevel.{TopName, top_names}
use Rattle.site_estimates.specs.declared.counts.Counts.{Counts}
use Rattle.site_estimates.specs.Numbers.{plus}
use Rattle.site_estimates.specs.Numbers as counting
use Rattle.estimate_rules.specs.Uses.{Use, stmts_uses}
use Rattle.estimate_rules.specs.Estimates.{Summaries, name_counts, object_counts, position_counts, position_of, round, use_counts}
use Rattle.estimate_rules.specs.Routines as rules
use Rattle.estimate_rules.specs.Routines.{object_type_number, routine_of}
use Rattle.access_estimates.specs.declared.resolved.ResolvedUse.{ResolvedUse}
use Rattle.access_estimates.specs.declared.routines.Routine.{Routine}
use Rattle.access_estimates.specs.Resolved.{IsRoutine, all_resolved, resolved_counts, object_at, position_in, tally}
use Rattle.program_bodies.specs.Matching.{Both, Match}
use Rattle.access_estimates.specs.Locals.{PlainLocal, locals_seen, named}
use Rattle.access_estimates.specs.Summaries.{AreRoutines, IsNext, IsSummary, by_table, counts_in}
use Rattle.access_estimates.proofs.Matched.{match_get}
use Rattle.access_estimates.proofs.Tallied.{nothing_resolved, uses_resolved}

-- ---- a summary, one number of it changed

set_same : (summary : List Counts) (k : ℕ) (v : Counts) → k < length summary → counts_in (set summary k v) k ≡ v
set_same [] k v lt = absurd (omega (arith, lt))
set_same (a ∷ summary) zero v lt = refl
set_same (a ∷ summary) (suc k) v lt = set_same summary k v (omega (arith, lt))

set_other : (summary : List Counts) (i k : ℕ) (v : Counts) → (i ≡ k → ⊥) → counts_in (set summary i v) k ≡ counts_in summary k
set_other [] i k v apart = refl
set_other (a ∷ summary) zero zero v apart = absurd (apart refl)
set_other (a ∷ summary) zero (suc k) v apart = refl
set_other (a ∷ summary) (suc i) zero v apart = refl
set_other (a ∷ summary) (suc i) (suc k) v apart = set_other summary i k v (λ e. apart (ap (λ (n : ℕ). suc n) e))

pub added : (summary : List Counts) (i k : ℕ) (v counts : Counts) → v ≡ plus (counts_in summary i) counts → k < length summary →
    counts_in (set summary i v) k ≡ cond (i == k) (plus (counts_in summary k) counts) (counts_in summary k)
added summary i k v counts sum inside = by_test (i == k) refl
  where
    by_test : (b : Bool) → (i == k) ≡ b → counts_in (set summary i v) k ≡ cond (i == k) (plus (counts_in summary k) counts) (counts_in summary k)
    by_test true e =
        let same = eqb-true i k e in
        ap (λ (n : ℕ). counts_in (set summary n v) k) same
        ∙ set_same summary k v inside
        ∙ sum
        ∙ ap (λ (n : ℕ). plus (counts_in summary n) counts) same
        ∙ sym (ap (λ (b : Bool). cond b (plus (counts_in summary k) counts) (counts_in summary k)) e)
    by_test false e =
        set_other summary i k v (eqb-false i k e) ∙ sym (ap (λ (b : Bool). cond b (plus (counts_in summary k) counts) (counts_in summary k)) e)

-- nothing is added beyond the summary's end
pub not_added : (summary : List Counts) (i k : ℕ) (counts : Counts) → length summary ≤ i → k < length summary →
    counts_in summary k ≡ cond (i == k) (plus (counts_in summary k) counts) (counts_in summary k)
not_added summary i k counts past inside = by_test (i == k) refl
  where
    by_test : (b : Bool) → (i == k) ≡ b → counts_in summary k ≡ cond (i == k) (plus (counts_in summary k) counts) (counts_in summary k)
    by_test true e = let same = eqb-true i k e in absurd (omega (arith, same, past, inside))
    by_test false e = sym (ap (λ (b : Bool). cond b (plus (counts_in summary k) counts) (counts_in summary k)) e)

pub empty_at : (n k : ℕ) → counts_in (replicate n counting.zero) k ≡ counting.zero
empty_at zero k = refl
empty_at (suc n) zero = refl
empty_at (suc n) (suc k) = empty_at n k

-- ---- a summary, one thing resolved more

pub tally_more : (summaries : Summaries) (ds : List ResolvedUse) (i k : ℕ) (d : ResolvedUse) (before after all : Counts) → i < length ds →
    after ≡ cond ((get_or ds i d).position == k) (plus before (resolved_counts summaries (get_or ds i d))) before → tally summaries k before (drop i ds) ≡ all →
    tally summaries k after (drop (i + 1) ds) ≡ all
tally_more summaries ds i k d before after all lt sum held =
    let next : suc i ≡ i + 1 = omega arith in
    let x = get_or ds i d in
    ap (λ (a : Counts). tally summaries k a (drop (i + 1) ds)) sum
    ∙ ap (λ (n : ℕ). tally summaries k (cond (x.position == k) (plus before (resolved_counts summaries x)) before) (drop n ds)) (sym next)
    ∙ sym (ap (tally summaries k before) (drop-cons ds i d lt))
    ∙ held

pub tally_ended : (summaries : Summaries) (ds rest : List ResolvedUse) (k : ℕ) (sum all : Counts) → rest ≡ [] → tally summaries k sum rest ≡ all → sum ≡ all
tally_ended summaries ds rest k sum all e h = sym (ap (tally summaries k sum) e) ∙ h

-- ---- a routine's summary

slice_get_missing : {X : Type 0} (xs : List X) (k : ℕ) → slice_get xs k ≡ None → length xs ≤ k
slice_get_missing [] k e = omega arith
slice_get_missing (x ∷ xs) zero e = absurd (cc e)
slice_get_missing (x ∷ xs) (suc k) e = let rest = slice_get_missing xs k e in omega (arith, rest)

mapped_position : (w : Scope) (ns : List Name) (u : Use) → position_in (map (named w) ns) u.object ≡ position_of ns u
mapped_position w [] u = refl
mapped_position w (n ∷ ns) u = ap (λ (k : ℕ). cond (not (bytes_eq n.text u.object)) (1 + k) 0) (mapped_position w ns u)

object_seen : (w : Scope) (ns : List Name) (position : ℕ) (o : Option Name) → slice_get ns position ≡ o → object_at (map (named w) ns) position ≡ option_and_then (object_type_number w) o
object_seen w ns position o e = ap (option_and_then (λ (n : PlainLocal). n.object)) (slice_get-map (named w) ns position ∙ ap (option_map (named w)) e) ∙ same o
  where
    same : (o : Option Name) → option_and_then (λ (n : PlainLocal). n.object) (option_map (named w) o) ≡ option_and_then (object_type_number w) o
    same None = refl
    same (Some n) = refl

-- what is resolved at a position is what the definition counts there
resolved_is : (summaries : Summaries) (w : rules.Routine) (position : ℕ) →
    tally summaries position counting.zero (all_resolved w.scope.program w.scope.home (map (named w.scope) w.names) (stmts_uses 1 w.statements)) ≡ position_counts summaries position w
resolved_is summaries w position = by_name (slice_get w.names position) refl
  where
    ns : List PlainLocal
    ns = map (named w.scope) w.names

    xs : List Use
    xs = stmts_uses 1 w.statements

    by_object : (n : Name) → slice_get w.names position ≡ Some n → (o : Option ℕ) → object_type_number w.scope n ≡ o →
        tally summaries position counting.zero (all_resolved w.scope.program w.scope.home ns xs) ≡ option_map_or (object_counts summaries w position) o counting.zero
    by_object n e None is = nothing_resolved summaries w.scope.program w.scope.home ns position counting.zero xs (object_seen w.scope w.names position (Some n) e ∙ is)
    by_object n e (Some number) is =
        uses_resolved summaries w.scope ns position number counting.zero xs (object_seen w.scope w.names position (Some n) e ∙ is)
        ∙ ap (λ (p : Use → Bool). fold plus counting.zero (map (use_counts summaries w.scope number) (filter p xs)))
        (fun_ext (λ u. ap (λ (k : ℕ). k == position) (mapped_position w.scope w.names u)))

    by_name : (o : Option Name) → slice_get w.names position ≡ o →
        tally summaries position counting.zero (all_resolved w.scope.program w.scope.home ns xs) ≡ position_counts summaries position w
    by_name None e =
        nothing_resolved summaries w.scope.program w.scope.home ns position counting.zero xs (object_seen w.scope w.names position None e)
        ∙ sym (ap (λ (o : Option Name). option_map_or (name_counts summaries w position) o counting.zero) e)
    by_name (Some n) e =
        by_object n e (object_type_number w.scope n) refl ∙ sym (ap (λ (o : Option Name). option_map_or (name_counts summaries w position) o counting.zero) e)

names_long : (w : rules.Routine) (r : Routine) → locals_seen r.names.items ≡ map (named w.scope) w.names → length w.names ≡ length r.names.items
names_long w r e = sym (length-map w.names (named w.scope)) ∙ ap (λ (l : List PlainLocal). length l) (sym e) ∙ length-map r.names.items _

pub summary_is : (us : List Source) (summaries : Summaries) (r : Routine) (w : rules.Routine) (summary : List Counts) → IsRoutine us r w → IsSummary summaries r summary →
    (position : ℕ) → counts_in summary position ≡ position_counts summaries position w
summary_is us summaries r w summary is has position = by_position (slice_get summary position) refl
  where
    resolved : r.resolved.items ≡ all_resolved w.scope.program w.scope.home (map (named w.scope) w.names) (stmts_uses 1 w.statements)
    resolved = is.resolved ∙ ap (λ (l : List Source). all_resolved l w.scope.home (map (named w.scope) w.names) (stmts_uses 1 w.statements)) (sym is.program)

    by_position : (o : Option Counts) → slice_get summary position ≡ o → counts_in summary position ≡ position_counts summaries position w
    by_position (Some a) e =
        has.counts position (slice_get_within summary position a e) ∙ ap (tally summaries position counting.zero) resolved ∙ resolved_is summaries w position
    by_position None e =
        let past = slice_get_missing summary position e in
        let long = names_long w r is.names in
        let row_long = has.long in
        ap (λ (o : Option Counts). unwrap_or o counting.zero) e
        ∙ sym (ap (λ (o : Option Name). option_map_or (name_counts summaries w position) o counting.zero) (slice_get_past w.names position (omega (arith, past, long, row_long))))

-- ---- a table

next_is : (us : List Source) (summaries : Summaries) (summary : List Counts) (o : Option Routine) (w : Option rules.Routine) → IsNext summaries summary o → Both (IsRoutine us) o w →
    (position : ℕ) → counts_in summary position ≡ option_map_or (position_counts summaries position) w counting.zero
next_is us summaries summary None None is both position = ap (λ (l : List Counts). counts_in l position) is
next_is us summaries summary None (Some w) is both position = absurd both
next_is us summaries summary (Some r) None is both position = absurd both
next_is us summaries summary (Some r) (Some w) is both position = summary_is us summaries r w summary both is position

at_number : (us : List Source) (summaries : Summaries) (summary : Option (List Counts)) (o : Option (Option Routine)) (t : Option TopName) →
    Both (IsNext summaries) summary o → Both (λ o t. Both (IsRoutine us) o (routine_of us t)) o t → (position : ℕ) →
    counts_in (unwrap_or summary []) position ≡ option_map_or (position_counts summaries position) (option_and_then (routine_of us) t) counting.zero
at_number us summaries None None None table routines position = refl
at_number us summaries None None (Some t) table routines position = absurd routines
at_number us summaries None (Some o) t table routines position = absurd table
at_number us summaries (Some summary) None t table routines position = absurd table
at_number us summaries (Some summary) (Some o) None table routines position = absurd routines
at_number us summaries (Some summary) (Some o) (Some t) table routines position = next_is us summaries summary o (routine_of us t) table routines position

pub round_is : (us : List Source) (summaries : Summaries) (table : List (List Counts)) (rs : List (Option Routine)) → Match (IsNext summaries) table rs →
    AreRoutines us rs → by_table table ≡ round us summaries
round_is us summaries table rs are routines =
    fun_ext (λ i. fun_ext (λ position.
    at_number us summaries (slice_get table i) (slice_get rs i) (slice_get (top_names us) i) (match_get (IsNext summaries) table rs i are)
    (match_get (λ o t. Both (IsRoutine us) o (routine_of us t)) rs (top_names us) i routines) position))
