-- The estimates of a process's sites are those of its locals from a position on, by its summary.
use Rattle.std.proofs.Common.{◌≡◌, ℕ, suc, zero, ◌<◌, ◌+◌, List, [], ◌∷◌, ◌++◌, length, get_or, drop, map, Some, Option, cond, refl, ap, ◌∙◌, arith}
use Rattle.std.specs.Prelude.{slice_get}
use Rattle.std.specs.Option.{option_map_or}
use Rattle.std.proofs.Math.Seq.{drop-cons}
use Rattle.orca_tree.specs.declared.tree.Name.{Name}
use Rattle.link_rules.specs.Units.{Source}
use Rattle.site_estimates.specs.declared.estimate.Estimate.{Estimate}
use Rattle.site_estimates.specs.declared.counts.Counts.{Counts}
use Rattle.site_estimates.specs.Numbers as counting
use Rattle.estimate_rules.specs.Estimates.{Summaries, estimated, is_site, name_counts, position_counts, sites_from, sites_in}
use Rattle.estimate_rules.specs.Routines as rules
use Rattle.access_estimates.specs.declared.locals.Local.{Local}
use Rattle.access_estimates.specs.declared.routines.Routine.{Routine}
use Rattle.access_estimates.specs.Resolved.{IsRoutine}
use Rattle.access_estimates.specs.Locals.{locals_seen, named, local_seen}
use Rattle.access_estimates.specs.Summaries.{IsSummary, counts_in, site_at, sites_seen}
use Rattle.access_estimates.proofs.Rest.{appended}
use Rattle.access_estimates.proofs.Summed.{summary_is}

-- ---- from a position on

first_there : {A : Type 0} (l xs : List A) (k : ℕ) (x : A) → drop k l ≡ x ∷ xs → slice_get l k ≡ Some x
first_there [] xs zero x e = absurd (cc e)
first_there [] xs (suc k) x e = absurd (cc e)
first_there (a ∷ l) xs zero x e = cc e
first_there (a ∷ l) xs (suc k) x e = first_there l xs k x e

rest_there : {A : Type 0} (l xs : List A) (k : ℕ) (x : A) → drop k l ≡ x ∷ xs → drop (suc k) l ≡ xs
rest_there [] xs zero x e = absurd (cc e)
rest_there [] xs (suc k) x e = absurd (cc e)
rest_there (a ∷ l) xs zero x e = cc e
rest_there (a ∷ l) xs (suc k) x e = rest_there l xs k x e

sites_same : (summaries : Summaries) (process : List ℕ) (w : rules.Routine) (summary : List Counts) → ((position : ℕ) → counts_in summary position ≡ position_counts summaries position w) →
    (xs : List Name) (k : ℕ) → drop k w.names ≡ xs → sites_seen process w.parameters summary k (map (named w.scope) xs) ≡ sites_from summaries process w k xs
sites_same summaries process w summary is [] k e = refl
sites_same summaries process w summary is (n ∷ xs) k e =
    let counted : counts_in summary k ≡ name_counts summaries w k n =
    is k ∙ ap (λ (o : Option Name). option_map_or (name_counts summaries w k) o counting.zero) (first_there w.names xs k n e) in
    ap (λ (a : Counts). one a ++ sites_seen process w.parameters summary (suc k) (map (named w.scope) xs)) counted
    ∙ ap (λ (l : List Estimate). one (name_counts summaries w k n) ++ l) (sites_same summaries process w summary is xs (suc k) (rest_there w.names xs k n e))
  where
    one : Counts → List Estimate
    one a = cond (is_site w k n) (estimated process n a ∷ []) []

pub sites_are : (us : List Source) (summaries : Summaries) (process : List ℕ) (r : Routine) (w : rules.Routine) (summary : List Counts) → IsRoutine us r w → IsSummary summaries r summary →
    sites_seen process r.parameters summary 0 (locals_seen r.names.items) ≡ sites_in summaries process w
sites_are us summaries process r w summary is has =
    ap (λ (p : ℕ). sites_seen process p summary 0 (locals_seen r.names.items)) is.parameters
    ∙ ap (sites_seen process w.parameters summary 0) is.names
    ∙ sites_same summaries process w summary (summary_is us summaries r w summary is has) w.names 0 refl

-- ---- loops

pub site_added : (process : List ℕ) (parameters : ℕ) (summary : List Counts) (os : List Local) (i : ℕ) (d : Local) (old new all : List Estimate) → i < length os →
    new ≡ old ++ site_at process parameters summary i (local_seen (get_or os i d)) → old ++ sites_seen process parameters summary i (locals_seen (drop i os)) ≡ all →
    new ++ sites_seen process parameters summary (i + 1) (locals_seen (drop (i + 1) os)) ≡ all
site_added process parameters summary os i d old new all lt e h =
    let next : suc i ≡ i + 1 = omega arith in
    let one = site_at process parameters summary i (local_seen (get_or os i d)) in
    appended old new one _ _ all e
    (ap (λ (l : List Local). sites_seen process parameters summary i (locals_seen l)) (drop-cons os i d lt)
    ∙ ap (λ (k : ℕ). one ++ sites_seen process parameters summary k (locals_seen (drop k os))) next) h
