use Rattle.std.proofs.Common.{◌≡◌, ℕ, suc, ◌+◌, ◌≤◌, List, [], map, refl, sym, ap, ◌∙◌, arith, Vec, Global}
use Rattle.std.proofs.Math.Path.{fun_ext}
use Rattle.site_estimates.specs.declared.counts.Counts.{Counts}
use Rattle.site_estimates.specs.Numbers as counting
use Rattle.estimate_rules.specs.Estimates as estimates
use Rattle.estimate_rules.specs.Estimates.{Summaries}
use Rattle.access_estimates.specs.Summaries.{by_table}
use Rattle.access_estimates.proofs.Settled.{settled}
use Rattle.access_estimates.proofs.rounds.rounds.Goals as goal

nothing_there : (i position : ℕ) → by_table [] i position ≡ counting.zero
nothing_there i position = refl

pub rounds-init : goal.rounds-init
rounds-init c = λ us are.
    ap (λ (l : List (Vec Counts Global)). by_table (map (λ v. v.items) l)) c.new-table.ensures.items
    ∙ fun_ext (λ i. fun_ext (λ position. nothing_there i position))

pub rounds-preserved : goal.rounds-preserved
rounds-preserved c = λ us are.
    let next : suc c.rounds.done ≡ c.rounds.done + 1 = omega arith in
    (c.in_ok-next.ensures {u = tt}) us are
    ∙ ap (estimates.round us) (ap (λ (l : List (Vec Counts Global)). by_table (map (λ v. v.items) l)) c.deref.ensures.value ∙ c.rounds.invariant us are)
    ∙ ap (estimates.rounds us) next

-- a round that changed nothing is the last
pub returns-then-same_tables : goal.returns-then-same_tables
returns-then-same_tables c = λ us are.
    let done : ℕ = c.rounds.done in
    let seen : List (Vec Counts Global) → Summaries = λ l. by_table (map (λ v. v.items) l) in
    let step : seen c.in_ok-next.next.items ≡ estimates.rounds us (suc done) =
    (c.in_ok-next.ensures {u = tt}) us are ∙ ap (estimates.round us) (ap seen c.deref.ensures.value ∙ c.rounds.invariant us are) in
    let same : map (λ (v : Vec Counts Global). v.items) c.in_ok-next.next.items ≡ map (λ (v : Vec Counts Global). v.items) c.rounds.table.items =
    ap (map (λ (v : Vec Counts Global). v.items)) (sym c.deref-in-rounds.ensures.value)
    ∙ c.same_tables.ensures c.if-same_tables.true
    ∙ ap (map (λ (v : Vec Counts Global). v.items)) c.deref-in-rounds-2.ensures.value in
    let stays : estimates.rounds us (suc done) ≡ estimates.rounds us done = sym step ∙ ap (λ l. by_table l) same ∙ c.rounds.invariant us are in
    let within : done ≤ c.args.count = omega (arith, c.rounds-test.true) in
    step ∙ stays ∙ sym (settled us done c.args.count within stays)

pub returns : goal.returns
returns c = λ us are.
    let all : c.rounds.done ≡ c.args.count = omega arith in
    c.rounds.invariant us are ∙ ap (estimates.rounds us) all
