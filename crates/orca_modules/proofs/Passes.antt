-- A pass over the imports, one import on.
use Rattle.std.proofs.Common.{◌≡◌, ℕ, ◌<◌, ◌≤◌, ◌+◌, Bool, true, false, ◌||◌, List, length, get_or, take, map, refl, sym, ◌∙◌, subst, arith}
use Rattle.std.specs.Prelude.{bytes_eq}
use Rattle.std.specs.Borrow.{Bor}
use Rattle.std.specs.BTreeMap.{BTreeMap}
use Rattle.std.specs.List.{Contains}
use Rattle.std.proofs.lemmas.Bool.{true≢false}
use Rattle.std.proofs.lemmas.List.Elements.{Contains-get_or}
use Rattle.link_rules.proofs.Elements.{in_map}
use Rattle.orca_modules.specs.declared.sites.ImportLine.{ImportLine}
use Rattle.orca_modules.specs.Seen.{has, import_line}
use Rattle.orca_modules.specs.Leading.{AllLead, IsClosed, outside}
use Rattle.orca_modules.proofs.Widened.{all_lead, closed_more, less_outside, still_there}

-- what holds in a pass, behind the first k imports
abbrev Passed : {X : Type 0} → List ImportLine → BTreeMap (Bor (List ℕ)) X → BTreeMap (Bor (List ℕ)) X → Bool → ℕ → Type 0
Passed lines initial names wider k =
    ((target : List ℕ) → AllLead (map import_line lines) target initial → AllLead (map import_line lines) target names)
    × ((n : List ℕ) → has initial n ≡ true → has names n ≡ true)
    × (wider ≡ false → IsClosed (map import_line (take k lines)) names)
    × (outside names (map import_line lines) ≤ outside initial (map import_line lines))
    × (wider ≡ true → outside names (map import_line lines) < outside initial (map import_line lines))

line_in : (lines : List ImportLine) (k : ℕ) (d : ImportLine) → k < length lines → Contains (map import_line lines) (import_line (get_or lines k d))
line_in lines k d lt = in_map import_line lines (get_or lines k d) (Contains-get_or lines k d lt)

-- the importer of a name of the set, which wasn't in it, is put into it
pub adds : {X : Type 0} (lines : List ImportLine) (initial old new now : BTreeMap (Bor (List ℕ)) X) (was wider : Bool) (k : ℕ) (d : ImportLine) → k < length lines →
    now ≡ new → wider ≡ true → ((n : List ℕ) → has new n ≡ (bytes_eq (get_or lines k d).by.now n || has old n)) →
    has old (get_or lines k d).name.now ≡ true → has old (get_or lines k d).by.now ≡ false → Passed lines initial old was k → Passed lines initial now wider (k + 1)
adds {X} lines initial old new now was wider k d lt same wide more there apart passed =
    let line = get_or lines k d in
    let is = map import_line lines in
    let inside = line_in lines k d lt in
    let less = less_outside old new line.by.now more is (import_line line) inside refl apart in
    let kept = still_there old new line.by.now more in
    let lead = all_lead old new line.by.now more is in
    subst (λ (v : BTreeMap (Bor (List ℕ)) X). Passed lines initial v wider (k + 1)) (sym same) (
      (λ target h. lead target (import_line line) inside refl there (passed.0 target h)),
      (λ n h. kept n (passed.1 n h)),
      (λ narrow. absurd (true≢false (sym wide ∙ narrow))),
      (let before = passed.3 in omega (arith, less, before)),
      (λ _. let before = passed.3 in omega (arith, less, before)),
    )

-- an import that puts nothing into it
pub skips : {X : Type 0} (lines : List ImportLine) (initial old now : BTreeMap (Bor (List ℕ)) X) (was wider : Bool) (k : ℕ) (d : ImportLine) → k < length lines →
    now ≡ old → wider ≡ was → (has old (get_or lines k d).name.now ≡ true → has old (get_or lines k d).by.now ≡ true) →
    Passed lines initial old was k → Passed lines initial now wider (k + 1)
skips {X} lines initial old now was wider k d lt same wide here passed =
    subst (λ (v : BTreeMap (Bor (List ℕ)) X). Passed lines initial v wider (k + 1)) (sym same) (
      passed.0,
      passed.1,
      (λ narrow. closed_more import_line old lines k d lt here (passed.2 (sym wide ∙ narrow))),
      passed.3,
      (λ w. passed.4 (sym wide ∙ w)),
    )
