-- The sites of a process are its variables that are objects.
use Rattle.std.proofs.Common.{refl, ap, sym, arith, ◌∙◌, true≢false, append_assoc}
use Rattle.std.specs.Prelude.{◌≡◌, ◌≤◌, ℕ, suc, zero, ◌+◌, Bool, true, false, cond, ◌&&◌, ◌||◌, not, nat_le, if◌then◌else◌, bytes_eq, List, [], ◌∷◌, ◌++◌, map, find, length, drop, slice_get, is_some, Option, Some, None, option_and_then}
use Rattle.std.specs.Option.{option_map_or}
use Rattle.std.specs.List.{AllByRecursion, list_any}
use Rattle.std.proofs.lemmas.Slice.Eq.{bytes_eq-Decides}
use Rattle.orca_tree.specs.declared.tree.Name.{Name}
use Rattle.link_rules.specs.Units.{Source}
use Rattle.type_rules.specs.Breaches.{IsWellTyped}
use Rattle.type_rules.specs.Rules.{asks, each_new, is_among}
use Rattle.type_rules.specs.Scopes.{Local, local, view_of, own_names}
use Rattle.type_rules.specs.TopLevel as top
use Rattle.type_rules.specs.TopLevel.{What, TopName, top_names}
use Rattle.type_rules.specs.Types.{object_in, outside_of}
use Rattle.type_rules.specs.TypePhrases.{kind_found}
use Rattle.meaning_rules.specs.Processes.{object_type_of}
use Rattle.meaning_rules.specs.Programs.{is_process, process_scope, process_texts}
use Rattle.meaning_rules.proofs.Judged.{all_at, asked, left_none, not_true, right_none}
use Rattle.meaning_rules.proofs.Orderly.{all_filter, all_append}
use Rattle.site_estimates.specs.declared.estimate.Estimate.{Estimate}
use Rattle.estimate_rules.specs.Routines.{Routine, object_type_number, routine_in}
use Rattle.estimate_rules.specs.Estimates.{Summaries, estimated, is_site, name_counts, summaries_of, process_estimates, sites_from, sites_in}
use Rattle.estimate_rules.specs.Sites.{is_object, object_variables, variables_in, variables_of}
use Rattle.estimate_rules.proofs.Named.{AreNew, IsNewTop, all_kept, names_in_scope, tops_new}

abbrev Known : List (List ℕ) → Local → Type 0
Known names l = is_among names l.name ≡ true

-- a name that isn't among those is no name of these
differs : (names : List (List ℕ)) (k : Local) (n : List ℕ) → Known names k → is_among names n ≡ false → bytes_eq k.name n ≡ false
differs names k n known fresh = by (bytes_eq k.name n) refl
  where
    by : (b : Bool) → bytes_eq k.name n ≡ b → b ≡ false
    by false is = refl
    by true is = absurd (true≢false (sym known ∙ ap (λ x. is_among names x) ((bytes_eq-Decides k.name n).0 is) ∙ fresh))

found_behind : (names : List (List ℕ)) (n : List ℕ) (before : List Local) (l : Local) (ls : List Local) → AllByRecursion (Known names) before →
    is_among names n ≡ false → bytes_eq l.name n ≡ true → find (λ k. bytes_eq k.name n) (before ++ l ∷ ls) ≡ Some l
found_behind names n [] l ls known fresh is = ap (λ b. cond b (Some l) (find (λ k. bytes_eq k.name n) ls)) is
found_behind names n (k ∷ ks) l ls known fresh is =
    ap (λ b. cond b (Some k) (find (λ k. bytes_eq k.name n) (ks ++ l ∷ ls))) (differs names k n known.0 fresh) ∙ found_behind names n ks l ls known.1 fresh is

more_known : (names : List (List ℕ)) (n : List ℕ) (before : List Local) (l : Local) → AllByRecursion (Known names) before → l.name ≡ n →
    AllByRecursion (Known (n ∷ names)) (before ++ l ∷ [])
more_known names n before l known is =
    all_append (Known (n ∷ names)) before (l ∷ []) (older before known)
    (ap (λ b. b || list_any (bytes_eq l.name) names) ((bytes_eq-Decides l.name n).1 is), tt)
  where
    either : (a b : Bool) → b ≡ true → (a || b) ≡ true
    either true b is = refl
    either false b is = is

    older : (ks : List Local) → AllByRecursion (Known names) ks → AllByRecursion (Known (n ∷ names)) ks
    older [] known = tt
    older (k ∷ ks) known = (either (bytes_eq k.name n) (is_among names k.name) known.0, older ks known.1)

abbrev first_of : List (List ℕ) → List ℕ
first_of [] = []
first_of (x ∷ xs) = x

abbrev others_of : List (List ℕ) → List (List ℕ)
others_of [] = []
others_of (x ∷ xs) = xs

module _ (summaries : Summaries) (process : List ℕ) (r : Routine) where
  abbrev here : ℕ → Name → Estimate
  here position n = estimated process n (name_counts summaries r position n)

  pick : (position : ℕ) (n : Name) (l : Local) (rest : List Estimate) (ls : List Local) (b : Bool) → n.text ≡ l.name →
      map (λ e. e.variable) rest ≡ map (λ k. k.name) ls →
      map (λ e. e.variable) ((if b then here position n ∷ [] else []) ++ rest) ≡ map (λ k. k.name) (cond b (l ∷ ls) ls)
  pick position n l rest ls true same h = ap (λ (x : List ℕ). x ∷ map (λ e. e.variable) rest) same ∙ ap (λ (xs : List (List ℕ)). l.name ∷ xs) h
  pick position n l rest ls false same h = h

  fresh_of : (names : List (List ℕ)) (n : Name) (ns : List Name) → each_new 3 names (n ∷ ns) ≡ [] → is_among names n.text ≡ false
  fresh_of names n ns new = not_true (is_among names n.text) (asked 3 n.at (not (is_among names n.text)) (left_none (asks 3 n.at (not (is_among names n.text))) _ new))

  rest_new : (names : List (List ℕ)) (n : Name) (ns : List Name) → each_new 3 names (n ∷ ns) ≡ [] → each_new 3 (n.text ∷ names) ns ≡ []
  rest_new names n ns new = right_none (asks 3 n.at (not (is_among names n.text))) _ new

  -- behind the parameters
  behind : (before ls : List Local) (names : List (List ℕ)) (ns : List Name) (position : ℕ) → r.scope.locals ≡ before ++ ls →
      map (λ n. n.text) ns ≡ map (λ l. l.name) ls → each_new 3 names ns ≡ [] → AllByRecursion (Known names) before → r.parameters ≤ position →
      map (λ e. e.variable) (sites_from summaries process r position ns) ≡ map (λ l. l.name) (object_variables ls)
  behind before [] names [] position all same new known le = refl
  behind before [] names (n ∷ ns) position all same new known le = absurd cc
  behind before (l ∷ ls) names [] position all same new known le = absurd cc
  behind before (l ∷ ls) names (n ∷ ns) position all same new known le =
      let first : n.text ≡ l.name = ap first_of same in
      let fresh = fresh_of names n ns new in
      let found : local r.scope n.text ≡ Some l =
      ap (λ (ks : List Local). find (λ k. bytes_eq k.name n.text) ks) all ∙ found_behind names n.text before l ls known fresh ((bytes_eq-Decides l.name n.text).1 (sym first)) in
      let typed : object_type_number r.scope n ≡ object_type_of l =
      ap (λ (o : Option Local). option_and_then (λ t. object_in (outside_of t)) (option_map_or (λ k. k.type) o None)) found in
      let site : is_site r position n ≡ is_object l =
      ap (λ b. b && is_some (object_type_number r.scope n)) (le_true r.parameters position le) ∙ ap (λ (o : Option ℕ). is_some o) typed in
      ap (λ b. map (λ e. e.variable) ((if b then here position n ∷ [] else []) ++ sites_from summaries process r (suc position) ns)) site
      ∙ pick position n l (sites_from summaries process r (suc position) ns) (object_variables ls) (is_object l) first
      (behind (before ++ l ∷ []) ls (n.text ∷ names) ns (suc position) (all ∙ sym (append_assoc before (l ∷ []) ls)) (ap others_of same) (rest_new names n ns new)
      (more_known names n.text before l known (sym first)) (omega (arith, le)))
    where
      le_true : (a b : ℕ) → a ≤ b → nat_le a b ≡ true
      le_true a b h = grind (arith, h)

  -- and from the first name on
  pub from_first : (k : ℕ) (before ls : List Local) (names : List (List ℕ)) (ns : List Name) (position : ℕ) → r.scope.locals ≡ before ++ ls →
      map (λ n. n.text) ns ≡ map (λ l. l.name) ls → each_new 3 names ns ≡ [] → AllByRecursion (Known names) before → r.parameters ≡ position + k →
      map (λ e. e.variable) (sites_from summaries process r position ns) ≡ map (λ l. l.name) (object_variables (drop k ls))
  from_first zero before ls names ns position all same new known is = behind before ls names ns position all same new known (omega (arith, is))
  from_first (suc k) before [] names [] position all same new known is = refl
  from_first (suc k) before [] names (n ∷ ns) position all same new known is = absurd cc
  from_first (suc k) before (l ∷ ls) names [] position all same new known is = absurd cc
  from_first (suc k) before (l ∷ ls) names (n ∷ ns) position all same new known is =
      let first : n.text ≡ l.name = ap first_of same in
      ap (λ b. map (λ e. e.variable) ((if b && is_some (object_type_number r.scope n) then here position n ∷ [] else []) ++ sites_from summaries process r (suc position) ns))
      (le_false r.parameters position (omega (arith, is)))
      ∙ from_first k (before ++ l ∷ []) ls (n.text ∷ names) ns (suc position) (all ∙ sym (append_assoc before (l ∷ []) ls)) (ap others_of same) (rest_new names n ns new)
      (more_known names n.text before l known (sym first)) (omega (arith, is))
    where
      le_false : (a b : ℕ) → suc b ≤ a → nat_le a b ≡ false
      le_false a b h = grind (arith, h)

pub sites_of_text : (us : List Source) → IsWellTyped us → (text : ℕ) (t : TopName) → slice_get (process_texts us) text ≡ Some t →
    map (λ e. e.variable) (process_estimates (summaries_of us) us t) ≡ map (λ l. l.name) (object_variables (variables_of us t))
sites_of_text us typed text t at =
    by t.what (all_at (λ u. is_process u.what ≡ true) (process_texts us) text t (all_kept (λ u. is_process u.what) (top_names us)) at)
    (all_at IsNewTop (process_texts us) text t (all_filter IsNewTop (λ u. is_process u.what) (top_names us) (tops_new us typed)) at)
  where
    by : (w : What) → is_process w ≡ true → AreNew w →
        map (λ e. e.variable) (option_map_or (sites_in (summaries_of us) t.defined.name.text) (routine_in us t.defined.by w) [])
        ≡ map (λ l. l.name) (object_variables (variables_in us t.defined.by w))
    by (top.Process ps b) kept new =
        let w = view_of us t.defined.by (own_names ps b) in
        let none : length ps ≡ 0 + length ps = omega arith in
        from_first (summaries_of us) t.defined.name.text
        (record { scope = process_scope us t.defined.by ps b; parameters = length ps; names = own_names ps b; statements = b.statements }) (length ps) []
        (process_scope us t.defined.by ps b).locals [] (own_names ps b) 0 refl (names_in_scope w (kind_found w) ps b) new tt none
    by (top.Constant c) kept new = absurd cc
    by (top.TypeName of) kept new = absurd cc
    by (top.Value of number) kept new = absurd cc
    by (top.Specified hs) kept new = absurd cc
    by (top.Implemented os) kept new = absurd cc
    by (top.Function ps r b) kept new = absurd cc
