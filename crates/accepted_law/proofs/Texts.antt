-- A process is started with arguments that fit, where values are at hand for its parameters.
use Rattle.std.proofs.Common.{◌≤◌, refl, sym, ap, ◌∙◌, subst, arith, leb-true}
use Rattle.std.specs.Prelude.{◌≡◌, ℕ, zero, suc, Bool, true, false, if◌then◌else◌, List, [], ◌∷◌, ◌++◌, length, map, flat_map, take, slice_get, Option, Some, None}
use Rattle.std.specs.List.{AllByRecursion, list_all}
use Rattle.std.proofs.lemmas.List.{length-map}
use Rattle.std.proofs.lemmas.Slice.Eq.{bytes_eq-Decides}
use Rattle.orca_base.specs.declared.limits.TheConstants.{PARAMETERS, VALUE_SIZE}
use Rattle.orca_tree.specs.declared.tree.Mode.{Mode}
use Rattle.orca_tree.specs.declared.tree.Mode.TheVariants as mode
use Rattle.orca_syntax.specs.Syntax.{Parameter, Block}
use Rattle.link_rules.specs.Linked.{IsLinked}
use Rattle.link_rules.specs.Units.{Source}
use Rattle.link_rules.specs.declared.role.Role.TheVariants.{Specification, Implementation, Other}
use Rattle.link_rules.proofs.Truth.{and_first, and_second}
use Rattle.link_rules.specs.Rules.{is_role}
use Rattle.type_rules.specs.declared.names.LocalRole.TheVariants.{Variable}
use Rattle.type_rules.specs.declared.names.Owner.TheVariants as owner
use Rattle.type_rules.specs.declared.signature.Formal.{Formal}
use Rattle.type_rules.specs.declared.types.DataType.{DataType}
use Rattle.type_rules.specs.Constants.{View}
use Rattle.type_rules.specs.TopLevel as top
use Rattle.type_rules.specs.TopLevel.{What, TopName, at_number, bears, everywhere, is_as, number_as, number_of, numbered, or_else, predeclared, sees, stands_for, top_names}
use Rattle.type_rules.specs.Scopes.{formal, locals_of, own_names, parameter_found, parameter_local, passed, signature, texts, type_of, view_of}
use Rattle.type_rules.specs.TypePhrases.{kind_found}
use Rattle.type_rules.specs.Declarations.{parameters_breaches, process_breaches}
use Rattle.value_core.specs.Datum.{Datum, data_of, list_of, list_of-data_of}
use Rattle.value_core.specs.Fits.{Kinds}
use Rattle.value_core.specs.Size.{size_of_all}
use Rattle.meaning_rules.specs.Fitting.{AreFitting, Fits, FitsText, FitsTop, FitsWhat}
use Rattle.meaning_rules.specs.Programs.{process_scope, process_texts, text_of}
use Rattle.meaning_rules.specs.Accepted.{AreTaken, IsKnown, IsProcess, TakesValue}
use Rattle.meaning_rules.proofs.Called.{top_at}
use Rattle.meaning_rules.proofs.Judged.{all_at}
use Rattle.meaning_rules.proofs.Orderly.{all_map}
use Rattle.accepted_law.specs.Limits.{has_few_parameters}
use Rattle.accepted_law.proofs.Bodies.{block_fine, each_parameter, parameter_good}
use Rattle.accepted_law.proofs.Lists.{found_at, same_some}
use Rattle.accepted_law.proofs.Named.{own_text}
use Rattle.accepted_law.proofs.Tops.{IsFine, IsFineTop}

-- ---- what a name stands for bears it

module _ (us : List Source) where
  as_bears : (role : _) (name : List ℕ) (i : ℕ) (t : TopName) → slice_get (top_names us) i ≡ Some t → number_as us role name ≡ Some i → t.defined.name.text ≡ name
  as_bears role name i t at is =
      let h = found_at (is_as role name) (top_names us) i is in
      let same : h.0 ≡ t = same_some h.0 t (sym h.1 ∙ at) in
      (bytes_eq-Decides t.defined.name.text name).0
      (subst (λ x. bears name x ≡ true) same (and_second (is_role role h.0.defined.role) (bears name h.0) h.2))

  number_bears : (name : List ℕ) (i : ℕ) (t : TopName) → slice_get (top_names us) i ≡ Some t → number_of us name ≡ Some i → t.defined.name.text ≡ name
  number_bears name i t at is = by (number_as us Specification name) refl is
    where
      given : Option ℕ → ℕ
      given None = i
      given (Some j) = j

      last : (o : Option ℕ) → number_as us Implementation name ≡ o → or_else o (number_as us Other name) ≡ Some i → t.defined.name.text ≡ name
      last None e f = as_bears Other name i t at f
      last (Some j) e f = as_bears Implementation name i t at (e ∙ f)

      by : (o : Option ℕ) → number_as us Specification name ≡ o → or_else o (or_else (number_as us Implementation name) (number_as us Other name)) ≡ Some i → t.defined.name.text ≡ name
      by None e f = last (number_as us Implementation name) refl f
      by (Some j) e f = as_bears Specification name i t at (e ∙ f)

  numbered_is : (j i : ℕ) (o : Option TopName) (t : TopName) → numbered j o ≡ top.Top i t → j ≡ i
  numbered_is j i None t is = absurd cc
  numbered_is j i (Some x) t is = ap number is
    where
      number : top.StandsFor → ℕ
      number (top.Top k y) = k
      number _ = j

  everywhere_no : (p : Option _) (i : ℕ) (t : TopName) → everywhere p ≡ top.Top i t → ⊥
  everywhere_no None i t is = absurd cc
  everywhere_no (Some p) i t is = absurd cc

  pub stands_number : (home name : List ℕ) (i : ℕ) (t : TopName) → stands_for us home name ≡ top.Top i t → number_of us name ≡ Some i
  stands_number home name i t is = by (sees us home name) is
    where
      at : (o : Option ℕ) → number_of us name ≡ o → at_number us o ≡ top.Top i t → number_of us name ≡ Some i
      at None e f = absurd cc
      at (Some j) e f = e ∙ ap (λ k. Some k) (numbered_is j i (slice_get (top_names us) j) t f)

      by : (b : Bool) → (if b then at_number us (number_of us name) else everywhere (predeclared name)) ≡ top.Top i t → number_of us name ≡ Some i
      by true e = at (number_of us name) refl e
      by false e = absurd (everywhere_no (predeclared name) i t e)

  pub stands_bears : (home name : List ℕ) (i : ℕ) (t : TopName) → stands_for us home name ≡ top.Top i t → t.defined.name.text ≡ name
  stands_bears home name i t is = number_bears name i t (top_at us home name i t is) (stands_number home name i t is)

-- ---- arguments

module _ (us : List Source) (linked : IsLinked us) (fine : AllByRecursion (IsFineTop us) (top_names us)) (few : list_all (λ t. has_few_parameters t.what) (top_names us) ≡ true) where
  module _ (v : View) (kinds : Kinds) where
    fitting : (ps : List Parameter) (xs : List Datum) → AreTaken us kinds xs (map (formal v) ps) → AreFitting us kinds xs (map (parameter_local v) ps) × (length xs ≡ length ps)
    fitting [] [] taken = (tt, refl)
    fitting [] (x ∷ xs) taken = absurd taken
    fitting (p ∷ ps) [] taken = absurd (none (formal v p) taken)
      where
        none : (f : Formal) → AreTaken us kinds [] (f ∷ map (formal v) ps) → ⊥
        none f h = h
    fitting (p ∷ ps) (x ∷ xs) taken =
        let h = split p.mode (type_of (parameter_found v p.mode p.kind)) taken in
        let rest = fitting ps xs h.1 in
        ((h.0, rest.0), ap suc rest.1)
      where
        split : (m : Mode) (t : Option DataType) → AreTaken us kinds (x ∷ xs) (passed m t ∷ map (formal v) ps) → Fits us kinds x t × AreTaken us kinds xs (map (formal v) ps)
        split mode.Value t h = h
        split mode.Out t h = h
        split mode.Shared t h = h

  taken_first : {X : Type 0} (xs ys : List X) → take (length xs) (xs ++ ys) ≡ xs
  taken_first [] ys = refl
  taken_first (x ∷ xs) ys = ap (λ zs. x ∷ zs) (taken_first xs ys)

  takes : (m : Mode) (t : Option DataType) → IsKnown t → TakesValue (passed m t)
  takes mode.Value t known = known
  takes mode.Out t known = known
  takes mode.Shared t known = known

  pub all_processes : (home name : List ℕ) (i : ℕ) (t : TopName) (ps : List Parameter) (b : Block) → stands_for us home name ≡ top.Top i t → t.what ≡ top.Process ps b →
      IsProcess us name (signature us t.defined.by ps None b)
  all_processes home name i t ps b is what =
      record {
        formals =
            all_map TakesValue (formal v) ps
            (each_parameter us linked fine m own (λ p. TakesValue (formal v p)) (λ p one. takes p.mode _ (parameter_good us linked fine m own p.mode p.kind one).0) ps parameters);
        args = fits;
      }
    where
      m : List ℕ
      m = t.defined.by

      own : List (List ℕ)
      own = texts (own_names ps b)

      v : View
      v = view_of us m (own_names ps b)

      at : slice_get (top_names us) i ≡ Some t
      at = top_at us home name i t is

      none : process_breaches us m ps b ≡ []
      none = (subst (IsFine us m t.defined.name) what (all_at (IsFineTop us) (top_names us) i t fine at)).1

      parameters : parameters_breaches v ps ≡ []
      parameters = (block_fine us linked fine m ps None b owner.Process (kind_found v) none).parameters

      limited : (length ps) ≤ PARAMETERS
      limited =
          leb-true (length ps) PARAMETERS
          (ap has_few_parameters (sym what) ∙ every (top_names us) i at few)
        where
          every : (ts : List TopName) (k : ℕ) → slice_get ts k ≡ Some t → list_all (λ x. has_few_parameters x.what) ts ≡ true → has_few_parameters t.what ≡ true
          every [] k e all = absurd cc
          every (x ∷ ts) zero e all =
              ap (λ y. has_few_parameters y.what) (sym (same_some x t e))
              ∙ and_first (has_few_parameters x.what) (list_all (λ y. has_few_parameters y.what) ts) all
          every (x ∷ ts) (suc k) e all =
              every ts k e (and_second (has_few_parameters x.what) (list_all (λ y. has_few_parameters y.what) ts) all)

      text : slice_get (process_texts us) (text_of us name).0 ≡ Some t
      text = ap (λ n. slice_get (process_texts us) (text_of us n).0) (sym (stands_bears us home name i t is)) ∙ own_text us linked i t ps b at what

      locals : take (length ps) (process_scope us m ps b).locals ≡ map (parameter_local v) ps
      locals =
          ap (λ n. take n (process_scope us m ps b).locals) (sym (length-map ps (parameter_local v)))
          ∙ taken_first (map (parameter_local v) ps) (flat_map (locals_of Variable (kind_found v)) b.variables)

      fits : (kinds : Kinds) (xs : List Datum) → AreTaken us kinds xs (signature us m ps None b).formals → size_of_all (data_of xs) ≤ VALUE_SIZE → FitsText us kinds (text_of us name) (data_of xs)
      fits kinds xs taken small =
          let h = fitting v kinds ps xs taken in
          let same = list_of-data_of xs in
          let first : AreFitting us kinds (list_of (data_of xs)) (take (length ps) (process_scope us m ps b).locals) =
          subst (λ ls. AreFitting us kinds (list_of (data_of xs)) ls) (sym locals) (subst (λ ys. AreFitting us kinds ys (map (parameter_local v) ps)) (sym same) h.0) in
          let count : length (list_of (data_of xs)) ≤ PARAMETERS = let e = ap (λ ys. length ys) same in let g = h.1 in let l = limited in omega (arith, e, g, l) in
          subst (FitsTop us kinds (data_of xs)) (sym text) (subst (λ w. FitsWhat us kinds (data_of xs) t w) (sym what) (first, small, count))
