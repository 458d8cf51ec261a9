-- Sites and objects (docs/RUNTIME.md, Choice of copies): which object a site stands for, and how answers about sites become a run's
-- choices.
use Rattle.std.specs.Prelude.{◌≡◌, ℕ, suc, Bool, List, [], ◌∷◌, map, filter, flat_map, length, take, drop, slice_get, is_some, replicate, Some}
use Rattle.std.specs.List.{zip}
use Rattle.orca_base.specs.declared.ids.ProcessNo.{ProcessNo}
use Rattle.orca_base.specs.declared.ids.TextNo.{TextNo}
use Rattle.orca_base.specs.declared.what.Choice.{Choice}
use Rattle.link_rules.specs.Units.{Source}
use Rattle.type_rules.specs.TopLevel as top
use Rattle.type_rules.specs.TopLevel.{What, TopName}
use Rattle.type_rules.specs.Scopes.{Local}
use Rattle.value_core.specs.Datum.{Datum, Data, list_of}
use Rattle.value_core.specs.Datum as datum
use Rattle.value_core.specs.declared.action.Action.TheVariants as action
use Rattle.value_core.specs.declared.action.Reply.TheVariants as reply
use Rattle.value_core.specs.declared.meaning.Doing.TheVariants as doing
use Rattle.meaning_rules.specs.Programs.{kind_of, process_scope, process_texts}
use Rattle.meaning_rules.specs.Processes.{next_doing, object_type_of, own_object, variables_made}
use Rattle.meaning_rules.specs.States.{State, Goes}
use Rattle.site_estimates.specs.declared.estimate.Estimate.{Estimate}
use Rattle.estimate_rules.specs.Estimates.{estimates, summaries_of, process_estimates}

-- ---- the objects of a process

-- the variables of a process's text, as the meaning makes them: what its scope has behind the parameters
abbrev pub variables_in : List Source → List ℕ → What → List Local
variables_in us m (top.Process ps b) = drop (length ps) (process_scope us m ps b).locals
variables_in us m _ = []

abbrev pub variables_of : List Source → TopName → List Local
variables_of us t = variables_in us t.defined.by t.what

abbrev pub parameters_in : What → ℕ
parameters_in (top.Process ps b) = length ps
parameters_in _ = 0

abbrev pub is_object : Local → Bool
is_object l = is_some (object_type_of l)

abbrev pub object_variables : List Local → List Local
object_variables ls = filter is_object ls

-- so many objects of a process, numbered on from here
abbrev pub numbered : ProcessNo → ℕ → List Local → List Datum
numbered number count [] = []
numbered number count (l ∷ ls) = datum.object number.0 count ∷ numbered number (suc count) ls

-- of the values of these variables those of the objects
abbrev pub objects_among : List Local → List Datum → List Datum
objects_among ls xs = map (λ p. p.1) (filter (λ p. is_object p.0) (zip ls xs))

-- A text's sites are, in order, its variables that are objects; and what a process makes for these are its objects 1, 2 and so on. So the
-- n-th site of a text is the object n of each process that runs it. Also before all are made: a process that was told of n objects that they
-- are made, and of no more, makes the next one, which is of the type of the variable behind the first n.
pub record SitesAreObjects (us : List Source) : Type 0 where
  pub sites :
      (text : ℕ) (t : TopName) → slice_get (process_texts us) text ≡ Some t →
      map (λ e. e.variable) (process_estimates (summaries_of us) us t) ≡ map (λ l. l.name) (object_variables (variables_of us t))
  pub objects :
      (number : ProcessNo) (ls : List Local) (s s1 : State) (xs : List Datum) → variables_made us number ls 1 s ≡ Goes xs s1 →
      objects_among ls xs ≡ numbered number 1 (object_variables ls)
  pub next :
      (text : TextNo) (t : TopName) (number : ProcessNo) (args : Data) (n turns i : ℕ) (l : Local) →
      slice_get (process_texts us) text.0 ≡ Some t → length (list_of args) ≡ parameters_in t.what →
      slice_get (object_variables (variables_of us t)) n ≡ Some l → object_type_of l ≡ Some i →
      next_doing us text number args (replicate n reply.Done) turns ≡ doing.At (action.Make (kind_of us i) (own_object number (suc n)))

-- ---- by text

-- the estimates of each text's sites
abbrev pub estimates_by_text : List Source → List (List Estimate)
estimates_by_text us = map (process_estimates (summaries_of us) us) (process_texts us)

-- one after the other
abbrev pub all_of : {X : Type 0} → List (List X) → List X
all_of xss = flat_map (λ xs. xs) xss

-- answers about all sites, in their order, by text: a run's choices
abbrev pub choices_of : List (List Estimate) → List Choice → List (List Choice)
choices_of [] cs = []
choices_of (es ∷ rest) cs = take (length es) cs ∷ choices_of rest (drop (length es) cs)

-- each text has as many choices as sites, and all of them are the answers, in their order
pub record ArePartedByText (us : List Source) (cs : List Choice) : Type 0 where
  pub estimates : estimates us ≡ all_of (estimates_by_text us)
  pub answers : all_of (choices_of (estimates_by_text us) cs) ≡ cs
  pub each : map length (choices_of (estimates_by_text us) cs) ≡ map length (estimates_by_text us)
