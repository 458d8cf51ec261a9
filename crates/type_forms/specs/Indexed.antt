-- What the index of a program's names knows.
use Rattle.std.specs.Prelude.{◌≡◌, ℕ, List, Some, map, slice_get}
use Rattle.std.specs.Borrow.{Bor}
use Rattle.std.specs.BTreeMap.{BTreeMap, get_by}
use Rattle.std.specs.Cmp.Lexicographic.{slice_cmp}
use Rattle.std.specs.Ordering.{nat_cmp}
use Rattle.std.specs.List.{list_any}
use Rattle.link_rules.specs.declared.role.Role.TheVariants.{Specification, Implementation, Other}
use Rattle.link_rules.specs.Units.{Source, imports, source}
use Rattle.type_rules.specs.TopLevel as rules
use Rattle.type_rules.specs.TopLevel.{number_as, top_names}
use Rattle.type_forms.specs.declared.index.Index.{Index}
use Rattle.type_forms.specs.declared.index.Standing.{Standing}
use Rattle.type_forms.specs.declared.index.Standing.TheVariants as seen
use Rattle.type_forms.specs.Seen.{has, is_imported, number_in, top}

-- each table of names is that of the modules that its module imports
abbrev pub ImportsOf : BTreeMap (Bor (List ℕ)) (BTreeMap (Bor (List ℕ)) (Unit {0})) → List Source → Type 0
ImportsOf tables us =
    (m : List ℕ) (names : BTreeMap (Bor (List ℕ)) (Unit {0})) → get_by (λ k. slice_cmp nat_cmp m k.now) tables ≡ Some names →
    (n : List ℕ) → has names n ≡ list_any (is_imported m n) (imports us)

-- the index is that of these sources
pub record Indexes (x : Index) (us : List Source) : Type 0 where
  pub units : map source x.units.now ≡ us
  pub tops : map top x.tops.items ≡ top_names us
  pub specifications : (n : List ℕ) → number_in x.specifications n ≡ number_as us Specification n
  pub implementations : (n : List ℕ) → number_in x.implementations n ≡ number_as us Implementation n
  pub others : (n : List ℕ) → number_in x.others n ≡ number_as us Other n
  pub imports_of : ImportsOf x.imports us

-- what a name stands for
abbrev pub standing : Standing → rules.StandsFor
standing seen.Nothing = rules.Nothing
standing (seen.Top number item) = rules.Top number (top item)
standing (seen.Everywhere word) = rules.Everywhere word

-- a name of the top level is that of its number
abbrev pub IsInside : List Source → Standing → Type 0
IsInside us (seen.Top number item) = slice_get (top_names us) number ≡ Some (top item)
IsInside us _ = Unit {0}
