-- What the code keeps by reference, as the rules of typing see it.
use Rattle.std.specs.Prelude.{ℕ, Bool, ◌&&◌, List, Option, map, option_map, is_some, bytes_eq}
use Rattle.std.specs.Borrow.{Bor}
use Rattle.std.specs.BTreeMap.{BTreeMap, get_by}
use Rattle.std.specs.Cmp.Lexicographic.{slice_cmp}
use Rattle.std.specs.Ordering.{nat_cmp}
use Rattle.orca_tree.specs.declared.tree.Name.{Name}
use Rattle.orca_syntax.specs.Shown.{block, definition, head, kind, operation, parameter}
use Rattle.link_rules.specs.Units.{Import, defined}
use Rattle.type_rules.specs.TopLevel as tops
use Rattle.type_forms.specs.declared.tops.What.{What}
use Rattle.type_forms.specs.declared.tops.What.TheVariants as seen
use Rattle.type_forms.specs.declared.tops.Top.{Top}

abbrev pub what : What → tops.What
what (seen.Constant value) = tops.Constant value.now
what (seen.TypeName of) = tops.TypeName (definition of.now)
what (seen.Value of number) = tops.Value of.now number
what (seen.Specified heads) = tops.Specified (map head heads.now)
what (seen.Implemented os) = tops.Implemented (map operation os.now)
what (seen.Function ps r b) = tops.Function (map parameter ps.now) (option_map kind r.now) (block b.now)
what (seen.Process ps b) = tops.Process (map parameter ps.now) (block b.now)

abbrev pub top : Top → tops.TopName
top t = record { defined = defined t.by.now t.file.now t.role (record { at = t.at; text = t.name.now }); what = what t.what }

-- the number of a name, in a table of them
abbrev pub number_in : BTreeMap (Bor (List ℕ)) ℕ → List ℕ → Option ℕ
number_in numbers n = get_by (λ k. slice_cmp nat_cmp n k.now) numbers

-- whether a name is in a set of names
abbrev pub has : {X : Type 0} → BTreeMap (Bor (List ℕ)) X → List ℕ → Bool
has names n = is_some (get_by (λ k. slice_cmp nat_cmp n k.now) names)

-- a module imports a name
abbrev pub is_imported : List ℕ → List ℕ → Import → Bool
is_imported m n i = bytes_eq i.by m && bytes_eq i.name.text n

-- names that are lent
abbrev pub lent : List (Bor Name) → List Name
lent ns = map (λ n. n.now) ns
