-- Programs, of whose units nothing is said but what linking looks at, and what breaks in them.
use Rattle.std.specs.Prelude.{ℕ, zero, suc, List, [], ◌∷◌, codes, Option, Some, None, ◌+◌, pos}
use Rattle.orca_base.specs.declared.place.Place.{Place}
use Rattle.orca_tree.specs.declared.tree.Name.{Name}
use Rattle.orca_tree.specs.declared.tree.Bound.TheVariants.{Number}
use Rattle.orca_syntax.specs.Syntax as syn
use Rattle.orca_syntax.specs.Syntax.{Decl, Syntax}
use Rattle.link_rules.specs.declared.link_error.LinkError.{LinkError}
use Rattle.link_rules.specs.Units.{Source}

abbrev pub place : ℕ → ℕ → Place
place line column = record { line = line; column = column }

abbrev pub name : ℕ → ℕ → List ℕ → Name
name line column text = record { at = place line column; text = text }

-- const NAME = 1;
abbrev pub constant : ℕ → List ℕ → Decl
constant line text = syn.Constant (place line 1) (name line 7 text) (Number (place line 14) (pos 1))

-- type NAME = enum (VALUE);
abbrev pub enumeration : ℕ → List ℕ → List ℕ → Decl
enumeration line text value = syn.Declares (place line 1) (name line 6 text) (syn.Enumeration (place line 15) (name line 21 value ∷ []))

-- object specification NAME; end;
abbrev pub specification : ℕ → List ℕ → Decl
specification line text = syn.Specification (place line 1) (name line 22 text) []

-- object implementation NAME; end;
abbrev pub implementation : ℕ → List ℕ → Decl
implementation line text = syn.Implementation (place line 1) (name line 23 text) [] [] None

-- process OrcaMain(); begin end;
abbrev pub main : ℕ → Decl
main line = syn.Process (place line 1) (name line 9 (codes "OrcaMain")) [] (record { variables = []; statements = syn.no_stmt })

-- a text without a `module` line, and one with it, whose imports stand on the lines behind it
abbrev pub plain : List ℕ → List Decl → Source
plain file declarations = record { file = file; syntax = record { name = None; imports = []; declarations = declarations } }

abbrev pub imports_from : ℕ → List (List ℕ) → List Name
imports_from line [] = []
imports_from line (text ∷ texts) = name line 8 text ∷ imports_from (line + 1) texts

abbrev pub named : List ℕ → List ℕ → List (List ℕ) → List Decl → Source
named file text imported declarations =
    record { file = file; syntax = record { name = Some (name 1 8 text); imports = imports_from 2 imported; declarations = declarations } }

abbrev pub breach : ℕ → List ℕ → List ℕ → Place → Option LinkError
breach rule text file at = Some (record { rule = rule; name = text; file = file; at = at })

-- one object type and the main process
abbrev pub whole_program : List Source
whole_program = plain (codes "one.orca") (specification 1 (codes "Cell") ∷ implementation 2 (codes "Cell") ∷ main 3 ∷ []) ∷ []

-- a constant bears the name of another text's enumeration value; and its object type's name is free
abbrev pub name_twice : List Source
name_twice =
    named (codes "a.orca") (codes "A") [] (enumeration 2 (codes "Light") (codes "Red") ∷ constant 3 (codes "A") ∷ [])
    ∷ plain (codes "b.orca") (main 1 ∷ constant 2 (codes "Red") ∷ []) ∷ []

-- two texts without a `module` line, and in the second a name of the first
abbrev pub main_twice : List Source
main_twice = plain (codes "a.orca") (main 1 ∷ []) ∷ plain (codes "b.orca") (main 1 ∷ []) ∷ []

-- two specifications of one object type, behind its implementation
abbrev pub specified_twice : List Source
specified_twice =
    plain (codes "a.orca")
    (main 1 ∷ implementation 2 (codes "Cell") ∷ specification 3 (codes "Cell") ∷ specification 4 (codes "Cell") ∷ []) ∷ []

-- a top-level name isn't a module's
abbrev pub no_such_module : List Source
no_such_module =
    named (codes "a.orca") (codes "A") (codes "A" ∷ codes "Red" ∷ []) (main 4 ∷ constant 5 (codes "Red") ∷ []) ∷ []

-- two modules import one another, and a third, in front of them, one of the two
abbrev pub two_in_a_cycle : List Source
two_in_a_cycle =
    named (codes "a.orca") (codes "A") (codes "B" ∷ []) [] ∷ named (codes "b.orca") (codes "B") (codes "A" ∷ []) [] ∷ []

abbrev pub cycle_behind : List Source
cycle_behind = named (codes "c.orca") (codes "C") (codes "A" ∷ []) (main 3 ∷ []) ∷ two_in_a_cycle

-- a module imports itself
abbrev pub own_import : List Source
own_import = named (codes "a.orca") (codes "A") (codes "A" ∷ []) (main 3 ∷ []) ∷ []

-- `OrcaMain` is a module's name alone
abbrev pub module_alone : List Source
module_alone = named (codes "a.orca") (codes "OrcaMain") [] (specification 2 (codes "Cell") ∷ []) ∷ []

-- of two specifications the second has its implementation, in another module
abbrev pub one_implemented : List Source
one_implemented =
    named (codes "a.orca") (codes "A") [] (specification 2 (codes "Cell") ∷ specification 3 (codes "Pool") ∷ [])
    ∷ plain (codes "b.orca") (implementation 1 (codes "Pool") ∷ main 2 ∷ []) ∷ []

-- so many modules, and one that imports them all, twice
abbrev pub letter : ℕ → List ℕ
letter n = n ∷ []

abbrev pub modules_below : ℕ → List Source
modules_below zero = []
modules_below (suc n) = named (letter n) (letter n) [] [] ∷ modules_below n

abbrev pub letters_below : ℕ → List (List ℕ)
letters_below zero = []
letters_below (suc n) = letter n ∷ letter n ∷ letters_below n

abbrev pub importing : ℕ → List Source
importing n = named (codes "main.orca") (codes "Main") (letters_below n) (main 999 ∷ []) ∷ modules_below n
