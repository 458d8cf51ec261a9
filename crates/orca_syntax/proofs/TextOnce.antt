-- A text has one syntax at most, and it is that of each tree whose marks the text has.
use Rattle.std.proofs.Common.{◌≡◌, ℕ, List, sym, ap, ◌∙◌, subst}
use Rattle.orca_lexer.specs.declared.token.Token.{Token}
use Rattle.orca_lexer.proofs.Once.{tokens_once}
use Rattle.orca_grammar.specs.Forms.{Mark}
use Rattle.orca_grammar.specs.Grammar.{IsText}
use Rattle.orca_grammar.proofs.Once.{once}
use Rattle.orca_tree.specs.declared.tree.Unit.{Unit as UnitTree}
use Rattle.orca_tree.specs.Marks.{unit as unit_marks}
use Rattle.orca_syntax.specs.Syntax.{Syntax}
use Rattle.orca_syntax.specs.Shown.{syntax_of}
use Rattle.orca_syntax.specs.Derivation.{unit, syntax_marks}
use Rattle.orca_syntax.specs.TextSyntax.{HasSyntax, IsShown}
use Rattle.orca_syntax.proofs.MarksOfDeclarations.{unit_shown}
use Rattle.orca_syntax.proofs.Branches.{text_full}
use Rattle.orca_syntax.proofs.ReadBack.{forest_of, forest_back}
use Rattle.orca_syntax.proofs.Told.{unit_told}

-- marks that a text has are those of one syntax alone
pub marks_once : (s t : Syntax) (tokens : List Token) → IsText (syntax_marks s) tokens → syntax_marks s ≡ syntax_marks t → s ≡ t
marks_once s t tokens text same = unit_told s t (text_full s tokens text) (sym (forest_back (unit s)) ∙ ap forest_of same ∙ forest_back (unit t))

pub derived_once : (s t : Syntax) (tokens : List Token) → IsText (syntax_marks s) tokens → IsText (syntax_marks t) tokens → s ≡ t
derived_once s t tokens p q = marks_once s t tokens p (once tokens (syntax_marks s) (syntax_marks t) p q)

pub text_once : (text : List ℕ) (s t : Syntax) → HasSyntax text s → HasSyntax text t → s ≡ t
text_once text s t p q = derived_once s t p.tokens p.derived (subst (IsText (syntax_marks t)) (tokens_once text q.tokens p.tokens q.are p.are) q.derived)

-- what a tree shows
pub tree_derived : (u : UnitTree) (tokens : List Token) → IsText (unit_marks u) tokens → IsText (syntax_marks (syntax_of u)) tokens
tree_derived u tokens text = subst (λ (ms : List Mark). IsText ms tokens) (unit_shown u) text

pub text_syntax : (u : UnitTree) → IsShown u
text_syntax u text tokens are is = record { tokens = tokens; are = are; derived = tree_derived u tokens is }

pub trees_once : (u v : UnitTree) (tokens : List Token) → IsText (unit_marks u) tokens → IsText (unit_marks v) tokens → syntax_of u ≡ syntax_of v
trees_once u v tokens p q = derived_once (syntax_of u) (syntax_of v) tokens (tree_derived u tokens p) (tree_derived v tokens q)
