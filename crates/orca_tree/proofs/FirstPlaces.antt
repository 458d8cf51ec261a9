-- A phrase begins with its first operand.
use Rattle.std.proofs.Common.{Box, Vec, Global, ◌≡◌, List, ◌++◌, refl, sym, ap, ◌∙◌, append_assoc}
use Rattle.orca_grammar.specs.Forms.{Chain as ChainOf, Mark, bracketed}
use Rattle.orca_tree.specs.declared.tree.Expression.{Expression, Chain}
use Rattle.orca_tree.specs.declared.tree.Link.{Link}
use Rattle.orca_tree.specs.declared.tree.Expression.TheVariants.{Chain', Number, Char, Text, Truth, Not', Negative', Parentheses', From', Size', Ordinal', Get', Call', Invoke'}
use Rattle.orca_tree.specs.Marks.{operand, row_links, links_row}
use Rattle.orca_tree.specs.Places.{first_place}

-- whatever stands behind it
pub operand_first : (e : Expression) (x y : List Mark) → first_place (operand e ++ x) ≡ first_place (operand e ++ y)
operand_first (Chain' p first shape links) x y =
    let level = bracketed (ChainOf (row_links links)) (links_row links) in
    ap first_place (append_assoc (operand first) level x) ∙ operand_first first (level ++ x) (level ++ y) ∙ sym (ap first_place (append_assoc (operand first) level y))
operand_first (Number at value) x y = refl
operand_first (Char at code) x y = refl
operand_first (Text at text) x y = refl
operand_first (Truth at value) x y = refl
operand_first (Not' at p e) x y = refl
operand_first (Negative' at p e) x y = refl
operand_first (Parentheses' at p e) x y = refl
operand_first (From' at name shape path) x y = refl
operand_first (Size' at p e) x y = refl
operand_first (Ordinal' at p e) x y = refl
operand_first (Get' name shape path) x y = refl
operand_first (Call' name shape arguments) x y = refl
operand_first (Invoke' object operation shape arguments) x y = refl

chain_first : (e : Expression) (level x : List Mark) → first_place ((operand e ++ level) ++ x) ≡ first_place (operand e ++ x)
chain_first e level x = ap first_place (append_assoc (operand e) level x) ∙ operand_first e (level ++ x) x

-- a chain begins with its first operand
pub chain_place : (e : Expression) (first : Box Expression Global) (ls : Vec Link Global) (x : List Mark) → e ≡ Chain first ls → first_place (operand e ++ x) ≡ first_place (operand first.value ++ x)
chain_place e first ls x same = ap (λ (d : Expression). first_place (operand d ++ x)) same ∙ chain_first first.value _ x
