-- Chains of operators, as the parser reads them.
use Rattle.std.specs.Prelude.{◌≡◌, ℕ, Bool, true, false, List, [], ◌∷◌, Option, Some, None, Ok}
use Rattle.std.specs.Borrow.{Bor}
use Rattle.std.specs.List.{flat_map}
use Rattle.orca_lexer.specs.declared.token.TokenKind.{TokenKind}
use Rattle.orca_lexer.specs.declared.token.Token.{Token}
use Rattle.orca_grammar.specs.Forms.{Links, Term, Sum, Relation, Conjunction, Disjunction, Mark, Chain, bracketed}
use Rattle.orca_grammar.specs.Rules as rules
use Rattle.orca_grammar.specs.Reading.{is_any, comes, first}
use Rattle.orca_grammar.specs.Grammar.{read}
use Rattle.orca_grammar.specs.Sets.{sets}
use Rattle.orca_tree.specs.declared.tree.Operator.{Operator}
use Rattle.orca_tree.specs.declared.tree.Link.{Link}
use Rattle.orca_tree.specs.Marks.{word, link, list_links, links_of, operator_token}
use Rattle.parse_exprs.specs.declared.operators.Level.{Level}
use Rattle.parse_exprs.specs.declared.operators.Level.TheVariants as levels

-- the grammar's name of a level
abbrev pub links_at : Level → Links
links_at levels.Term = Term
links_at levels.Sum = Sum
links_at levels.Relation = Relation
links_at levels.Conjunction = Conjunction
links_at levels.Disjunction = Disjunction

-- of relations there is one alone
abbrev pub one_alone : Links → Bool
one_alone Term = false
one_alone Sum = false
one_alone Relation = true
one_alone Conjunction = false
one_alone Disjunction = false

-- the links behind a first operand: none, or some in brackets
abbrev pub links_marks : List Link → List Mark
links_marks [] = []
links_marks (l ∷ ls) = bracketed (Chain (list_links (l ∷ ls))) (flat_map link (l ∷ ls))

-- the token is this operator of a level, or it is none of them
abbrev pub IsOperator : Links → TokenKind → Option Operator → Type 0
IsOperator level kind None = is_any (first sets (rules.operator level)) kind ≡ false
IsOperator level kind (Some op) = (is_any (first sets (rules.operator level)) kind ≡ true) × (kind ≡ operator_token op) ×
    (links_of op ≡ level)

-- an operator of a level comes next, and is read, or none comes
abbrev pub Operates : Links → List Token → Option (Operator × Bor (List Token)) → Type 0
Operates level tokens None = comes (first sets (rules.operator level)) tokens ≡ false
Operates level tokens (Some x) =
    (comes (first sets (rules.operator level)) tokens ≡ true)
    × ((d : ℕ) → read d (rules.operator level) tokens ≡ Ok (word (operator_token x.0) ∷ [], x.1.now))
    × (links_of x.0 ≡ level)
