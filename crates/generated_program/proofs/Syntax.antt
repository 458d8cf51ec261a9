-- The syntax of the generated program, where the place of its n-th token is `at n`. Where the tokens have these kinds, it is theirs.
use Rattle.std.proofs.Common.{◌≡◌, ℕ, suc, List, [], ◌∷◌, map, refl}
use Rattle.std.specs.Prelude.{pos, Ok, Option, Some, None, codes}
use Rattle.orca_base.specs.declared.place.Place.{Place}
use Rattle.orca_base.specs.declared.limits.TheConstants.{NESTING}
use Rattle.orca_lexer.specs.declared.token.Token.{Token}
use Rattle.orca_lexer.specs.declared.token.TokenKind.{TokenKind}
use Rattle.orca_grammar.specs.Grammar.{nest_at, read}
use Rattle.orca_grammar.specs.Reading.{nest_over}
use Rattle.orca_grammar.specs.Rules.{unit}
use Rattle.orca_grammar.proofs.Opened.{every_form}
use Rattle.orca_tree.specs.declared.tree.Mode.{Mode}
use Rattle.orca_tree.specs.declared.tree.Mode.TheVariants as mode
use Rattle.orca_tree.specs.declared.tree.Name.{Name}
use Rattle.orca_tree.specs.declared.tree.Operator.TheVariants as op
use Rattle.orca_syntax.specs.Derivation.{syntax_marks}
use Rattle.orca_syntax.specs.Syntax as syn
use Rattle.orca_syntax.specs.Syntax.{Expr, Kind, Stmt, Stmts, Variables, TypedName, Parameter, Head, Guard, Body, Operation, Block, Decl, Syntax}
use Rattle.generated_program.proofs.LaidOut.{Piece}
use Rattle.generated_program.proofs.Pieces.{layout}

-- ---- phrases

abbrev name : Place → List ℕ → Name
name at text = record { at = at; text = text }

abbrev variables : List Name → Kind → Variables
variables names kind = record { names = names; kind = kind }

abbrev typed_name : Name → Kind → TypedName
typed_name n kind = record { name = n; kind = kind }

abbrev parameter : Name → Mode → Kind → Parameter
parameter n mode kind = record { name = n; mode = mode; kind = kind }

abbrev head : Place → Name → List TypedName → Option Kind → Head
head at n parameters result = record { at = at; name = n; parameters = parameters; result = result }

abbrev guard : Place → Expr → Stmts → Guard
guard at test body = record { at = at; test = test; body = body }

abbrev operation : Head → List Variables → Body → Operation
operation h variables body = record { head = h; variables = variables; body = body }

abbrev block : List Variables → Stmts → Block
block variables body = record { variables = variables; statements = body }

-- ---- the declarations

abbrev total_head : (ℕ → Place) → Decl
total_head at =
    syn.Specification (at 0) (name (at 2) (codes "Total")) (head (at 4) (name (at 5) (codes "Add")) (typed_name (name (at 7) (codes "v")) (syn.Integer (at 9)) ∷ []) None ∷ head (at 12) (name (at 13) (codes "Value")) [] (Some (syn.Integer (at 17))) ∷ [])

abbrev total_body : (ℕ → Place) → Decl
total_body at =
    syn.Implementation (at 21) (name (at 23) (codes "Total")) (variables ((name (at 25) (codes "x")) ∷ []) (syn.Integer (at 27)) ∷ []) (operation (head (at 29) (name (at 30) (codes "Add")) (typed_name (name (at 32) (codes "v")) (syn.Integer (at 34)) ∷ []) None) [] (syn.Plain (syn.stmt (syn.Assign (name (at 38) (codes "x")) syn.here (syn.Chain (syn.Get (name (at 40) (codes "x")) syn.here) (syn.link op.Add (syn.Get (name (at 42) (codes "v")) syn.here) syn.no_link))) syn.no_stmt)) ∷ operation (head (at 46) (name (at 47) (codes "Value")) [] (Some (syn.Integer (at 51)))) [] (syn.Plain (syn.stmt (syn.Return (at 54) (Some (syn.Get (name (at 55) (codes "x")) syn.here))) syn.no_stmt)) ∷ []) None

abbrev pool_head : (ℕ → Place) → Decl
pool_head at =
    syn.Specification (at 61) (name (at 63) (codes "Pool")) (head (at 65) (name (at 66) (codes "Put")) (typed_name (name (at 68) (codes "v")) (syn.Integer (at 70)) ∷ []) None ∷ head (at 73) (name (at 74) (codes "Take")) [] (Some (syn.Integer (at 78))) ∷ [])

abbrev pool_body : (ℕ → Place) → Decl
pool_body at =
    syn.Implementation (at 82) (name (at 84) (codes "Pool")) (variables ((name (at 86) (codes "items")) ∷ []) (syn.Bag (at 88) (syn.Integer (at 90))) ∷ []) (operation (head (at 92) (name (at 93) (codes "Put")) (typed_name (name (at 95) (codes "v")) (syn.Integer (at 97)) ∷ []) None) [] (syn.Plain (syn.stmt (syn.Insert (at 101) (syn.Get (name (at 103) (codes "v")) syn.here) (name (at 105) (codes "items")) syn.here) syn.no_stmt)) ∷ operation (head (at 110) (name (at 111) (codes "Take")) [] (Some (syn.Integer (at 115)))) [] (syn.Guarded (guard (at 118) (syn.Chain (syn.Size (at 119) (syn.Get (name (at 121) (codes "items")) syn.here)) (syn.link op.Greater (syn.Number (at 124) (pos 0)) syn.no_link)) (syn.stmt (syn.Return (at 126) (Some (syn.From (at 127) (name (at 129) (codes "items")) syn.here))) syn.no_stmt)) []) ∷ []) None

abbrev worker : (ℕ → Place) → ℕ → Decl
worker at rounds =
    syn.Process (at 138) (name (at 139) (codes "Worker")) (parameter (name (at 141) (codes "t")) mode.Shared (syn.Named (name (at 144) (codes "Total"))) ∷ parameter (name (at 146) (codes "p")) mode.Shared (syn.Named (name (at 149) (codes "Pool"))) ∷ parameter (name (at 151) (codes "j")) mode.Value (syn.Integer (at 153)) ∷ []) (block (variables ((name (at 156) (codes "s")) ∷ []) (syn.Integer (at 158)) ∷ []) (syn.stmt (syn.For (at 161) (name (at 162) (codes "i")) (syn.Number (at 164) (pos 1)) (syn.Number (at 166) (pos rounds)) (syn.stmt (Stmt.Invoke (name (at 168) (codes "t")) (name (at 170) (codes "Add")) (syn.expr (syn.Chain (syn.Get (name (at 172) (codes "j")) syn.here) (syn.link op.Multiply (syn.Get (name (at 174) (codes "i")) syn.here) syn.no_link)) syn.no_expr)) (syn.stmt (syn.Assign (name (at 177) (codes "s")) syn.here (Expr.Invoke (name (at 179) (codes "t")) (name (at 181) (codes "Value")) syn.no_expr)) syn.no_stmt))) (syn.stmt (Stmt.Invoke (name (at 187) (codes "p")) (name (at 189) (codes "Put")) (syn.expr (syn.Get (name (at 191) (codes "j")) syn.here) syn.no_expr)) syn.no_stmt)))

abbrev main : (ℕ → Place) → ℕ → Decl
main at workers =
    syn.Process (at 196) (name (at 197) (codes "OrcaMain")) [] (block (variables ((name (at 201) (codes "T")) ∷ []) (syn.Named (name (at 203) (codes "Total"))) ∷ variables ((name (at 205) (codes "P")) ∷ []) (syn.Named (name (at 207) (codes "Pool"))) ∷ variables ((name (at 209) (codes "s")) ∷ []) (syn.Integer (at 211)) ∷ []) (syn.stmt (syn.For (at 214) (name (at 215) (codes "j")) (syn.Number (at 217) (pos 1)) (syn.Number (at 219) (pos workers)) (syn.stmt (syn.Fork (at 221) (name (at 222) (codes "Worker")) (syn.expr (syn.Get (name (at 224) (codes "T")) syn.here) (syn.expr (syn.Get (name (at 226) (codes "P")) syn.here) (syn.expr (syn.Get (name (at 228) (codes "j")) syn.here) syn.no_expr))) (Some (syn.Get (name (at 231) (codes "j")) syn.here))) syn.no_stmt)) (syn.stmt (syn.For (at 235) (name (at 236) (codes "j")) (syn.Number (at 238) (pos 1)) (syn.Number (at 240) (pos workers)) (syn.stmt (syn.Assign (name (at 242) (codes "s")) syn.here (Expr.Invoke (name (at 244) (codes "P")) (name (at 246) (codes "Take")) syn.no_expr)) syn.no_stmt)) (syn.stmt (syn.WriteLine (at 252) (syn.expr (Expr.Invoke (name (at 254) (codes "T")) (name (at 256) (codes "Value")) syn.no_expr) syn.no_expr)) syn.no_stmt))))

abbrev pub program_syntax : (ℕ → Place) → ℕ → ℕ → Syntax
program_syntax at rounds workers = record {
  name = None;
  imports = [];
  declarations = total_head at ∷ total_body at ∷ pool_head at ∷ pool_body at ∷ worker at rounds ∷ main at workers ∷ [];
}

-- ---- tokens of these kinds

abbrev pub token_at : (ℕ → Place) → (ℕ → ℕ) → (ℕ → ℕ) → TokenKind → Token
token_at at start end kind = record { kind = kind; start = start 0; end = end 0; at = at 0 }

-- the n-th has the n-th place, and stands from the n-th start to the n-th end
abbrev pub tokens_of : (ℕ → Place) → (ℕ → ℕ) → (ℕ → ℕ) → List TokenKind → List Token
tokens_of at start end [] = []
tokens_of at start end (kind ∷ kinds) = token_at at start end kind ∷ tokens_of (λ n. at (suc n)) (λ n. start (suc n)) (λ n. end (suc n)) kinds

abbrev pub kinds_of : ℕ → ℕ → List TokenKind
kinds_of rounds workers = map (λ (p : Piece). p.1) (layout rounds workers)

-- they are read as this syntax
pub program_read : (at : ℕ → Place) (start end : ℕ → ℕ) (rounds workers : ℕ) →
    read NESTING unit (tokens_of at start end (kinds_of rounds workers)) ≡ Ok (syntax_marks (program_syntax at rounds workers), [])
unfolding every_form nest_at nest_over
program_read at start end rounds workers = refl
