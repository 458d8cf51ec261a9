use Rattle.std.proofs.Common.{◌≡◌, ◌∷◌, ◌++◌, [], drop}
use Rattle.std.specs.List.{flat_map}
use Rattle.orca_lexer.specs.declared.token.Symbol.TheVariants.{Semicolon}
use Rattle.orca_lexer.specs.declared.token.TokenKind.TheVariants.{Sign}
use Rattle.orca_grammar.specs.Forms.{spelled}
use Rattle.orca_tree.specs.Marks.{typed_name, word}
use Rattle.orca_tree.proofs.spelling.Speller.fields.Given as goal

abbrev pub invariant-loop-field : goal.invariant-loop-field
invariant-loop-field l = l.self ++ spelled (flat_map (λ f. typed_name f ++ word (Sign Semicolon) ∷ []) (drop l.field-index l.all)) ≡ l.initial.self ++ spelled (flat_map (λ f. typed_name f ++ word (Sign Semicolon) ∷ []) l.all)
