use Rattle.std.proofs.Common.{rules, ◌≡◌, ◌+◌, ap, ◌∙◌, subst, ℕ, List, length, vec_len}
use Rattle.std.specs.Prelude.{IfOk}
use Rattle.orca_lexer.specs.declared.token.TokenKind.{TokenKind}
use Rattle.orca_grammar.specs.Forms.{Mark, spelled}
use Rattle.orca_syntax.specs.Derivation.{syntax_marks}
use Rattle.orca_syntax.specs.Shown.{syntax_of}
use Rattle.orca_syntax.proofs.MarksOfDeclarations.{unit_shown}
use Rattle.orca_tree.specs.declared.tree.Declaration.{Declaration}
use Rattle.program_limits.specs.Counted.{names_in_declarations}
use Rattle.program_limits.proofs.limits.words_of.Goals as goal

pub returns : goal.returns
returns c =
    let counted : vec_len c.in_ok-words.field-0 ≡ length c.in_ok-words.field-0.items = search rules in
    let tokens =
    c.len-tokens.ensures ∙ counted ∙ ap (λ (l : List TokenKind). length l) (c.in_ok-words.ensures {u = tt})
    ∙ ap (λ (ms : List Mark). length (spelled ms)) (unit_shown c.args.unit.now.unit) in
    let names = (c.in_ok-names.ensures {u = tt}) ∙ ap (λ (ds : List Declaration). names_in_declarations ds) c.deref.ensures.value in
    subst (λ (k : ℕ). IfOk c.both.result (λ n. n ≡ k)) (ap (λ (k : ℕ). k + c.in_ok-names.names) tokens ∙ ap (λ (k : ℕ). length (spelled (syntax_marks (syntax_of c.args.unit.now.unit))) + k) names) c.both.ensures
