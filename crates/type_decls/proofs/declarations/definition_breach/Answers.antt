use Rattle.std.proofs.Common.{ℕ, [], Option, refl, subst}
use Rattle.std.proofs.Math.Path.{fun_ext}
use Rattle.orca_syntax.specs.Shown as shown
use Rattle.type_rules.specs.declared.types.Measured.{Measured}
use Rattle.type_rules.specs.TypePhrases.{definition}
use Rattle.type_rules.specs.Scopes.{view_of}
use Rattle.type_forms.specs.Finding.{Finds}
use Rattle.type_decls.proofs.declarations.definition_breach.Goals as goal

pub returns : goal.returns
returns c = λ us ctx.
    let w = view_of us c.args.home.now [] in
    (subst (λ (d : ℕ → Option Measured). Finds c.in_ok-found.found (definition d w c.args.number (shown.definition c.args.of.now))) (fun_ext ctx.tables.typed.types)
    ((c.in_ok-found.ensures {u = tt}) us ctx.tables.typed.forms w (record { program = refl; home = refl; names = ctx.none }))).first
