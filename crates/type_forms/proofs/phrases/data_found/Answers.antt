use Rattle.std.proofs.Common.{ℕ, List, Option, subst, sym, ap, ◌∙◌}
use Rattle.std.specs.Prelude.{IfOk}
use Rattle.std.proofs.Math.Path.{fun_ext}
use Rattle.link_rules.specs.Units.{Source}
use Rattle.orca_syntax.specs.Shown.{kind}
use Rattle.type_rules.specs.declared.types.Measured.{Measured}
use Rattle.type_rules.specs.TypePhrases.{data_phrase, declared_type}
use Rattle.type_forms.specs.Finding.{Finds}
use Rattle.type_forms.proofs.phrases.data_found.Goals as goal

pub returns : goal.returns
returns c = λ us t w v.
    subst (λ (d : ℕ → Option Measured). IfOk c.data_phrase.result (λ f. Finds f (data_phrase d w (kind c.args.kind.now))))
    (fun_ext t.types ∙ ap (λ (x : List Source). declared_type x) (sym v.program))
    (c.data_phrase.ensures us t.forms w v)
