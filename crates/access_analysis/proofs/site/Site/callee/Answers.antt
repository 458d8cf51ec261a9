use Rattle.std.proofs.Common.{ℕ, List, sym, ap, ◌∙◌}
use Rattle.type_rules.specs.TopLevel.{stands_for}
use Rattle.meaning_rules.specs.Calls.{function_named}
use Rattle.access_analysis.proofs.site.Site.callee.Goals as goal

pub returns : goal.returns
returns c = λ w s.
    c.function_named.ensures
    ∙ ap function_named
    (c.stands_for-is.ensures.stands w.program s.names
    ∙ ap (stands_for w.program c.args.self.home.now) c.as_str.ensures
    ∙ ap (λ (m : List ℕ). stands_for w.program m c.args.name.now.text) (sym s.home))
