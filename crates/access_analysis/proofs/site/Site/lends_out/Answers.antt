use Rattle.std.proofs.Common.{sym, ap, ◌∙◌}
use Rattle.orca_tree.specs.declared.tree.Mode.TheVariants.{Out}
use Rattle.orca_syntax.specs.Shown.{expr}
use Rattle.orca_syntax.proofs.ShownLaws.{get_is}
use Rattle.meaning_rules.specs.Classes.{lends_field}
use Rattle.access_analysis.proofs.site.Site.lends_out.Goals as goal

pub returns-in-Get : goal.returns-in-Get
returns-in-Get c = λ w s. c.is_field.ensures w s ∙ sym (ap (lends_field w Out) (ap expr c.in-Get.is ∙ get_is c.in-Get.from))
