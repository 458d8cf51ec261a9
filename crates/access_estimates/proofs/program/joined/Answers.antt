use Rattle.std.proofs.Common.{List, ◌++◌, Vec, Global, sym, ap, ◌∙◌}
use Rattle.site_estimates.specs.declared.estimate.Estimate.{Estimate}
use Rattle.access_estimates.proofs.Listing.{joined_more}
use Rattle.access_estimates.proofs.program.joined.Goals as goal

pub texts-preserved : goal.texts-preserved
texts-preserved c =
    (c.in_ok-append.ensures {u = tt}).items
    ∙ ap (λ (l : List Estimate). l ++ c.in-Some.sites.items) c.texts.invariant
    ∙ sym (joined_more (λ (v : Vec Estimate Global). v.items) c.texts.yielded c.in-Some.sites)
