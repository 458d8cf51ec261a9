use Rattle.std.proofs.Common.{◌≡◌, ◌++◌, drop}
use Rattle.orca_syntax.specs.Shown.{exprs, links, path}
use Rattle.access_estimates.specs.Seen.{all_seen}
use Rattle.estimate_rules.specs.Uses.{arguments_uses, exprs_uses, links_uses, path_uses}
use Rattle.access_estimates.proofs.expressions.+expressions.Given as goal

abbrev pub invariant-in_links-links : goal.invariant-in_links-links
invariant-in_links-links l =
    all_seen l.out.items ++ links_uses l.times (links (drop l.link-index l.links)) ≡ all_seen l.initial.out.items ++ links_uses l.times (links l.links)

abbrev pub invariant-in_path-path : goal.invariant-in_path-path
invariant-in_path-path l =
    all_seen l.out.items ++ path_uses l.times (path (drop l.step-index l.path)) ≡ all_seen l.initial.out.items ++ path_uses l.times (path l.path)

abbrev pub invariant-in_expressions-given : goal.invariant-in_expressions-given
invariant-in_expressions-given l =
    all_seen l.out.items ++ exprs_uses l.times (exprs (drop l.e-index l.given)) ≡ all_seen l.initial.out.items ++ exprs_uses l.times (exprs l.given)

abbrev pub invariant-in_arguments-given : goal.invariant-in_arguments-given
invariant-in_arguments-given l =
    all_seen l.out.items ++ arguments_uses l.times l.to l.position (exprs (drop l.position l.given))
    ≡ all_seen l.initial.out.items ++ arguments_uses l.times l.to 0 (exprs l.given)
