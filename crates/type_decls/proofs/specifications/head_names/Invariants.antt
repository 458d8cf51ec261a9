use Rattle.std.proofs.Common.{◌≡◌, map, take}
use Rattle.orca_syntax.specs.Shown.{head}
use Rattle.type_forms.specs.Seen.{lent}
use Rattle.type_decls.proofs.specifications.head_names.Given as goal

abbrev pub invariant-heads : goal.invariant-heads
invariant-heads l = lent l.names.items ≡ map (λ h. h.name) (map head (take l.head-index l.heads))
