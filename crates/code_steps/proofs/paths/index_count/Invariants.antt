use Rattle.std.proofs.Common.{◌≡◌, ◌≤◌, ◌+◌, drop}
use Rattle.code_rules.specs.Machine.{indices}
use Rattle.emitted_code.specs.Views.{marks_of}
use Rattle.code_steps.proofs.paths.index_count.Given as goal

-- what was counted, and what is left
abbrev pub invariant-marks : goal.invariant-marks
invariant-marks l = record {
  counted : l.count + indices (marks_of (drop l.mark-index l.marks)) ≡ indices (marks_of l.marks);
  few : l.count ≤ l.mark-index;
}
