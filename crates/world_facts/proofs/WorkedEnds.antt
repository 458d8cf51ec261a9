-- The ends of worked worlds, computed.
use Rattle.std.proofs.Common.{◌≡◌, ℕ, true, false, refl, arith}
use Rattle.orca_base.specs.declared.ids.TextNo.{TextNo}
use Rattle.world_rules.specs.Frame.{AreSettings, chooses_single}
use Rattle.world_rules.specs.OneCell.{one_cell}
use Rattle.world_rules.proofs.OneCell.{one_cell_run}
use Rattle.world_facts.specs.WorkedEnds.{PremisesMet, WorkedEnds}

pub worked_ends : WorkedEnds
worked_ends = record {
  members = refl;
  processes = refl;
  forked = refl;
  computing = refl;
  acting = refl;
  submitted = refl;
  reading = refl;
  asking = refl;
  crashed_member = refl;
  crashed = refl;
  ended_first = refl;
  faulted_first = refl;
}

replicated : (text : TextNo) (number : ℕ) → chooses_single one_cell.settings.choices text number ≡ false
replicated text number = refl

none_single : (text : TextNo) (number : ℕ) → chooses_single one_cell.settings.choices text number ≡ true → ⊥
none_single text number e = let h : false ≡ true = e in cc h

settings : AreSettings one_cell.settings
settings = record {
  some = omega arith;
  few = omega arith;
  resilience = omega arith;
  a_turn = omega arith;
  turns = omega arith;
  an_event = omega arith;
  events = omega arith;
  a_wire = omega arith;
  wires = omega arith;
  single = λ text number e. absurd (none_single text number e);
}

pub premises_met : PremisesMet
premises_met = record { settings = settings; replicated = replicated; replays = one_cell_run.replays }
