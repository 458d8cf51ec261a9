-- What is written so far of a listing.
use Rattle.std.specs.Prelude.{ℕ, ◌≤◌, ◌++◌, List, Vec, length, map, string_bytes}
use Rattle.std.specs.declared.alloc.Global.{Global}
use Rattle.code_rules.specs.Instructions.{Instr}
use Rattle.stack_code.specs.Text.{bodies_text}
use Rattle.stack_code.specs.declared.print.Printer.{Printer}

-- what is written is at least as long as lines were counted
pub record IsCounted (p : Printer) : Type 0 where
  pub lines : p.first ≤ length (string_bytes p.out)
  pub texts : p.texts ≤ p.first

-- what is written at last, where these bodies are left
abbrev pub written : List (List (List ℕ)) → Printer → List (List Instr) → List ℕ
written notes p rest = string_bytes p.out ++ bodies_text notes p.first p.texts rest

-- notes, as the definitions have them
abbrev pub notes_of : List (Vec (List ℕ) Global) → List (List (List ℕ))
notes_of notes = map (λ own. own.items) notes
