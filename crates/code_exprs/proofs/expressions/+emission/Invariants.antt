use Rattle.std.proofs.Common.{List, drop}
use Rattle.orca_syntax.specs.Shown.{exprs, links, path}
use Rattle.type_rules.specs.Scopes.{Scope}
use Rattle.meaning_rules.specs.Calls.{modes_of}
use Rattle.program_bodies.specs.Named.{callee_seen}
use Rattle.code_rules.specs.Instructions.{Instr}
use Rattle.code_rules.specs.Layouts.{Layout}
use Rattle.code_rules.specs.Phrases.{all_code, links_code, passed_code, path_code}
use Rattle.emitted_code.specs.Appends.{Appends}
use Rattle.code_exprs.specs.CodeSites.{IsCodeSite}
use Rattle.emitted_code.specs.Views.{code_of}
use Rattle.code_exprs.proofs.expressions.+emission.Given as goal

-- whoever appends what is left has appended all
abbrev pub invariant-emit_links-links : goal.invariant-emit_links-links
invariant-emit_links-links l = (w : Scope) (s : Layout) → IsCodeSite l.here w s → (new : List Instr) →
    Appends (links_code w s (links (drop l.one-index l.links))) (code_of l.out) new → Appends (links_code w s (links l.links)) (code_of l.initial.out) new

abbrev pub invariant-emit_path-path : goal.invariant-emit_path-path
invariant-emit_path-path l = (w : Scope) (s : Layout) → IsCodeSite l.here w s → (new : List Instr) →
    Appends (path_code w s (path (drop l.step-index l.path))) (code_of l.out) new → Appends (path_code w s (path l.path)) (code_of l.initial.out) new

abbrev pub invariant-emit_all-given : goal.invariant-emit_all-given
invariant-emit_all-given l = (w : Scope) (s : Layout) → IsCodeSite l.here w s → (new : List Instr) →
    Appends (all_code w s (exprs (drop l.e-index l.given))) (code_of l.out) new → Appends (all_code w s (exprs l.given)) (code_of l.initial.out) new

abbrev pub invariant-emit_passed-given : goal.invariant-emit_passed-given
invariant-emit_passed-given l = (w : Scope) (s : Layout) → IsCodeSite l.here w s → (new : List Instr) →
    Appends (passed_code w s (drop l.place (modes_of (callee_seen l.is))) (exprs (drop l.place l.given))) (code_of l.out) new →
    Appends (passed_code w s (modes_of (callee_seen l.is)) (exprs l.given)) (code_of l.initial.out) new
