use Rattle.std.proofs.Common.{List, map, subst, ap, ◌∙◌}
use Rattle.link_rules.specs.declared.named_unit.NamedUnit.{NamedUnit}
use Rattle.link_rules.specs.Units.{source}
use Rattle.type_rules.specs.TopLevel.{TopName}
use Rattle.meaning_rules.specs.Programs.{implementation, specified}
use Rattle.program_bodies.specs.Blocks.{IsBlockCode, process_of}
use Rattle.program_bodies.specs.Codes.{sources}
use Rattle.program_bodies.specs.Matching.{Both, Match}
use Rattle.program_bodies.specs.Objects.{IsObjectCode}
use Rattle.program_bodies.proofs.code.Code.new.Goals as goal

pub returns-clause-code : goal.returns-clause-code
returns-clause-code c = λ s coded few.
    let us = sources c.args.checked in
    let t = (c.tables.ensures us s).typed in
    let tables = (c.in_ok-tables.ensures {u = tt}) us t coded in
    record {
      symbols = s;
      tables = tables;
      few = few;
      counter = c.loop_variable-counter.ensures;
      functions = (c.in_ok-functions.ensures {u = tt}) us t;
      processes = subst (λ (l : List TopName). Match (λ p u. Both IsBlockCode p (process_of us u)) c.in_ok-processes.processes.items l) (c.processes.ensures us tables)
          ((c.in_ok-processes.ensures {u = tt}) us t);
      objects = subst (λ (l : List TopName). Match (λ o u. Both (IsObjectCode us) o (specified us u)) c.in_ok-objects.objects.items l) (c.specifications.ensures us tables)
          ((c.in_ok-objects.ensures {u = tt}) us t
          (λ n. (c.in_ok-implementations.ensures {u = tt}) n ∙ ap (λ (l : List NamedUnit). implementation (map source l) n) c.deref.ensures.value));
    }
