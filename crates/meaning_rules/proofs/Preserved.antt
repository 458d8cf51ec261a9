-- Preservation: what is proved of phrases, functions, operations and processes, put together.
use Rattle.std.proofs.Common.{sym, subst, arith}
use Rattle.std.specs.Prelude.{ℕ, List}
use Rattle.link_rules.specs.Units.{Source}
use Rattle.type_rules.specs.Scopes.{Scope}
use Rattle.value_core.specs.Datum as datum
use Rattle.value_core.specs.Fits.{Kinds}
use Rattle.meaning_rules.specs.Programs.{main_text}
use Rattle.meaning_rules.specs.Functions.{calls}
use Rattle.meaning_rules.specs.Fitting.{FitsTop, FitsWhat, FitsText}
use Rattle.meaning_rules.specs.Replies.{Front}
use Rattle.meaning_rules.specs.Accepted.{IsPlain, IsAccepted}
use Rattle.meaning_rules.specs.Preservation.{PhrasesPreserve, Preservation}
use Rattle.meaning_rules.proofs.Everywhere.{calls_holds}
use Rattle.meaning_rules.proofs.FittingBodies.{calls_fit, tries_do, makings_fit}
use Rattle.meaning_rules.proofs.FittingPhrases.{eval_preserves, path_preserves}
use Rattle.meaning_rules.proofs.FittingProcesses.{processes_lawful}
use Rattle.meaning_rules.proofs.FittingStatements.{run_all_preserves}
use Rattle.meaning_rules.proofs.Fronts.{fronts}
use Rattle.meaning_rules.proofs.Premises.{Laws}
use Rattle.meaning_rules.proofs.Valued.{Stands}

stands : (v : Scope) → IsAccepted v.program → Laws v.program → IsPlain v → (kinds : Kinds) (levels : ℕ) → Stands kinds (calls v.program levels) v
stands v facts laws plain kinds levels = record { scope = plain; facts = facts; laws = laws; calls = calls_fit v.program kinds facts laws levels }

pub phrases_preserve : (v : Scope) → IsAccepted v.program → Laws v.program → IsPlain v → PhrasesPreserve v
phrases_preserve v facts laws plain = record {
  values = λ kinds levels e sound none.
      eval_preserves kinds (calls v.program levels) (calls_holds Front fronts v.program levels) v (stands v facts laws plain kinds levels) e sound none;
  paths = λ kinds levels t p sound none.
      path_preserves kinds (calls v.program levels) (calls_holds Front fronts v.program levels) v (stands v facts laws plain kinds levels) t p sound none;
  statements = λ kinds levels ss sound none.
      run_all_preserves kinds (calls v.program levels) (calls_holds Front fronts v.program levels) v (stands v facts laws plain kinds levels) ss sound none;
}

main_fits : (us : List Source) → IsAccepted us → (kinds : Kinds) → FitsText us kinds (main_text us) datum.none
main_fits us facts kinds =
    let m = facts.main in
    subst (λ o. FitsTop us kinds datum.none o) (sym m.2) (subst (λ w. FitsWhat us kinds datum.none m.0 w) (sym m.3) (tt, omega arith, omega arith))

pub preservation : (us : List Source) → IsAccepted us → Laws us → Preservation us
preservation us facts laws = record {
  functions = λ kinds levels. calls_fit us kinds facts laws levels;
  makings = λ kinds kind. makings_fit us kinds facts laws kind;
  states = λ kinds kind op state args h k. (tries_do us kinds facts laws kind op state args h k).0;
  replies = λ kinds kind op state args h k. (tries_do us kinds facts laws kind op state args h k).1;
  processes = processes_lawful us facts laws;
  main = main_fits us facts;
}
