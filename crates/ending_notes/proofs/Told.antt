-- A note is one on an ending, by what it is on; and where there is none, none is owed.
use Rattle.std.proofs.Common.{◌≡◌, ◌≢◌, ◌⊎◌, ◌<◌, ◌-◌, ℕ, List, Option, Some, None, ap, length, map, subst, sym, ◌∙◌, arith}
use Rattle.std.specs.Prelude.{IfNone, IfOk, IfSome, Result, Ok, Err, option_map, slice_get, take}
use Rattle.std.proofs.lemmas.List.{length-map}
use Rattle.std.proofs.lemmas.Option.{same_Some, slice_get-map}
use Rattle.link_rules.specs.Units.{Source}
use Rattle.accepted_law.specs.Limits.{IsWithinLimits}
use Rattle.orca_io.specs.Files.{File}
use Rattle.orca_front.specs.declared.fault.FrontFault.{FrontFault}
use Rattle.orca_front.specs.declared.fault.FrontFault.TheVariants as fronts
use Rattle.orca_front.specs.Sources.{IsAccepted, IsFault, IsLinkFault}
use Rattle.command_output.specs.declared.statuses.TheConstants.{BAD_SCRIPT, LIMIT, REFUSED, USAGE}
use Rattle.net_rules.specs.declared.line.ScriptLine.{ScriptLine}
use Rattle.fault_scripts.specs.Says.{IsScript}
use Rattle.refusal_notes.specs.declared.cause.Cause.{Cause}
use Rattle.refusal_notes.specs.declared.cause.Cause.TheVariants as causes
use Rattle.refusal_notes.specs.declared.cause.UsageRule.{UsageRule}
use Rattle.refusal_notes.specs.Notes.{note_of}
use Rattle.kept_files.specs.Kept.{kept_of}
use Rattle.kept_files.specs.declared.file.KeptFile.{KeptFile}
use Rattle.ending_notes.specs.Endings.{IsJudged, IsLast, IsPlainCause, IsScriptNote, IsUnowed, program_files}

-- texts that don't link are no accepted program
pub link_fault_is : (sources : List File) (fault : FrontFault) → IsLinkFault sources fault → IsFault sources fault
link_fault_is sources (fronts.Faulty file at said) h = h
link_fault_is sources fronts.TooNested h = h
link_fault_is sources (fronts.Unlinked error) h = h
link_fault_is sources (fronts.Mistyped error) h = absurd h

-- what is so of each note is so of what comes of it
pub noted : {V E : Type 0} {P Q : V → Type 0} (r : Result (Option V) E) → ((v : V) → P v → Q v) → IfOk r (λ o. IfSome o P) → IfOk r (λ o. IfSome o Q)
noted (Ok (Some v)) so h = so v h
noted (Ok None) so h = tt
noted (Err e) so h = tt

-- and where there is none, too
pub unnoted : {V E : Type 0} {P Q : Type 0} (r : Result (Option V) E) → (P → Q) → IfOk r (λ o. IfNone o P) → IfOk r (λ o. IfNone o Q)
unnoted (Ok (Some v)) so h = tt
unnoted (Ok None) so h = so h
unnoted (Err e) so h = tt

-- what is so of some texts is so of the same
pub moved : {V E : Type 0} (P : List File → V → Type 0) (r : Result (Option V) E) (xs ys : List File) → xs ≡ ys → IfOk r (λ o. IfSome o (P xs)) → IfOk r (λ o. IfSome o (P ys))
moved P r xs ys e h = subst (λ (l : List File). IfOk r (λ o. IfSome o (P l))) e h

pub unmoved : {V E : Type 0} (P : List File → Type 0) (r : Result (Option V) E) (xs ys : List File) → xs ≡ ys → IfOk r (λ o. IfNone o (P xs)) → IfOk r (λ o. IfNone o (P ys))
unmoved P r xs ys e h = subst (λ (l : List File). IfOk r (λ o. IfNone o (P l))) e h

-- ---- no note is owed

-- these statuses tell no cause by themselves
program_plain : (status : ℕ) (cause : Cause) → (status ≡ REFUSED) ⊎ (status ≡ LIMIT) → IsPlainCause status cause → ⊥
program_plain status cause is h = grind arith

script_plain : (status : ℕ) (cause : Cause) → status ≡ BAD_SCRIPT → IsPlainCause status cause → ⊥
script_plain status cause is h = grind arith

module _ (status : ℕ) (words : List (List ℕ)) (files : List File) where
  pub program_unowed : (status ≡ REFUSED) ⊎ (status ≡ LIMIT) → IsJudged words files → IsUnowed status words files
  program_unowed is judged = record {
    plain = λ cause plain. program_plain status cause is plain;
    usage = λ other. grind arith;
    script = λ other. absurd (grind arith);
    program = λ _. judged;
  }

  pub script_unowed : status ≡ BAD_SCRIPT → ((file : File) → IsLast files file → (said : List ScriptLine) × IsScript file.1 said) → IsUnowed status words files
  script_unowed is said = record {
    plain = λ cause plain. script_plain status cause is plain;
    usage = λ other. grind arith;
    script = λ _. said;
    program = λ other. absurd (grind arith);
  }

  pub plain_unowed : status ≢ USAGE → status ≢ BAD_SCRIPT → status ≢ REFUSED → status ≢ LIMIT → ((cause : Cause) → IsPlainCause status cause → ⊥) → IsUnowed status words files
  plain_unowed no_usage no_script not_refused no_limit plain = record {
    plain = plain;
    usage = no_usage;
    script = λ other. absurd (no_script other);
    program = λ other. absurd (grind arith);
  }

-- the texts of the program are those in front
pub judged_of : (words : List (List ℕ)) (files : List File) (count : ℕ) → program_files words ≡ Some count → ((units : List Source) × IsAccepted (take count files) units × IsWithinLimits units) → IsJudged words files
judged_of words files count named h = λ other is within.
    subst (λ (n : ℕ). (units : List Source) × IsAccepted (take n files) units × IsWithinLimits units) (same_Some count other (sym named ∙ is)) h

-- and where they weren't all read nothing is said
pub judged_short : (words : List (List ℕ)) (files : List File) (count : ℕ) → program_files words ≡ Some count → length files < count → IsJudged words files
judged_short words files count named short = λ other is within. let e : count ≡ other = same_Some count other (sym named ∙ is) in absurd (omega (arith, short, within, e))

pub judged_none : (words : List (List ℕ)) (files : List File) → program_files words ≡ None → IsJudged words files
judged_none words files named = λ other is within. absurd cc

-- ---- which note it is

-- the last of the texts
pub kept_last : (files : List KeptFile) (file : KeptFile) → Some file ≡ slice_get files (length files - 1) → IsLast (map kept_of files) (kept_of file)
kept_last files file h =
    slice_get-map kept_of files (length (map kept_of files) - 1)
    ∙ ap (option_map kept_of) (ap (λ (n : ℕ). slice_get files (n - 1)) (length-map files kept_of) ∙ sym h)

-- a note on it, or none since it is a script
pub last_told : {V E : Type 0} (bytes : V → List ℕ) (r : Result (Option V) E) (files : List File) (file : File) → IsLast files file → IfOk r (λ o. IfSome o (λ v. IsScriptNote file (bytes v)))
    → IfOk r (λ o. IfSome o (λ v. (x : File) × IsLast files x × IsScriptNote x (bytes v)))
last_told bytes r files file last h = noted r (λ v note. (file, last, note)) h

pub last_none : {V E : Type 0} (r : Result (Option V) E) (files : List File) (file : File) → IsLast files file → IfOk r (λ o. IfNone o ((said : List ScriptLine) × IsScript file.1 said))
    → IfOk r (λ o. IfNone o ((other : File) → IsLast files other → (said : List ScriptLine) × IsScript other.1 said))
last_none r files file last h =
    unnoted r (λ script. λ other is. subst (λ (f : File). (said : List ScriptLine) × IsScript f.1 said) (same_Some file other (sym last ∙ is)) script) h

-- a note on words that are no command
pub usage_told : {V E : Type 0} (bytes : V → List ℕ) (r : Result V E) (rule : UsageRule) (subject : List ℕ) → IfOk r (λ v. bytes v ≡ note_of (causes.Usage rule) subject None)
    → IfOk r (λ v. (x : UsageRule) × (y : List ℕ) × (bytes v ≡ note_of (causes.Usage x) y None))
usage_told bytes (Ok v) rule subject h = (rule, subject, h)
usage_told bytes (Err e) rule subject h = tt
