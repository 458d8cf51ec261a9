-- Each command is one whose matches and faults `clap` states.
use Rattle.std.proofs.Common.{◌≡◌, true, refl}
use Rattle.clap.specs.Words.{is_simple_and_free, is_simple}
use Rattle.clap.proofs.OnLiterals.{clap_on_literals}
use Rattle.command_line.specs.declared.request.CommandName.{CommandName}
use Rattle.command_line.specs.declared.request.CommandName.TheVariants.{Check, Run, Code, Choice, Replay, Make, Join}
use Rattle.command_line.specs.Rules.{app}

pub all_free : (name : CommandName) → is_simple_and_free (app name) ≡ true
unfolding app clap_on_literals
all_free Check = refl
all_free Run = refl
all_free Code = refl
all_free Choice = refl
all_free Replay = refl
all_free Make = refl
all_free Join = refl

pub all_simple : (name : CommandName) → is_simple (app name) ≡ true
unfolding app clap_on_literals
all_simple Check = refl
all_simple Run = refl
all_simple Code = refl
all_simple Choice = refl
all_simple Replay = refl
all_simple Make = refl
all_simple Join = refl
