-- What words are, case by case.
use Rattle.std.proofs.Common.{◌≡◌, Bool, true, false, List, [], ◌∷◌, Option, Some, None, ◌⊎◌, inl, inr, ap, refl, sym, ◌∙◌}
use Rattle.std.specs.Prelude.{◌||◌, map, option_and_then, option_map, slice_get}
use Rattle.std.specs.List.{list_any}
use Rattle.clap.specs.Words.{App, IsAmong, Kinds, Row, Text, fault_of, is_simple, is_simple_and_free, matches_of}
use Rattle.clap.specs.declared.error.kind.ErrorKind.{ErrorKind}
use Rattle.clap.specs.declared.error.kind.ErrorKind.TheVariants.{OutOfMemory}
use Rattle.command_line.specs.declared.request.CommandName.{CommandName}
use Rattle.command_line.specs.Rules.{app}
use Rattle.command_line.specs.Asked.{Asked, asked_by}
use Rattle.command_line.specs.Asked as ask
use Rattle.command_line.specs.Command.{Command, asked_in, found_in, is_help, is_version, name_of, unfaulted}
use Rattle.command_line.proofs.Simple.{all_free, all_simple}

-- ---- what `clap` found

pub found_ok : {X : Type 0} (name : CommandName) (a : App) (words : List Text) (rows : List Row) → a ≡ app name → (is_simple_and_free a ≡ true → fault_of a words ≡ []) → (is_simple a ≡ true → (rows ≡ matches_of a words) × X) → Some rows ≡ found_in name words
unfolding found_in
found_ok name a words rows e free simple =
    let fault : fault_of a words ≡ [] = free (ap is_simple_and_free e ∙ all_free name) in
    let is : rows ≡ matches_of a words = (simple (ap is_simple e ∙ all_simple name)).0 in
    ap Some (is ∙ ap (λ (x : App). matches_of x words) e) ∙ sym (ap (λ (ks : Kinds). unfaulted ks (matches_of (app name) words)) (sym (ap (λ (x : App). fault_of x words) e) ∙ fault))

faulted : (kinds : Kinds) (rows : List Row) (k : ErrorKind) → (k ≡ OutOfMemory) ⊎ IsAmong k kinds → (k ≡ OutOfMemory → ⊥) → None ≡ unfaulted kinds rows
faulted [] rows k (inl lacking) not = absurd (not lacking)
faulted [] rows k (inr among) not = absurd among
faulted (x ∷ xs) rows k among not = refl

pub found_err : (name : CommandName) (a : App) (words : List Text) (k : ErrorKind) → a ≡ app name → (is_simple_and_free a ≡ true → (k ≡ OutOfMemory) ⊎ IsAmong k (fault_of a words)) → (k ≡ OutOfMemory → ⊥) → None ≡ found_in name words
unfolding found_in
found_err name a words k e free not =
    faulted (fault_of a words) (matches_of (app name) words) k (free (ap is_simple_and_free e ∙ all_free name)) not
    ∙ ap (λ (x : App). unfaulted (fault_of x words) (matches_of (app name) words)) e

-- ---- the words

pub no_words : (words : List Text) → slice_get words 0 ≡ None → Command words ≡ None
unfolding Command
no_words words first = rw first refl

pub asks_help : (words : List Text) (word : Text) → slice_get words 0 ≡ Some word → is_help word ≡ true → Command words ≡ Some (ask.help None)
unfolding Command
asks_help words word first h = rw (first, h) refl

pub asks_version : (words : List Text) (word : Text) → slice_get words 0 ≡ Some word → is_help word ≡ false → is_version word ≡ true → Command words ≡ Some ask.version
unfolding Command
asks_version words word first h v = rw (first, h, v) refl

pub unnamed : (words : List Text) (word : Text) → slice_get words 0 ≡ Some word → is_help word ≡ false → is_version word ≡ false → name_of word ≡ None → Command words ≡ None
unfolding Command
unnamed words word first h v n = rw (first, h, v, n) refl

pub asks_about : (words : List Text) (word : Text) (name : CommandName) → slice_get words 0 ≡ Some word → is_help word ≡ false → is_version word ≡ false → name_of word ≡ Some name → list_any is_help words ≡ true → Command words ≡ Some (ask.help (Some name))
unfolding Command
asks_about words word name first h v n about = rw (first, h, v, n, about) refl

pub asks_command : (words : List Text) (word : Text) (name : CommandName) → slice_get words 0 ≡ Some word → is_help word ≡ false → is_version word ≡ false → name_of word ≡ Some name → list_any is_help words ≡ false → Command words ≡ asked_in name words
unfolding Command
asks_command words word name first h v n about = rw (first, h, v, n, about) refl

-- ---- what the matches ask for

pub refused : {M : Type 0} (words : List Text) (name : CommandName) (m : Option M) (rows : M → List Row) → option_map rows m ≡ found_in name words → m ≡ None → asked_in name words ≡ None
refused words name m rows found none = ap (option_and_then (asked_by name)) (sym found ∙ ap (option_map rows) none)

pub answered : {M R : Type 0} (words : List Text) (name : CommandName) (m : Option M) (rows : M → List Row) (got : M) (r : Option R) (view : R → Asked) → option_map rows m ≡ found_in name words → m ≡ Some got → option_map view r ≡ asked_by name (rows got) → asked_in name words ≡ option_map view r
answered words name m rows got r view found is asked =
    ap (option_and_then (asked_by name)) (sym found ∙ ap (option_map rows) is) ∙ sym asked

-- one of the texts that are seen in a list
pub any_seen : {X : Type 0} (see : X → Text) (xs : List X) → list_any (λ x. is_help (see x)) xs ≡ list_any is_help (map see xs)
any_seen see [] = refl
any_seen see (x ∷ xs) = ap (λ (b : Bool). is_help (see x) || b) (any_seen see xs)
