-- The names of specifications, of their operations and of processes are words, and no keywords.
use Rattle.std.proofs.Common.{refl, sym, ap, ◌∙◌}
use Rattle.std.specs.Prelude.{◌≡◌, ◌||◌, ◌==◌, ℕ, zero, suc, Bool, true, false, List, [], ◌∷◌, None, Some, codes}
use Rattle.std.specs.Char.{is_ascii_alphabetic, is_ascii_alphanumeric}
use Rattle.std.specs.Int.{is_in_range}
use Rattle.std.specs.List.{AllByRecursion, list_all}
use Rattle.orca_lexer.specs.Shapes.{is_word}
use Rattle.orca_lexer.specs.Tables.{keyword_of}
use Rattle.orca_lexer.specs.declared.token.Keyword.TheVariants.{KeyOutput}
use Rattle.orca_lexer.proofs.TextsBack.{keyword_back}
use Rattle.orca_tree.specs.declared.tree.Name.{Name}
use Rattle.orca_syntax.specs.Sound.{IsSoundDecl, IsSoundHead, IsSoundName}
use Rattle.orca_syntax.specs.Syntax as syn
use Rattle.orca_syntax.specs.Syntax.{Decl}
use Rattle.link_rules.specs.Units.{Source, module_name}
use Rattle.link_rules.proofs.Truth.{and_first, and_second, both_true, or_left}
use Rattle.type_rules.specs.TopLevel as top
use Rattle.type_rules.specs.TopLevel.{What, TopName, name_in, names_in, top_names, unit_names, values_at, values_in, what_in}
use Rattle.meaning_rules.specs.Accepted.{AreTexts}
use Rattle.meaning_rules.proofs.Orderly.{all_flat}
use Rattle.history_text.specs.Sound.{is_name_byte}

-- ---- words

letter_of : (digit upper lower : Bool) → (upper || lower) ≡ true → ((digit || upper) || lower) ≡ true
letter_of true upper lower is = refl
letter_of false upper lower is = is

pub word_bytes : (n : List ℕ) → is_word n ≡ true → list_all is_name_byte n ≡ true
word_bytes [] is = absurd cc
word_bytes (c ∷ cs) is =
    both_true (is_name_byte c) (list_all is_name_byte cs)
    (or_left (is_ascii_alphanumeric c) (c == 95) (letter_of (is_in_range 48 57 c) (is_in_range 65 90 c) (is_in_range 97 122 c) (and_first (is_ascii_alphabetic c) (list_all is_name_byte cs) is)))
    (and_second (is_ascii_alphabetic c) (list_all is_name_byte cs) is)

pub not_output : (n : Name) → IsSoundName n → n.text ≡ codes "Output" → ⊥
not_output n sound is = let both : None ≡ Some KeyOutput = sym sound.1 ∙ (ap keyword_of is ∙ keyword_back KeyOutput) in cc

-- ---- names of the top level

abbrev pub IsSoundWhat : Name → What → Type 0
IsSoundWhat n (top.Specified hs) = IsSoundName n × AllByRecursion IsSoundHead hs
IsSoundWhat n (top.Process ps b) = IsSoundName n
IsSoundWhat n (top.Constant b) = Unit {0}
IsSoundWhat n (top.TypeName of) = Unit {0}
IsSoundWhat n (top.Value of number) = Unit {0}
IsSoundWhat n (top.Implemented os) = Unit {0}
IsSoundWhat n (top.Function ps r b) = Unit {0}

abbrev pub IsSoundTop : TopName → Type 0
IsSoundTop t = IsSoundWhat t.defined.name t.what

decl_sound : (d : Decl) → IsSoundDecl d → IsSoundWhat (name_in d) (what_in d)
decl_sound (syn.Constant at n b) sound = tt
decl_sound (syn.Declares at n of) sound = tt
decl_sound (syn.Specification at n hs) sound = (sound.0, sound.1)
decl_sound (syn.Implementation at n fields os opening) sound = tt
decl_sound (syn.Function at n ps r b) sound = tt
decl_sound (syn.Process at n ps b) sound = sound.0

values_sound : (m file of : List ℕ) (number : ℕ) (ns : List Name) → AllByRecursion IsSoundTop (values_at m file of number ns)
values_sound m file of number [] = tt
values_sound m file of number (n ∷ ns) = (tt, values_sound m file of (suc number) ns)

decls_sound : (m file : List ℕ) (ds : List Decl) → AllByRecursion IsSoundDecl ds → AllByRecursion (λ d. AllByRecursion IsSoundTop (names_in m file d)) ds
decls_sound m file [] sound = tt
decls_sound m file (d ∷ ds) sound = ((decl_sound d sound.0, values_sound m file (name_in d).text zero (values_in d)), decls_sound m file ds sound.1)

pub tops_sound : (us : List Source) → AreTexts us → AllByRecursion IsSoundTop (top_names us)
tops_sound us texts = all_flat IsSoundTop unit_names us (each us texts)
  where
    each : (vs : List Source) → AreTexts vs → AllByRecursion (λ u. AllByRecursion IsSoundTop (unit_names u)) vs
    each [] sound = tt
    each (u ∷ vs) sound =
        (all_flat IsSoundTop (names_in (module_name u) u.file) u.syntax.declarations (decls_sound (module_name u) u.file u.syntax.declarations sound.0.2), each vs sound.1)
