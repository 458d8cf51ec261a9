-- A text has one first fault, and none where it is a unit; and sources are one program, or none for one reason.
use Rattle.std.proofs.Common.{◌≡◌, ℕ, List, [], ◌∷◌, ◌++◌, Some, None, refl, sym, ap, ◌∙◌, subst}
use Rattle.std.specs.Prelude.{codes, slice_range}
use Rattle.orca_base.specs.declared.place.Place.{Place}
use Rattle.orca_io.specs.Files.{File}
use Rattle.orca_lexer.specs.declared.error.LexError.{LexError}
use Rattle.orca_lexer.specs.declared.token.Token.{Token}
use Rattle.orca_lexer.specs.Rules.{message_of}
use Rattle.orca_lexer.specs.Tokens.{Tokens}
use Rattle.orca_lexer.proofs.Once.{refusal_none, refusal_once, tokens_once}
use Rattle.orca_grammar.specs.Grammar.{IsText, IsUnexpected}
use Rattle.orca_grammar.proofs.Refusals.{unexpected_none, unexpected_once}
use Rattle.orca_syntax.specs.Derivation.{syntax_marks}
use Rattle.orca_syntax.specs.Syntax.{Syntax}
use Rattle.orca_syntax.specs.TextSyntax.{HasSyntax}
use Rattle.orca_syntax.proofs.TextOnce.{text_once}
use Rattle.link_rules.specs.declared.link_error.LinkError.{LinkError}
use Rattle.link_rules.specs.Rules.{IsLinkError, Links, first, link_errors}
use Rattle.link_rules.specs.Units.{Source}
use Rattle.type_rules.specs.Breaches.{IsTypeError, IsWellTyped, breaches}
use Rattle.type_rules.specs.declared.type_error.TypeError.{TypeError}
use Rattle.orca_front.specs.declared.fault.FrontFault.{FrontFault}
use Rattle.orca_front.specs.declared.fault.FrontFault.TheVariants as fronts
use Rattle.orca_front.specs.Lines.{fault_line, link_line, refused_line, type_line}
use Rattle.orca_front.specs.Sources as sources
use Rattle.orca_front.specs.Sources.{AreUnits, IsAccepted, IsFault, IsTextFault, IsUnit, NestTooDeep, Reaches}
use Rattle.orca_front.specs.Texts as texts
use Rattle.orca_front.specs.Texts.{IsFaulty, IsTooDeep}
use Rattle.command_files.specs.Loaded.{front_status}
use Rattle.orca_answers.proofs.FilesOnce.{SameEnd, heads, some_apart, some_same, tails}

-- ---- one text

-- these tokens of a text that is a unit are its unit's
tokens_derived : (text : List ℕ) (s : Syntax) (ts : List Token) → HasSyntax text s → Tokens text ts → IsText (syntax_marks s) ts
tokens_derived text s ts has are = subst (IsText (syntax_marks s)) (tokens_once text has.tokens ts has.are are) has.derived

-- a unit has no fault
faulty_none : (text : List ℕ) (s : Syntax) (p : Place) (said : List ℕ) → HasSyntax text s → IsFaulty text p said → ⊥
faulty_none text s p said has (texts.lexical error r) = refusal_none text error has.tokens r has.are
faulty_none text s p said has (texts.token ts front rest t are u) = unexpected_none ts front (t ∷ rest) (syntax_marks s) u (tokens_derived text s ts has are)
faulty_none text s p said has (texts.end ts front are u) = unexpected_none ts front [] (syntax_marks s) u (tokens_derived text s ts has are)

-- where nothing goes on with some tokens, and with some of the same text: the same is left
left_same : (text : List ℕ) (ts us front before left rest : List Token) → Tokens text ts → Tokens text us → IsUnexpected ts front left → IsUnexpected us before rest → left ≡ rest
left_same text ts us front before left rest are were u v =
    unexpected_once ts front left u before rest (subst (λ (x : List Token). IsUnexpected x before rest) (tokens_once text us ts were are) v)

token_apart : (t : Token) (rest : List Token) → t ∷ rest ≡ [] → ⊥
token_apart t rest e = absurd cc

-- the place of a fault
abbrev place_of : (text : List ℕ) (p : Place) (said : List ℕ) → IsFaulty text p said → Place
place_of text p said fault = p

-- that of the end of a text
end_once : (text : List ℕ) (ts us front before : List Token) (are : Tokens text ts) (were : Tokens text us) (u : IsUnexpected ts front []) (v : IsUnexpected us before []) →
    place_of text _ _ (texts.end ts front are u) ≡ place_of text _ _ (texts.end us before were v)
end_once text ts us front before are were u v =
    subst (λ (x : List Token). (f : List Token) (a : Tokens text x) (w : IsUnexpected x f []) → place_of text _ _ (texts.end ts front are u) ≡ place_of text _ _ (texts.end x f a w))
    (tokens_once text ts us are were) (λ f a w. refl) before were v

faulty_once : (text : List ℕ) (p q : Place) (said words : List ℕ) → IsFaulty text p said → IsFaulty text q words → (p ≡ q) × (said ≡ words)
faulty_once text p q said words (texts.lexical e r) (texts.lexical f k) =
    let same = refusal_once text e f r k in
    (ap (λ (x : LexError). x.at) same, ap (λ (x : LexError). message_of x.rule) same)
faulty_once text p q said words (texts.lexical e r) (texts.token us before rest t were v) = absurd (refusal_none text e us r were)
faulty_once text p q said words (texts.lexical e r) (texts.end us before were v) = absurd (refusal_none text e us r were)
faulty_once text p q said words (texts.token ts front rest t are u) (texts.lexical f k) = absurd (refusal_none text f ts k are)
faulty_once text p q said words (texts.token ts front rest t are u) (texts.token us before left x were v) =
    let same = heads t x rest left (left_same text ts us front before (t ∷ rest) (x ∷ left) are were u v) in
    (ap (λ (y : Token). y.at) same, ap (λ (y : Token). codes "unexpected '" ++ (slice_range text y.start y.end ++ codes "'")) same)
faulty_once text p q said words (texts.token ts front rest t are u) (texts.end us before were v) =
    absurd (token_apart t rest (left_same text ts us front before (t ∷ rest) [] are were u v))
faulty_once text p q said words (texts.end ts front are u) (texts.lexical f k) = absurd (refusal_none text f ts k are)
faulty_once text p q said words (texts.end ts front are u) (texts.token us before left x were v) =
    absurd (token_apart x left (sym (left_same text ts us front before [] (x ∷ left) are were u v)))
faulty_once text p q said words (texts.end ts front are u) (texts.end us before were v) = (end_once text ts us front before are were u v, refl)

-- ---- units, one after the other

-- the source is no unit
abbrev IsNoUnit : File → Type 0
IsNoUnit file = (u : Source) → IsUnit file u → ⊥

-- the first source is a unit, and the others are units
record Cut (file : File) (files : List File) (us : List Source) : Type 0 where
  unit : Source
  units : List Source
  splits : us ≡ unit ∷ units
  is : IsUnit file unit
  are : AreUnits files units

cut_of : (fs : List File) (us : List Source) → AreUnits fs us → (file : File) (files : List File) → fs ≡ file ∷ files → Cut file files us
cut_of _ _ sources.none file files e = absurd cc
cut_of _ _ (sources.one g gs v vs is are) file files e = record {
  unit = v;
  units = vs;
  splits = refl;
  is = subst (λ (x : File). IsUnit x v) (heads g file gs files e) is;
  are = subst (λ (x : List File). AreUnits x vs) (tails g file gs files e) are;
}

cut : (file : File) (files : List File) (us : List Source) → AreUnits (file ∷ files) us → Cut file files us
cut file files us are = cut_of (file ∷ files) us are file files refl

nothing_of : (fs : List File) (us : List Source) → AreUnits fs us → fs ≡ [] → us ≡ []
nothing_of _ _ sources.none e = refl
nothing_of _ _ (sources.one g gs v vs is are) e = absurd cc

same_unit : (file : File) (u v : Source) → IsUnit file u → IsUnit file v → u ≡ v
same_unit file u v is was =
    let name : u.file ≡ v.file = is.named ∙ sym was.named in
    let syntax : u.syntax ≡ v.syntax = text_once file.1 u.syntax v.syntax is.has was.has in
    λ i. record { file = name i; syntax = syntax i }

pub same_units : (files : List File) (us vs : List Source) → AreUnits files us → AreUnits files vs → us ≡ vs
same_units [] us vs are were = nothing_of [] us are refl ∙ sym (nothing_of [] vs were refl)
same_units (f ∷ files) us vs are were =
    let c = cut f files us are in
    let d = cut f files vs were in
    let unit = same_unit f c.unit d.unit c.is d.is in
    let rest = same_units files c.units d.units c.are d.are in
    c.splits ∙ (λ i. unit i ∷ rest i) ∙ sym d.splits

-- one source is the first that is no unit
one_first : (before other : List File) (us vs : List Source) (after left : List File) (s t : File) → before ++ s ∷ after ≡ other ++ t ∷ left → AreUnits before us → AreUnits other vs → IsNoUnit s → IsNoUnit t → s ≡ t
one_first [] [] us vs after left s t e are were none never = heads s t after left e
one_first [] (o ∷ other) us vs after left s t e are were none never =
    let c = cut o other vs were in
    absurd (none c.unit (subst (λ (f : File). IsUnit f c.unit) (sym (heads s o after (other ++ t ∷ left) e)) c.is))
one_first (b ∷ before) [] us vs after left s t e are were none never =
    let c = cut b before us are in
    absurd (never c.unit (subst (λ (f : File). IsUnit f c.unit) (heads b t (before ++ s ∷ after) left e) c.is))
one_first (b ∷ before) (o ∷ other) us vs after left s t e are were none never =
    let c = cut b before us are in
    let d = cut o other vs were in
    one_first before other c.units d.units after left s t (tails b o (before ++ s ∷ after) (other ++ t ∷ left) e) c.are d.are none never

same_first : (files : List File) (s t : File) → Reaches files s → Reaches files t → IsNoUnit s → IsNoUnit t → s ≡ t
same_first files s t r q none never = one_first r.before q.before r.units q.units r.after q.after s t (sym r.splits ∙ q.splits) r.are q.are none never

-- and none is where all are units
one_within : (before after : List File) (us : List Source) (s : File) → AreUnits (before ++ s ∷ after) us → IsNoUnit s → ⊥
one_within [] after us s are none = let c = cut s after us are in none c.unit c.is
one_within (b ∷ before) after us s are none = let c = cut b (before ++ s ∷ after) us are in one_within before after c.units s c.are none

units_apart : (files : List File) (us : List Source) (s : File) → AreUnits files us → Reaches files s → IsNoUnit s → ⊥
units_apart files us s are r none = one_within r.before r.after us s (subst (λ (fs : List File). AreUnits fs us) r.splits are) none

faulty_no_unit : (files : List File) (file : List ℕ) (p : Place) (said : List ℕ) (h : IsTextFault files file p said) → IsNoUnit h.source
faulty_no_unit files file p said h = λ u is. faulty_none h.source.1 u.syntax p said is.has h.faulty

deep_no_unit : (files : List File) (h : NestTooDeep files) → IsNoUnit h.source
deep_no_unit files h = λ u is. is.shallow h.deep

-- ---- the rules

link_once : (us vs : List Source) (e d : LinkError) → us ≡ vs → IsLinkError us e → IsLinkError vs d → e ≡ d
link_once us vs e d same is was =
    let one : first (link_errors us) ≡ Some e = is in
    let two : first (link_errors vs) ≡ Some d = was in
    some_same e d (sym one ∙ ap (λ (x : List Source). first (link_errors x)) same ∙ two)

link_apart : (us vs : List Source) (e : LinkError) → us ≡ vs → IsLinkError us e → Links vs → ⊥
link_apart us vs e same is links =
    let one : first (link_errors us) ≡ Some e = is in
    let none : first (link_errors vs) ≡ None = ap first links in
    some_apart e (sym one ∙ ap (λ (x : List Source). first (link_errors x)) same ∙ none)

type_once : (us vs : List Source) (e d : TypeError) → us ≡ vs → IsTypeError us e → IsTypeError vs d → e ≡ d
type_once us vs e d same is was =
    let one : first (breaches us) ≡ Some e = is in
    let two : first (breaches vs) ≡ Some d = was in
    some_same e d (sym one ∙ ap (λ (x : List Source). first (breaches x)) same ∙ two)

type_apart : (us vs : List Source) (e : TypeError) → us ≡ vs → IsTypeError us e → IsWellTyped vs → ⊥
type_apart us vs e same is typed =
    let one : first (breaches us) ≡ Some e = is in
    let none : first (breaches vs) ≡ None = ap first typed in
    some_apart e (sym one ∙ ap (λ (x : List Source). first (breaches x)) same ∙ none)

-- ---- why sources are no program

-- two texts are the first that is no unit: they are one, and so is its fault
two_faulty : (files : List File) (file other : List ℕ) (p q : Place) (said words : List ℕ) → IsTextFault files file p said → IsTextFault files other q words → refused_line file p said ≡ refused_line other q words
two_faulty files file other p q said words h k =
    let source = same_first files h.source k.source h.first k.first (faulty_no_unit files file p said h) (faulty_no_unit files other q words k) in
    let same = faulty_once h.source.1 p q said words h.faulty (subst (λ (s : File). IsFaulty s.1 q words) (sym source) k.faulty) in
    let name : file ≡ other = sym h.named ∙ ap (λ (s : File). s.0) source ∙ k.named in
    λ i. refused_line (name i) (same.0 i) (same.1 i)

faulty_deep : (files : List File) (file : List ℕ) (p : Place) (said : List ℕ) → IsTextFault files file p said → NestTooDeep files → ⊥
faulty_deep files file p said h k =
    let source = same_first files h.source k.source h.first k.first (faulty_no_unit files file p said h) (deep_no_unit files k) in
    h.shallow (subst (λ (s : File). IsTooDeep s.1) (sym source) k.deep)

faulty_units : (files : List File) (file : List ℕ) (p : Place) (said : List ℕ) (us : List Source) → IsTextFault files file p said → AreUnits files us → ⊥
faulty_units files file p said us h are = units_apart files us h.source are h.first (faulty_no_unit files file p said h)

deep_units : (files : List File) (us : List Source) → NestTooDeep files → AreUnits files us → ⊥
deep_units files us h are = units_apart files us h.source are h.first (deep_no_unit files h)

pub front_once : (files : List File) (f g : FrontFault) → IsFault files f → IsFault files g → SameEnd (front_status f) (fault_line f) (front_status g) (fault_line g)
front_once files (fronts.Faulty file p said) (fronts.Faulty other q words) h k = (refl, two_faulty files file other p q said.items words.items h k)
front_once files (fronts.Faulty file p said) fronts.TooNested h k = absurd (faulty_deep files file p said.items h k)
front_once files (fronts.Faulty file p said) (fronts.Unlinked d) h k = absurd (faulty_units files file p said.items k.units h k.are)
front_once files (fronts.Faulty file p said) (fronts.Mistyped d) h k = absurd (faulty_units files file p said.items k.units h k.are)
front_once files fronts.TooNested (fronts.Faulty other q words) h k = absurd (faulty_deep files other q words.items k h)
front_once files fronts.TooNested fronts.TooNested h k = (refl, refl)
front_once files fronts.TooNested (fronts.Unlinked d) h k = absurd (deep_units files k.units h k.are)
front_once files fronts.TooNested (fronts.Mistyped d) h k = absurd (deep_units files k.units h k.are)
front_once files (fronts.Unlinked e) (fronts.Faulty other q words) h k = absurd (faulty_units files other q words.items h.units k h.are)
front_once files (fronts.Unlinked e) fronts.TooNested h k = absurd (deep_units files h.units k h.are)
front_once files (fronts.Unlinked e) (fronts.Unlinked d) h k = (refl, ap link_line (link_once h.units k.units e d (same_units files h.units k.units h.are k.are) h.first k.first))
front_once files (fronts.Unlinked e) (fronts.Mistyped d) h k = absurd (link_apart h.units k.units e (same_units files h.units k.units h.are k.are) h.first k.links)
front_once files (fronts.Mistyped e) (fronts.Faulty other q words) h k = absurd (faulty_units files other q words.items h.units k h.are)
front_once files (fronts.Mistyped e) fronts.TooNested h k = absurd (deep_units files h.units k h.are)
front_once files (fronts.Mistyped e) (fronts.Unlinked d) h k = absurd (link_apart k.units h.units d (same_units files k.units h.units k.are h.are) k.first h.links)
front_once files (fronts.Mistyped e) (fronts.Mistyped d) h k = (refl, ap type_line (type_once h.units k.units e d (same_units files h.units k.units h.are k.are) h.first k.first))

-- a program that is accepted is no such
pub front_apart : (files : List File) (f : FrontFault) (us : List Source) → IsFault files f → IsAccepted files us → ⊥
front_apart files (fronts.Faulty file p said) us h accepted = faulty_units files file p said.items us h accepted.are
front_apart files fronts.TooNested us h accepted = deep_units files us h accepted.are
front_apart files (fronts.Unlinked e) us h accepted = link_apart h.units us e (same_units files h.units us h.are accepted.are) h.first accepted.links
front_apart files (fronts.Mistyped e) us h accepted = type_apart h.units us e (same_units files h.units us h.are accepted.are) h.first accepted.typed
