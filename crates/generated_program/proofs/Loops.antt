-- One line more, and the lines with a number.
use Rattle.std.proofs.Common.{◌≡◌, ℕ, ◌+◌, ◌<◌, List, [], ◌∷◌, ◌++◌, length, map, get_or, take, sym, ap, ◌∙◌, append_assoc}
use Rattle.std.specs.Prelude.{codes}
use Rattle.std.specs.Fmt.{decimal}
use Rattle.std.proofs.lemmas.List.{flat_map_more, map-append, take_more}
use Rattle.generated_program.specs.Program.{ended, main_lines, text_of, worker_lines}

-- what is seen of the front of a list, one item on
front_more : {T : Type 0} (view : T → List ℕ) (xs : List T) (i : ℕ) (x : T) → i < length xs → x ≡ get_or xs i x →
    map view (take i xs) ++ view x ∷ [] ≡ map view (take (i + 1) xs)
front_more view xs i x less is =
    ap (λ t. map view (take i xs) ++ view t ∷ []) is
    ∙ sym (ap (map view) (take_more xs i x less) ∙ map-append view (take i xs) (get_or xs i x ∷ []))

pub line_added : {S T : Type 0} (shown : S → List ℕ) (view : T → List ℕ) (old : List (List ℕ)) (items : List S) (item : S) (texts : List T) (i : ℕ) (text : T) →
    i < length texts → text ≡ get_or texts i text → shown item ≡ view text → map shown items ≡ old ++ map view (take i texts) →
    map shown (items ++ item ∷ []) ≡ old ++ map view (take (i + 1) texts)
line_added shown view old items item texts i text less is same had =
    map-append shown items (item ∷ [])
    ∙ (λ j. had j ++ same j ∷ [])
    ∙ append_assoc old (map view (take i texts)) (view text ∷ [])
    ∙ ap (λ l. old ++ l) (front_more view texts i text less is)

pub line_joined : {S : Type 0} (shown : S → List ℕ) (text : List ℕ) (lines : List S) (i : ℕ) (line : S) → i < length lines → line ≡ get_or lines i line →
    text ≡ text_of (map shown (take i lines)) → (text ++ shown line) ++ 10 ∷ [] ≡ text_of (map shown (take (i + 1) lines))
line_joined shown text lines i line less is had =
    append_assoc text (shown line) (10 ∷ [])
    ∙ ap (λ l. l ++ ended (shown line)) had
    ∙ flat_map_more ended [] (map shown (take i lines)) (shown line)
    ∙ ap text_of (front_more shown lines i line less is)

-- ---- the lines with a number

pub worker_is : (rounds : ℕ) (line : List ℕ) → line ≡ codes "  for i in 1.." ++ (decimal rounds ++ codes " do t$Add(j * i); s := t$Value(); od;") →
    codes "process Worker(t: shared Total; p: shared Pool; j: integer);" ∷ codes "  s: integer;" ∷ codes "begin" ∷ line ∷ codes "  p$Put(j);" ∷ codes "end;" ∷ []
    ≡ worker_lines rounds
worker_is rounds line is =
    λ i. codes "process Worker(t: shared Total; p: shared Pool; j: integer);" ∷ codes "  s: integer;" ∷ codes "begin" ∷ is i ∷ codes "  p$Put(j);" ∷ codes "end;" ∷ []

pub main_is : (workers : ℕ) (forking taking : List ℕ) →
    forking ≡ codes "  for j in 1.." ++ (decimal workers ++ codes " do fork Worker(T, P, j) on j; od;") →
    taking ≡ codes "  for j in 1.." ++ (decimal workers ++ codes " do s := P$Take(); od;") →
    codes "process OrcaMain();" ∷ codes "  T: Total; P: Pool; s: integer;" ∷ codes "begin" ∷ forking ∷ taking ∷ codes "  WriteLine(T$Value());" ∷ codes "end;" ∷ []
    ≡ main_lines workers
main_is workers forking taking forks takes =
    λ i. codes "process OrcaMain();" ∷ codes "  T: Total; P: Pool; s: integer;" ∷ codes "begin" ∷ forks i ∷ takes i ∷ codes "  WriteLine(T$Value());" ∷ codes "end;" ∷ []
