-- Sources and their units, one further.
use Rattle.std.proofs.Common.{◌≡◌, ℕ, suc, ◌+◌, ◌<◌, List, [], ◌∷◌, ◌++◌, length, get_or, take, drop, drop-cons, sym, ap, ◌∙◌, subst, arith, take-append-drop, map}
use Rattle.std.proofs.Math.Seq.{take-suc}
use Rattle.std.proofs.lemmas.List.{map-append}
use Rattle.orca_io.specs.Files.{File}
use Rattle.link_rules.specs.declared.named_unit.NamedUnit.{NamedUnit}
use Rattle.link_rules.specs.Units.{Source, source}
use Rattle.orca_front.specs.declared.source.SourceFile.{SourceFile}
use Rattle.orca_front.specs.Sources.{AreUnits, IsUnit, Reaches, file_of}
use Rattle.orca_front.specs.Sources as sources

are_more : (fs : List File) (us : List Source) (f : File) (u : Source) → AreUnits fs us → IsUnit f u → AreUnits (fs ++ f ∷ []) (us ++ u ∷ [])
are_more _ _ f u sources.none is = sources.one f [] u [] is sources.none
are_more _ _ f u (sources.one g gs v vs h more) is = sources.one g (gs ++ f ∷ []) v (vs ++ u ∷ []) h (are_more gs vs f u more is)

one_more : (xs : List SourceFile) (i : ℕ) (x : SourceFile) → i < length xs → x ≡ get_or xs i x → take (i + 1) xs ≡ take i xs ++ x ∷ []
one_more xs i x lt is =
    let next : i + 1 ≡ suc i = omega arith in
    ap (λ (k : ℕ). take k xs) next ∙ take-suc xs i x lt ∙ ap (λ (y : SourceFile). take i xs ++ y ∷ []) (sym is)

-- the next source is a unit too
pub taken_more : (xs : List SourceFile) (i : ℕ) (x : SourceFile) (us new : List NamedUnit) (u : NamedUnit) → i < length xs → x ≡ get_or xs i x → new ≡ us ++ u ∷ [] → AreUnits (map file_of (take i xs)) (map source us) → IsUnit (file_of x) (source u) →
    AreUnits (map file_of (take (i + 1) xs)) (map source new)
taken_more xs i x us new u lt is pushed are unit =
    let files = ap (map file_of) (one_more xs i x lt is) ∙ map-append file_of (take i xs) (x ∷ []) in
    let units = ap (map source) pushed ∙ map-append source us (u ∷ []) in
    subst (λ (v : List Source). AreUnits (map file_of (take (i + 1) xs)) v) (sym units)
    (subst (λ (f : List File). AreUnits f (map source us ++ source u ∷ [])) (sym files) (are_more (map file_of (take i xs)) (map source us) (file_of x) (source u) are unit))

-- all before the next source are units
pub reaches_next : (xs : List SourceFile) (i : ℕ) (x : SourceFile) (us : List NamedUnit) → i < length xs → x ≡ get_or xs i x → AreUnits (map file_of (take i xs)) (map source us) → Reaches (map file_of xs) (file_of x)
reaches_next xs i x us lt is are = record {
  before = map file_of (take i xs);
  after = map file_of (drop (suc i) xs);
  units = map source us;
  splits =
      ap (map file_of) (sym (take-append-drop i xs) ∙ ap (λ (r : List SourceFile). take i xs ++ r) (drop-cons xs i x lt ∙ ap (λ (y : SourceFile). y ∷ drop (suc i) xs) (sym is)))
      ∙ map-append file_of (take i xs) (x ∷ drop (suc i) xs);
  are = are;
}
