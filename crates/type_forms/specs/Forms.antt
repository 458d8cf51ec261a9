-- What type phrases are read with.
use Rattle.std.specs.Prelude.{◌≡◌, ℕ, List}
use Rattle.link_rules.specs.Units.{Source}
use Rattle.type_forms.specs.declared.phrases.Forms.{Forms}
use Rattle.type_forms.specs.Indexed.{Indexes}
use Rattle.type_forms.specs.Chains.{AreChains}
use Rattle.type_forms.specs.Measures.{declared_in}
use Rattle.type_rules.specs.TypePhrases.{declared_type}

-- the names and the constants are those of these sources
pub record AreForms (us : List Source) (f : Forms) : Type 0 where
  pub names : Indexes f.index.now us
  pub constants : AreChains us f.chains.now

-- and the declared types are those of these sources
pub record AreTyped (us : List Source) (f : Forms) : Type 0 where
  pub forms : AreForms us f
  pub types : (i : ℕ) → declared_in f.types.now i ≡ declared_type us i
