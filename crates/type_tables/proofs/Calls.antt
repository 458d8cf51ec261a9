-- What calls pass, part by part; and the fields of a definition.
use Rattle.std.proofs.Common.{◌≡◌, ℕ, List, Option, refl, ap, ◌∙◌}
use Rattle.orca_syntax.specs.Syntax as syn
use Rattle.orca_syntax.specs.Syntax.{Definition}
use Rattle.link_rules.specs.Units.{Source}
use Rattle.type_rules.specs.declared.types.DataType.{DataType}
use Rattle.type_rules.specs.declared.signature.Formal.{Formal}
use Rattle.type_rules.specs.declared.signature.Signature.{Signature}
use Rattle.type_rules.specs.TopLevel.{TopName}
use Rattle.type_rules.specs.TypePhrases.{whole_module}
use Rattle.type_rules.specs.Expressions.{field_in}
use Rattle.type_tables.specs.Tables.{defined_field}

abbrev pub passing : List Formal → Option (Option DataType) → Signature
passing formals result = record { formals = formals; result = result }

pub same_signature : (f g : List Formal) (r s : Option (Option DataType)) → f ≡ g → r ≡ s → passing f r ≡ passing g s
same_signature f g r s e h = ap (λ (v : List Formal). passing v r) e ∙ ap (passing g) h

pub defined_fields : (us : List Source) (t : TopName) (f : List ℕ) (of : Definition) → defined_field (whole_module us t) f of ≡ field_in us t f of
defined_fields us t f (syn.Record at fields) = refl
defined_fields us t f (syn.Enumeration at names) = refl
defined_fields us t f (syn.Alias k) = refl
