-- Forms that one token doesn't decide: a call as an alternative beside the other phrases that begin with a name, and statements with
-- nothing between them. With one of these in its place the grammar would not be decided.
use Rattle.orca_grammar.specs.Forms.{Form, ◌⨾◌, ◌∣◌, Many, Nested, Statement}
use Rattle.orca_grammar.specs.Rules.{name, argument_list, named_rest}

abbrev pub call_beside_names : Form
call_beside_names = name ⨾ argument_list ∣ name ⨾ named_rest

abbrev pub statements_without_semicolons : Form
statements_without_semicolons = Many (Nested Statement)
