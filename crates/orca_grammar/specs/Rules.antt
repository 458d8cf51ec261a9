-- The grammar of a text (docs/LANGUAGE.md, Grammar), production by production. A place is kept of each name, and of the token
-- that begins a statement, factor, type, bound, definition, selector, guard, head or declaration. What stands in itself is named where
-- it stands: statements, expressions, factors and types.
use Rattle.std.specs.Prelude.{true, false}
use Rattle.orca_lexer.specs.declared.token.Keyword.{Keyword}
use Rattle.orca_lexer.specs.declared.token.Keyword.TheVariants.{KeyAnd, KeyArray, KeyBag, KeyBegin, KeyBoolean, KeyChar, KeyConst, KeyDelete, KeyDo, KeyElse, KeyElsif, KeyEnd, KeyEnum, KeyFalse, KeyFi, KeyFor, KeyFork, KeyFrom, KeyFunction, KeyGuard, KeyIf, KeyImplementation, KeyImport, KeyIn, KeyInsert, KeyInteger, KeyModule, KeyNot, KeyObject, KeyOd, KeyOf, KeyOn, KeyOperation, KeyOr, KeyOrd, KeyOut, KeyProcess, KeyRecord, KeyRepeat, KeyReturn, KeySet, KeyShared, KeySize, KeySpecification, KeyString, KeyThen, KeyTrue, KeyType, KeyUntil, KeyWhile, KeyWriteLine}
use Rattle.orca_lexer.specs.declared.token.Symbol.{Symbol}
use Rattle.orca_lexer.specs.declared.token.Symbol.TheVariants.{Becomes, Range, Differs, AtMost, AtLeast, Semicolon, Colon, Comma, Period, Equals, Less, Greater, Plus, Minus, Times, Over, Percent, Joins, Opens, Closes, OpensIndex, ClosesIndex, Dollar}
use Rattle.orca_grammar.specs.Forms.{KeyOf as OfKey, SignOf, AnyName, AnyNumber, AnyChar, AnyText, Nest, Statement, Expression, Factor, TypePhrase, Links, Disjunction, Conjunction, Relation, Sum, Term, Form, Nothing, Word, ◌⨾◌, ◌∣◌, Many, Chained, Nested}

-- a keyword, a symbol; with its place; a name with its place
abbrev pub key : Keyword → Form
key w = Word false (OfKey w)

abbrev pub key_at : Keyword → Form
key_at w = Word true (OfKey w)

abbrev pub sign : Symbol → Form
sign s = Word false (SignOf s)

abbrev pub sign_at : Symbol → Form
sign_at s = Word true (SignOf s)

abbrev pub name : Form
name = Word true AnyName

-- [ f ], and f { separator f }
abbrev pub optional : Form → Form
optional f = f ∣ Nothing

abbrev pub listed : Form → Form → Form
listed separator f = f ⨾ Many (separator ⨾ f)

-- ---- types

-- name { "," name }
unfoldable pub names : Form
names = listed (sign Comma) name

-- number | "-" number | name
unfoldable pub bound : Form
bound = Word true AnyNumber ∣ sign_at Minus ⨾ Word false AnyNumber ∣ name

-- "of" Type, and "[" Bound ".." Bound "]" "of" Type
unfoldable pub element_rest : Form
element_rest = key KeyOf ⨾ Nested TypePhrase

unfoldable pub array_rest : Form
array_rest = sign OpensIndex ⨾ bound ⨾ sign Range ⨾ bound ⨾ sign ClosesIndex ⨾ element_rest

-- "integer" | "boolean" | "char" | "string" | name, and "array" .. | "set" .. | "bag" ..
unfoldable pub plain_type : Form
plain_type = key_at KeyInteger ∣ key_at KeyBoolean ∣ key_at KeyChar ∣ key_at KeyString ∣ name

unfoldable pub type_rule : Form
type_rule = plain_type ∣ key_at KeyArray ⨾ array_rest ∣ key_at KeySet ⨾ element_rest ∣ key_at KeyBag ⨾ element_rest

-- name ":" Type
unfoldable pub typed_name : Form
typed_name = name ⨾ sign Colon ⨾ Nested TypePhrase

-- [ ":" Type ]
unfoldable pub result : Form
result = optional (sign Colon ⨾ Nested TypePhrase)

-- { name { "," name } ":" Type ";" }
unfoldable pub variable_line : Form
variable_line = names ⨾ sign Colon ⨾ Nested TypePhrase ⨾ sign Semicolon

unfoldable pub variables : Form
variables = Many variable_line

-- ---- expressions

-- [ Expr { "," Expr } ]
unfoldable pub arguments : Form
arguments = optional (listed (sign Comma) (Nested Expression))

-- "(" [ Args ] ")"
unfoldable pub argument_list : Form
argument_list = sign Opens ⨾ arguments ⨾ sign Closes

-- "$" name "(" [ Args ] ")", behind the "$"
unfoldable pub invocation_rest : Form
invocation_rest = name ⨾ argument_list

-- { "." name | "[" Expr "]" }
unfoldable pub selector : Form
selector = sign_at Period ⨾ name ∣ sign_at OpensIndex ⨾ Nested Expression ⨾ sign ClosesIndex

unfoldable pub selectors : Form
selectors = Many selector

-- name { Sel }
unfoldable pub designator : Form
designator = name ⨾ selectors

-- "(" Expr ")", and "(" name { Sel } ")"
unfoldable pub in_parentheses : Form
in_parentheses = sign Opens ⨾ Nested Expression ⨾ sign Closes

unfoldable pub designator_in_parentheses : Form
designator_in_parentheses = sign Opens ⨾ designator ⨾ sign Closes

-- behind a name: "(" [ Args ] ")" | "$" name "(" [ Args ] ")" | { Sel }
unfoldable pub named_rest : Form
named_rest = argument_list ∣ sign Dollar ⨾ invocation_rest ∣ selectors

-- the alternatives of a factor
unfoldable pub factor_rule : Form
factor_rule =
    Word true AnyNumber ∣ Word true AnyChar ∣ Word true AnyText ∣ key_at KeyTrue ∣ key_at KeyFalse
    ∣ key_at KeyNot ⨾ Nested Factor ∣ sign_at Minus ⨾ Nested Factor
    ∣ sign_at Opens ⨾ Nested Expression ⨾ sign Closes
    ∣ key_at KeyFrom ⨾ designator_in_parentheses
    ∣ key_at KeySize ⨾ in_parentheses ∣ key_at KeyOrd ⨾ in_parentheses
    ∣ name ⨾ named_rest

-- the operators of each level, those that bind tightest first
unfoldable pub operator : Links → Form
operator Term = sign Times ∣ sign Over ∣ sign Percent
operator Sum = sign Plus ∣ sign Minus ∣ sign Joins
operator Relation = sign Equals ∣ sign Differs ∣ sign Less ∣ sign AtMost ∣ sign Greater ∣ sign AtLeast ∣ key KeyIn
operator Conjunction = key KeyAnd
operator Disjunction = key KeyOr

-- { operator operand }, and at least one; of a relation there is one alone
unfoldable pub links : Links → Form → Form
links Relation operand = operator Relation ⨾ operand
links level operand = (operator level ⨾ operand) ⨾ Many (operator level ⨾ operand)

-- [ .. ], in brackets
unfoldable pub chained : Links → Form → Form
chained level operand = optional (Chained level (links level operand))

-- an operand, and links behind it
abbrev pub chain : Links → Form → Form
chain level operand = operand ⨾ chained level operand

-- Factor { "*" Factor }, Term { "+" Term }, Sum [ relation Sum ], Rel { "and" Rel }, Conj { "or" Conj }
unfoldable pub term : Form
term = chain Term (Nested Factor)

unfoldable pub sum : Form
sum = chain Sum term

unfoldable pub relation : Form
relation = chain Relation sum

unfoldable pub conjunction : Form
conjunction = chain Conjunction relation

unfoldable pub disjunction : Form
disjunction = chain Disjunction conjunction

-- what stands between the operators of a level
unfoldable pub operand : Links → Form
operand Term = Nested Factor
operand Sum = term
operand Relation = sum
operand Conjunction = relation
operand Disjunction = conjunction

-- ---- statements

-- { Stmt ";" }
unfoldable pub statement_line : Form
statement_line = Nested Statement ⨾ sign Semicolon

unfoldable pub statements : Form
statements = Many statement_line

-- Expr "then" Stmts { "elsif" Expr "then" Stmts } [ "else" Stmts ] "fi"
unfoldable pub when : Form
when = Nested Expression ⨾ key KeyThen ⨾ statements

unfoldable pub elsif_arm : Form
elsif_arm = key KeyElsif ⨾ when

unfoldable pub elsif_arms : Form
elsif_arms = Many elsif_arm

unfoldable pub when_arms : Form
when_arms = when ⨾ elsif_arms

unfoldable pub otherwise : Form
otherwise = key KeyElse ⨾ statements

unfoldable pub else_arm : Form
else_arm = optional otherwise

unfoldable pub arms : Form
arms = when_arms ⨾ else_arm

unfoldable pub if_rest : Form
if_rest = arms ⨾ key KeyFi

unfoldable pub while_rest : Form
while_rest = Nested Expression ⨾ key KeyDo ⨾ statements ⨾ key KeyOd

unfoldable pub for_rest : Form
for_rest = name ⨾ key KeyIn ⨾ Nested Expression ⨾ sign Range ⨾ Nested Expression ⨾ key KeyDo ⨾ statements ⨾ key KeyOd

unfoldable pub repeat_rest : Form
repeat_rest = statements ⨾ key KeyUntil ⨾ Nested Expression

unfoldable pub return_rest : Form
return_rest = optional (Nested Expression)

unfoldable pub on_member : Form
on_member = optional (key KeyOn ⨾ Nested Expression)

unfoldable pub fork_rest : Form
fork_rest = name ⨾ argument_list ⨾ on_member

-- "(" Expr "," Desig ")"
unfoldable pub element_and_designator : Form
element_and_designator = sign Opens ⨾ Nested Expression ⨾ sign Comma ⨾ designator ⨾ sign Closes

-- behind a name: "(" [ Args ] ")" | "$" name "(" [ Args ] ")" | { Sel } ":=" Expr
unfoldable pub assignment_rest : Form
assignment_rest = selectors ⨾ sign Becomes ⨾ Nested Expression

unfoldable pub named_statement_rest : Form
named_statement_rest = argument_list ∣ sign Dollar ⨾ invocation_rest ∣ assignment_rest

-- the alternatives of a statement
unfoldable pub statement_rule : Form
statement_rule =
    key_at KeyReturn ⨾ return_rest
    ∣ key_at KeyIf ⨾ if_rest ∣ key_at KeyWhile ⨾ while_rest ∣ key_at KeyFor ⨾ for_rest ∣ key_at KeyRepeat ⨾ repeat_rest
    ∣ key_at KeyFork ⨾ fork_rest ∣ key_at KeyWriteLine ⨾ argument_list
    ∣ key_at KeyInsert ⨾ element_and_designator ∣ key_at KeyDelete ⨾ element_and_designator
    ∣ name ⨾ named_statement_rest

-- ---- declarations

-- "operation" name "(" [ name ":" Type { ";" name ":" Type } ] ")" [ ":" Type ]
unfoldable pub typed_names : Form
typed_names = optional (listed (sign Semicolon) typed_name)

unfoldable pub head : Form
head = key_at KeyOperation ⨾ name ⨾ sign Opens ⨾ typed_names ⨾ sign Closes ⨾ result

-- name ":" [ "shared" | "out" ] Type, and [ Param { ";" Param } ]
unfoldable pub mode : Form
mode = key KeyShared ∣ key KeyOut ∣ Nothing

unfoldable pub parameter : Form
parameter = name ⨾ sign Colon ⨾ mode ⨾ Nested TypePhrase

unfoldable pub parameters : Form
parameters = optional (listed (sign Semicolon) parameter)

-- { Vars } "begin" Stmts "end" ";"
unfoldable pub block : Form
block = variables ⨾ key KeyBegin ⨾ statements ⨾ key KeyEnd ⨾ sign Semicolon

-- "guard" Expr "do" Stmts "od" ";"
unfoldable pub guard : Form
guard = key_at KeyGuard ⨾ Nested Expression ⨾ key KeyDo ⨾ statements ⨾ key KeyOd ⨾ sign Semicolon

-- Guard { Guard } | Stmts
unfoldable pub guards : Form
guards = guard ⨾ Many guard

unfoldable pub operation_body : Form
operation_body = guards ∣ statements

-- Head ";" { Vars } "begin" ( Guard { Guard } | Stmts ) "end" ";"
unfoldable pub operation : Form
operation = head ⨾ sign Semicolon ⨾ variables ⨾ key KeyBegin ⨾ operation_body ⨾ key KeyEnd ⨾ sign Semicolon

-- name "=" Bound ";"
unfoldable pub constant_rest : Form
constant_rest = name ⨾ sign Equals ⨾ bound ⨾ sign Semicolon

-- name ":" Type ";"
unfoldable pub field : Form
field = typed_name ⨾ sign Semicolon

-- "record" Field { Field } "end" | "enum" "(" name { "," name } ")" | Type
unfoldable pub fields : Form
fields = field ⨾ Many field

unfoldable pub record_rest : Form
record_rest = fields ⨾ key KeyEnd

unfoldable pub enumeration_rest : Form
enumeration_rest = sign Opens ⨾ names ⨾ sign Closes

unfoldable pub definition : Form
definition = key_at KeyRecord ⨾ record_rest ∣ key_at KeyEnum ⨾ enumeration_rest ∣ Nested TypePhrase

-- name "=" ( .. ) ";"
unfoldable pub type_rest : Form
type_rest = name ⨾ sign Equals ⨾ definition ⨾ sign Semicolon

-- name ";" { Head ";" }, and name ";" { Vars } { Op } [ "begin" Stmts ]
unfoldable pub head_line : Form
head_line = head ⨾ sign Semicolon

unfoldable pub heads : Form
heads = Many head_line

unfoldable pub operations : Form
operations = Many operation

unfoldable pub specification_rest : Form
specification_rest = name ⨾ sign Semicolon ⨾ heads

unfoldable pub opening : Form
opening = optional (key KeyBegin ⨾ statements)

unfoldable pub implementation_rest : Form
implementation_rest = name ⨾ sign Semicolon ⨾ variables ⨾ operations ⨾ opening

-- ( "specification" .. | "implementation" .. ) "end" ";"
unfoldable pub object_rest : Form
object_rest = (key KeySpecification ⨾ specification_rest ∣ key KeyImplementation ⨾ implementation_rest) ⨾ key KeyEnd ⨾ sign Semicolon

-- name "(" [ Params ] ")" [ ":" Type ] ";" Block, and the same without a result
unfoldable pub function_rest : Form
function_rest = name ⨾ sign Opens ⨾ parameters ⨾ sign Closes ⨾ result ⨾ sign Semicolon ⨾ block

unfoldable pub process_rest : Form
process_rest = name ⨾ sign Opens ⨾ parameters ⨾ sign Closes ⨾ sign Semicolon ⨾ block

unfoldable pub declaration : Form
declaration =
    key_at KeyConst ⨾ constant_rest ∣ key_at KeyType ⨾ type_rest ∣ key_at KeyObject ⨾ object_rest
    ∣ key_at KeyFunction ⨾ function_rest ∣ key_at KeyProcess ⨾ process_rest

-- ---- units

-- [ "module" name ";" ] { "import" name ";" } { Decl }
unfoldable pub module_line : Form
module_line = optional (key KeyModule ⨾ name ⨾ sign Semicolon)

unfoldable pub import_line : Form
import_line = key KeyImport ⨾ name ⨾ sign Semicolon

unfoldable pub imports : Form
imports = Many import_line

unfoldable pub declarations : Form
declarations = Many declaration

unfoldable pub unit : Form
unit = module_line ⨾ imports ⨾ declarations

-- the rule of each nested phrase
abbrev pub rule : Nest → Form
rule Statement = statement_rule
rule Expression = disjunction
rule Factor = factor_rule
rule TypePhrase = type_rule
