-- All forms of the grammar and the sets of its nested phrases, opened by one name: `unfolding every_form`.
use Rattle.orca_grammar.specs.Forms.{Form}
use Rattle.orca_grammar.specs.Rules.{names, bound, element_rest, array_rest, plain_type, type_rule, typed_name, result, variable_line, variables, arguments, argument_list, invocation_rest, selector, selectors, designator, in_parentheses, designator_in_parentheses, named_rest, factor_rule, operator, links, chained, term, sum, relation, conjunction, disjunction, operand, statement_line, statements, when, elsif_arm, elsif_arms, when_arms, otherwise, else_arm, arms, if_rest, while_rest, for_rest, repeat_rest, return_rest, on_member, fork_rest, element_and_designator, assignment_rest, named_statement_rest, statement_rule, typed_names, head, mode, parameter, parameters, block, guard, guards, operation_body, operation, constant_rest, field, fields, record_rest, enumeration_rest, definition, type_rest, head_line, heads, operations, specification_rest, opening, implementation_rest, object_rest, function_rest, process_rest, declaration, module_line, import_line, imports, declarations, unit}
use Rattle.orca_grammar.specs.Sets.{factor_firsts, factor_nexts, expression_nexts, statement_firsts, statement_nexts, type_firsts}

unfoldable pub every_form : Form
unfolding names bound element_rest array_rest plain_type type_rule typed_name result variable_line variables arguments argument_list invocation_rest selector selectors designator in_parentheses designator_in_parentheses named_rest factor_rule operator links chained term sum relation conjunction disjunction operand statement_line statements when elsif_arm elsif_arms when_arms otherwise else_arm arms if_rest while_rest for_rest repeat_rest return_rest on_member fork_rest element_and_designator assignment_rest named_statement_rest statement_rule typed_names head mode parameter parameters block guard guards operation_body operation constant_rest field fields record_rest enumeration_rest definition type_rest head_line heads operations specification_rest opening implementation_rest object_rest function_rest process_rest declaration module_line import_line imports declarations unit factor_firsts factor_nexts expression_nexts statement_firsts statement_nexts type_firsts
every_form = unit
