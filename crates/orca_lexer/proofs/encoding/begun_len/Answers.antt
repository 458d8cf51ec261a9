use Rattle.std.proofs.Common.{sym, ◌∙◌}
use Rattle.orca_lexer.proofs.Bytes.{end_fault, inner_fault, other_fault}
use Rattle.orca_lexer.proofs.encoding.begun_len.Goals as goal

pub returns-in-None : goal.returns-in-None
returns-in-None c = end_fault c.args.rest.now c.args.fault c.requires.some c.requires.none c.requires.fault c.in-None.is

pub returns-in-Some : goal.returns-in-Some
returns-in-Some c = inner_fault c.args.rest.now c.args.fault c.in-Some.len c.requires.some c.requires.none c.requires.fault c.in-Some.is (sym c.is_lead.ensures ∙ c.if-is_lead.true)

pub returns-in-Some-2 : goal.returns-in-Some-2
returns-in-Some-2 c = other_fault c.args.rest.now c.requires.some c.requires.none (sym c.is_lead.ensures ∙ c.if-is_lead.false)
