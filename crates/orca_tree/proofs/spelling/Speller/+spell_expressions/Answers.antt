use Rattle.orca_tree.proofs.Spelled.{put_as, put_after}
use Rattle.orca_tree.proofs.SpelledRows.{chain_spelled, from_spelled, get_spelled, call_spelled, invoke_spelled}
use Rattle.orca_tree.proofs.spelling.Speller.+spell_expressions.Goals as goal

pub expression-returns-in-From : goal.expression-returns-in-From
expression-returns-in-From t c = put_as _ _ _ _ _ (from_spelled _ _ _ c.in-From.is) c.from.ensures

pub expression-returns-in-Get : goal.expression-returns-in-Get
expression-returns-in-Get t c = put_as _ _ _ _ _ (get_spelled _ _ c.in-Get.is) c.designator.ensures

pub expression-returns-in-Call : goal.expression-returns-in-Call
expression-returns-in-Call t c = put_as _ _ _ _ _ (call_spelled _ _ _ _ c.in-Call.is c.deref-in-Call.ensures.value) c.call.ensures

pub expression-returns-in-Invoke : goal.expression-returns-in-Invoke
expression-returns-in-Invoke t c = put_as _ _ _ _ _ (invoke_spelled _ _ _ _ _ c.in-Invoke.is c.deref-in-Invoke.ensures.value) c.invoke.ensures

pub expression-returns-in_ok-expression-in-Chain : goal.expression-returns-in_ok-expression-in-Chain
expression-returns-in_ok-expression-in-Chain t c =
    put_as _ _ _ _ _ (chain_spelled _ _ _ _ _ c.in-Chain.is c.deref.ensures c.deref-in-Chain.ensures.value)
    (put_after _ _ _ _ _ _ (c.in_ok-expression-in-Chain.ensures {u = tt}) c.links.ensures)
