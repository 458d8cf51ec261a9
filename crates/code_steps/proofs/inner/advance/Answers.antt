use Rattle.std.proofs.lemmas.Result.{IfOk-weaker}
use Rattle.code_steps.proofs.inner.advance.Goals as goal

pub returns-in-Get : goal.returns-in-Get
returns-in-Get c = λ room. rw (c.in-Get.is, ← c.deref-in-Get.ensures.value) (IfOk-weaker c.get.result _ _ (λ a h code home same. h code home) c.get.ensures)

pub returns-in-Put : goal.returns-in-Put
returns-in-Put c = λ room. rw (c.in-Put.is, ← c.deref-in-Put.ensures.value) (IfOk-weaker c.assign.result _ _ (λ a h code home same. h code home) c.assign.ensures)

pub returns-in-Insert : goal.returns-in-Insert
returns-in-Insert c = λ room. rw (c.in-Insert.is, ← c.deref-in-Insert.ensures.value) (IfOk-weaker c.insert.result _ _ (λ a h code home same. h code home) c.insert.ensures)

pub returns-in-Delete : goal.returns-in-Delete
returns-in-Delete c = λ room. rw (c.in-Delete.is, ← c.deref-in-Delete.ensures.value) (IfOk-weaker c.delete.result _ _ (λ a h code home same. h code home) c.delete.ensures)

pub returns-in-Least : goal.returns-in-Least
returns-in-Least c = λ room. rw (c.in-Least.is, ← c.deref-in-Least.ensures.value) (IfOk-weaker c.take_least.result _ _ (λ a h code home same. h code home) c.take_least.ensures)

pub returns-in-Count : goal.returns-in-Count
returns-in-Count c = λ room. rw c.in-Count.is (IfOk-weaker c.count.result _ _ (λ a h code home same. h code home) c.count.ensures)

pub returns-in-Upto : goal.returns-in-Upto
returns-in-Upto c = λ room. rw c.in-Upto.is (IfOk-weaker c.count_up.result _ _ (λ a h code home same. h code home) c.count_up.ensures)

pub returns-in-Invoke : goal.returns-in-Invoke
returns-in-Invoke c = λ room. rw c.in-Invoke.is (IfOk-weaker c.invoke.result _ _ (λ a h code home same. h code home) c.invoke.ensures)

pub returns-in-AddNode : goal.returns-in-AddNode
returns-in-AddNode c = λ room. rw (c.in-AddNode.is, ← c.deref-in-AddNode.ensures.value) (IfOk-weaker c.add.result _ _ (λ a h code home same. h code home) c.add.ensures)

pub returns-in-DeleteNode : goal.returns-in-DeleteNode
returns-in-DeleteNode c = λ room. rw (c.in-DeleteNode.is, ← c.deref-in-DeleteNode.ensures.value) (IfOk-weaker c.delete-in-DeleteNode.result _ _ (λ a h code home same. h code home) c.delete-in-DeleteNode.ensures)

pub returns-in-Push : goal.returns-in-Push
returns-in-Push c = λ room. rw c.in-Push.is (IfOk-weaker c.push.result _ _ (λ a h code home same. h c.args.run.now.frame code home) c.push.ensures)

pub returns-in-Text : goal.returns-in-Text
returns-in-Text c = λ room. rw c.in-Text.is (IfOk-weaker c.push_text.result _ _ (λ a h code home same. h c.args.run.now.frame code home) c.push_text.ensures)

pub returns-in-Part : goal.returns-in-Part
returns-in-Part c = λ room. rw (c.in-Part.is, ← c.deref.ensures.value) (IfOk-weaker c.push_part.result _ _ (λ a h code home same. h c.args.run.now.frame code home) c.push_part.ensures)

pub returns-in-Before : goal.returns-in-Before
returns-in-Before c = λ room. rw c.in-Before.is (IfOk-weaker c.apply_before.result _ _ (λ a h code home same. h c.args.run.now.frame code home) c.apply_before.ensures)

pub returns-in-Apply : goal.returns-in-Apply
returns-in-Apply c = λ room. rw c.in-Apply.is (IfOk-weaker c.apply.result _ _ (λ a h code home same. h c.args.run.now.frame code home) c.apply.ensures)

pub returns-in-Line : goal.returns-in-Line
returns-in-Line c = λ room. rw (c.in-Line.is, ← c.deref-in-Line.ensures.value) (IfOk-weaker c.join_line.result _ _ (λ a h code home same. h c.args.run.now.frame code home) c.join_line.ensures)

pub returns-in-Fork : goal.returns-in-Fork
returns-in-Fork c = λ room. rw c.in-Fork.is (IfOk-weaker c.fork.result _ _ (λ a h code home same. h c.args.run.now.frame code home) c.fork.ensures)

pub returns-in-ForkOn : goal.returns-in-ForkOn
returns-in-ForkOn c = λ room. rw c.in-ForkOn.is (IfOk-weaker c.fork_on.result _ _ (λ a h code home same. h c.args.run.now.frame code home) c.fork_on.ensures)

pub returns-in-And : goal.returns-in-And
returns-in-And c = λ room. rw c.in-And.is (IfOk-weaker c.decide.result _ _ (λ a h code home same. h c.args.run.now.frame home) c.decide.ensures)

pub returns-in-Or : goal.returns-in-Or
returns-in-Or c = λ room. rw c.in-Or.is (IfOk-weaker c.decide-in-Or.result _ _ (λ a h code home same. h c.args.run.now.frame home) c.decide-in-Or.ensures)

pub returns-in-Pop : goal.returns-in-Pop
returns-in-Pop c = λ room. rw c.in-Pop.is (λ code home same. c.pop.ensures c.args.run.now.frame code home)

pub returns-in-Unless : goal.returns-in-Unless
returns-in-Unless c = λ room. rw c.in-Unless.is (λ code home same. c.unless.ensures c.args.run.now.frame code home)

pub returns-in-Guard : goal.returns-in-Guard
returns-in-Guard c = λ room. rw c.in-Guard.is (λ code home same. c.guard.ensures c.args.run.now.frame code home)

pub returns-in-Make : goal.returns-in-Make
returns-in-Make c = λ room.
    let small = rw c.in-Make.is at room in
    rw c.in-Make.is (IfOk-weaker c.make.result _ _ (λ a h code home same. h c.args.stack.now code home same) (c.make.ensures small))
