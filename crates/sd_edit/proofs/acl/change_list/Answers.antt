use Rattle.sd_edit.proofs.acl.change_list.Goals as goal

pub returns-in-Take : goal.returns-in-Take
returns-in-Take c = rw c.in-Take.is (c.take.ensures c.args.which)

pub returns-in-Replace : goal.returns-in-Replace
returns-in-Replace c = rw c.in-Replace.is (c.replace.ensures c.args.which)

pub returns-in-TakeEach : goal.returns-in-TakeEach
returns-in-TakeEach c = rw c.in-TakeEach.is (c.take_each.ensures c.args.which)

pub returns-in-SetEach : goal.returns-in-SetEach
returns-in-SetEach c = rw c.in-SetEach.is (c.set_all.ensures c.args.which)
