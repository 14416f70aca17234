use Rattle.std.proofs.Common.{ap, ◌∙◌, arith}
use Rattle.sd_ace.specs.Ace.{ace_size}
use Rattle.sd_edit.proofs.SizeLemmas.{size_next, too_large}
use Rattle.sd_edit.proofs.acl.acl_size.Goals as goal

pub returns-then-size-gt-MOST_ACL_SIZE : goal.returns-then-size-gt-MOST_ACL_SIZE
returns-then-size-gt-MOST_ACL_SIZE c =
    let l = c.loop-ace in
    too_large c.args.aces.now l.ace-index c.ace-item.result l.size c.from-size.result c.loop-ace-test.true
    l.invariant.size (c.from-size.ensures ∙ c.size.ensures.value ∙ ap ace_size c.ace-item.is)
    c.if-size-gt-MOST_ACL_SIZE.true

pub loop-ace-preserved : goal.loop-ace-preserved
loop-ace-preserved c =
    let l = c.loop-ace in record {
      size = size_next c.args.aces.now l.ace-index c.ace-item.result l.size c.from-size.result c.loop-ace-test.true
          l.invariant.size (c.from-size.ensures ∙ c.size.ensures.value ∙ ap ace_size c.ace-item.is);
      small = omega (arith, c.if-size-gt-MOST_ACL_SIZE.false);
    }
