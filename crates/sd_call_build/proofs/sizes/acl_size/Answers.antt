use Rattle.std.proofs.Common.{ap, ◌∙◌, arith}
use Rattle.sd_ace.specs.Ace.{ace_size}
use Rattle.sd_call_build.proofs.SizeLemmas.{size_next, too_large}
use Rattle.sd_call_build.proofs.sizes.acl_size.Goals as goal

pub returns-then-size-gt-MOST_ACL_SIZE : goal.returns-then-size-gt-MOST_ACL_SIZE
returns-then-size-gt-MOST_ACL_SIZE c =
    let l = c.loop-new in
    too_large c.args.aces.now l.new-index _ l.size c.from-size.result c.loop-new-test.true l.invariant.size
    (c.from-size.ensures ∙ c.size.ensures.value ∙ ap ace_size c.shown_ace-ace.ensures) c.if-size-gt-MOST_ACL_SIZE.true

pub loop-new-preserved : goal.loop-new-preserved
loop-new-preserved c =
    let l = c.loop-new in record {
      size = size_next c.args.aces.now l.new-index _ l.size c.from-size.result c.loop-new-test.true l.invariant.size
          (c.from-size.ensures ∙ c.size.ensures.value ∙ ap ace_size c.shown_ace-ace.ensures);
      small = omega (arith, c.if-size-gt-MOST_ACL_SIZE.false);
    }
