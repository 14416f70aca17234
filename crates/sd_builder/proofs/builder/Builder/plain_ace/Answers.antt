use Rattle.std.proofs.Common.{arith}
use Rattle.sd_ace.specs.AceHead.{plain_ace}
use Rattle.sd_builder.specs.Trustee.{trustee_sid}
use Rattle.sd_builder.proofs.builder.Builder.plain_ace.Goals as goal

pub append_ace-requires-clause-room : goal.append_ace-requires-clause-room
append_ace-requires-clause-room c =
    let size = c.plain_size.ensures.value in
    let spare = c.in_ok-count_ace.ensures.spare (plain_ace c.args.head (trustee_sid c.args.trustee)) size in
    omega (arith, spare, size)
