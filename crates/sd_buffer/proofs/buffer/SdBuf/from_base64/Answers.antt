use Rattle.std.proofs.Common.{arith}
use Rattle.sd_buffer.proofs.laws.SpelledBase64.{one_encoding}
use Rattle.sd_buffer.proofs.buffer.SdBuf.from_base64.Goals as goal

pub returns-in_err-held-clause-encoding : goal.returns-in_err-held-clause-encoding
returns-in_err-held-clause-encoding c = one_encoding c.args.text.now (λ i. let byte = c.type_inv.text i in omega arith)

pub returns-clause-encoding : goal.returns-clause-encoding
returns-clause-encoding c = one_encoding c.args.text.now (λ i. let byte = c.type_inv.text i in omega arith)
