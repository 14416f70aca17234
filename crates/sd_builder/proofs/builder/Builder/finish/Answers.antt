use Rattle.std.proofs.Common.{◌≡◌, ◌+◌, length, ap, arith}
use Rattle.std.specs.Prelude.{is_some}
use Rattle.sd_parts.specs.Control.{control_of}
use Rattle.sd_parts.specs.Header.{header_bytes}
use Rattle.sd_builder.proofs.Finished.{finish-exact, finish-form, finish-room, finish-shows, header_for}
use Rattle.sd_builder.proofs.Finished.{length-header_for}
use Rattle.sd_builder.proofs.builder.Builder.finish.Goals as goal

pub patch-requires : goal.patch-requires
unfolding header_bytes
patch-requires c = omega (
  arith,
  ap length c.header.ensures,
  finish-room _ _ c.requires.0 c.requires.1 c.requires.2,
)

pub returns : goal.returns
returns c =
    let b = c.args.self.now in
    let bytes = c.args.buf.now in
    let flags = c.args.flags in
    let rm = c.args.rm in
    let word = control_of flags (is_some b.offsets.sacl) (is_some b.offsets.dacl) in
    let head : c.header.result ≡ header_for rm word b = cc in
    let long : 0 + length c.header.result ≡ 20 = omega (arith, ap length head, length-header_for rm word b) in
    rw (c.patch.ensures, long, head) (record {
      exact = λ t h. finish-exact b bytes c.requires.0 t flags rm c.requires.1 c.requires.2 h;
      shows = λ t h. finish-shows b bytes c.requires.0 t flags rm c.requires.1 c.requires.2 (omega arith) h;
      form = finish-form b bytes c.requires.0 flags rm c.requires.1 c.requires.2 (omega arith);
    })
