use Rattle.std.proofs.Common.{◌≡◌, ◌+◌, ◌-◌, length, ap, arith}
use Rattle.sd_builder.proofs.Building.{end-builds, is-open, open-roomy}
use Rattle.sd_builder.proofs.builder.Builder.end_acl.Goals as goal

pub unwrap-open-requires : goal.unwrap-open-requires
unwrap-open-requires c = is-open _ _ c.requires.0 c.requires.1 c.requires.2

pub overflow_sub-size : goal.overflow_sub-size
overflow_sub-size c = let r = open-roomy _ _ c.requires.0 _ c.requires.1
    c.unwrap-open.ensures in omega (arith, r.start, ap length c.bytes.ensures.value)

pub overflow_cast-size : goal.overflow_cast-size
overflow_cast-size c = let r = open-roomy _ _ c.requires.0 _ c.requires.1
    c.unwrap-open.ensures in omega (arith, r.start, r.size, ap length c.bytes.ensures.value)

pub patch-requires : goal.patch-requires
patch-requires c = let r = open-roomy _ _ c.requires.0 _ c.requires.1
    c.unwrap-open.ensures in omega (arith, r.start, ap length c.acl_header.ensures)

pub returns : goal.returns
returns c = record {
  value =
      λ t h.
      let o = c.unwrap-open.result in
      let r = open-roomy _ _ c.requires.0 _ c.requires.1 c.unwrap-open.ensures in
      let total : o.start + (length c.bytes.result.now - o.start) ≡ length
      c.args.buf.now = omega (arith, r.start, ap length c.bytes.ensures.value) in
      rw (c.keep.ensures, c.into.ensures, c.patch.ensures)
      (end-builds c.args.self.now c.args.buf.now t o (length c.bytes.result.now - o.start) c.acl_header.result
      c.unwrap-open.ensures total c.acl_header.ensures h);
}
