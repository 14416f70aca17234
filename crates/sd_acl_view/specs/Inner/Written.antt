-- What is looked at before an ACL is put as it stands.
use Rattle.std.specs.Prelude.{ℕ, zero, suc, nat_le, not, ◌||◌, ◌&&◌, Bool, true, List, drop, take}
use Rattle.sd_kinds.specs.Kinds.{is_object}
use Rattle.sd_acl_view.specs.AclReading.{kind_in}
use Rattle.sd_acl_view.specs.Bytes.{u16_at, u32_at}

-- 2.4.4.3: whether an extent has no object flags but the two that are named
abbrev pub named_flags : List ℕ → Bool
named_flags extent = not (is_object (kind_in extent)) || nat_le (u32_at 8 extent) 3

-- the same of as many ACEs as are counted
unfoldable pub all_named_flags : ℕ → List ℕ → Bool
all_named_flags zero left = true
all_named_flags (suc n) left = named_flags (take (u16_at 2 left) left) && all_named_flags n (drop (u16_at 2 left) left)
