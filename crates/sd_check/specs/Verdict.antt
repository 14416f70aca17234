-- The verdict of a check (MS-DTYP 2.5.3.2): the rights that are granted, or those that are missing.
use Rattle.std.specs.Prelude.{ℕ, zero, suc, ◌+◌, ◌*◌, ◌^◌, ◌==◌, Bool, not, ◌&&◌, ◌||◌, if◌then◌else◌}
use Rattle.sd_rights.specs.Mapping.{carries}
use Rattle.sd_token.specs.Token.{Holder}
use Rattle.sd_view.specs.Descriptor.{Descriptor}
use Rattle.sd_check.specs.Ask.{Asked}
use Rattle.sd_check.specs.Granted.{granted}
use Rattle.sd_check.specs.declared.verdict.Verdict.{Verdict}
use Rattle.sd_check.specs.declared.verdict.Verdict.TheVariants.{Granted, Denied}

-- the rights below a place that pass a test, as a mask
unfoldable pub rights_below : ℕ → (ℕ → Bool) → ℕ
rights_below zero test = 0
rights_below (suc n) test = (if test n then 1 else 0) * 2 ^ n + rights_below n test

-- wanted, and not granted
unfoldable pub missing : Descriptor → Holder → Asked → ℕ
missing d holder ask = rights_below 25 (λ right. carries ask.wanted right && not (granted right d holder ask))

-- wanted; and with maximum each right of the mapping that is granted
unfoldable pub won : Descriptor → Holder → Asked → ℕ
won d holder ask = rights_below 25 (λ right. carries ask.wanted right
    || (ask.maximum && carries ask.mapping.all right && granted right d holder ask))

unfoldable pub verdict : Descriptor → Holder → Asked → Verdict
verdict d holder ask =
    if missing d holder ask == 0 then if won d holder ask == 0 then Denied 0 else Granted (won d holder ask)
    else Denied (missing d holder ask)
