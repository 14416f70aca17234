-- What reading a SID into another one leaves.
use Rattle.std.specs.Prelude.{◌≡◌, ◌≤◌, ◌+◌, ℕ, true, List, [], ◌++◌, length, Some, Result, Ok, Err, MatchResult}
use Rattle.std.specs.Option.{option_map}
use Rattle.sd_sid.specs.Sid.{SecurityId}
use Rattle.sd_sid.specs.SidText.{are_numbers, are_subs, cut_at_dashes, decimal_reads, decimals_read, is_decimal}
use Rattle.sd_sid.specs.SidText.{numbers_read, sid_front}
use Rattle.sd_sid.specs.declared.sid_text.SidFault.{SidFault}

-- the SID, where one is read, and else the fault
abbrev pub IsRead : Result SecurityId SidFault → Result (Unit {0}) SidFault → SecurityId → Type 0
IsRead read result new = MatchResult read (λ s. (result ≡ Ok tt) × (new ≡ s)) (λ fault. result ≡ Err fault)

-- The first numbers of a text were read into a SID, up to a rest that begins with a dash or with what is of no SID. The
-- rest may hold further numbers.
pub record HasBegun (text rest : List ℕ) (sid : SecurityId) : Type 0 where
  pub few : length sid.subs ≤ 1
  pub ends : (cut_at_dashes (sid_front rest)).first ≡ []
  pub form : are_numbers (cut_at_dashes (sid_front text))
      ≡ are_subs (length sid.subs) (cut_at_dashes (sid_front rest)).others
  pub numbers : numbers_read (cut_at_dashes (sid_front text))
      ≡ option_map (λ ns. record { authority = sid.authority; subs = sid.subs ++ ns })
      (decimals_read (cut_at_dashes (sid_front rest)).others)
  pub size : length (sid_front text) + length rest ≡ length (sid_front rest) + length text

-- digits at the front that write this number, and a rest
pub record NumberAt (text : List ℕ) (n : ℕ) (rest : List ℕ) : Type 0 where
  pub digits : List ℕ
  pub stands : text ≡ digits ++ rest
  pub form : is_decimal digits ≡ true
  pub reads : decimal_reads digits ≡ Some n
  pub few : length digits ≤ 10
