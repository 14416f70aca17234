-- The SIDs of accounts of a domain: S-1-5-21 and four numbers.
use Rattle.std.specs.Prelude.{◌≡◌, ◌≤◌, ℕ, true, List, [], ◌∷◌, ◌++◌, length, Option, Ok}
use Rattle.std.specs.List.{list_all}
use Rattle.sd_sid.specs.Sid.{SecurityId}
use Rattle.sd_sid.specs.SidText.{is_sid_byte, sid_reads}
use Rattle.sd_sid.specs.declared.account.Account.{Account}

abbrev pub account_sid : Account → SecurityId
account_sid a = record { authority = 5; subs = 21 ∷ a.first ∷ a.second ∷ a.third ∷ a.last ∷ [] }

-- a text that reads as the account's SID under any domain, and a rest
pub record AccountAt (text : List ℕ) (a : Account) (rest : List ℕ) : Type 0 where
  pub field : List ℕ
  pub stands : text ≡ field ++ rest
  pub reads : (domain : Option SecurityId) → sid_reads field domain ≡ Ok (account_sid a)
  pub plain : list_all is_sid_byte field ≡ true
  pub short : length field ≤ 52
