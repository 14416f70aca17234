-- The domain of an account that was read, kept for those that follow.
use Rattle.std.specs.Prelude.{ℕ, ◌≤◌, ◌<◌, Bool, ◌==◌, ◌&&◌, nat_lt, if◌then◌else◌, List, [], ◌++◌, length}
use Rattle.sd_sid.specs.Account.{AccountAt}
use Rattle.sd_sid.specs.Inner.Read.{NumberAt}
use Rattle.sd_sid.specs.declared.account.Account.{Account}

-- the text before the last number of an account of the domain that is kept, such an account, and the account that was
-- noted last
pub record DomainOf : Type 0 where
  pub text : List ℕ
  pub account : Account
  pub latest : Account

abbrev pub no_account : Account
no_account = record { first = 0; second = 0; third = 0; last = 0 }

abbrev pub no_domain : DomainOf
no_domain = record { text = []; account = no_account; latest = no_account }

abbrev pub same_domain : Account → Account → Bool
same_domain a b = a.first == b.first && a.second == b.second && a.third == b.third

-- after an account whose domain has this text, or none where it is kept: a domain of a text of 32 bytes or more is kept
-- where the account before was of it too
abbrev pub noted : DomainOf → List ℕ → Account → DomainOf
noted d text a =
    if nat_lt (length text) 32 then d
    else (if same_domain a d.latest then record { text = text; account = a; latest = a } else record d { latest = a })

-- with any number behind it, the text reads as the account with that number in the place of its last one
pub record IsDomainText (text : List ℕ) (a : Account) : Type 0 where
  pub short : length text ≤ 42
  pub reads : (own rest : List ℕ) (n : ℕ) → NumberAt own n rest → AccountAt (text ++ own) (record a { last = n }) rest

-- the same, if there is a text
abbrev pub IsKept : List ℕ → Account → Type 0
IsKept text a = 0 < length text → IsDomainText text a
