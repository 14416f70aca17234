-- The SIDs of a token, one after the other.
use Rattle.std.proofs.Common.{◌≡◌, List, [], ◌++◌, Result, Ok, Err, refl}
use Rattle.sd_token.specs.Token.{Entry}
use Rattle.sd_call.specs.declared.outcome.CallFault.{CallFault}

-- entries, and then those of a result
abbrev pub behind : List Entry → Result (List Entry) CallFault → Result (List Entry) CallFault
behind done (Ok others) = Ok (done ++ others)
behind done (Err fault) = Err fault

pub behind_none : (result : Result (List Entry) CallFault) → behind [] result ≡ result
behind_none (Ok others) = refl
behind_none (Err fault) = refl
