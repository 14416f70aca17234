-- The names of all faults, by their numbers: those of lines (1 to 40), of requests (50 and 51) and of runs (60 to 62),
-- and those of the library for C alone (70 to 73).
use Rattle.std.specs.Prelude.{ℕ, List, [], if◌then◌else◌, nat_eq, codes}

-- empty where no fault has the number
abbrev pub fault_name : ℕ → List ℕ
fault_name number =
    if nat_eq number 1 then codes "too-long"
    else if nat_eq number 2 then codes "hex-digit"
    else if nat_eq number 3 then codes "hex-odd"
    else if nat_eq number 4 then codes "base64"
    else if nat_eq number 5 then codes "short"
    else if nat_eq number 6 then codes "revision"
    else if nat_eq number 7 then codes "not-self-relative"
    else if nat_eq number 8 then codes "offset"
    else if nat_eq number 9 then codes "sid"
    else if nat_eq number 10 then codes "acl"
    else if nat_eq number 11 then codes "ace-size"
    else if nat_eq number 12 then codes "ace-type"
    else if nat_eq number 13 then codes "ace-flags"
    else if nat_eq number 14 then codes "overlap"
    else if nat_eq number 20 then codes "shape"
    else if nat_eq number 21 then codes "part-twice"
    else if nat_eq number 22 then codes "alias"
    else if nat_eq number 23 then codes "needs-domain"
    else if nat_eq number 24 then codes "number"
    else if nat_eq number 25 then codes "sid-form"
    else if nat_eq number 26 then codes "flags"
    else if nat_eq number 27 then codes "rights"
    else if nat_eq number 28 then codes "guid"
    else if nat_eq number 29 then codes "kind"
    else if nat_eq number 30 then codes "acl-too-large"
    else if nat_eq number 40 then codes "derived-too-large"
    else if nat_eq number 50 then codes "empty-request"
    else if nat_eq number 51 then codes "reserved-bits"
    else if nat_eq number 60 then codes "read"
    else if nat_eq number 61 then codes "write"
    else if nat_eq number 62 then codes "too-many-reads"
    else if nat_eq number 70 then codes "argument"
    else if nat_eq number 71 then codes "too-small"
    else if nat_eq number 72 then codes "no-memory"
    else if nat_eq number 73 then codes "change"
    else []
