-- The two-letter names of SIDs (MS-DTYP 2.5.1.1, sid-token) and what they stand for (2.4.2.4), written out.
-- The values of UD, HA and AP are this project's own.
use Rattle.std.specs.Prelude.{◌≡◌, ℕ, List, [], ◌∷◌, codes, map, take}
use Rattle.sd_alias.specs.declared.table.DomainRelative.{DomainRelative}
use Rattle.sd_alias.specs.declared.table.TheConstants.{DOMAIN_RELATIVE, WELL_KNOWN}
use Rattle.sd_alias.specs.declared.table.WellKnown.{WellKnown}

-- a name, and the authority and the sub-authorities of its SID
abbrev pub known_row : WellKnown → List ℕ × ℕ × List ℕ
known_row e = (e.first ∷ e.second ∷ [], e.authority, take e.count e.subs)

-- a name, and the last sub-authority of its SID in a domain
abbrev pub relative_row : DomainRelative → List ℕ × ℕ
relative_row e = (e.first ∷ e.second ∷ [], e.last)

-- the names that stand for one SID everywhere
unfoldable pub KnownAliases : Type 0
KnownAliases =
    map known_row WELL_KNOWN
    ≡ (codes "WD", 1, 0 ∷ [])
    ∷ (codes "CO", 3, 0 ∷ [])
    ∷ (codes "CG", 3, 1 ∷ [])
    ∷ (codes "OW", 3, 4 ∷ [])
    ∷ (codes "NU", 5, 2 ∷ [])
    ∷ (codes "IU", 5, 4 ∷ [])
    ∷ (codes "SU", 5, 6 ∷ [])
    ∷ (codes "AN", 5, 7 ∷ [])
    ∷ (codes "ED", 5, 9 ∷ [])
    ∷ (codes "PS", 5, 10 ∷ [])
    ∷ (codes "AU", 5, 11 ∷ [])
    ∷ (codes "RC", 5, 12 ∷ [])
    ∷ (codes "SY", 5, 18 ∷ [])
    ∷ (codes "LS", 5, 19 ∷ [])
    ∷ (codes "NS", 5, 20 ∷ [])
    ∷ (codes "WR", 5, 33 ∷ [])
    ∷ (codes "UD", 5, 84 ∷ 0 ∷ 0 ∷ 0 ∷ 0 ∷ 0 ∷ [])
    ∷ (codes "BA", 5, 32 ∷ 544 ∷ [])
    ∷ (codes "BU", 5, 32 ∷ 545 ∷ [])
    ∷ (codes "BG", 5, 32 ∷ 546 ∷ [])
    ∷ (codes "PU", 5, 32 ∷ 547 ∷ [])
    ∷ (codes "AO", 5, 32 ∷ 548 ∷ [])
    ∷ (codes "SO", 5, 32 ∷ 549 ∷ [])
    ∷ (codes "PO", 5, 32 ∷ 550 ∷ [])
    ∷ (codes "BO", 5, 32 ∷ 551 ∷ [])
    ∷ (codes "RE", 5, 32 ∷ 552 ∷ [])
    ∷ (codes "RU", 5, 32 ∷ 554 ∷ [])
    ∷ (codes "RD", 5, 32 ∷ 555 ∷ [])
    ∷ (codes "NO", 5, 32 ∷ 556 ∷ [])
    ∷ (codes "MU", 5, 32 ∷ 558 ∷ [])
    ∷ (codes "LU", 5, 32 ∷ 559 ∷ [])
    ∷ (codes "IS", 5, 32 ∷ 568 ∷ [])
    ∷ (codes "CY", 5, 32 ∷ 569 ∷ [])
    ∷ (codes "ER", 5, 32 ∷ 573 ∷ [])
    ∷ (codes "CD", 5, 32 ∷ 574 ∷ [])
    ∷ (codes "RA", 5, 32 ∷ 575 ∷ [])
    ∷ (codes "ES", 5, 32 ∷ 576 ∷ [])
    ∷ (codes "MS", 5, 32 ∷ 577 ∷ [])
    ∷ (codes "HA", 5, 32 ∷ 578 ∷ [])
    ∷ (codes "AA", 5, 32 ∷ 579 ∷ [])
    ∷ (codes "RM", 5, 32 ∷ 580 ∷ [])
    ∷ (codes "AC", 15, 2 ∷ 1 ∷ [])
    ∷ (codes "LW", 16, 4096 ∷ [])
    ∷ (codes "ME", 16, 8192 ∷ [])
    ∷ (codes "MP", 16, 8448 ∷ [])
    ∷ (codes "HI", 16, 12288 ∷ [])
    ∷ (codes "SI", 16, 16384 ∷ [])
    ∷ (codes "AS", 18, 1 ∷ [])
    ∷ (codes "SS", 18, 2 ∷ [])
    ∷ []

-- the names that stand for a SID in each domain
unfoldable pub RelativeAliases : Type 0
RelativeAliases =
    map relative_row DOMAIN_RELATIVE
    ≡ (codes "RO", 498)
    ∷ (codes "LA", 500)
    ∷ (codes "LG", 501)
    ∷ (codes "DA", 512)
    ∷ (codes "DU", 513)
    ∷ (codes "DG", 514)
    ∷ (codes "DC", 515)
    ∷ (codes "DD", 516)
    ∷ (codes "CA", 517)
    ∷ (codes "SA", 518)
    ∷ (codes "EA", 519)
    ∷ (codes "PA", 520)
    ∷ (codes "CN", 522)
    ∷ (codes "AP", 525)
    ∷ (codes "KA", 526)
    ∷ (codes "EK", 527)
    ∷ (codes "RS", 553)
    ∷ []
