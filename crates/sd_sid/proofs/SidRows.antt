-- SIDs and texts that were worked out by hand.
use Rattle.std.proofs.Common.{◌≡◌, ℕ, zero, suc, true, false, List, [], ◌∷◌, ◌++◌, Some, None, Ok, Err, codes, refl}
use Rattle.std.proofs.Common.{replicate, arith, rules}
use Rattle.std.specs.Prelude.{map}
use Rattle.std.specs.Fmt.{digits}
use Rattle.sd_sid.specs.Naming.{alias_by, naming_by}
use Rattle.sd_sid.specs.Sid.{AreWords, BeginsWithSid, IsSid, SecurityId, sid_at, sid_bytes, sid_size}
use Rattle.sd_sid.specs.SidText.{sid_front, sid_text, alias_of, sid_reads, letters_read, has_form, numbers_read}
use Rattle.sd_sid.specs.declared.sid_text.SidFault.TheVariants as faults

abbrev sid : ℕ → List ℕ → SecurityId
sid a subs = record { authority = a; subs = subs }

abbrev domain : SecurityId
domain = sid 5 (21 ∷ 1 ∷ 2 ∷ 3 ∷ [])

-- a domain that has no room for one more
abbrev full : SecurityId
full = sid 5 (21 ∷ 1 ∷ 2 ∷ 3 ∷ 0 ∷ 0 ∷ 0 ∷ 0 ∷ 0 ∷ 0 ∷ 0 ∷ 0 ∷ 0 ∷ 0 ∷ 0 ∷ [])

administrators_and_more : record {
  administrators : sid_text (sid 5 (21 ∷ 1 ∷ 2 ∷ 3 ∷ 512 ∷ [])) ≡ codes "S-1-5-21-1-2-3-512";
  hex_authority : sid_text (sid 0x100000000 []) ≡ codes "S-1-0x000100000000";
  largest_decimal : sid_text (sid 4294967295 (0 ∷ 4294967295 ∷ [])) ≡ codes "S-1-4294967295-0-4294967295";
  everyone_alias : alias_of (sid 1 (0 ∷ [])) None ≡ Some (codes "WD");
  builtin_alias : alias_of (sid 5 (32 ∷ 544 ∷ [])) (Some domain) ≡ Some (codes "BA");
  domain_alias : alias_of (sid 5 (21 ∷ 1 ∷ 2 ∷ 3 ∷ 512 ∷ [])) (Some domain) ≡ Some (codes "DA");
  no_domain : alias_of (sid 5 (21 ∷ 1 ∷ 2 ∷ 3 ∷ 512 ∷ [])) None ≡ None;
  reads_everyone : sid_reads (codes "WD") None ≡ Ok (sid 1 (0 ∷ []));
  reads_lower_case : sid_reads (codes "ba") None ≡ Ok (sid 5 (32 ∷ 544 ∷ []));
  reads_in_domain : sid_reads (codes "Da") (Some domain) ≡ Ok (sid 5 (21 ∷ 1 ∷ 2 ∷ 3 ∷ 512 ∷ []));
  wants_domain : sid_reads (codes "DA") None ≡ Err faults.NeedsDomain;
  full_domain : sid_reads (codes "DA") (Some full) ≡ Err faults.NeedsDomain;
  unknown : sid_reads (codes "ZZ") (Some domain) ≡ Err faults.Alias;
  reads_text : sid_reads (codes "s-1-5-21-1-2-3-0000000512") None ≡ Ok (sid 5 (21 ∷ 1 ∷ 2 ∷ 3 ∷ 512 ∷ []));
  reads_hex : sid_reads (codes "S-1-0X000100aBcDeF-7") None ≡ Ok (sid 0x100ABCDEF (7 ∷ []));
  reads_authority_alone : sid_reads (codes "S-1-4294967295") None ≡ Ok (sid 4294967295 []);
  too_large : sid_reads (codes "S-1-5-4294967296") None ≡ Err faults.Number;
  too_many_digits : sid_reads (codes "S-1-00000000001") None ≡ Err faults.Number;
  -- the form is looked at before any number
  form_first : sid_reads (codes "S-1-5-4294967296-x") None ≡ Err faults.SidForm;
  no_authority : sid_reads (codes "S-1-") None ≡ Err faults.SidForm;
  other_revision : sid_reads (codes "S-2-5") None ≡ Err faults.SidForm;
  thirteen_hex_digits : sid_reads (codes "S-1-0x0000000000005") None ≡ Err faults.SidForm;
  sixteen_subs : sid_reads (codes "S-1-5-1-2-3-4-5-6-7-8-9-10-11-12-13-14-15-16") None ≡ Err faults.SidForm;
  empty_text : sid_reads [] None ≡ Err faults.SidForm;
}
unfolding digits alias_of sid_reads letters_read has_form numbers_read
administrators_and_more = search rules

-- Each alias with its SID (MS-DTYP 2.4.2.4, 2.5.1.1), in both directions.

known_names : List (List ℕ)
known_names =
    codes "WD" ∷ codes "CO" ∷ codes "CG" ∷ codes "OW" ∷ codes "NU" ∷ codes "IU" ∷ codes "SU" ∷ codes "AN"
    ∷ codes "ED" ∷ codes "PS" ∷ codes "AU" ∷ codes "RC" ∷ codes "SY" ∷ codes "LS" ∷ codes "NS" ∷ codes "WR"
    ∷ codes "UD" ∷ codes "BA" ∷ codes "BU" ∷ codes "BG" ∷ codes "PU" ∷ codes "AO" ∷ codes "SO" ∷ codes "PO"
    ∷ codes "BO" ∷ codes "RE" ∷ codes "RU" ∷ codes "RD" ∷ codes "NO" ∷ codes "MU" ∷ codes "LU" ∷ codes "IS"
    ∷ codes "CY" ∷ codes "ER" ∷ codes "CD" ∷ codes "RA" ∷ codes "ES" ∷ codes "MS" ∷ codes "HA" ∷ codes "AA"
    ∷ codes "RM" ∷ codes "AC" ∷ codes "LW" ∷ codes "ME" ∷ codes "MP" ∷ codes "HI" ∷ codes "SI" ∷ codes "AS"
    ∷ codes "SS" ∷ []

known_sids : List SecurityId
known_sids =
    sid 1 (0 ∷ []) ∷ sid 3 (0 ∷ []) ∷ sid 3 (1 ∷ []) ∷ sid 3 (4 ∷ []) ∷ sid 5 (2 ∷ []) ∷ sid 5 (4 ∷ [])
    ∷ sid 5 (6 ∷ []) ∷ sid 5 (7 ∷ []) ∷ sid 5 (9 ∷ []) ∷ sid 5 (10 ∷ []) ∷ sid 5 (11 ∷ []) ∷ sid 5 (12 ∷ [])
    ∷ sid 5 (18 ∷ []) ∷ sid 5 (19 ∷ []) ∷ sid 5 (20 ∷ []) ∷ sid 5 (33 ∷ [])
    ∷ sid 5 (84 ∷ 0 ∷ 0 ∷ 0 ∷ 0 ∷ 0 ∷ []) ∷ sid 5 (32 ∷ 544 ∷ []) ∷ sid 5 (32 ∷ 545 ∷ [])
    ∷ sid 5 (32 ∷ 546 ∷ []) ∷ sid 5 (32 ∷ 547 ∷ []) ∷ sid 5 (32 ∷ 548 ∷ []) ∷ sid 5 (32 ∷ 549 ∷ [])
    ∷ sid 5 (32 ∷ 550 ∷ []) ∷ sid 5 (32 ∷ 551 ∷ []) ∷ sid 5 (32 ∷ 552 ∷ []) ∷ sid 5 (32 ∷ 554 ∷ [])
    ∷ sid 5 (32 ∷ 555 ∷ []) ∷ sid 5 (32 ∷ 556 ∷ []) ∷ sid 5 (32 ∷ 558 ∷ []) ∷ sid 5 (32 ∷ 559 ∷ [])
    ∷ sid 5 (32 ∷ 568 ∷ []) ∷ sid 5 (32 ∷ 569 ∷ []) ∷ sid 5 (32 ∷ 573 ∷ []) ∷ sid 5 (32 ∷ 574 ∷ [])
    ∷ sid 5 (32 ∷ 575 ∷ []) ∷ sid 5 (32 ∷ 576 ∷ []) ∷ sid 5 (32 ∷ 577 ∷ []) ∷ sid 5 (32 ∷ 578 ∷ [])
    ∷ sid 5 (32 ∷ 579 ∷ []) ∷ sid 5 (32 ∷ 580 ∷ []) ∷ sid 15 (2 ∷ 1 ∷ []) ∷ sid 16 (4096 ∷ [])
    ∷ sid 16 (8192 ∷ []) ∷ sid 16 (8448 ∷ []) ∷ sid 16 (12288 ∷ []) ∷ sid 16 (16384 ∷ []) ∷ sid 18 (1 ∷ [])
    ∷ sid 18 (2 ∷ []) ∷ []

relative_names : List (List ℕ)
relative_names =
    codes "RO" ∷ codes "LA" ∷ codes "LG" ∷ codes "DA" ∷ codes "DU" ∷ codes "DG" ∷ codes "DC" ∷ codes "DD"
    ∷ codes "CA" ∷ codes "SA" ∷ codes "EA" ∷ codes "PA" ∷ codes "CN" ∷ codes "AP" ∷ codes "KA" ∷ codes "EK"
    ∷ codes "RS" ∷ []

relative_sids : List SecurityId
relative_sids =
    map (λ last. sid 5 (21 ∷ 1 ∷ 2 ∷ 3 ∷ last ∷ []))
    (498 ∷ 500 ∷ 501 ∷ 512 ∷ 513 ∷ 514 ∷ 515 ∷ 516 ∷ 517 ∷ 518 ∷ 519 ∷ 520 ∷ 522 ∷ 525 ∷ 526 ∷ 527 ∷ 553 ∷ [])

begins : BeginsWithSid (1 ∷ 0 ∷ 0 ∷ 0 ∷ 0 ∷ 0 ∷ 0 ∷ 5 ∷ 9 ∷ []) (sid 5 [])
begins = record {
  limits = record { authority = omega arith; count = omega arith; subs = λ i. omega arith };
  rest = 9 ∷ [];
  shape = refl;
}

names_read_and_more : record {
  names_read : map (λ name. sid_reads name None) known_names ≡ map Ok known_sids;
  sids_named : map (λ s. alias_of s None) known_sids ≡ map Some known_names;
  relative_names_read : map (λ name. sid_reads name (Some domain)) relative_names ≡ map Ok relative_sids;
  relative_sids_named : map (λ s. alias_of s (Some domain)) relative_sids ≡ map Some relative_names;
  -- the bytes of S-1-5-32-544 (MS-DTYP 2.4.2.2)
  administrators_bytes : sid_bytes (sid 5 (32 ∷ 544 ∷ []))
      ≡ 1 ∷ 2 ∷ 0 ∷ 0 ∷ 0 ∷ 0 ∷ 0 ∷ 5 ∷ 0x20 ∷ 0 ∷ 0 ∷ 0 ∷ 0x20 ∷ 2 ∷ 0 ∷ 0 ∷ [];
  reads_bytes : sid_at (1 ∷ 1 ∷ 0 ∷ 0 ∷ 0 ∷ 0 ∷ 0 ∷ 5 ∷ 18 ∷ 0 ∷ 0 ∷ 0 ∷ 9 ∷ []) ≡ Some (sid 5 (18 ∷ []), 12);
  -- and those of two numbers, the second of which has four bytes
  two_numbers_in_bytes : sid_at (1 ∷ 2 ∷ 0 ∷ 0 ∷ 0 ∷ 0 ∷ 0 ∷ 5 ∷ 0x20 ∷ 0 ∷ 0 ∷ 0 ∷ 4 ∷ 3 ∷ 2 ∷ 1 ∷ [])
      ≡ Some (sid 5 (32 ∷ 0x01020304 ∷ []), 16);
  other_revision_of_bytes : sid_at (2 ∷ 0 ∷ 0 ∷ 0 ∷ 0 ∷ 0 ∷ 0 ∷ 5 ∷ []) ≡ None;
  bytes_too_few : sid_at (1 ∷ 1 ∷ 0 ∷ 0 ∷ 0 ∷ 0 ∷ 0 ∷ 5 ∷ 18 ∷ 0 ∷ 0 ∷ []) ≡ None;
  bytes_of_a_header : sid_at (1 ∷ 0 ∷ 0 ∷ 1 ∷ 2 ∷ 3 ∷ 4 ∷ 5 ∷ []) ≡ Some (sid 0x102030405 [], 8);
  seven_bytes : sid_at (1 ∷ 0 ∷ 0 ∷ 0 ∷ 0 ∷ 0 ∷ 0 ∷ []) ≡ None;
  fifteen_in_bytes : sid_at (1 ∷ 15 ∷ 0 ∷ 0 ∷ 0 ∷ 0 ∷ 0 ∷ 5 ∷ replicate 60 0) ≡ Some (sid 5 (replicate 15 0), 68);
  sixteen_in_bytes : sid_at (1 ∷ 16 ∷ 0 ∷ 0 ∷ 0 ∷ 0 ∷ 0 ∷ 5 ∷ replicate 64 0) ≡ None;
  -- high bytes first in the authority, low bytes first in a sub-authority
  order_of_bytes : sid_bytes (sid 0x010203040506 (0x0708090a ∷ []))
      ≡ 1 ∷ 1 ∷ 1 ∷ 2 ∷ 3 ∷ 4 ∷ 5 ∷ 6 ∷ 0x0a ∷ 9 ∷ 8 ∷ 7 ∷ [];
  sizes : map sid_size (sid 5 [] ∷ sid 5 (18 ∷ []) ∷ sid 5 (replicate 15 0) ∷ []) ≡ 8 ∷ 12 ∷ 68 ∷ [];
}
unfolding sid_reads letters_read known_names known_sids alias_of relative_names relative_sids sid_at
names_read_and_more = search rules

-- the limits: 48 bits, fifteen numbers, and 32 bits each

largest_authority : IsSid (sid 0xffff_ffff_ffff [])
largest_authority = record { authority = omega arith; count = omega arith; subs = λ i. omega arith }

larger_authority : IsSid (sid 0x1_0000_0000_0000 []) → ⊥
larger_authority h = let more = h.authority in omega arith

largest_word : AreWords (0xffff_ffff ∷ [])
largest_word zero = omega arith
largest_word (suc i) = omega arith

larger_word : AreWords (0x1_0000_0000 ∷ []) → ⊥
larger_word h = let more = h 0 in omega arith

zeros_are_words : (n : ℕ) → AreWords (replicate n 0)
zeros_are_words zero i = omega arith
zeros_are_words (suc n) zero = omega arith
zeros_are_words (suc n) (suc i) = zeros_are_words n i

fifteen_words : IsSid (sid 5 (replicate 15 0))
fifteen_words = record { authority = omega arith; count = omega arith; subs = zeros_are_words 15 }

one_more_word : IsSid (sid 5 (replicate 16 0)) → ⊥
one_more_word h = let more = h.count in omega arith

-- how a SID is named: by its alias, in a domain too, or by numbers alone

namings : alias_by (naming_by None false) (sid 5 (32 ∷ 544 ∷ []))
    ∷ alias_by (naming_by (Some domain) false) (sid 5 (21 ∷ 1 ∷ 2 ∷ 3 ∷ 512 ∷ []))
    ∷ alias_by (naming_by (Some domain) true) (sid 5 (32 ∷ 544 ∷ []))
    ∷ alias_by (naming_by (Some full) false) (sid 5 (21 ∷ 1 ∷ 2 ∷ 3 ∷ 512 ∷ []))
    ∷ [] ≡ Some (codes "BA") ∷ Some (codes "DA") ∷ None ∷ None ∷ []
unfolding alias_of
namings = refl

-- texts of at most 183 bytes, which the longest one has

longest_text_and_more : record {
  longest_text : sid_reads (codes "S-1-0x" ++ codes "ffffffffffff"
      ++ codes "-4294967295-4294967295-4294967295-4294967295-4294967295-4294967295-4294967295-4294967295"
      ++ codes "-4294967295-4294967295-4294967295-4294967295-4294967295-4294967295-4294967295") None
      ≡ Ok (sid 0xffff_ffff_ffff (replicate 15 0xffff_ffff));
  zeros_of_183_bytes : sid_reads (codes "S-1-" ++ replicate 179 48) None ≡ Err faults.Number;
  zeros_of_184_bytes : sid_reads (codes "S-1-" ++ replicate 180 48) None ≡ Err faults.SidForm;
  -- a number of ten digits that has 33 bits, as authority and behind it
  ten_digits : map (λ text. sid_reads text None)
      (codes "S-1-4294967296" ∷ codes "S-1-0-4294967296" ∷ codes "S-1-9999999999" ∷ [])
      ≡ Err faults.Number ∷ Err faults.Number ∷ Err faults.Number ∷ [];
  -- what has no form: another letter, dash, digit or revision at each place of the front, and what is empty
  no_forms : map (λ text. sid_reads text None)
      (codes "T-1-5" ∷ codes "S.1-5" ∷ codes "S-0-5" ∷ codes "S-1.5" ∷ codes "S-1-5-" ∷ codes "S-1--5"
      ∷ codes "S-1-5-1a"
      ∷ codes "S-1-0x00000000000" ∷ codes "S-1-0y000000000005" ∷ codes "S-1-1x000000000005" ∷ codes "S-1-0x00000000000g"
      ∷ codes "S-1-0xg00000000000" ∷ codes "S-1-5-0x000000000005" ∷ codes "B" ∷ codes "BAA" ∷ codes "B1"
      ∷ codes "1B" ∷ [])
      ≡ replicate 17 (Err faults.SidForm);
  -- fifteen numbers, and letters in lower case
  fifteen_numbers : sid_reads (codes "s-1-0x00000000000f-1-2-3-4-5-6-7-8-9-10-11-12-13-14-15") None
      ≡ Ok (sid 15 (1 ∷ 2 ∷ 3 ∷ 4 ∷ 5 ∷ 6 ∷ 7 ∷ 8 ∷ 9 ∷ 10 ∷ 11 ∷ 12 ∷ 13 ∷ 14 ∷ 15 ∷ []));
  fronts : map sid_front (codes "S-1-5;x" ∷ codes "BA)" ∷ codes "S-1_5" ∷ [])
      ≡ codes "S-1-5" ∷ codes "BA" ∷ codes "S-1" ∷ [];
}
unfolding sid_reads has_form numbers_read letters_read
longest_text_and_more = search rules
