-- Worked texts of fields (MS-DTYP 2.5.1.1), computed, and what a reader keeps of one.
use Rattle.std.proofs.Common.{◌≡◌, ℕ, Bool, true, false, List, [], ◌∷◌, map, Some, None, codes, refl, replicate, arith}
use Rattle.std.proofs.Common.{rules}
use Rattle.sd_kinds.specs.Kinds.{kind_named}
use Rattle.sd_kinds.specs.declared.kinds.AceKind.TheVariants as kinds
use Rattle.sd_sddl_fields.specs.FieldFronts.{IsWhole, ObjectsAt}
use Rattle.sd_sddl_fields.specs.FieldTexts.{front_reads, is_blank, kind_reads, object_reads}
use Rattle.sd_sddl_fields.specs.Held.{Held, IsHeld, broken_text, held_run, held_text, is_plain_inside, is_plain_text}
use Rattle.sd_sddl_fields.specs.Held.{no_text, outer_with, within_with}
use Rattle.sd_sddl_fields.specs.declared.field_texts.AclFront.{AclFront}

-- `unfolding computed` lets `refl` compute a row
computed : Unit {0}
unfolding front_reads kind_named kind_reads object_reads
computed = tt

-- P, AR and AI, and whether the ACL is null
front : Bool → Bool → Bool → Bool → AclFront
front p ar ai null =
    record { flags = record { protected = p; auto_inherit_required = ar; auto_inherited = ai }; null = null }

blanks_and_more : record {
  -- a blank is a space or a tab
  blanks : map is_blank (9 ∷ 32 ∷ 10 ∷ 13 ∷ 31 ∷ 33 ∷ []) ≡ true ∷ true ∷ false ∷ false ∷ false ∷ false ∷ [];
  fronts : map front_reads
      ([] ∷ codes "P" ∷ codes "ar" ∷ codes "Ai" ∷ codes "PARAI" ∷ codes "aiPpAR" ∷ codes "NO_ACCESS_CONTROL"
      ∷ codes "arno_access_control" ∷ codes "PNo_Access_Control" ∷ [])
      ≡ Some (front false false false false) ∷ Some (front true false false false)
      ∷ Some (front false true false false) ∷ Some (front false false true false)
      ∷ Some (front true true true false) ∷ Some (front true true true false)
      ∷ Some (front false false false true) ∷ Some (front false true false true)
      ∷ Some (front true false false true) ∷ [];
  -- a half of a name, other letters, a blank, and what follows or misses a letter of NO_ACCESS_CONTROL
  no_fronts : map front_reads
      (codes "A" ∷ codes "R" ∷ codes "Q" ∷ codes "AS" ∷ codes "AJ" ∷ codes "BR" ∷ codes "P AI"
      ∷ codes "NO_ACCESS_CONTROLP" ∷ codes "NO_ACCESS_CONTRO" ∷ codes "O_ACCESS_CONTROL" ∷ codes "NO_ACCESS_CONTROM"
      ∷ [])
      ≡ None ∷ None ∷ None ∷ None ∷ None ∷ None ∷ None ∷ None ∷ None ∷ None ∷ None ∷ [];
  kinds_read : map kind_reads (codes "oa" ∷ codes "ML" ∷ codes "OAA" ∷ [])
      ≡ Some kinds.ObjectAllow ∷ Some kinds.Label ∷ None ∷ [];
  -- no GUID in any kind, and none but in an object kind
  no_objects : object_reads kinds.ObjectAllow [] ∷ object_reads kinds.Allow []
      ∷ object_reads kinds.Allow (codes "bf967aba-0de6-11d0-a285-00aa003049e2") ∷ []
      ≡ Some None ∷ Some None ∷ None ∷ [];
  -- what is no plain byte inside parentheses, and outside
  inside : map is_plain_inside (codes "();: \tA*<'")
      ≡ false ∷ false ∷ false ∷ true ∷ false ∷ false ∷ true ∷ true ∷ true ∷ true ∷ [];
  outside : map is_plain_text (codes "();: \tA*<'")
      ≡ false ∷ false ∷ false ∷ false ∷ false ∷ false ∷ true ∷ true ∷ true ∷ true ∷ [];
}
unfolding computed front
blanks_and_more = search rules

-- blanks at the ends do not count outside parentheses, and no text with one between reads; inside none does

fed : (Held → ℕ → Held) → Held → List ℕ → Held
fed with h [] = h
fed with h (b ∷ bs) = fed with (with h b) bs

outer_and_more : record {
  outer : fed outer_with no_text (codes " \tBA \t") ≡ record { text = codes "BA"; gap = true; broken = false };
  outer_gap : map (λ text. held_text (fed outer_with no_text text))
      (codes " B" ∷ codes "B A" ∷ codes "B A C" ∷ codes "B " ∷ [] ∷ [])
      ≡ codes "B" ∷ codes " " ∷ codes " " ∷ codes "B" ∷ [] ∷ [];
  within : map (λ text. held_text (fed within_with no_text text))
      (codes "BA" ∷ codes " BA" ∷ codes "BA " ∷ codes "B\tA" ∷ [] ∷ [])
      ≡ codes "BA" ∷ codes " " ∷ codes " " ∷ codes " " ∷ [] ∷ [];
}
unfolding fed
outer_and_more = search rules

-- a field has at most 183 bytes

whole : IsWhole (replicate 183 65)
whole = record { plain = refl; fits = omega arith }

-- a colon is a plain byte inside parentheses
colon_is_whole : IsWhole (codes "O:BA")
colon_is_whole = record { plain = refl; fits = omega arith }

longer_is_not_whole : IsWhole (replicate 184 65) → ⊥
longer_is_not_whole h = let more = h.fits in omega arith

blank_is_not_whole : IsWhole (codes "A B") → ⊥
blank_is_not_whole h = let e = h.plain in cc

held : IsHeld (record { text = replicate 183 65; gap = true; broken = false })
held = record { clean = refl; fits = omega arith }

longer_is_not_held : IsHeld (record { text = replicate 184 65; gap = false; broken = false }) → ⊥
longer_is_not_held h = let more = h.fits in omega arith

blank_is_not_held : IsHeld (record { text = codes "A "; gap = false; broken = false }) → ⊥
blank_is_not_held h = let e = h.clean in cc

-- two types that are absent, each with the semicolon that ends it, before a SID
no_types : ObjectsAt kinds.Allow None None (codes ";;WD") (codes "WD")
unfolding object_reads
no_types = record {
  between = codes ";WD";
  first = record { field = []; whole = record { plain = refl; fits = omega arith }; stands = refl; reads = refl };
  second = record { field = []; whole = record { plain = refl; fits = omega arith }; stands = refl; reads = refl };
}

longest_and_more : record {
  longest : held_run no_text (replicate 183 65) ≡ record { text = replicate 183 65; gap = false; broken = false };
  longer : held_run no_text (replicate 184 65) ≡ record { text = []; gap = false; broken = true };
  broken_stays : fed outer_with broken_text (codes "A B") ≡ record { text = []; gap = false; broken = true };
}
unfolding fed
longest_and_more = search rules
