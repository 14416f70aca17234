-- The machine's reading of a line, folded over its fields, is what the line means.
use Rattle.std.proofs.Common.{◌≡◌, ◌≤◌, ℕ, ◌+◌, Bool, true, false, ◌||◌, List, [], ◌∷◌, ◌++◌, Option, Some, None, Ok}
use Rattle.std.proofs.Common.{Err, refl, ap, sym, ◌∙◌, arith, append-nil, append_assoc}
use Rattle.std.specs.Prelude.{nat_lt, not, if◌then◌else◌}
use Rattle.std.specs.List.{list_all}
use Rattle.std.proofs.lemmas.Bool.Decides.{nat_tests}
use Rattle.std.proofs.lemmas.Bool.{and_parts, or_parts}
use Rattle.sd_ace.specs.Ace.{AccessControlEntry}
use Rattle.sd_sid.specs.Sid.{SecurityId}
use Rattle.sd_acl_view.specs.Acl.{acl_size, aces_size}
use Rattle.sd_view.specs.Descriptor.{Descriptor}
use Rattle.sd_builder.specs.Draft.{DraftParts, built, closed, closed_in, is_present, with_acl}
use Rattle.sd_view.specs.Layout.{acl_part_size}
use Rattle.sd_view.specs.declared.acl_part.AclPart.{AclPart}
use Rattle.sd_view.specs.declared.acl_part.AclPart.TheVariants as acl
use Rattle.sd_parts.specs.declared.part.Which.{Which}
use Rattle.sd_parts.specs.declared.part.Which.TheVariants as which
use Rattle.std.specs.Option.{option_or}
use Rattle.sd_sddl_fields.specs.FieldTexts.{front_reads}
use Rattle.sd_sddl_builder.specs.FoldedReading.{FieldsRead, described, fields_of, finished, folded, large_in}
use Rattle.sd_sddl_builder.specs.FoldedReading.{nothing_read, read_fields, reads_as, if_shaped}
use Rattle.sd_sddl_builder.specs.Line.{Piece, Section, are_shaped, front, has_head, has_twice, is_blank_piece}
use Rattle.sd_sddl_builder.specs.Line.{is_paired, is_shaped, sections_of, same_head, trim}
use Rattle.sd_text.specs.Chains.{and_then}
use Rattle.sd_sddl_builder.specs.Meaning.{Said, acl_said, body_reads, control_flags, descriptor_of, each}
use Rattle.sd_sddl_builder.specs.Meaning.{acl_part_reads, field_reads, first_large, means, section_reads, sections_mean}
use Rattle.sd_sddl_builder.specs.Meaning.{sid_field_reads, sid_said, unless_large, picked_acl, picked_flags, picked_sid}
use Rattle.sd_parts.specs.Control.{bit_if}
use Rattle.sd_parts.specs.declared.control.AclFlags.{AclFlags}
use Rattle.sd_sddl_builder.specs.declared.fault.SddlFault.TheVariants as fault
use Rattle.sd_sddl_builder.specs.declared.slot.Head.{Head}
use Rattle.sd_sddl_builder.specs.declared.slot.Head.TheVariants as head
use Rattle.sd_parts.specs.declared.part.SidPart.TheVariants as sid_part
use Rattle.sd_ace.specs.declared.ace_parts.AceFields.{AceFields}
use Rattle.sd_sddl_fields.specs.declared.field_texts.AclFront.{AclFront}
use Rattle.sd_sddl_builder.proofs.laws.ControlFlags.{flags-stay}
use Rattle.sd_sddl_fields.proofs.laws.FlagRuns.{or-none}
use Rattle.sd_sddl_builder.proofs.laws.FoldedSections.{Found, before_sid, sections-read, with_all, with_entries}
use Rattle.sd_sddl_builder.proofs.laws.FoldedSections.{with_said}

-- 1. What the fold holds after a section.

-- all but the ACE at hand and the ACL that is too large
record Gathered : Type 0 where
  owner : Option SecurityId
  group : Option SecurityId
  sacl : AclPart
  dacl : AclPart
  sacl_flags : AclFlags
  dacl_flags : AclFlags

abbrev of_draft : DraftParts → AclFlags → AclFlags → Gathered
of_draft t sf df = record {
  owner = t.owner;
  group = t.group;
  sacl = t.sacl;
  dacl = t.dacl;
  sacl_flags = sf;
  dacl_flags = df;
}

abbrev gathered : FieldsRead → Gathered
gathered r = of_draft (closed r.parts) r.sacl r.dacl

abbrev with_one : Said → Gathered → Gathered
with_one (sid_said sid_part.Owner s) g = record g { owner = Some s }
with_one (sid_said sid_part.Group s) g = record g { group = Some s }
with_one (acl_said which.Sacl f a) g = record g { sacl = a; sacl_flags = f }
with_one (acl_said which.Dacl f a) g = record g { dacl = a; dacl_flags = f }

-- a fold with an open ACL
abbrev opened : DraftParts → AclFlags → AclFlags → AceFields → Option Which → Which → List AccessControlEntry
    → FieldsRead
opened t sf df a l w es = record {
  parts = record t { «open» = Some (w, es) };
  sacl = sf;
  dacl = df;
  ace = a;
  large = l;
}

-- the ACL as large as it is with these
abbrev large_with : Which → List AccessControlEntry → Option Which
large_with w es = large_in (Some (w, es))

or-assoc : {A : Type 0} (x y z : Option A) → option_or (option_or x y) z ≡ option_or x (option_or y z)
or-assoc None y z = refl
or-assoc (Some x) y z = refl

or-again : {A : Type 0} (x y : Option A) → option_or (option_or x y) y ≡ option_or x y
or-again None None = refl
or-again None (Some y) = refl
or-again (Some x) y = refl

longer : (es more : List AccessControlEntry) → aces_size es ≤ aces_size (es ++ more)
longer [] more = omega arith
longer (e ∷ es) more = let h = longer es more in omega arith

-- an ACL that is too large stays so
still-large : (w : Which) (es more : List AccessControlEntry)
    → option_or (large_with w es) (large_with w (es ++ more)) ≡ large_with w (es ++ more)
still-large w es more = by_test (nat_lt 65535 (acl_size es)) (nat_lt 65535 (acl_size (es ++ more))) refl refl
  where
    by_test : (x y : Bool) → nat_lt 65535 (acl_size es) ≡ x → nat_lt 65535 (acl_size (es ++ more)) ≡ y
        → option_or (if x then Some w else None) (if y then Some w else None) ≡ (if y then Some w else None)
    by_test false y e f = refl
    by_test true true e f = refl
    by_test true false e f = absurd (let h = longer es more in grind (arith, nat_tests))

module _ (t : DraftParts) (sf df : AclFlags) (w : Which) where
  entries-gathered : (es before : List AccessControlEntry) (a : AceFields) (l : Option Which)
      → gathered (with_entries (opened t sf df a l w before) es) ≡ gathered (opened t sf df a l w (before ++ es))
  unfolding with_entries
  entries-gathered [] before a l = rw append-nil refl
  entries-gathered (e ∷ es) before a l =
      let now = before ++ e ∷ [] in
      entries-gathered es now (before_sid e) (option_or l (large_with w now))
      ∙ ap (λ (all : List AccessControlEntry). gathered (opened t sf df a l w all)) (append_assoc before (e ∷ []) es)

  entries-large : (es before : List AccessControlEntry) (a : AceFields) (l : Option Which)
      → option_or l (large_with w before) ≡ l
      → (with_entries (opened t sf df a l w before) es).large ≡ option_or l (large_with w (before ++ es))
  unfolding with_entries
  entries-large [] before a l h = rw append-nil (sym h)
  entries-large (e ∷ es) before a l h =
      let now = before ++ e ∷ [] in
      let large = option_or l (large_with w now) in
      entries-large es now (before_sid e) large (or-again l (large_with w now))
      ∙ or-assoc l (large_with w now) (large_with w (now ++ es))
      ∙ ap (option_or l) (still-large w now es)
      ∙ ap (λ (all : List AccessControlEntry). option_or l (large_with w all)) (append_assoc before (e ∷ []) es)

-- no ACL is open after the part at hand
none-open : (t : DraftParts) → (closed t).«open» ≡ None
none-open t = by_open t.«open» refl
  where
    one : (w : Which) (es : List AccessControlEntry)
        → (with_acl w (acl.List es) (record t { «open» = None })).«open» ≡ None
    one which.Sacl es = refl
    one which.Dacl es = refl

    by_open : (o : Option (Which × List AccessControlEntry)) → t.«open» ≡ o → (closed_in o t).«open» ≡ None
    by_open None e = e
    by_open (Some o) e = one o.0 o.1

said-gathered : (r : FieldsRead) (x : Said) → gathered (with_said r x) ≡ with_one x (gathered r)
unfolding with_entries
said-gathered r (sid_said sid_part.Owner s) = rw (none-open r.parts) refl
said-gathered r (sid_said sid_part.Group s) = rw (none-open r.parts) refl
said-gathered r (acl_said which.Sacl f acl.Absent) = rw (none-open r.parts) refl
said-gathered r (acl_said which.Sacl f acl.Null) = rw (none-open r.parts) refl
said-gathered r (acl_said which.Sacl f (acl.List es)) =
    entries-gathered (closed r.parts) f r.dacl which.Sacl es [] r.ace r.large
said-gathered r (acl_said which.Dacl f acl.Absent) = rw (none-open r.parts) refl
said-gathered r (acl_said which.Dacl f acl.Null) = rw (none-open r.parts) refl
said-gathered r (acl_said which.Dacl f (acl.List es)) =
    entries-gathered (closed r.parts) r.sacl f which.Dacl es [] r.ace r.large

abbrev large_said : Said → Option Which
large_said (sid_said p s) = None
large_said (acl_said w f a) = if nat_lt 65535 (acl_part_size a) then Some w else None

said-large : (r : FieldsRead) (x : Said) → (with_said r x).large ≡ option_or r.large (large_said x)
said-large r (sid_said sid_part.Owner s) = sym (or-none r.large)
said-large r (sid_said sid_part.Group s) = sym (or-none r.large)
said-large r (acl_said which.Sacl f acl.Absent) = sym (or-none r.large)
said-large r (acl_said which.Sacl f acl.Null) = sym (or-none r.large)
said-large r (acl_said which.Sacl f (acl.List es)) =
    entries-large (closed r.parts) f r.dacl which.Sacl es [] r.ace r.large (or-none r.large)
said-large r (acl_said which.Dacl f acl.Absent) = sym (or-none r.large)
said-large r (acl_said which.Dacl f acl.Null) = sym (or-none r.large)
said-large r (acl_said which.Dacl f (acl.List es)) =
    entries-large (closed r.parts) r.sacl f which.Dacl es [] r.ace r.large (or-none r.large)

-- 2. What it holds after all of them.

first-or : (x : Said) (xs : List Said) → option_or (large_said x) (first_large xs) ≡ first_large (x ∷ xs)
first-or (sid_said p s) xs = refl
first-or (acl_said w f a) xs = by_test (nat_lt 65535 (acl_part_size a))
  where
    by_test : (b : Bool)
        → option_or (if b then Some w else None) (first_large xs) ≡ (if b then Some w else first_large xs)
    by_test true = refl
    by_test false = refl

all-large : (xs : List Said) (r : FieldsRead) → (with_all r xs).large ≡ option_or r.large (first_large xs)
unfolding with_all
all-large [] r = sym (or-none r.large)
all-large (x ∷ xs) r =
    all-large xs (with_said r x) ∙ ap (λ (l : Option Which). option_or l (first_large xs)) (said-large r x)
    ∙ or-assoc r.large (large_said x) (first_large xs) ∙ ap (option_or r.large) (first-or x xs)

-- one after the other, from the left
with_those : List Said → Gathered → Gathered
with_those [] g = g
with_those (x ∷ xs) g = with_those xs (with_one x g)

all-gathered : (xs : List Said) (r : FieldsRead) → gathered (with_all r xs) ≡ with_those xs (gathered r)
unfolding with_all with_those
all-gathered [] r = refl
all-gathered (x ∷ xs) r = all-gathered xs (with_said r x) ∙ ap (with_those xs) (said-gathered r x)

-- 3. Where no two have one head, each is found among them.

abbrev head_said : Said → Head
head_said (sid_said p s) = head.Sid p
head_said (acl_said w f a) = head.Acl w

abbrev is_said : Head → List Said → Bool
is_said h [] = false
is_said h (x ∷ xs) = same_head h (head_said x) || is_said h xs

abbrev is_twice : List Said → Bool
is_twice [] = false
is_twice (x ∷ xs) = is_said (head_said x) xs || is_twice xs

-- two of different heads in either order
swapped : (x y : Said) (g : Gathered) → same_head (head_said x) (head_said y) ≡ false
    → with_one y (with_one x g) ≡ with_one x (with_one y g)
swapped (sid_said sid_part.Owner s) (sid_said sid_part.Owner t) g e = absurd cc
swapped (sid_said sid_part.Owner s) (sid_said sid_part.Group t) g e = refl
swapped (sid_said sid_part.Owner s) (acl_said which.Sacl f a) g e = refl
swapped (sid_said sid_part.Owner s) (acl_said which.Dacl f a) g e = refl
swapped (sid_said sid_part.Group s) (sid_said sid_part.Owner t) g e = refl
swapped (sid_said sid_part.Group s) (sid_said sid_part.Group t) g e = absurd cc
swapped (sid_said sid_part.Group s) (acl_said which.Sacl f a) g e = refl
swapped (sid_said sid_part.Group s) (acl_said which.Dacl f a) g e = refl
swapped (acl_said which.Sacl f a) (sid_said sid_part.Owner t) g e = refl
swapped (acl_said which.Sacl f a) (sid_said sid_part.Group t) g e = refl
swapped (acl_said which.Sacl f a) (acl_said which.Sacl k b) g e = absurd cc
swapped (acl_said which.Sacl f a) (acl_said which.Dacl k b) g e = refl
swapped (acl_said which.Dacl f a) (sid_said sid_part.Owner t) g e = refl
swapped (acl_said which.Dacl f a) (sid_said sid_part.Group t) g e = refl
swapped (acl_said which.Dacl f a) (acl_said which.Sacl k b) g e = refl
swapped (acl_said which.Dacl f a) (acl_said which.Dacl k b) g e = absurd cc

-- the first one may be put last
put-last : (xs : List Said) (x : Said) (g : Gathered) → is_said (head_said x) xs ≡ false
    → with_those xs (with_one x g) ≡ with_one x (with_those xs g)
unfolding with_those
put-last [] x g e = refl
put-last (y ∷ ys) x g e =
    let parts = or_parts (same_head (head_said x) (head_said y)) _ e in
    ap (with_those ys) (swapped x y g parts.0) ∙ put-last ys x (with_one y g) parts.1

abbrev picked : List Said → Gathered
picked xs = record {
  owner = picked_sid sid_part.Owner xs;
  group = picked_sid sid_part.Group xs;
  sacl = picked_acl which.Sacl xs;
  dacl = picked_acl which.Dacl xs;
  sacl_flags = picked_flags which.Sacl xs;
  dacl_flags = picked_flags which.Dacl xs;
}

picked-one : (x : Said) (xs : List Said) → with_one x (picked xs) ≡ picked (x ∷ xs)
picked-one (sid_said sid_part.Owner s) xs = refl
picked-one (sid_said sid_part.Group s) xs = refl
picked-one (acl_said which.Sacl f a) xs = refl
picked-one (acl_said which.Dacl f a) xs = refl

all-picked : (xs : List Said) → is_twice xs ≡ false → with_those xs (picked []) ≡ picked xs
unfolding with_those
all-picked [] e = refl
all-picked (x ∷ xs) e =
    let parts = or_parts (is_said (head_said x) xs) _ e in
    put-last xs x (picked []) parts.0 ∙ ap (with_one x) (all-picked xs parts.1) ∙ picked-one x xs

-- what is said has the heads of the sections
module _ (domain : Option SecurityId) where
  abbrev all_read : List Section → Found (List Said)
  all_read ss = each (section_reads domain) ss

  body-head : (h : Head) (body : List Piece) (x : Said) → body_reads domain h body ≡ Ok x → head_said x ≡ h
  unfolding body_reads
  body-head (head.Sid p) body x e = by_sid (sid_field_reads domain (trim (front body))) e
    where
      by_sid : (y : Found SecurityId) → and_then y (λ s. Ok (sid_said p s)) ≡ Ok x → head_said x ≡ head.Sid p
      by_sid (Ok s) e = let same : sid_said p s ≡ x = cc in rw (← same) refl
      by_sid (Err f) e = absurd cc
  body-head (head.Acl w) body x e = by_front (field_reads fault.Flags front_reads (trim (front body))) e
    where
      by_entries : (f : AclFlags) (y : Found AclPart) → and_then y (λ a. Ok (acl_said w f a)) ≡ Ok x
          → head_said x ≡ head.Acl w
      by_entries f (Ok a) e = let same : acl_said w f a ≡ x = cc in rw (← same) refl
      by_entries f (Err g) e = absurd cc

      by_front : (y : Found AclFront)
          → and_then y (λ f. and_then (acl_part_reads domain f.null body) (λ a. Ok (acl_said w f.flags a))) ≡ Ok x
          → head_said x ≡ head.Acl w
      by_front (Ok f) e = by_entries f.flags (acl_part_reads domain f.null body) e
      by_front (Err g) e = absurd cc

  -- what a list of sections says: the first one, and the others
  record SaidFirst (s : Section) (ss : List Section) (xs : List Said) : Type 0 where
    first : Said
    others : List Said
    shape : xs ≡ first ∷ others
    here : section_reads domain s ≡ Ok first
    after : all_read ss ≡ Ok others

  said-first : (s : Section) (ss : List Section) (xs : List Said) → all_read (s ∷ ss) ≡ Ok xs → SaidFirst s ss xs
  said-first s ss xs e = by_both (section_reads domain s) (all_read ss) refl refl e
    where
      by_both : (x : Found Said) (y : Found (List Said)) → section_reads domain s ≡ x → all_read ss ≡ y
          → and_then x (λ a. and_then y (λ l. Ok (a ∷ l))) ≡ Ok xs → SaidFirst s ss xs
      by_both (Ok a) (Ok l) f g e = record { first = a; others = l; shape = cc; here = f; after = g }
      by_both (Ok a) (Err h) f g e = absurd cc
      by_both (Err h) y f g e = absurd cc

  same-heads : (h : Head) (ss : List Section) (xs : List Said) → all_read ss ≡ Ok xs → is_said h xs ≡ has_head h ss
  same-heads h [] xs e = let same : [] ≡ xs = cc in rw (← same) refl
  same-heads h (s ∷ ss) xs e =
      let k = said-first s ss xs e in
      rw (k.shape, body-head s.head s.body k.first k.here, same-heads h ss k.others k.after) refl

  never-twice : (ss : List Section) (xs : List Said) → all_read ss ≡ Ok xs → is_twice xs ≡ has_twice ss
  never-twice [] xs e = let same : [] ≡ xs = cc in rw (← same) refl
  never-twice (s ∷ ss) xs e =
      let k = said-first s ss xs e in
      let heads = same-heads s.head ss k.others k.after in
      rw (k.shape, body-head s.head s.body k.first k.here, heads, never-twice ss k.others k.after) refl

-- 4. The line.

abbrev descriptor_from : Gathered → Descriptor
descriptor_from g =
    built (control_flags g.sacl_flags g.dacl_flags) 0
    (record { owner = g.owner; group = g.group; sacl = g.sacl; dacl = g.dacl; «open» = None })

-- the control word with these flags
abbrev word_with : List Said → ℕ → ℕ
word_with xs flags =
    flags + 0x8000 + bit_if (is_present (picked_acl which.Sacl xs)) 0x10
    + bit_if (is_present (picked_acl which.Dacl xs)) 0x4

picked-descriptor : (xs : List Said) → descriptor_from (picked xs) ≡ descriptor_of xs
picked-descriptor xs =
    ap (λ (flags : ℕ). record (descriptor_of xs) { control = word_with xs flags })
    (flags-stay (picked_flags which.Sacl xs) (picked_flags which.Dacl xs))

all-described : (xs : List Said) → is_twice xs ≡ false → described (with_all nothing_read xs) ≡ descriptor_of xs
all-described xs e = ap descriptor_from (all-gathered xs nothing_read ∙ all-picked xs e) ∙ picked-descriptor xs

all-finished : (xs : List Said) → is_twice xs ≡ false
    → finished (Ok (with_all nothing_read xs)) ≡ unless_large (first_large xs) (descriptor_of xs)
unfolding finished
all-finished xs e = rw (all-large xs nothing_read, all-described xs e) refl

sections-finished : (domain : Option SecurityId) (ss : List Section) → are_shaped ss ≡ true → has_twice ss ≡ false
    → finished (read_fields domain (fields_of ss) nothing_read) ≡ sections_mean domain ss
unfolding finished
sections-finished domain ss shaped once =
    ap finished (sections-read domain nothing_read ss shaped) ∙ by_said (each (section_reads domain) ss) refl
  where
    by_said : (x : Found (List Said)) → each (section_reads domain) ss ≡ x
        → finished (and_then x (λ xs. Ok (with_all nothing_read xs)))
        ≡ and_then x (λ xs. unless_large (first_large xs) (descriptor_of xs))
    by_said (Ok xs) e = all-finished xs (never-twice domain ss xs e ∙ once)
    by_said (Err f) e = refl

pub line-shaped : (text : List ℕ) → is_shaped text ≡ true → are_shaped (sections_of text).parts ≡ true
line-shaped text e =
    (and_parts (list_all is_blank_piece (sections_of text).before) _ (and_parts (is_paired false text) _ e).1).1

pub folded-means : (text : List ℕ) (domain : Option SecurityId) → folded text domain ≡ means text domain
unfolding folded means reads_as if_shaped finished
folded-means text domain = by_shape (is_shaped text) refl
  where
    ss : List Section
    ss = (sections_of text).parts

    read : Found FieldsRead
    read = read_fields domain (fields_of ss) nothing_read

    meant : Found Descriptor
    meant = sections_mean domain ss

    by_twice : (twice : Bool) → are_shaped ss ≡ true → has_twice ss ≡ twice
        → finished (if twice then Err fault.PartTwice else read) ≡ (if twice then Err fault.PartTwice else meant)
    by_twice true shaped e = refl
    by_twice false shaped e = sections-finished domain ss shaped e

    by_shape : (shaped : Bool) → is_shaped text ≡ shaped
        → finished (if_shaped shaped (has_twice ss) read)
        ≡ (if not shaped then Err fault.Shape else (if has_twice ss then Err fault.PartTwice else meant))
    by_shape true e = by_twice (has_twice ss) (line-shaped text e) refl
    by_shape false e = refl
