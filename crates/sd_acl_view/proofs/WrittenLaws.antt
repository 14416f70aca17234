-- An ACL that has the header of its written form, and whose object flags are all named, stands in that form.
use Rattle.std.proofs.Common.{◌≡◌, ◌≤◌, ℕ, zero, suc, ◌+◌, ◌/◌, ◌%◌, ◌||◌, ◌&&◌, Bool, true, false, not, cond, eqb, leb}
use Rattle.std.proofs.Common.{List, [], ◌∷◌, ◌++◌, length, take, drop, slice_index, None, refl, sym, ap, ◌∙◌, arith}
use Rattle.std.proofs.Common.{append_assoc, length-drop}
use Rattle.std.specs.List.{flat_map}
use Rattle.std.proofs.lemmas.Bool.Decides.{nat_tests}
use Rattle.std.proofs.Math.Seq.{take-add}
use Rattle.std.proofs.lemmas.List.{append-nil, length-take-le, take_all, take-append-drop}
use Rattle.std.proofs.lemmas.Bool.{and_parts, or_parts}
use Rattle.byteorder.specs.Endian.{little_bytes}
use Rattle.sd_ace.specs.Ace.{ace_size, guid_size}
use Rattle.sd_kinds.specs.Kinds.{is_object, kind_code}
use Rattle.sd_sid.proofs.laws.Numbers.{AreBytes, AreBytes-drop, AreBytes-take}
use Rattle.sd_acl_view.specs.Bytes.{u16_at, u32_at}
use Rattle.sd_acl_view.specs.Ace.{ShowsAce, announces_inherited, announces_object}
use Rattle.sd_acl_view.specs.Acl.{acl_size, aces_size, has_object}
use Rattle.sd_ace.specs.AceLayout.{ace_body, ace_bytes, ace_front, flag_if, front_size, object_flags}
use Rattle.sd_acl_view.specs.AclLayout.{acl_bytes, acl_header, revision_if}
use Rattle.sd_acl_view.specs.AclReading.{ace_of, aces_fault, aces_of, acl_of, guid_if, inherited_in, kind_in, object_in}
use Rattle.sd_acl_view.specs.Inner.ReadableAce.{IsReadableAce}
use Rattle.sd_acl_view.specs.AclChecks.{IsReadableAcl}
use Rattle.sd_acl_view.specs.Inner.Written.{all_named_flags, named_flags}
use Rattle.sd_acl_view.proofs.laws.AclLaws.{ace-fits, ace-shows, aces-fit, aces-shows, length-aces_of}
use Rattle.sd_acl_view.proofs.ReadableAces.{ace-readable}
use Rattle.sd_acl_view.proofs.BodyLaws.{body_at, length_body}
use Rattle.sd_acl_view.proofs.laws.FirstFault.{first_none}
use Rattle.sd_acl_view.proofs.laws.NumberLaws.{number, number-first}

-- a number in an extent, written again
word : (i : ℕ) (xs : List ℕ) → AreBytes xs → i + 2 ≤ length xs → little_bytes 2 (u16_at i xs) ≡ take 2 (drop i xs)
unfolding u16_at
word i xs b room = number 2 i xs b room

long_word : (i : ℕ) (xs : List ℕ) → AreBytes xs → i + 4 ≤ length xs
    → little_bytes 4 (u32_at i xs) ≡ take 4 (drop i xs)
unfolding u32_at
long_word i xs b room = number 4 i xs b room

-- object flags that are named are those of the GUIDs
two_bits : (n : ℕ) → n ≤ 3 → cond (eqb (n % 2) 1) 1 0 + cond (eqb (n / 2 % 2) 1) 2 0 ≡ n
two_bits zero h = refl
two_bits (suc zero) h = refl
two_bits (suc (suc zero)) h = refl
two_bits (suc (suc (suc zero))) h = refl
two_bits (suc (suc (suc (suc n)))) h = absurd (omega arith)

flag_by : (b : Bool) (xs : List ℕ) (n : ℕ) → flag_if (guid_if b xs) n ≡ cond b n 0
unfolding guid_if
flag_by true xs n = refl
flag_by false xs n = refl

flags_by : (b t u : Bool) (n : ℕ) (xs ys : List ℕ) → (not b || leb n 3) ≡ true → t ≡ eqb (n % 2) 1
    → u ≡ eqb (n / 2 % 2) 1
    → object_flags b (guid_if (b && t) xs) (guid_if (b && u) ys) ≡ cond b (little_bytes 4 n) []
flags_by false t u n xs ys h e f = refl
flags_by true t u n xs ys h e f =
    let sum : flag_if (guid_if t xs) 1 + flag_if (guid_if u ys) 2 ≡ n =
    rw (flag_by t xs 1, flag_by u ys 2, e, f) (two_bits n (grind (arith, nat_tests))) in
    ap (little_bytes 4) sum

flags-written : (extent : List ℕ) → AreBytes extent → 12 ≤ length extent → named_flags extent ≡ true
    → object_flags (is_object (kind_in extent)) (object_in extent) (inherited_in extent)
    ≡ cond (is_object (kind_in extent)) (take 4 (drop 8 extent)) []
unfolding object_in inherited_in announces_object announces_inherited
flags-written extent b room named =
    flags_by (is_object (kind_in extent)) (eqb (u32_at 8 extent % 2) 1) (eqb (u32_at 8 extent / 2 % 2) 1)
    (u32_at 8 extent) (drop 12 extent) (drop (12 + guid_size (object_in extent)) extent) named refl refl
    ∙ ap (λ (xs : List ℕ). cond (is_object (kind_in extent)) xs []) (long_word 8 extent b (omega arith))

-- the front of an extent, cut into its fields
eight : (extent : List ℕ) → 8 ≤ length extent
    → take 8 extent ≡ slice_index extent 0 ∷ slice_index extent 1 ∷ take 2 (drop 2 extent) ++ take 4 (drop 4 extent)
eight [] room = absurd (omega arith)
eight (x ∷ []) room = absurd (omega arith)
eight (x ∷ (y ∷ rest)) room = ap (λ (xs : List ℕ). x ∷ y ∷ xs) (take-add 2 4 rest)

cut : (b : Bool) (extent : List ℕ) → take (cond b 12 8) extent ≡ take 8 extent ++ cond b (take 4 (drop 8 extent)) []
cut true extent = take-add 8 4 extent
cut false extent = sym (append-nil (take 8 extent))

join : (kind flags first : ℕ) (size mask object xs ys zs : List ℕ) → first ≡ kind → size ≡ xs → mask ≡ ys → object ≡ zs
    → (first ∷ flags ∷ xs ++ ys) ++ zs ≡ kind ∷ flags ∷ size ++ (mask ++ object)
join kind flags first size mask object xs ys zs e f g h =
    rw (e, f, g, h) (ap (λ (rest : List ℕ). kind ∷ flags ∷ rest) (append_assoc xs ys zs))

front-written : (extent : List ℕ) → AreBytes extent → 16 ≤ length extent → ShowsAce extent (ace_of extent)
    → ace_size (ace_of extent) ≡ length extent
    → named_flags extent ≡ true
    → take (front_size (kind_in extent)) extent ≡ ace_front (ace_of extent)
front-written extent b room shows whole named =
    let size : little_bytes 2 (ace_size (ace_of extent)) ≡ take 2 (drop 2 extent) =
    ap (little_bytes 2) (whole ∙ sym shows.size) ∙ word 2 extent b (omega arith) in
    cut (is_object (kind_in extent)) extent
    ∙ ap (λ (xs : List ℕ). xs ++ cond (is_object (kind_in extent)) (take 4 (drop 8 extent)) [])
    (eight extent (omega arith))
    ∙ join (kind_code (kind_in extent)) (slice_index extent 1) (slice_index extent 0) _ _ _ _ _ _ shows.kind size
    (long_word 4 extent b (omega arith))
    (flags-written extent b (omega arith) named)

-- an ACE without spare bytes
ace-written : (extent : List ℕ) → AreBytes extent → IsReadableAce extent → ShowsAce extent (ace_of extent)
    → ace_size (ace_of extent) ≡ length extent
    → named_flags extent ≡ true
    → ace_bytes (ace_of extent) ≡ extent
ace-written extent b h shows whole named =
    let n = front_size (kind_in extent) in
    let body = ace_body (ace_of extent) in
    let sum = length_body extent in
    let back : drop n extent ≡ body =
    sym (take_all (length body) (drop n extent) (omega (arith, sum, whole, length-drop n extent)))
    ∙ body_at extent (length body) h refl in
    let front = front-written extent b h.room shows whole named in
    ap (λ (xs : List ℕ). xs ++ body) (sym front) ∙ ap (λ (xs : List ℕ). take n extent ++ xs) (sym back)
    ∙ take-append-drop n extent

none : (xs : List ℕ) → 0 ≡ length xs → [] ≡ xs
none [] e = refl
none (x ∷ xs) e = absurd (omega arith)

-- as many as are counted
aces-written : (n : ℕ) (left : List ℕ) → AreBytes left → aces_fault n left ≡ None
    → aces_size (aces_of n left) ≡ length left
    → all_named_flags n left ≡ true
    → flat_map ace_bytes (aces_of n left) ≡ left
unfolding aces_fault aces_of all_named_flags
aces-written zero left b e whole named = none left whole
aces-written (suc n) left b e whole named =
    let size = u16_at 2 left in
    let extent = take size left in
    let rest = drop size left in
    let sound = first_none _ _ e in
    let names = and_parts (named_flags extent) (all_named_flags n rest) named in
    let shows = ace-shows left b sound.0 in
    let rest_bytes = AreBytes-drop size left b in
    let fits = ace-fits extent (ace_of extent) shows.0 in
    let rest_fits = aces-fit (aces_of n rest) rest (aces-shows n rest rest_bytes sound.1).0 in
    let long : length extent ≡ size = length-take-le size left shows.1 in
    let more = length-drop size left in
    let first = ace-written extent (AreBytes-take size left b) (ace-readable left b sound.0) shows.0
    (omega (arith, fits, rest_fits, long, more, whole, shows.1)) names.0 in
    let others = aces-written n rest rest_bytes sound.1 (omega (arith, fits, rest_fits, long, more, whole, shows.1))
    names.1 in
    ap (λ (xs : List ℕ). xs ++ flat_map ace_bytes (aces_of n rest)) first ∙ ap (λ (xs : List ℕ). extent ++ xs) others
    ∙ take-append-drop size left

-- the front of an extent is four numbers
four-words : (extent : List ℕ) → AreBytes extent → 8 ≤ length extent
    → take 8 extent
    ≡ little_bytes 2 (u16_at 0 extent) ++ (little_bytes 2 (u16_at 2 extent)
    ++ (little_bytes 2 (u16_at 4 extent) ++ little_bytes 2 (u16_at 6 extent)))
unfolding u16_at
four-words extent b room =
    number-first 2 6 0 extent b (omega arith)
    ∙ ap (λ (xs : List ℕ). little_bytes 2 (u16_at 0 extent) ++ xs) (number-first 2 4 2 extent b (omega arith)
    ∙ ap (λ (xs : List ℕ). little_bytes 2 (u16_at 2 extent) ++ xs) (number-first 2 2 4 extent b (omega arith)
    ∙ ap (λ (xs : List ℕ). little_bytes 2 (u16_at 4 extent) ++ xs) (sym (number 2 6 extent b (omega arith)))))

header-by : (object : Bool) (r s n z size count : ℕ) → r ≡ revision_if object → s ≡ size → n ≡ count → z ≡ 0
    → little_bytes 2 r ++ (little_bytes 2 s ++ (little_bytes 2 n ++ little_bytes 2 z))
    ≡ revision_if object ∷ 0 ∷ little_bytes 2 size ++ (little_bytes 2 count ++ (0 ∷ 0 ∷ []))
header-by true r s n z size count e f g h = rw (e, f, g, h) refl
header-by false r s n z size count e f g h = rw (e, f, g, h) refl

-- an extent without spare bytes, with the revision and the zeros of the written form, begins with its header
header-written : (extent : List ℕ) → AreBytes extent → IsReadableAcl extent
    → length extent ≡ acl_size (acl_of extent)
    → u16_at 0 extent ≡ revision_if (has_object (acl_of extent))
    → u16_at 6 extent ≡ 0
    → take 8 extent ≡ acl_header (acl_of extent)
header-written extent b h size revision zeros =
    four-words extent b h.room
    ∙ header-by (has_object (acl_of extent)) _ _ _ _ (acl_size (acl_of extent)) (length (acl_of extent)) revision
    (h.size ∙ size) (sym (length-aces_of (u16_at 4 extent) (drop 8 extent))) zeros

-- then it is the written form, if all object flags are named
pub acl-written : (extent : List ℕ) → AreBytes extent → IsReadableAcl extent
    → length extent ≡ acl_size (acl_of extent)
    → u16_at 0 extent ≡ revision_if (has_object (acl_of extent))
    → u16_at 6 extent ≡ 0
    → all_named_flags (u16_at 4 extent) (drop 8 extent) ≡ true
    → acl_bytes (acl_of extent) ≡ extent
acl-written extent b h size revision zeros named =
    let front = header-written extent b h size revision zeros in
    let entries = aces-written (u16_at 4 extent) (drop 8 extent) (AreBytes-drop 8 extent b) h.sound
    (omega (arith, size, length-drop 8 extent, h.room)) named in
    ap (λ (xs : List ℕ). xs ++ flat_map ace_bytes (acl_of extent)) (sym front)
    ∙ ap (λ (xs : List ℕ). take 8 extent ++ xs) entries
    ∙ take-append-drop 8 extent

-- where no object ACE stands, no flags stand
pub plain-named : (n : ℕ) (left : List ℕ) → has_object (aces_of n left) ≡ false → all_named_flags n left ≡ true
unfolding aces_of all_named_flags
plain-named zero left e = refl
plain-named (suc n) left e =
    let extent = take (u16_at 2 left) left in
    let rest = drop (u16_at 2 left) left in
    let parts = or_parts (is_object (kind_in extent)) (has_object (aces_of n rest)) e in
    let plain = parts.0 in
    rw plain (plain-named n rest parts.1)

-- one ACE of the count looked at
pub all_named-more : (n m : ℕ) (left : List ℕ) → m ≡ n + 1
    → all_named_flags m left
    ≡ (named_flags (take (u16_at 2 left) left) && all_named_flags n (drop (u16_at 2 left) left))
unfolding all_named_flags
all_named-more n zero left e = absurd (omega arith)
all_named-more n (suc m) left e = let same : m ≡ n = omega arith in rw same refl

pub all_named-none : (n : ℕ) (left : List ℕ) → n ≡ 0 → all_named_flags n left ≡ true
unfolding all_named_flags
all_named-none n left e = rw e refl
