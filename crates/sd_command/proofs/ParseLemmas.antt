-- The command line is one of which `clap` says all, and what an early end says of the words.
use Rattle.std.proofs.Common.{◌≡◌, inl, inr, [], ◌∷◌, true, false, refl, sym, ◌∙◌, ap, subst, Result, Ok, Err}
use Rattle.std.specs.Prelude.{IfErr, IfOk, MatchResult}
use Rattle.std.specs.List.{list_any}
use Rattle.std.proofs.lemmas.Bool.{or_left, or_right}
use Rattle.clap.specs.Words.{is_simple, is_simple_and_free, FailsBy, Kinds, IsAmong, HasKind, kind_of}
use Rattle.clap.proofs.OnLiterals.{clap_on_literals}
use Rattle.clap.specs.declared.error.Error.{Error}
use Rattle.clap.specs.declared.error.ErrorKind.{ErrorKind}
use Rattle.clap.specs.declared.error.ErrorKind.TheVariants as kind
use Rattle.sd_command.specs.CommandLine.{line, bare_line, check_line, convert_line, derive_line, explain_line}
use Rattle.sd_command.specs.EarlyEnds.{AllowsEnd, is_mistake}
use Rattle.sd_command.specs.Inner.ErrorEnds.{IsEndFor, EndsFor}
use Rattle.sd_command.specs.declared.parse.EarlyEnd.{EarlyEnd}
use Rattle.sd_command.specs.declared.parse.EarlyEnd.TheVariants.{NoMemory, Usage, Help}

-- its matches are known from the words
pub line-simple : is_simple line ≡ true
unfolding line bare_line convert_line explain_line check_line derive_line clap_on_literals
line-simple = refl

-- and so are its faults
pub line-free : is_simple_and_free line ≡ true
unfolding line bare_line convert_line explain_line check_line derive_line clap_on_literals
line-free = refl

-- a mistake among the kinds
among-mistake : (kinds : Kinds) (k : ErrorKind) → IsAmong k kinds → is_mistake k ≡ true
    → list_any is_mistake kinds ≡ true
among-mistake [] k h e = absurd h
among-mistake (x ∷ xs) k (inl same) e = or_left (is_mistake x) _ (ap is_mistake (sym same) ∙ e)
among-mistake (x ∷ xs) k (inr h) e = or_right (is_mistake x) _ (among-mistake xs k h e)

-- what an error is taken for is what the kinds allow
allows-end : (kinds : Kinds) (e : Error) (r : EarlyEnd) → HasKind kinds e → IsEndFor e r → AllowsEnd kinds r
allows-end kinds e NoMemory h w = tt
allows-end kinds e Usage (inl memory) w = let bad : false ≡ true = ap is_mistake (sym memory) ∙ w in cc
allows-end kinds e Usage (inr h) w = among-mistake kinds (kind_of e) h w
allows-end kinds e (Help text) (inl memory) w = let bad : kind.OutOfMemory ≡ kind.DisplayHelp = sym memory ∙ w in cc
allows-end kinds e (Help text) (inr h) w = subst (λ (k : ErrorKind). IsAmong k kinds) w h

-- what the words were parsed to, and what is told of it
abbrev pub Tells : {M : Type 0} → Result M Error → Result M EarlyEnd → Type 0
Tells parsed told = MatchResult parsed (λ m. told ≡ Ok m) (λ e. EndsFor e told)

-- matches are kept
pub kept : {M : Type 0} (P Q : M → Type 0) → ((m : M) → P m → Q m) → (parsed : Result M Error)
    (told : Result M EarlyEnd) → Tells parsed told → IfOk parsed P → IfOk told Q
kept P Q then (Ok m) told is h = rw is (then m h)
kept P Q then (Err e) (Ok m) is h = absurd is
kept P Q then (Err e) (Err early) is h = tt

-- where the only fault can be out of memory, that is told
pub only-memory : {M : Type 0} (S T : Type 0) → (T → S) → (parsed : Result M Error) (told : Result M EarlyEnd)
    → Tells parsed told
    → IfErr parsed (λ e. S → kind_of e ≡ kind.OutOfMemory) → IfErr told (λ early. T → early ≡ NoMemory)
only-memory S T so (Ok m) told is h = rw is tt
only-memory S T so (Err e) (Ok m) is h = absurd is
only-memory S T so (Err e) (Err NoMemory) is h = λ t. refl
only-memory S T so (Err e) (Err Usage) is h = λ t. let bad : false ≡ true = ap is_mistake (sym (h (so t))) ∙ is in cc
only-memory S T so (Err e) (Err (Help text)) is h =
    λ t. let bad : kind.OutOfMemory ≡ kind.DisplayHelp = sym (h (so t)) ∙ is in cc

-- what is told is what the kinds allow
pub by-kinds : {M : Type 0} (found kinds : Kinds) → found ≡ kinds → (parsed : Result M Error) (told : Result M EarlyEnd)
    → Tells parsed told → FailsBy found parsed → MatchResult told (λ _. kinds ≡ []) (AllowsEnd kinds)
by-kinds found kinds same (Ok m) told is h = rw is (sym same ∙ h)
by-kinds found kinds same (Err e) (Ok m) is h = absurd is
by-kinds found kinds same (Err e) (Err early) is h =
    allows-end kinds e early (subst (λ (k : Kinds). HasKind k e) same h) is
