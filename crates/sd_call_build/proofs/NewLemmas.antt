-- ACLs without an ACE that can't be.
use Rattle.std.proofs.Common.{◌≡◌, ℕ, nat_lt, not, Bool, true, false, List, [], ◌∷◌, length, Option, Some, None, cond}
use Rattle.std.proofs.Common.{refl, ◌+◌, ◌&&◌, arith, eqb, suc}
use Rattle.std.proofs.lemmas.Bool.{ltb-false}
use Rattle.std.proofs.lemmas.Bool.Decides.{nat_tests}
use Rattle.std.proofs.lemmas.List.Sums.{AllPass-from_list_all}
use Rattle.std.specs.List.{AllPass, list_all, position, prefix_len}
use Rattle.sd_call_build.specs.New.{is_ace, wrong_ace}
use Rattle.sd_call_build.specs.declared.new.NewAce.{NewAce}
use Rattle.sd_call_build.specs.declared.new.NewAcl.{NewAcl}

one_more : (b : Bool) (n m : ℕ) (all : Bool) → (nat_lt n m ≡ false → all ≡ true)
    → nat_lt (cond (not (not b)) (1 + n) 0) (suc m) ≡ false → (b && all) ≡ true
one_more true n m all more h = more (grind (arith, nat_tests))
one_more false n m all more h = absurd (omega (arith, ltb-false 0 (suc m) h))

all_pass : (news : List NewAce) → nat_lt (prefix_len (λ a. not (not (is_ace a))) news) (length news) ≡ false
    → list_all is_ace news ≡ true
all_pass [] h = refl
all_pass (new ∷ others) h =
    one_more (is_ace new) (prefix_len (λ a. not (not (is_ace a))) others) (length others) (list_all is_ace others)
    (all_pass others) h

cond_none : (b : Bool) (k : ℕ) → let some : Option ℕ = Some k in cond b some None ≡ None → b ≡ false
cond_none true k h = absurd (cc)
cond_none false k h = refl

none_wrong : (news : List NewAce) → position (λ a. not (is_ace a)) news ≡ None → AllPass is_ace news
none_wrong news h =
    AllPass-from_list_all is_ace news
    (all_pass news (cond_none (nat_lt (prefix_len (λ a. not (not (is_ace a))) news) (length news))
    (prefix_len (λ a. not (not (is_ace a))) news) h))

by_state : (low empty list : Bool) (news : List NewAce) → (empty ≡ true → length news ≡ 0)
    → let none : Option ℕ = None in
    cond low (cond empty none (Some 0)) (cond list (position (λ a. not (is_ace a)) news) (Some 0)) ≡ none
    → AllPass is_ace news
by_state true true list news e h = λ k d within. absurd (omega (arith, e refl, within))
by_state true false list news e h = absurd (cc)
by_state false empty true news e h = none_wrong news h
by_state false empty false news e h = absurd (cc)

pub all_aces : (new : NewAcl) → wrong_ace new ≡ None → AllPass is_ace new.aces.now
all_aces new h =
    by_state (nat_lt new.state 2) (eqb (length new.aces.now) 0) (eqb new.state 2) new.aces.now
    (λ e. grind (arith, nat_tests)) h
