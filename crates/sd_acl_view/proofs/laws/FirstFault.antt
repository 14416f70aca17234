-- A chain of tests that answers the first fault.
use Rattle.std.proofs.Common.{◌≡◌, Bool, true, false, cond, Option, Some, None, refl}
use Rattle.std.specs.Option.{option_or}

-- no first fault of two: neither is there
pub first_none : {F : Type 0} (f g : Option F) → option_or f g ≡ None → (f ≡ None) × (g ≡ None)
first_none None g e = (refl, e)
first_none (Some f) g e = absurd (cc)

-- two that are not there: no first one
pub none_first : {F : Type 0} (f g : Option F) → f ≡ None → g ≡ None → option_or f g ≡ None
none_first f g e h = rw e h

-- a test that did not answer a fault
pub went_on : {F : Type 0} (b : Bool) (f : F) (y : Option F) → cond b (Some f) y ≡ None → (b ≡ false) × (y ≡ None)
went_on true f y e = absurd (cc)
went_on false f y e = (refl, e)

-- a test that had to hold
pub passed : {F : Type 0} (b : Bool) (f : F) → cond b None (Some f) ≡ None → b ≡ true
passed true f e = refl
passed false f e = absurd (cc)

-- a test that did not hold
pub otherwise : {F : Type 0} (b : Bool) (x y : Option F) → b ≡ false → cond b x y ≡ None → y ≡ None
otherwise true x y h e = absurd (cc)
otherwise false x y h e = e
