-- The value of an option, with a value for an option that is left out and without.
use Rattle.std.proofs.Common.{◌≡◌, Option, Some, None, Ok, Err, option_map, refl}
use Rattle.std.specs.Option.{unwrap_or}
use Rattle.clap.specs.Words.{Text}
use Rattle.sd_command.specs.Settings.{given, value_if, value_needed, value_or}
use Rattle.sd_command.specs.declared.options.OptionName.{OptionName}
use Rattle.sd_command.specs.declared.settings.UsageFault.{UsageFault}
use Rattle.sd_command.specs.declared.settings.UsageFault.TheVariants.{Value}

-- what the reader gives where there is a text
pub if-is : {A : Type 0} (reads : Text → Option A) (option : OptionName) (text : Option Text) (t : Text)
    (value : Option A) → text ≡ Some t → value ≡ reads t
    → given option (option_map (λ v. Some v) value) ≡ given option (value_if reads text)
if-is reads option text t value there is = rw (there, is) refl

unread : {A : Type 0} (option : OptionName) (read : Option A) (fault : UsageFault)
    → given option (option_map (λ v. Some v) read) ≡ Err fault → Err fault ≡ given option read
unread option None fault e = let same : fault ≡ Value option = cc in rw same refl
unread option (Some v) fault e = absurd (cc)

-- where a value stands for an option that is left out

read-default : {A : Type 0} (option : OptionName) (default : A) (read value : Option A)
    → given option (option_map (λ v. Some v) read) ≡ Ok value → Ok (unwrap_or value default) ≡ given option read
read-default option default None value e = absurd (cc)
read-default option default (Some v) value e = let same : value ≡ Some v = cc in rw same refl

pub or-is : {A : Type 0} (reads : Text → Option A) (option : OptionName) (default : A) (text : Option Text)
    (value : Option A) → given option (value_if reads text) ≡ Ok value
    → Ok (unwrap_or value default) ≡ given option (value_or default reads text)
or-is reads option default None value e = let same : value ≡ None = cc in rw same refl
or-is reads option default (Some text) value e = read-default option default (reads text) value e

pub or-fault : {A : Type 0} (reads : Text → Option A) (option : OptionName) (default : A) (text : Option Text)
    (fault : UsageFault) → given option (value_if reads text) ≡ Err fault
    → Err fault ≡ given option (value_or default reads text)
or-fault reads option default None fault e = absurd (cc)
or-fault reads option default (Some text) fault e = unread option (reads text) fault e

-- where an option may not be left out

pub needed-is : {A : Type 0} (reads : Text → Option A) (option : OptionName) (text : Option Text) (value : Option A)
    → given option (value_if reads text) ≡ Ok value → given option value ≡ given option (value_needed reads text)
needed-is reads option None value e = let same : value ≡ None = cc in rw same refl
needed-is reads option (Some text) value e = read-needed option (reads text) value e
  where
    read-needed : {A : Type 0} (option : OptionName) (read value : Option A)
        → given option (option_map (λ v. Some v) read) ≡ Ok value → given option value ≡ given option read
    read-needed option None value e = absurd (cc)
    read-needed option (Some v) value e = let same : value ≡ Some v = cc in rw same refl

pub needed-fault : {A : Type 0} (reads : Text → Option A) (option : OptionName) (text : Option Text)
    (fault : UsageFault) → given option (value_if reads text) ≡ Err fault
    → Err fault ≡ given option (value_needed reads text)
needed-fault reads option None fault e = absurd (cc)
needed-fault reads option (Some text) fault e = unread option (reads text) fault e
