-- What the code holds of a choice, beside the holder of the token. Private contracts alone cite these words; they
-- promise nothing to a caller.
use Rattle.std.specs.Prelude.{Result, Ok, Err, option_map}
use Rattle.sd_token.specs.Token.{Holder}
use Rattle.sd_command.specs.Settings as specs
use Rattle.sd_command.specs.declared.settings.Choice.{Choice}
use Rattle.sd_command.specs.declared.settings.Own.{Own}
use Rattle.sd_command.specs.declared.settings.UsageFault.{UsageFault}

abbrev pub own_with : Holder → Result Own UsageFault → Result specs.Own UsageFault
own_with holder (Err fault) = Err fault
own_with holder (Ok own) = Ok (record { act = own.act; holder = holder; creator = option_map (λ s. s.now) own.creator })

abbrev pub choice_with : Holder → Result Choice UsageFault → Result specs.Chosen UsageFault
choice_with holder (Err fault) = Err fault
choice_with holder (Ok choice) =
    Ok (record { job = choice.job; holder = holder; creator = option_map (λ s. s.now) choice.creator })
