use Rattle.std.proofs.Common.{rules, ◌≡◌, Some, None}
use Rattle.sd_command.specs.Settings.{text_given}
use Rattle.clap.specs.Words.{found_of, rows_of}
use Rattle.sd_command.proofs.GivenLemmas.{if-is}
use Rattle.sd_command.proofs.settings.given_if.Goals as goal

pub returns-in-Some-read : goal.returns-in-Some-read
returns-in-Some-read g c = λ reads is.
    let text : text_given c.args.option (rows_of (found_of c.args.matches.now)) ≡ Some c.in-Some.text.now =
    search rules in
    if-is reads c.args.option _ c.in-Some.text.now (Some c.in-Some-read.value) text
    (is c.in-Some.text.now (Some c.in-Some-read.value) (search rules))

pub returns-in-None-read : goal.returns-in-None-read
returns-in-None-read g c = λ reads is.
    let text : text_given c.args.option (rows_of (found_of c.args.matches.now)) ≡ Some c.in-Some.text.now =
    search rules in
    if-is reads c.args.option _ c.in-Some.text.now None text (is c.in-Some.text.now None (search rules))
