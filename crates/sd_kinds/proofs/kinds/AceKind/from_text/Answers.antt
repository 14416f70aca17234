use Rattle.std.proofs.Common.{◌≡◌, Some, sym, ◌∙◌}
use Rattle.std.specs.List.{find}
use Rattle.std.specs.Str.{str_eq_ignore_ascii_case}
use Rattle.sd_kinds.specs.declared.kinds.TheConstants.{KINDS}
use Rattle.sd_kinds.specs.Kinds.{letters_of}
use Rattle.sd_kinds.proofs.laws.KindLaws.{found_letters}
use Rattle.sd_kinds.proofs.kinds.AceKind.from_text.Goals as goal

pub returns-clause-back : goal.returns-clause-back
returns-clause-back c =
    let found : find (λ e. str_eq_ignore_ascii_case (letters_of e) c.args.text.now) KINDS ≡ Some
    c.in_ok-entry.entry = sym c.with_letters.ensures ∙ c.in_ok-entry.was in
    found_letters c.args.text.now (Some c.in_ok-entry.entry) found
