use Rattle.std.proofs.Common.{◌-◌, ℕ, ap, drop, length, slice_index, take, ◌∙◌}
use Rattle.std.proofs.lemmas.List.{take_rest}
use Rattle.std.specs.List.{flat_map}
use Rattle.sd_sink.proofs.laws.PrintLemmas.{prints_as, prints_then}
use Rattle.sd_sid.specs.Sid.{SecurityId, words}
use Rattle.sd_sid.specs.SidText.{sub_text}
use Rattle.sd_sid_view.proofs.sid_view.SidView.print_any.Goals as goal

pub returns : goal.returns
returns g c =
    let bytes = c.self.inside.bytes.now in
    let subs = ap (λ (n : ℕ). words n (take (length bytes - 8) (drop 8 bytes))) c.from.ensures
    ∙ ap (words (slice_index bytes 1)) (take_rest bytes 8) ∙ ap (λ (s : SecurityId). s.subs) c.self.view_is in
    prints_then c.put.ensures
    (prints_then (rw c.authority.ensures.value at c.print_authority.ensures)
    (prints_as (ap (flat_map sub_text) subs) c.print_subs.ensures))
