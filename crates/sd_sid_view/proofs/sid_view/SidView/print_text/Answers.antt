use Rattle.std.proofs.Common.{◌-◌, ℕ, ap, drop, length, slice_index, sym, take, ◌∙◌}
use Rattle.std.proofs.lemmas.List.{take_rest}
use Rattle.std.specs.List.{flat_map}
use Rattle.sd_sink.proofs.laws.PrintLemmas.{prints_as, prints_then}
use Rattle.sd_sid.specs.Sid.{words}
use Rattle.sd_sid.specs.SidText.{sub_text}
use Rattle.sd_sid_view.proofs.ViewLemmas.{domain_view-text}
use Rattle.sd_sid_view.proofs.sid_view.SidView.print_text.Goals as goal

pub returns-then-is_of_domain : goal.returns-then-is_of_domain
returns-then-is_of_domain g c =
    let bytes = c.self.inside.bytes.now in
    let subs = ap (λ (n : ℕ). words (n - 1) (take (length bytes - 12) (drop 12 bytes))) c.from.ensures
    ∙ ap (words (slice_index bytes 1 - 1)) (take_rest bytes 12) in
    record {
      put = prints_as
          (domain_view-text bytes c.args.self.now c.self.view_is (sym c.is_of_domain.ensures ∙ c.if-is_of_domain.true))
          (prints_then c.put.ensures (prints_as (ap (flat_map sub_text) subs) c.print_subs.ensures));
    }
