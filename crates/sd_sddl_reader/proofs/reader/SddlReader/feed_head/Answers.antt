use Rattle.std.proofs.Common.{◌≡◌, [], ◌∷◌, ◌++◌, None, Some, refl, sym, ap, length, arith, ◌∙◌}
use Rattle.sd_sddl_reader.proofs.WholeFields.{fed-on}
use Rattle.sd_sddl_reader.proofs.reader.SddlReader.feed_head.Goals as goal

pub returns-in-Some : goal.returns-in-Some
returns-in-Some c =
    let begun = c.begin_part.ensures in
    let none = begun.pending ∙ c.requires.fresh.none in
    let e = begun.answers c.requires.reader.read c.requires.reader.held in
    record {
      shorter = omega (arith, ap length c.in-Some.ensures.found.1);
      reader = record {
        calm = begun.calm;
        still = λ _. none;
        letter = λ b is. absurd (let no : None ≡ Some b = sym none ∙ is in cc);
        read = e.0;
        held = e.1;
      };
      read = λ domain before h.
          fed-on c.args.self.now c.begin_part.new.self c.args.buf.now c.begin_part.new.buf domain
          (c.in-Some.letter ∷ 58 ∷ []) c.in-Some.rest.now c.args.text.now (before ++ c.args.text.now)
          c.requires.fresh.none none begun.answers c.in-Some.ensures.found.1 (before, h, refl);
    }
