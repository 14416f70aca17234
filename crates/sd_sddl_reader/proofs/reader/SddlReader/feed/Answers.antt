use Rattle.std.proofs.Common.{◌≡◌, ℕ, List, [], ◌∷◌, refl, ap, ◌∙◌, ◌++◌, append_assoc, None}
use Rattle.std.specs.Prelude.{Option}
use Rattle.sd_sid.specs.Sid.{SecurityId}
use Rattle.sd_sddl_builder.specs.FoldedReading.{reads_as}
use Rattle.std.specs.Option.{option_to_list}
use Rattle.sd_sddl_reader.specs.Inner.Reads.{answer_at}
use Rattle.sd_sddl_reader.proofs.Runs.{lost-goes}
use Rattle.sd_sddl_reader.proofs.reader.SddlReader.feed.Goals as goal

pub returns-then-not-self-clause-read : goal.returns-then-not-self-clause-read
returns-then-not-self-clause-read c = λ domain text h.
    lost-goes c.args.self.now (c.args.byte ∷ []) c.args.buf.now domain text c.if-not-self.true h

-- the line so far, with a byte more
next : (d : Option SecurityId) (text rest : List ℕ) (b : ℕ)
    → reads_as d (text ++ b ∷ rest) ≡ reads_as d ((text ++ b ∷ []) ++ rest)
next d text rest b = rw append_assoc refl

pub returns-in-Ace-clause-read : goal.returns-in-Ace-clause-read
returns-in-Ace-clause-read c = λ domain text h.
    let s = c.args.self.now in
    let none : s.pending ≡ None = c.requires.still (rw (c.in-Ace.is) refl) in
    let e = c.put_inside.ensures.answers h.0 h.1 in
    let still : c.put_inside.new.self.pending ≡ None = c.put_inside.ensures.pending ∙ none in (
      e.0,
      e.1,
      λ rest. ap (λ (p : Option ℕ). answer_at c.put_inside.new.self e.0 (option_to_list p ++ rest)) still
          ∙ (e.2 rest ∙ ((rw none at h.2 (c.args.byte ∷ rest)) ∙ next domain text rest c.args.byte)),
    )

pub returns-in-Some : goal.returns-in-Some
returns-in-Some c = record {
  reader = c.feed_after.ensures.reader;
  read = λ domain text h.
      let e = c.feed_after.ensures.answers h.0 h.1 in (
        e.0,
        e.1,
        λ rest. e.2 rest
            ∙ ((rw (c.in-Some.is) at h.2 (c.args.byte ∷ rest)) ∙ next domain text rest c.args.byte),
      );
}

pub returns-in_default-pending : goal.returns-in_default-pending
returns-in_default-pending c = record {
  reader = c.feed_alone.ensures.reader;
  read = λ domain text h.
      let e = c.feed_alone.ensures.answers h.0 h.1 in (
        e.0,
        e.1,
        λ rest. e.2 rest
            ∙ ((rw (c.in_default-pending.is) at h.2 (c.args.byte ∷ rest)) ∙ next domain text rest c.args.byte),
      );
}
