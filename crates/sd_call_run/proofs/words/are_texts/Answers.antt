use Rattle.std.proofs.Common.{rules, codes, [], ◌∷◌, ◌++◌, refl, take}
use Rattle.sd_call_run.proofs.WordsLemmas.{is-some, reads-all, reads-name, reads-no-text, reads-no-word, reads-word}
use Rattle.sd_call_run.proofs.words.are_texts.Goals as goal

pub loop-rest-init : goal.loop-rest-init
loop-rest-init c = (codes "sdtool" ∷ [], reads-name c.args.bytes.now (codes "sdtool" ∷ []) refl)

pub returns-in_default-clause-no : goal.returns-in_default-clause-no
returns-in_default-clause-no c =
    λ _. reads-no-word c.args.bytes.now c.loop-rest.rest.now c.loop-rest.invariant.0 c.loop-rest.invariant.1
    (search rules) c.in_default.ensures.before

pub returns-in_default-from_utf8-clause-no : goal.returns-in_default-from_utf8-clause-no
returns-in_default-from_utf8-clause-no c =
    λ _. reads-no-text c.args.bytes.now c.loop-rest.rest.now c.loop-rest.invariant.0 c.in-Some.end
    c.loop-rest.invariant.1 c.in-Some.ensures.found.0 c.in-Some.ensures.found.1 c.in-Some.ensures.before
    c.in_default-from_utf8.ensures.cases.0

pub loop-rest-preserved : goal.loop-rest-preserved
loop-rest-preserved c =
    let words = c.loop-rest.invariant.0 in
    let word = take c.in-Some.end c.loop-rest.rest.now in (
      words ++ word ∷ [],
      reads-word c.args.bytes.now c.loop-rest.rest.now words (words ++ word ∷ []) word c.in-Some.end _
          c.loop-rest.invariant.1 c.in-Some.ensures.found.0 c.in-Some.ensures.found.1 c.in-Some.ensures.before
          c.in-Ok.ensures.cases.1 refl refl refl,
    )

pub returns-clause-yes : goal.returns-clause-yes
returns-clause-yes c = λ _.
    is-some c.loop-rest.invariant.0 _ (reads-all c.args.bytes.now c.loop-rest.rest.now c.loop-rest.invariant.0
    c.loop-rest.invariant.1 (search rules))
