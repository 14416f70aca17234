use Rattle.std.proofs.Common.{rules, map, refl}
use Rattle.std.specs.String.{string_bytes}
use Rattle.sd_call_run.proofs.WordsLemmas.{reads-all, reads-name, reads-no-text, reads-no-word, reads-word}
use Rattle.sd_call_run.proofs.words.push_words.Goals as goal

pub loop-rest-init : goal.loop-rest-init
loop-rest-init c =
    reads-name c.args.bytes.now (map string_bytes c.push_word.new.words.items)
    (rw c.new-words.ensures.items at c.in_ok-push_word.ensures.added)

pub returns-in_default : goal.returns-in_default
returns-in_default c =
    λ _. reads-no-word c.args.bytes.now c.loop-rest.rest.now (map string_bytes c.loop-rest.words.items)
    c.loop-rest.invariant (search rules) c.in_default.ensures.before

pub returns-in_default-from_utf8 : goal.returns-in_default-from_utf8
returns-in_default-from_utf8 c =
    λ _. reads-no-text c.args.bytes.now c.loop-rest.rest.now (map string_bytes c.loop-rest.words.items) c.in-Some.end
    c.loop-rest.invariant c.in-Some.ensures.found.0 c.in-Some.ensures.found.1 c.in-Some.ensures.before
    c.in_default-from_utf8.ensures.cases.0

pub loop-rest-preserved : goal.loop-rest-preserved
loop-rest-preserved c =
    reads-word c.args.bytes.now c.loop-rest.rest.now (map string_bytes c.loop-rest.words.items)
    (map string_bytes c.push_word-in-loop-rest.new.words.items) c.in-Ok.word.now c.in-Some.end _ c.loop-rest.invariant
    c.in-Some.ensures.found.0 c.in-Some.ensures.found.1 c.in-Some.ensures.before c.in-Ok.ensures.cases.1
    (search rules) (search rules) refl

pub returns : goal.returns
returns c =
    reads-all c.args.bytes.now c.loop-rest.rest.now (map string_bytes c.loop-rest.words.items) c.loop-rest.invariant
    (search rules)
