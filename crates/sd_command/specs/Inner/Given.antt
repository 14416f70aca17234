-- What a reader of an option's text is. Private contracts alone cite this word; it promises nothing to a caller.
use Rattle.std.specs.Prelude.{◌≡◌, Option}
use Rattle.clap.specs.Words.{Text}

-- what the reader may answer to a text is what the definition says
abbrev pub Reads : {A : Type 0} → (Text → Option A → Type 0) → (Text → Option A) → Type 0
Reads {A = A} answers reads = (text : Text) (value : Option A) → answers text value → value ≡ reads text
