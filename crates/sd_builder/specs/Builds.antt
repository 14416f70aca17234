-- What a builder's buffer holds between its calls. Callers never look inside these words.
use Rattle.std.specs.Prelude.{ℕ, List}
use Rattle.sd_builder.specs.Draft.{Draft}
use Rattle.sd_builder.specs.Inner.Building.{Building}
use Rattle.sd_builder.specs.declared.builder.Builder.{Builder}

-- the buffer is as the builder's last call left it, and the builder was given these parts, in this order
unfoldable pub Builds : Builder → List ℕ → Draft → Type 0
Builds b bytes t = Building b bytes t
