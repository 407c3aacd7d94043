-- The code's answers for a body of the definitions.
use Rattle.std.specs.Prelude.{ℕ, ◌≡◌, List, [], length}
use Rattle.format.specs.Strip.{direct, encode}
use Rattle.format.specs.Body as body
use Rattle.format.specs.Body.Body.{decoded, raw}
use Rattle.body.specs.declared.Body.{Body}
use Rattle.body.specs.declared.Body.TheVariants.{Decoded, Raw}
use Rattle.body.specs.declared.Measured.{Measured}
use Rattle.body.specs.declared.Measured.TheVariants as measured
use Rattle.strip_put.specs.declared.Writer.{Writer}
use Rattle.strip_put.specs.Writer.{Writes}

-- What a body's own entries are as bytes; a raw body has none.
abbrev pub bytes_of : body.Body → List ℕ
bytes_of (decoded es n) = encode es
bytes_of raw = []

-- The answer of a function that measures a body.
abbrev pub measured_of : body.Body → Measured
measured_of (decoded es n) = measured.Decoded (length (encode es)) n
measured_of raw = measured.Raw

-- The answer of a function that writes a body's entries.
abbrev pub pushed_of : body.Body → Body
pushed_of (decoded es n) = Decoded (direct 0 es) n
pushed_of raw = Raw

-- What such a function leaves of the strip, and answers.
pub record Pushed (x : body.Body) (old new : Writer) (r : Body) : Type 0 where
  pub answer : r ≡ pushed_of x
  pub wrote : Writes old (bytes_of x) new
