use native.Mathlib.Omega.{arith}
use mathlib.Core.Path.{◌≡◌}
use Rattle.format.specs.Bytes.{be16_at}
use Rattle.format.specs.Trailer.{lls_size}
use Rattle.format.proofs.Trailer.{stands_there, none_stands}
use Rattle.trailer.proofs.LlsTrailing.len.Goals as goal

pub returns-then-data-lt-HEADER_SIZE : goal.returns-then-data-lt-HEADER_SIZE
returns-then-data-lt-HEADER_SIZE c = let d = c.args.data.now in rw (none_stands 4 lls_size d (λ s. omega (arith, s.covers, s.inside)))

pub returns-then-words-data : goal.returns-then-words-data
returns-then-words-data c =
    let d = c.args.data.now in
    let e : c.read_be_u16-words.result ≡ be16_at d 2 = c.read_be_u16-words.ensures in
    rw (none_stands 4 lls_size d (λ s. omega (arith, e, s.covers, s.inside)))

pub returns : goal.returns
returns c =
    let d = c.args.data.now in
    let e : c.read_be_u16-words.result ≡ be16_at d 2 = c.read_be_u16-words.ensures in
    rw (e, stands_there 4 lls_size d (record { covers = omega (arith, e); inside = omega (arith, e) }))
