-- The words that are compared are numbers of the bits.
use Rattle.std.proofs.Common.{◌≡◌, ◌*◌, ◌+◌, ◌%◌, ℕ, List, get_or, Fits, w8, sym, ◌∙◌, arith}
use Rattle.format.specs.Bytes.{be32_at}
use Rattle.format.proofs.Bits.{Word, word32, agreed, whole_agrees, whole_differs, last_decides}
use Rattle.tlv.proofs.same_bits.Goals as goal

word_of : (bs : List ℕ) → ((k : ℕ) → Fits w8 (get_or bs k 0)) → (i : ℕ) → Word 32 (be32_at bs (i * 4)) bs (i * 32)
word_of bs h i =
    let e : i * 4 * 8 ≡ i * 32 = omega arith in
    rw e at (word32 bs (λ k. let f = h k in omega arith) (i * 4))

pub returns-then-read_be_u32 : goal.returns-then-read_be_u32
returns-then-read_be_u32 c =
    let i = c.loop-i.i in
    sym (whole_differs (word_of _ c.type_inv.a i) (word_of _ c.type_inv.b i) (λ e. c.if-read_be_u32.true (c.read_be_u32.ensures ∙ e ∙ sym c.read_be_u32-in-loop-i.ensures)) c.args.prefix_length (omega arith))

pub loop-i-preserved : goal.loop-i-preserved
loop-i-preserved c =
    let i = c.loop-i.i in
    let e : i * 32 + 32 ≡ (i + 1) * 32 = omega arith in
    rw e at (whole_agrees (word_of _ c.type_inv.a i) (word_of _ c.type_inv.b i) (sym c.read_be_u32.ensures ∙ c.if-read_be_u32.false ∙ c.read_be_u32-in-loop-i.ensures) c.loop-i.invariant)

pub returns-then-rest-eq0 : goal.returns-then-rest-eq0
returns-then-rest-eq0 c =
    let e : c.loop-i.i * 32 ≡ c.args.prefix_length = omega (arith, c.from-whole.ensures) in
    rw c.if-rest-eq0.true (sym (agreed _ _ _ (rw e at c.loop-i.invariant)))

pub returns-else-rest-eq0 : goal.returns-else-rest-eq0
returns-else-rest-eq0 c =
    let i = c.from-whole.result in
    let e : c.loop-i.i ≡ i = omega arith in
    let f : i * 32 + c.args.prefix_length % 32 ≡ c.args.prefix_length = omega (arith, c.from-whole.ensures) in
    let decided = last_decides (word_of _ c.type_inv.a i) (word_of _ c.type_inv.b i) (c.args.prefix_length % 32) (omega arith) (rw e at c.loop-i.invariant) in
    rw (c.read_be_u32-else-rest-eq0.ensures, c.read_be_u32-else-rest-eq0-2.ensures) (sym (rw f at decided))
