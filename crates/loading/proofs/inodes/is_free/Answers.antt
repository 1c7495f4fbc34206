use Rattle.std.proofs.Common.{◌≡◌, ◌∙◌, length, get_or, refl, sym, ap, subst, arith}
use Rattle.layout.specs.Bytes.{zeros}
use Rattle.layout.proofs.FieldLaws.{are_zeros}
use Rattle.layout.proofs.ZeroLaws.{length-zeros, zero_byte}
use Rattle.loading.proofs.inodes.is_free.Goals as goal

pub returns-then-bytes-ne-INODE_BYTES : goal.returns-then-bytes-ne-INODE_BYTES
returns-then-bytes-ne-INODE_BYTES c = (λ no_it. absurd (cc), λ all. absurd (c.if-bytes-ne-INODE_BYTES.true (ap length all ∙ length-zeros 192)))

pub returns-then-byte-ne0 : goal.returns-then-byte-ne0
returns-then-byte-ne0 c = (
  λ no_it. absurd (cc),
  λ all. absurd (c.if-byte-ne0.true (ap (λ xs. get_or xs c.loop-byte.byte-index 0) all ∙ zero_byte c.loop-byte.byte-index 192)),
)

pub returns : goal.returns
returns c = (
  λ yes_it. subst (λ n. c.args.bytes.now ≡ zeros n) c.if-bytes-ne-INODE_BYTES.false
      (are_zeros c.args.bytes.now (λ k low. c.loop-byte.invariant k (omega (arith, low, c.loop-byte-test.false)))),
  λ all. refl,
)
