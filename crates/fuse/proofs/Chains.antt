-- Bytes written one part behind the other.
use Rattle.std.proofs.Common.{ℕ, List, ◌++◌}
use Rattle.layout.specs.Bytes.{Writes}
use Rattle.layout.proofs.WritingLaws.{writes_both}

-- one part behind the other, and the next behind both
infixl 10 ◌⨾◌
pub ◌⨾◌ : {a b c : ℕ} {front piece old mid new : List ℕ} → Writes a b front old mid → Writes b c piece mid new → Writes a c (front ++ piece) old new
first ⨾ second = writes_both first second
