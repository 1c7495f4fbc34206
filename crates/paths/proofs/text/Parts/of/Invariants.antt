use Rattle.std.proofs.Common.{◌≡◌, map, take}
use Rattle.paths.proofs.text.Parts.of.Given as goal

abbrev pub invariant-loop-piece : goal.invariant-loop-piece
invariant-loop-piece l = map (λ part. part.items) l.parts.items ≡ map (λ piece. piece.now) (take l.piece-index l.piece-items)
