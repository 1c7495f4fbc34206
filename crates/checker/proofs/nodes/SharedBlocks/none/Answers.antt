use Rattle.std.proofs.Common.{◌≡◌, ℕ, None, inl, inr, replicate, arith}
use Rattle.std.specs.Prelude.{Option, slice_index_or}
use Rattle.std.proofs.lemmas.Bool.{cases_lt}
use Rattle.std.proofs.lemmas.List.{get_or-replicate, get_or_past, length-replicate}
use Rattle.checker.specs.declared.nodes.Shared.{Shared}
use Rattle.checker.specs.declared.nodes.TheConstants.{PLANES}
use Rattle.checker.proofs.nodes.SharedBlocks.none.Goals as goal

all_none : (k : ℕ) → slice_index_or (replicate {A = Option Shared} PLANES None) k None ≡ None
all_none k = elim (cases_lt k PLANES) [
  | inl lt ↦ get_or-replicate PLANES k None None lt
  | inr ge ↦ get_or_past (replicate {A = Option Shared} PLANES None) k None (omega (arith, ge, length-replicate {A = Option Shared} PLANES None))
]

pub returns : goal.returns
returns c = all_none
