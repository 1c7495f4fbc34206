-- Names that stand in a text, one behind the other.
use Rattle.std.specs.Prelude.{ℕ, ◌≡◌, ◌-◌, ◌≤◌, List, length, take, drop}
use Rattle.std.specs.Cmp.Lexicographic.{slice_cmp}
use Rattle.std.specs.Ordering.{nat_cmp}
use Rattle.std.proofs.Common.{Less}
use Rattle.model.specs.Paths.{Name}
use Rattle.checker.specs.declared.seen.Span.{Span}

abbrev pub IsLess : Name → Name → Type 0
IsLess x y = slice_cmp nat_cmp x y ≡ Less

pub record IsSpan (s : Span) (text : List ℕ) : Type 0 where
  pub rises : s.from ≤ s.to
  pub within : s.to ≤ length text

abbrev pub name_in : List ℕ → Span → Name
name_in text s = take (s.to - s.from) (drop s.from text)
