use Rattle.std.proofs.Common.{◌⊎◌, ℕ, take}
use Rattle.std.specs.List.{Contains}
use Rattle.paths.specs.Numbers.{AreInodeNumbers}
use Rattle.records.specs.Below.{IsMarkedNumber, MarksMore}
use Rattle.records.proofs.below.mark_all.Given as goal

abbrev pub invariant-loop-number : goal.invariant-loop-number
invariant-loop-number l = record {
  marking : MarksMore l.initial.marks.items l.marks.items l.initial.left.items l.left.items;
  all : (n : ℕ) → Contains (take l.number-index l.numbers) n → IsMarkedNumber l.marks.items n;
  only : (n : ℕ) → IsMarkedNumber l.marks.items n → IsMarkedNumber l.initial.marks.items n ⊎ Contains l.numbers n;
  within : (count : ℕ) → AreInodeNumbers count l.numbers → AreInodeNumbers count l.initial.left.items → AreInodeNumbers count l.left.items;
}
